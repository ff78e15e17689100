use Rattle.std.proofs.Common.{◌≡◌, ◌∙◌, ap, zero-le, Some, None}
use Rattle.lists.specs.Rising.{find as find_by, put}
use Rattle.lists.proofs.RisingLaws.{RisesFrom-put}
use Rattle.trees.proofs.TreeLaws.{values-insert, IsKeyed-insert}
use Rattle.trees.specs.Trees.{entry_values}
use Rattle.hub_model.specs.HubValues.{conn_number, conn_for}
use Rattle.hub_core.proofs.ConnLaws.{AreApart-put, AreNumbers-put, AreNumbers-undone, Renumbered}
use Rattle.hub_core.proofs.conns.Conns.open.Goals as goal

-- the connections with the new one
with : (c : goal.In-Ok) → entry_values c.insert-2.new.self.entries ≡ put conn_number c.args.conn (entry_values c.self.inside.by_number.entries)
with c = ap entry_values (rw c.number_in-number.ensures at c.in-Ok.ensures.entries) ∙ values-insert conn_number c.args.conn c.self.inside.by_number.entries c.self.invariant.0

pub invariant_of-self-in-Ok : goal.invariant_of-self-in-Ok
invariant_of-self-in-Ok c =
    let cs = entry_values c.self.inside.by_number.entries in
    let new : find_by conn_number c.args.conn.conn cs ≡ None = rw (← c.self.view_is) at c.requires.number in
    let alone : conn_for cs c.args.conn.room c.args.conn.session ≡ None = rw (← c.self.view_is) at c.requires.session in
    let steps : Renumbered c.args.conn.room c.args.conn.session (Some c.args.conn.conn) c.self.inside.by_session.entries c.insert.new.self.entries =
    λ q. (rw (c.key_of-key.ensures, c.number_in-number.ensures) at c.in_ok-insert.ensures.updates).0 q in (
      rw (rw c.number_in-number.ensures at c.in-Ok.ensures.entries) (IsKeyed-insert conn_number c.args.conn c.self.inside.by_number.entries c.self.invariant.0),
      rw (with c) (RisesFrom-put conn_number 0 c.args.conn cs c.self.invariant.1 zero-le),
      rw (with c) (AreApart-put c.args.conn cs new alone c.self.invariant.2),
      rw (with c) (AreNumbers-put c.args.conn cs c.self.inside.by_session.entries c.insert.new.self.entries new alone c.self.invariant.3 steps),
    )

pub invariant_of-self-in-Err : goal.invariant_of-self-in-Err
invariant_of-self-in-Err c =
    let cs = entry_values c.self.inside.by_number.entries in
    let alone : conn_for cs c.args.conn.room c.args.conn.session ≡ None = rw (← c.self.view_is) at c.requires.session in
    let set : Renumbered c.args.conn.room c.args.conn.session (Some c.args.conn.conn) c.self.inside.by_session.entries c.insert.new.self.entries =
    λ q. (rw (c.key_of-key.ensures, c.number_in-number.ensures) at c.in_ok-insert.ensures.updates).0 q in
    let out : Renumbered c.args.conn.room c.args.conn.session None c.insert.new.self.entries c.remove.new.self.entries =
    λ q. (rw c.key_of-key.ensures at c.remove.ensures.updates).0 q in
    let numbers = AreNumbers-undone c.args.conn.room c.args.conn.session c.args.conn.conn cs c.self.inside.by_session.entries c.insert.new.self.entries
    c.remove.new.self.entries alone c.self.invariant.3 set out in
    rw (c.in-Err.ensures.err) (c.self.invariant.0, c.self.invariant.1, c.self.invariant.2, numbers)

pub returns-in-Ok : goal.returns-in-Ok
returns-in-Ok c = rw (← c.self.view_is) (with c)
