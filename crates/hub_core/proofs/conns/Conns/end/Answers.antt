use Rattle.std.proofs.Common.{◌≡◌, ◌∙◌, sym, ap, Some, None, option_map}
use Rattle.lists.proofs.RisingLaws.{RisesFrom-remove}
use Rattle.trees.proofs.TreeLaws.{values-remove, IsKeyed-remove}
use Rattle.trees.specs.Trees.{entry_values}
use Rattle.hub_model.specs.HubValues.{conn_number, conn_for}
use Rattle.hub_core.proofs.ConnLaws.{without, AreApart-without, AreNumbers-without, number_out, none_left_out, nobody, Renumbered}
use Rattle.hub_core.proofs.conns.Conns.end.Goals as goal

-- the number that was taken out is that of the session's connection
was : (c : goal.After-remove-in-Some) → option_map conn_number (conn_for (entry_values c.self.inside.by_number.entries) c.args.room c.args.session) ≡ Some c.in-Some.number
was c =
    let value = rw c.key_of.ensures at c.remove.ensures.value in
    sym (c.self.invariant.3 c.args.room c.args.session) ∙ sym value ∙ c.in-Some.is

-- what is left is without it
left : (c : goal.After-remove-in-Some) → entry_values c.remove-in-Some.new.self.entries ≡ without c.args.room c.args.session (entry_values c.self.inside.by_number.entries)
left c =
    ap entry_values c.remove-in-Some.ensures.entries
    ∙ values-remove conn_number c.in-Some.number 0 c.self.inside.by_number.entries c.self.invariant.0 c.self.invariant.1
    ∙ number_out c.args.room c.args.session 0 c.in-Some.number (entry_values c.self.inside.by_number.entries) c.self.invariant.1 c.self.invariant.2 (was c)

pub invariant_of-self : goal.invariant_of-self
invariant_of-self c =
    let cs = entry_values c.self.inside.by_number.entries in
    let steps : Renumbered c.args.room c.args.session None c.self.inside.by_session.entries c.remove.new.self.entries =
    λ q. (rw c.key_of.ensures at c.remove.ensures.updates).0 q in (
      rw (c.remove-in-Some.ensures.entries) (IsKeyed-remove conn_number c.in-Some.number c.self.inside.by_number.entries c.self.invariant.0),
      rw (c.remove-in-Some.ensures.entries, values-remove conn_number c.in-Some.number 0 c.self.inside.by_number.entries c.self.invariant.0 c.self.invariant.1)
          (RisesFrom-remove conn_number 0 c.in-Some.number cs c.self.invariant.1),
      rw (left c) (AreApart-without c.args.room c.args.session cs c.self.invariant.2),
      rw (left c) (AreNumbers-without c.args.room c.args.session cs c.self.inside.by_session.entries c.remove.new.self.entries c.self.invariant.3 steps),
    )

pub returns-in-Some : goal.returns-in-Some
returns-in-Some c = rw (← c.self.view_is) (left c)

pub returns-in_default : goal.returns-in_default
returns-in_default c =
    let value = rw c.key_of.ensures at c.remove.ensures.value in
    let cs = entry_values c.self.inside.by_number.entries in
    let none : option_map conn_number (conn_for cs c.args.room c.args.session) ≡ None =
    sym (c.self.invariant.3 c.args.room c.args.session) ∙ sym value ∙ c.in_default.is in
    rw (← c.self.view_is) (sym (none_left_out c.args.room c.args.session cs (nobody (conn_for cs c.args.room c.args.session) none)))
