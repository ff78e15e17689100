use Rattle.std.proofs.Common.{◌+◌, ◌≤◌, List, map, length, refl, subst, ap, ◌∙◌}
use Rattle.std.specs.List.{flat_map}
use Rattle.lists.proofs.Results.{on_err}
use Rattle.state_model.specs.declared.row.RowEntry.{RowEntry}
use Rattle.state_model.specs.Members.{Members, no_members}
use Rattle.state_model.specs.Rows.{place_count}
use Rattle.state_model.specs.Shown.{permitted}
use Rattle.instance_table.specs.Table.{TableState}
use Rattle.room_model.specs.Room.{tick_outs}
use Rattle.live_state.specs.Live.{schema_of, rows_of, swept_table}
use Rattle.view_counts.specs.Settled.{view_before, view_now}
use Rattle.room_core.specs.declared.client.Client.{Client}
use Rattle.room_core.specs.Clients.{client_tells}
use Rattle.room_core.specs.Values.{room_of, session_of_client}
use Rattle.room_core.proofs.Orders.{swept_tell, told_ordered, told_sessions}
use Rattle.room_core.proofs.TickedRoom.{last_tick, can_settle, shared_settled, each_stands, tick_sent, tick_sessions, tick_steps, same_room}
use Rattle.room_core.proofs.parts.Parts.tick.Goals as goal

pub settle-requires : goal.settle-requires
settle-requires g c =
    let p = c.args.self.now in
    can_settle p.live c.sweep.new.self p.shared p.clients.items c.in_ok-sweep.ensures.freed c.in_ok-sweep.ensures.later c.know_rows-2.ensures.kept c.requires.stands.0 p.none c.requires.stands.1

pub encode_shared-requires : goal.encode_shared-requires
encode_shared-requires g c =
    let p = c.args.self.now in
    let live = c.sweep.new.self in
    record {
      tick = last_tick p.live live p.shared p.clients.items c.in_ok-sweep.ensures.freed c.in_ok-sweep.ensures.later c.know_rows-2.ensures.kept c.requires.stands.0;
      is_settled = shared_settled p.live live p.shared p.clients.items c.in_ok-sweep.ensures.freed c.in_ok-sweep.ensures.later c.know_rows-2.ensures.kept c.requires.stands.0
          p.none c.settle.new.self c.requires.stands.1 c.in_ok-settle.ensures.settled;
    }

pub tick_all-requires : goal.tick_all-requires
tick_all-requires g c =
    let p = c.args.self.now in
    let live = c.sweep.new.self in
    record {
      begun = record {
        tick = last_tick p.live live p.shared p.clients.items c.in_ok-sweep.ensures.freed c.in_ok-sweep.ensures.later c.know_rows-2.ensures.kept c.requires.stands.0;
        settled = shared_settled p.live live p.shared p.clients.items c.in_ok-sweep.ensures.freed c.in_ok-sweep.ensures.later c.know_rows-2.ensures.kept c.requires.stands.0
            p.none c.settle.new.self c.requires.stands.1 c.in_ok-settle.ensures.settled;
        is_part = c.in_ok-part.ensures.part;
      };
      each = each_stands p.live live p.shared p.clients.items c.in_ok-sweep.ensures.freed c.in_ok-sweep.ensures.later c.know_rows-2.ensures.kept c.requires.stands.0
          c.forget_all.new.clients.items c.forget_all.ensures.clients c.forget_all.ensures.there;
    }

pub returns-clause-outs : goal.returns-clause-outs
returns-clause-outs g c =
    let p = c.args.self.now in
    let live = c.sweep.new.self in
    let swept = c.forget_all.new.clients.items in
    c.in_ok-outs.ensures.outs
    ∙ ap (λ (rows : List RowEntry). flat_map (λ (x : Client). tick_outs (schema_of live) rows (rows_of live) (session_of_client x)) swept) (ap view_before c.in_ok-settle.ensures.settled)
    ∙ tick_sent live.table (swept_table p.live.table) c.in_ok-sweep.ensures.freed p.clients.items swept c.forget_all.ensures.clients (view_now p.shared)

pub returns-clause-room : goal.returns-clause-room
returns-clause-room g c =
    let p = c.args.self.now in
    let live = c.sweep.new.self in
    let swept = c.forget_all.new.clients.items in
    let after = c.tick_all.new.clients.items in
    let freed = c.in_ok-sweep.ensures.freed in
    let ticked = c.in_ok-outs.ensures.clients in
    let clients = c.forget_all.ensures.clients in
    let old = p.clients.items in
    same_room p c.end_tick.new.self.table (swept_table p.live.table) (view_now c.settle.new.self) _ (map session_of_client after) _
    (c.end_tick.ensures ∙ freed)
    (ap view_now c.in_ok-settle.ensures.settled ∙ ap (λ (m : Members). permitted (schema_of live) (rows_of live) m.now) c.requires.stands.1
    ∙ ap (λ (t : TableState). permitted t.schema t.state.rows no_members.now) freed)
    (tick_sessions live.table (swept_table p.live.table) freed old swept clients after ticked)

pub returns-clause-cost : goal.returns-clause-cost
returns-clause-cost g c =
    let p = c.args.self.now in
    let live = c.sweep.new.self in
    let shared = c.settle.new.self in
    let freed = c.in_ok-sweep.ensures.freed in
    let settles = c.in_ok-settle.ensures.settled in
    let no_pairs = ap (λ (m : Members). length m.now) c.requires.stands.1 in
    tick_steps live.table (swept_table p.live.table) freed p.clients.items c.forget_all.new.clients.items c.forget_all.ensures.clients
    (place_count (rows_of p.live)) (view_now p.shared) (view_now shared) c.args.steps.now c.sweep.new._steps c.settle.new.steps c.encode_shared.new.steps c.tick_all.new.steps
    (ap view_now settles ∙ ap (λ (m : Members). permitted (schema_of live) (rows_of live) m.now) c.requires.stands.1 ∙ ap (λ (t : TableState). permitted t.schema t.state.rows no_members.now) freed)
    c.sweep.ensures.cost
    (subst (λ n. c.settle.new.steps ≤ c.sweep.new._steps + (place_count (rows_of live) + n)) no_pairs c.settle.ensures.cost)
    (subst (λ (rows : List RowEntry). c.encode_shared.new.steps ≤ c.settle.new.steps + (place_count rows + place_count (view_now shared))) (ap view_before settles) c.encode_shared.ensures.cost)
    c.in_ok-outs.ensures.cost

pub returns-in_err-outs-clause-cost : goal.returns-in_err-outs-clause-cost
returns-in_err-outs-clause-cost g c =
    let p = c.args.self.now in
    let live = c.sweep.new.self in
    let shared = c.settle.new.self in
    let freed = c.in_ok-sweep.ensures.freed in
    let settles = c.in_ok-settle.ensures.settled in
    let no_pairs = ap (λ (m : Members). length m.now) c.requires.stands.1 in
    tick_steps live.table (swept_table p.live.table) freed p.clients.items c.forget_all.new.clients.items c.forget_all.ensures.clients
    (place_count (rows_of p.live)) (view_now p.shared) (view_now shared) c.args.steps.now c.sweep.new._steps c.settle.new.steps c.encode_shared.new.steps c.tick_all.new.steps
    (ap view_now settles ∙ ap (λ (m : Members). permitted (schema_of live) (rows_of live) m.now) c.requires.stands.1 ∙ ap (λ (t : TableState). permitted t.schema t.state.rows no_members.now) freed)
    c.sweep.ensures.cost
    (subst (λ n. c.settle.new.steps ≤ c.sweep.new._steps + (place_count (rows_of live) + n)) no_pairs c.settle.ensures.cost)
    (subst (λ (rows : List RowEntry). c.encode_shared.new.steps ≤ c.settle.new.steps + (place_count rows + place_count (view_now shared))) (ap view_before settles) c.encode_shared.ensures.cost)
    c.in_err-outs.ensures.cost

-- where memory ran out the clients tell what they told
pub returns-in_err-settle-clause-order : goal.returns-in_err-settle-clause-order
returns-in_err-settle-clause-order g c =
    let p = c.args.self.now in
    on_err _ (told_ordered (room_of p) _ refl (told_sessions p.clients.items _ (ap (map client_tells) c.forget_all.ensures.clients ∙ swept_tell (rows_of c.sweep.new.self) p.clients.items)) c.requires.order)

pub returns-in_err-part-clause-order : goal.returns-in_err-part-clause-order
returns-in_err-part-clause-order g c =
    let p = c.args.self.now in
    on_err _ (told_ordered (room_of p) _ refl (told_sessions p.clients.items _ (ap (map client_tells) c.forget_all.ensures.clients ∙ swept_tell (rows_of c.sweep.new.self) p.clients.items)) c.requires.order)

pub returns-in_err-outs-clause-order : goal.returns-in_err-outs-clause-order
returns-in_err-outs-clause-order g c =
    let p = c.args.self.now in
    on_err _ (told_ordered (room_of p) _ refl
    (told_sessions p.clients.items _ (c.in_err-outs.ensures.told ∙ (ap (map client_tells) c.forget_all.ensures.clients ∙ swept_tell (rows_of c.sweep.new.self) p.clients.items))) c.requires.order)
