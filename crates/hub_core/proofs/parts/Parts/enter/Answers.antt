use Rattle.std.proofs.Common.{◌≡◌, ◌∙◌, ◌++◌, List, Some, refl, sym, ap, ap₂}
use Rattle.std.specs.Prelude.{if◌then◌else◌}
use Rattle.std.specs.List.{find, flat_map, list_any}
use Rattle.lists.specs.Rising.{find as find_by, put}
use Rattle.room_model.specs.declared.event.RoomEvent.TheVariants as event
use Rattle.room_model.specs.Outs.{is_entry}
use Rattle.hub_model.specs.declared.conn.HubConn.{HubConn}
use Rattle.hub_model.specs.Dealt.{opened_out}
use Rattle.hub_model.specs.HubStep.{entered_conns}
use Rattle.hub_model.specs.HubValues.{conn_number}
use Rattle.hub_core.specs.Hubs.{hub_of}
use Rattle.hub_core.specs.Handled.{dealt_to, with_dealt}
use Rattle.hub_core.specs.Endings.{ended_by, without_all}
use Rattle.hub_core.specs.Lawful.{Lawful}
use Rattle.hub_core.specs.RoomEntry.{has_id, serial_of}
use Rattle.lists.proofs.SameBytes.{same_bytes}
use Rattle.hub_core.proofs.EachLaws.{of_there}
use Rattle.hub_core.proofs.EnterLaws as enter
use Rattle.hub_core.proofs.EnterLaws.{located_cost, located_there, may_enter}
use Rattle.hub_core.proofs.HandleLaws as handle
use Rattle.hub_core.proofs.HandleLaws.{found_named, found_serial}
use Rattle.hub_core.proofs.RoomLaws.{both_ok, one_ok, three_ok}
use Rattle.hub_core.proofs.parts.Parts.enter.Given.{Over}
use Rattle.hub_core.proofs.parts.Parts.enter.Goals as goal

lawful : (g : Over) → Lawful g.R.RoomLike.Holds g.R.RoomLike.handled
lawful g = record { goes_on = g.met.R.RoomLike.goes_on; tells = g.met.R.RoomLike.tells; seats = g.met.R.RoomLike.seats; names = g.met.R.RoomLike.names; quiet = g.met.R.RoomLike.quiet; keepers = g.met.R.RoomLike.keepers }

pub step-requires-clause-there : goal.step-requires-clause-there
step-requires-clause-there g c = located_there c.args.opening.now.room c.in-Some.at.serial c.args.self.now.registry.rooms c.in-Some.ensures

pub connect-requires-clause-session : goal.connect-requires-clause-session
connect-requires-clause-session g c entry =
    let old = c.args.self.now in
    let ordered = c.step.ensures.ordered in
    let f = found_serial old.registry.rooms c.args.opening.now.room c.in-Some.at.serial ordered c.in-Some.ensures in
    enter.free_session g.R.RoomLike.room g.R.RoomLike.Holds g.R.RoomLike.handled (lawful g)
    c.args.opening.now c.args.fresh c.in-Some.at.serial old c.in_ok-given.field-0.outs c.requires.stands f c.in_ok-given.ensures.outs (sym (ap (list_any (is_entry c.args.opening.now.session)) c.as_slice.ensures) ∙ entry)

-- the connections with the one that enters, and those that are left of them
abbrev with_newcomer : (g : Over) (c : goal.Joined-event-17 g) → List HubConn
with_newcomer g c = if list_any (is_entry c.args.opening.now.session) c.in_ok-given.field-0.outs then put conn_number (record { conn = c.args.conn; room = c.args.opening.now.room; session = c.args.opening.now.session })
    c.args.self.now.conns else c.args.self.now.conns

connected : (g : Over) (c : goal.Joined-event-17 g) → c.connect.new.conns ≡ with_newcomer g c
connected g c = c.in_ok-connect.ensures ∙ ap (λ o. if list_any (is_entry c.args.opening.now.session) o then put conn_number
    (record { conn = c.args.conn; room = c.args.opening.now.room; session = c.args.opening.now.session }) c.args.self.now.conns else c.args.self.now.conns) c.as_slice.ensures

ended_all : (g : Over) (c : goal.Joined-event-17 g) → c.end_all.new.conns ≡ without_all c.args.opening.now.room (flat_map ended_by c.in_ok-given.field-0.outs) (with_newcomer g c)
ended_all g c = c.end_all.ensures ∙ ap₂ (λ l cs. without_all c.args.opening.now.room l cs) (c.as_slice-3.ensures.value ∙ c.in_ok-sessions.ensures ∙ ap (flat_map ended_by) c.as_slice-2.ensures) (connected g c)

-- the same by what the room made of the opening
ended_by_it : (g : Over) (c : goal.Joined-event-17 g) → c.end_all.new.conns ≡ without_all
    (found_serial c.args.self.now.registry.rooms c.args.opening.now.room c.in-Some.at.serial c.step.ensures.ordered c.in-Some.ensures).it.id
    (flat_map ended_by (g.R.RoomLike.handled (g.R.RoomLike.room (found_serial c.args.self.now.registry.rooms c.args.opening.now.room c.in-Some.at.serial c.step.ensures.ordered c.in-Some.ensures).it.room)
    (event.Enter c.args.opening.now.session c.args.opening.now.token c.args.fresh)).1) (with_newcomer g c)
ended_by_it g c =
    let old = c.args.self.now in
    let ordered = c.step.ensures.ordered in
    let f = found_serial old.registry.rooms c.args.opening.now.room c.in-Some.at.serial ordered c.in-Some.ensures in
    ended_all g c
    ∙ ap₂ (λ k o. without_all k (flat_map ended_by o) (with_newcomer g c)) (sym (same_bytes f.it.id c.args.opening.now.room (found_named f)))
    (of_there (find_by serial_of c.in-Some.at.serial old.registry.rooms) f.it
    (λ s. c.in_ok-given.field-0.outs ≡ (g.R.RoomLike.handled (g.R.RoomLike.room s.room) (event.Enter c.args.opening.now.session c.args.opening.now.token c.args.fresh)).1) f.at c.in_ok-given.ensures.outs)

pub returns-clause-hub : goal.returns-clause-hub
returns-clause-hub g c =
    let old = c.args.self.now in
    let ordered = c.step.ensures.ordered in
    let f = found_serial old.registry.rooms c.args.opening.now.room c.in-Some.at.serial ordered c.in-Some.ensures in
    one_ok _ _ c.dispose.result (λ left.
    handle.hub_left g.R.RoomLike.room g.R.RoomLike.is_spent g.R.RoomLike.Holds g.R.RoomLike.handled (lawful g) c.args.opening.now.room (event.Enter c.args.opening.now.session c.args.opening.now.token c.args.fresh)
    c.in-Some.at.serial old c.step.new.self c.dispose.new.self c.in_ok-given.field-0.outs c.requires.stands ordered f
    (may_enter g.R.RoomLike.room c.args.opening.now.session c.args.opening.now.token c.args.fresh (find (has_id c.args.opening.now.room) old.registry.rooms))
    c.in_ok-given.ensures.outs c.in_ok-given.ensures.after left (with_newcomer g c) c.end_all.new.conns (ended_all g c)
    ∙ ap (λ cs. with_dealt (hub_of g.R.RoomLike.room old) cs (dealt_to g.R.RoomLike.handled (hub_of g.R.RoomLike.room old) c.args.fresh c.args.opening.now))
    (enter.conns_entered g.R.RoomLike.room g.R.RoomLike.is_spent g.R.RoomLike.Holds g.R.RoomLike.handled (lawful g)
    c.args.opening.now c.args.fresh c.in-Some.at.serial old c.step.new.self c.dispose.new.self c.in_ok-given.field-0.outs c.requires.stands ordered f
    (may_enter g.R.RoomLike.room c.args.opening.now.session c.args.opening.now.token c.args.fresh (find (has_id c.args.opening.now.room) old.registry.rooms)) c.in_ok-given.ensures.outs c.in_ok-given.ensures.after left c.args.conn))
    c.dispose.ensures.rooms

pub returns-clause-outs : goal.returns-clause-outs
returns-clause-outs g c =
    let old = c.args.self.now in
    let ordered = c.step.ensures.ordered in
    let f = found_serial old.registry.rooms c.args.opening.now.room c.in-Some.at.serial ordered c.in-Some.ensures in
    both_ok _ _ _ c.dispose.result (λ left outs.
    handle.told_all g.R.RoomLike.room g.R.RoomLike.is_spent g.R.RoomLike.Holds g.R.RoomLike.handled (lawful g) c.args.opening.now.room (event.Enter c.args.opening.now.session c.args.opening.now.token c.args.fresh)
    c.in-Some.at.serial old c.step.new.self c.dispose.new.self c.in_ok-given.field-0.outs c.requires.stands ordered f
    (may_enter g.R.RoomLike.room c.args.opening.now.session c.args.opening.now.token c.args.fresh (find (has_id c.args.opening.now.room) old.registry.rooms))
    c.in_ok-given.ensures.outs c.in_ok-given.ensures.after left
    (opened_out c.args.conn c.args.fresh (entered_conns old.conns c.args.conn (dealt_to g.R.RoomLike.handled (hub_of g.R.RoomLike.room old) c.args.fresh c.args.opening.now) (Some c.args.opening.now)))
    c.args.outs.now c.tell_opened.new.outs c.dispose.new.outs
    (c.in_ok-tell_opened.ensures ∙ ap (λ cs. c.args.outs.now ++ flat_map (opened_out c.args.conn c.args.fresh cs c.args.opening.now.room) c.in_ok-given.field-0.outs)
    (connected g c ∙ enter.conns_entered g.R.RoomLike.room g.R.RoomLike.is_spent g.R.RoomLike.Holds g.R.RoomLike.handled (lawful g)
    c.args.opening.now c.args.fresh c.in-Some.at.serial old c.step.new.self c.dispose.new.self c.in_ok-given.field-0.outs c.requires.stands ordered f
    (may_enter g.R.RoomLike.room c.args.opening.now.session c.args.opening.now.token c.args.fresh (find (has_id c.args.opening.now.room) old.registry.rooms)) c.in_ok-given.ensures.outs c.in_ok-given.ensures.after left c.args.conn)) outs)
    c.dispose.ensures.rooms c.dispose.ensures.outs

pub returns-clause-stands : goal.returns-clause-stands
returns-clause-stands g c =
    let old = c.args.self.now in
    let ordered = c.step.ensures.ordered in
    let f = found_serial old.registry.rooms c.args.opening.now.room c.in-Some.at.serial ordered c.in-Some.ensures in
    let may = may_enter g.R.RoomLike.room c.args.opening.now.session c.args.opening.now.token c.args.fresh (find (has_id c.args.opening.now.room) old.registry.rooms) in
    three_ok _ _ _ _ c.dispose.result (λ left kept count.
    enter.entered_stands g.R.RoomLike.room g.R.RoomLike.is_spent g.R.RoomLike.Holds g.R.RoomLike.handled (lawful g)
    c.args.opening.now c.args.fresh c.in-Some.at.serial old c.step.new.self c.dispose.new.self c.in_ok-given.field-0.outs c.requires.stands ordered f may c.in_ok-given.ensures.outs c.in_ok-given.ensures.after left c.args.conn
    (record { alloc = old.alloc; moment = old.moment; schema = old.schema; process = old.process; defs = old.defs; registry = c.step.new.self; conns = c.end_all.new.conns; session_rooms = c.args.self.now.session_rooms })
    _ refl (ended_by_it g c) refl refl refl refl c.in_ok-given.ensures.kept c.in_ok-given.ensures.count c.dispose.ensures.ordered kept count refl refl refl refl refl refl)
    c.dispose.ensures.rooms c.dispose.ensures.kept c.dispose.ensures.count

pub returns-in_err-given-clause-cost : goal.returns-in_err-given-clause-cost
returns-in_err-given-clause-cost g c = located_cost g.R.RoomLike.room g.R.RoomLike.costs c.args.self.now.registry.rooms c.args.opening.now.room c.in-Some.at.serial
    (event.Enter c.args.opening.now.session c.args.opening.now.token c.args.fresh) c.step.new.steps c.args.steps.now c.step.ensures.ordered c.in-Some.ensures c.step.ensures.cost

pub returns-in_err-connect-clause-cost : goal.returns-in_err-connect-clause-cost
returns-in_err-connect-clause-cost g c = located_cost g.R.RoomLike.room g.R.RoomLike.costs c.args.self.now.registry.rooms c.args.opening.now.room c.in-Some.at.serial
    (event.Enter c.args.opening.now.session c.args.opening.now.token c.args.fresh) c.step.new.steps c.args.steps.now c.step.ensures.ordered c.in-Some.ensures c.step.ensures.cost

pub returns-in_err-sessions-clause-cost : goal.returns-in_err-sessions-clause-cost
returns-in_err-sessions-clause-cost g c = located_cost g.R.RoomLike.room g.R.RoomLike.costs c.args.self.now.registry.rooms c.args.opening.now.room c.in-Some.at.serial
    (event.Enter c.args.opening.now.session c.args.opening.now.token c.args.fresh) c.step.new.steps c.args.steps.now c.step.ensures.ordered c.in-Some.ensures c.step.ensures.cost

pub returns-in_err-tell_opened-clause-cost : goal.returns-in_err-tell_opened-clause-cost
returns-in_err-tell_opened-clause-cost g c = located_cost g.R.RoomLike.room g.R.RoomLike.costs c.args.self.now.registry.rooms c.args.opening.now.room c.in-Some.at.serial
    (event.Enter c.args.opening.now.session c.args.opening.now.token c.args.fresh) c.step.new.steps c.args.steps.now c.step.ensures.ordered c.in-Some.ensures c.step.ensures.cost

pub returns-clause-cost : goal.returns-clause-cost
returns-clause-cost g c = located_cost g.R.RoomLike.room g.R.RoomLike.costs c.args.self.now.registry.rooms c.args.opening.now.room c.in-Some.at.serial
    (event.Enter c.args.opening.now.session c.args.opening.now.token c.args.fresh) c.step.new.steps c.args.steps.now c.step.ensures.ordered c.in-Some.ensures c.step.ensures.cost
