use Rattle.std.proofs.Common.{◌≡◌, ◌∙◌, false, Some, IfSome, IsTrue, refl, sym, ap, ap₂, subst}
use Rattle.std.specs.List.{flat_map}
use Rattle.std.specs.Option.{option_map}
use Rattle.lists.specs.Rising.{find as find_by}
use Rattle.room_laws.specs.Places.{may_happen}
use Rattle.hub_core.specs.declared.entry.RoomEntry.{RoomEntry}
use Rattle.hub_core.specs.Endings.{ended_by, without_all}
use Rattle.hub_core.specs.Lawful.{Lawful}
use Rattle.hub_core.specs.RoomEntry.{IsStepped, serial_of}
use Rattle.hub_core.proofs.EachLaws.{There, of_there, there}
use Rattle.hub_core.proofs.TurnLaws as turn
use Rattle.hub_core.proofs.parts.Parts.handle_at.Given.{Over}
use Rattle.hub_core.proofs.parts.Parts.handle_at.Goals as goal

lawful : (g : Over) → Lawful g.R.RoomLike.Holds g.R.RoomLike.handled
lawful g = record { goes_on = g.met.R.RoomLike.goes_on; tells = g.met.R.RoomLike.tells; seats = g.met.R.RoomLike.seats; names = g.met.R.RoomLike.names; quiet = g.met.R.RoomLike.quiet; keepers = g.met.R.RoomLike.keepers }

-- the room of the number behind its step
it : (g : Over) (c : goal.After-drop-sessions-2 g) → There (find_by serial_of c.args.at.serial c.args.self.now.registry.rooms)
    (λ s. IsStepped g.R.RoomLike.room g.R.RoomLike.is_spent s c.args.self.now.registry.rooms c.step.new.self.rooms (g.R.RoomLike.handled (g.R.RoomLike.room s.room) c.args.event.now).0)
it g c = there (find_by serial_of c.args.at.serial c.args.self.now.registry.rooms)
    (λ s. IsStepped g.R.RoomLike.room g.R.RoomLike.is_spent s c.args.self.now.registry.rooms c.step.new.self.rooms (g.R.RoomLike.handled (g.R.RoomLike.room s.room) c.args.event.now).0) c.requires.there c.in_ok-given.ensures.after

abbrev was : (g : Over) (c : goal.After-drop-sessions-2 g) → RoomEntry g.row.R.Denot
was g c = (it g c).it

outs_are : (g : Over) (c : goal.After-drop-sessions-2 g) → c.in_ok-given.field-0.outs ≡ (g.R.RoomLike.handled (g.R.RoomLike.room (was g c).room) c.args.event.now).1
outs_are g c = of_there (find_by serial_of c.args.at.serial c.args.self.now.registry.rooms) (was g c) (λ s. c.in_ok-given.field-0.outs ≡ (g.R.RoomLike.handled (g.R.RoomLike.room s.room) c.args.event.now).1) (it g c).is c.in_ok-given.ensures.outs

may : (g : Over) (c : goal.After-drop-sessions-2 g) → IsTrue (may_happen (g.R.RoomLike.room (was g c).room) c.args.event.now)
may g c = of_there (find_by serial_of c.args.at.serial c.args.self.now.registry.rooms) (was g c) (λ s. IsTrue (may_happen (g.R.RoomLike.room s.room) c.args.event.now)) (it g c).is c.requires.happen

id_is : (g : Over) (c : goal.After-drop-sessions-2 g) → c.in-Some.id ≡ (was g c).id
id_is g c = let one : Some c.in-Some.id ≡ Some (was g c).id = c.in-Some.ensures ∙ ap (option_map (λ (s : RoomEntry g.row.R.Denot). s.id)) (it g c).is in cc

-- what is left of the connections
conns_are : (g : Over) (c : goal.After-drop-sessions-2 g) → c.end_all.new.conns ≡ without_all (was g c).id (flat_map ended_by (g.R.RoomLike.handled (g.R.RoomLike.room (was g c).room) c.args.event.now).1) c.args.self.now.conns
conns_are g c =
    c.end_all.ensures
    ∙ ap₂ (λ k l. without_all k l c.args.self.now.conns) (id_is g c) (c.as_slice-2.ensures.value ∙ c.in_ok-sessions.ensures ∙ ap (flat_map ended_by) (c.as_slice.ensures ∙ outs_are g c))

pub returns-clause-same : goal.returns-clause-same
returns-clause-same g c =
    subst (λ o. IfSome o (λ (s : RoomEntry g.row.R.Denot). c.is_some.result ≡ false → (g.R.RoomLike.handled (g.R.RoomLike.room s.room) c.args.event.now).0.seats ≡ (g.R.RoomLike.room s.room).seats)) (sym (it g c).is)
    (turn.same_seats g.R.RoomLike.room g.R.RoomLike.is_spent g.R.RoomLike.Holds g.R.RoomLike.handled (lawful g) c.args.event.now c.args.at.serial c.args.self.now c.requires.order c.step.ensures.ordered
    (was g c) (it g c).is (may g c) c.step.new.self (it g c).holds
    c.in_ok-given.field-0.change c.in_ok-given.field-0.outs c.is_some.result (outs_are g c) c.is_some.ensures c.in_ok-given.ensures.change)

pub returns-clause-order : goal.returns-clause-order
returns-clause-order g c =
    turn.order_stepped g.R.RoomLike.room g.R.RoomLike.is_spent g.R.RoomLike.Holds g.R.RoomLike.handled (lawful g) c.args.event.now c.args.at.serial c.args.self.now c.requires.order c.step.ensures.ordered
    (was g c) (it g c).is (may g c) c.step.new.self (it g c).holds c.args.self.now.conns
    (turn.were_there g.R.RoomLike.room g.R.RoomLike.is_spent g.R.RoomLike.Holds g.R.RoomLike.handled (lawful g) c.args.event.now c.args.at.serial c.args.self.now c.requires.order c.step.ensures.ordered
    (was g c) (it g c).is (may g c) c.step.new.self (it g c).holds c.args.self.now.conns c.requires.order.conns)
    _ refl (conns_are g c) refl refl refl refl c.in_ok-given.ensures.kept c.in_ok-given.ensures.count c.requires.names c.requires.homes
