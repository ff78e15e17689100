use Rattle.std.proofs.Common.{◌≡◌, ◌∙◌, ℕ, false, List, [], ◌∷◌, Option, Some, None, IfSome, refl, sym, subst}
use Rattle.lists.specs.Rising.{find as find_by}
use Rattle.room_model.specs.declared.event.RoomEvent.{RoomEvent}
use Rattle.room_laws.specs.Names.{reserves}
use Rattle.room_model.specs.declared.refusal.Refusal.TheVariants as refusal
use Rattle.hub_model.specs.declared.conn.HubConn.{HubConn}
use Rattle.hub_model.specs.declared.event.HubOut.TheVariants as out
use Rattle.hub_core.specs.declared.entry.RoomEntry.{RoomEntry}
use Rattle.hub_core.specs.declared.parts.Parts.{Parts}
use Rattle.hub_core.specs.Lawful.{Lawful}
use Rattle.hub_core.specs.RoomEntry.{serial_of}
use Rattle.hub_core.specs.Turned.{Turned}
use Rattle.hub_core.proofs.CostLaws.{cost_found}
use Rattle.hub_core.proofs.EachLaws.{of_there}
use Rattle.hub_core.proofs.HandleLaws.{Found, found_named, found_serial, hub_handled, may_at, some_found, stands_handled, still_needed, told_handled}
use Rattle.hub_core.proofs.RoomLaws.{both_ok, one_ok, pushed_ok, three_ok}
use Rattle.hub_core.proofs.UnhandledLaws.{none_hub, none_told}
use Rattle.lists.proofs.SameBytes.{same_bytes}
use Rattle.lists.proofs.Results.{on_ok}
use Rattle.hub_core.proofs.parts.Parts.handle_in.Given.{Over}
use Rattle.hub_core.proofs.parts.Parts.handle_in.Goals as goal

lawful : (g : Over) → Lawful g.R.RoomLike.Holds g.R.RoomLike.handled
lawful g = record { goes_on = g.met.R.RoomLike.goes_on; tells = g.met.R.RoomLike.tells; seats = g.met.R.RoomLike.seats; names = g.met.R.RoomLike.names; quiet = g.met.R.RoomLike.quiet; keepers = g.met.R.RoomLike.keepers }

pub returns-in_default-clause-hub : goal.returns-in_default-clause-hub
returns-in_default-clause-hub g c =
    on_ok c.push.result (none_hub g.R.RoomLike.room g.R.RoomLike.handled c.args.room c.args.event.now g.R.RoomLike.Holds c.args.self.now c.requires.stands c.know.ensures c.in_default.ensures)

pub returns-in_default-clause-outs : goal.returns-in_default-clause-outs
returns-in_default-clause-outs g c =
    one_ok _ _ c.push.result (λ outs. none_told g.R.RoomLike.room g.R.RoomLike.handled c.args.room c.args.event.now g.R.RoomLike.Holds c.args.self.now c.requires.stands c.know.ensures
    c.in_default.ensures c.args.outs.now c.push.new.self outs) (pushed_ok c.push.result c.push.new.self c.args.outs.now (out.Refused refusal.NoRoom ∷ []) c.push.ensures)

pub handle_at-requires-clause-there : goal.handle_at-requires-clause-there
handle_at-requires-clause-there g c = some_found c.args.self.now.registry.rooms c.args.room c.in-Some.at.serial (found_serial c.args.self.now.registry.rooms c.args.room c.in-Some.at.serial c.know.ensures c.in-Some.ensures)

pub handle_at-requires-clause-happen : goal.handle_at-requires-clause-happen
handle_at-requires-clause-happen g c = may_at g.R.RoomLike.room c.args.event.now c.args.self.now.registry.rooms c.args.room c.in-Some.at.serial
    (found_serial c.args.self.now.registry.rooms c.args.room c.in-Some.at.serial c.know.ensures c.in-Some.ensures) c.requires.happen

none_reserved : (e : RoomEvent) (k : List ℕ) → reserves e ≡ None → reserves e ≡ Some k → ⊥
none_reserved e k none some = (let both : None ≡ Some k = sym none ∙ some in absurd cc)

pub handle_at-requires-clause-names : goal.handle_at-requires-clause-names
handle_at-requires-clause-names g c k is = absurd (none_reserved c.args.event.now k c.requires.reserves is)

pub handle_at-requires-clause-homes : goal.handle_at-requires-clause-homes
handle_at-requires-clause-homes g c k is = absurd (none_reserved c.args.event.now k c.requires.reserves is)

-- a connection of the room of the id
own_room : {R : Type 0} (ss : List (RoomEntry R)) (id : List ℕ) (n : ℕ) (f : Found ss id n) (o : Option HubConn) → IfSome o (λ (c : HubConn). c.room ≡ id) → IfSome o (λ (c : HubConn). IfSome (find_by serial_of n ss) (λ s. c.room ≡ s.id))
own_room ss id n f None h = tt
own_room {R = R} ss id n f (Some c) h = subst (λ o. IfSome o (λ (s : RoomEntry R). c.room ≡ s.id)) (sym f.at) (h ∙ sym (same_bytes f.it.id id (found_named f)))

pub handle_at-requires-clause-room : goal.handle_at-requires-clause-room
handle_at-requires-clause-room g c = own_room c.args.self.now.registry.rooms c.args.room c.in-Some.at.serial (found_serial c.args.self.now.registry.rooms c.args.room c.in-Some.at.serial c.know.ensures c.in-Some.ensures) c.args.from c.requires.room

pub returns-in_err-changed-clause-cost : goal.returns-in_err-changed-clause-cost
returns-in_err-changed-clause-cost g c =
    let f = found_serial c.args.self.now.registry.rooms c.args.room c.in-Some.at.serial c.know.ensures c.in-Some.ensures in
    cost_found g.R.RoomLike.room g.R.RoomLike.costs c.args.self.now.registry.rooms c.args.room c.in-Some.at.serial c.args.event.now f.it c.handle_at.new.steps c.args.steps.now f.is f.at c.handle_at.ensures.cost

-- the room behind its step
turned : (g : Over) (c : goal.After-dispose_changed-arg-3-1 g)
    → Turned g.R.RoomLike.room g.R.RoomLike.is_spent g.R.RoomLike.handled c.args.event.now
    (found_serial c.args.self.now.registry.rooms c.args.room c.in-Some.at.serial c.know.ensures c.in-Some.ensures).it c.args.self.now c.handle_at.new.self c.args.outs.now c.handle_at.new.outs
turned g c =
    let f = found_serial c.args.self.now.registry.rooms c.args.room c.in-Some.at.serial c.know.ensures c.in-Some.ensures in
    of_there (find_by serial_of c.in-Some.at.serial c.args.self.now.registry.rooms) f.it
    (λ s. Turned g.R.RoomLike.room g.R.RoomLike.is_spent g.R.RoomLike.handled c.args.event.now s c.args.self.now c.handle_at.new.self c.args.outs.now c.handle_at.new.outs) f.at c.in_ok-changed.ensures.turned

pub dispose_changed-requires-clause-needed : goal.dispose_changed-requires-clause-needed
dispose_changed-requires-clause-needed g c same =
    let f = found_serial c.args.self.now.registry.rooms c.args.room c.in-Some.at.serial c.know.ensures c.in-Some.ensures in
    still_needed g.R.RoomLike.room g.R.RoomLike.is_spent g.R.RoomLike.handled c.args.event.now c.in-Some.at.serial f.it c.args.self.now.registry.rooms c.handle_at.new.self.registry.rooms f.at (turned g c).stepped c.requires.stands.needed
    (of_there (find_by serial_of c.in-Some.at.serial c.args.self.now.registry.rooms) f.it
    (λ s. c.in_ok-changed.changed ≡ false → (g.R.RoomLike.handled (g.R.RoomLike.room s.room) c.args.event.now).0.seats ≡ (g.R.RoomLike.room s.room).seats) f.at c.in_ok-changed.ensures.same same)

-- the hub behind it
abbrev new : (g : Over) (c : goal.After-dispose_changed g) → Parts g.row.R.Denot
new g c = record {
  alloc = c.handle_at.new.self.alloc;
  moment = c.handle_at.new.self.moment;
  schema = c.handle_at.new.self.schema;
  process = c.handle_at.new.self.process;
  defs =
      c.handle_at.new.self.defs;
  registry = c.dispose_changed.new.self;
  conns = c.handle_at.new.self.conns;
  session_rooms = c.handle_at.new.self.session_rooms;
}

turned_now : (g : Over) (c : goal.After-dispose_changed g) → Turned g.R.RoomLike.room g.R.RoomLike.is_spent g.R.RoomLike.handled c.args.event.now
    (found_serial c.args.self.now.registry.rooms c.args.room c.in-Some.at.serial c.know.ensures c.in-Some.ensures).it c.args.self.now c.handle_at.new.self c.args.outs.now c.handle_at.new.outs
turned_now g c =
    let f = found_serial c.args.self.now.registry.rooms c.args.room c.in-Some.at.serial c.know.ensures c.in-Some.ensures in
    of_there (find_by serial_of c.in-Some.at.serial c.args.self.now.registry.rooms) f.it
    (λ s. Turned g.R.RoomLike.room g.R.RoomLike.is_spent g.R.RoomLike.handled c.args.event.now s c.args.self.now c.handle_at.new.self c.args.outs.now c.handle_at.new.outs) f.at c.in_ok-changed.ensures.turned

pub returns-clause-hub : goal.returns-clause-hub
returns-clause-hub g c =
    let f = found_serial c.args.self.now.registry.rooms c.args.room c.in-Some.at.serial c.know.ensures c.in-Some.ensures in
    one_ok _ _ c.dispose_changed.result (λ left. hub_handled g.R.RoomLike.room g.R.RoomLike.is_spent g.R.RoomLike.Holds g.R.RoomLike.handled (lawful g)
    c.args.room c.args.event.now c.in-Some.at.serial c.args.self.now c.handle_at.new.self c.dispose_changed.new.self c.requires.stands c.know.ensures f c.requires.happen c.args.outs.now c.handle_at.new.outs
    (turned_now g c) left (new g c) refl refl refl refl refl refl) c.dispose_changed.ensures.rooms

pub returns-clause-outs : goal.returns-clause-outs
returns-clause-outs g c =
    let f = found_serial c.args.self.now.registry.rooms c.args.room c.in-Some.at.serial c.know.ensures c.in-Some.ensures in
    both_ok _ _ _ c.dispose_changed.result (λ left outs. told_handled g.R.RoomLike.room g.R.RoomLike.is_spent g.R.RoomLike.Holds g.R.RoomLike.handled (lawful g)
    c.args.room c.args.event.now c.in-Some.at.serial c.args.self.now c.handle_at.new.self c.dispose_changed.new.self c.requires.stands c.know.ensures f c.requires.happen c.args.outs.now c.handle_at.new.outs
    (turned_now g c) left c.dispose_changed.new.outs outs) c.dispose_changed.ensures.rooms c.dispose_changed.ensures.outs

pub returns-clause-stands : goal.returns-clause-stands
returns-clause-stands g c =
    let f = found_serial c.args.self.now.registry.rooms c.args.room c.in-Some.at.serial c.know.ensures c.in-Some.ensures in
    three_ok _ _ _ _ c.dispose_changed.result (λ left kept count. stands_handled g.R.RoomLike.room g.R.RoomLike.is_spent g.R.RoomLike.Holds g.R.RoomLike.handled (lawful g)
    c.args.room c.args.event.now c.in-Some.at.serial c.args.self.now c.handle_at.new.self c.dispose_changed.new.self c.requires.stands c.know.ensures f c.requires.happen c.args.outs.now c.handle_at.new.outs
    (turned_now g c) left _ c.in_ok-changed.ensures.order c.dispose_changed.ensures.ordered kept count refl refl refl refl refl refl) c.dispose_changed.ensures.rooms c.dispose_changed.ensures.kept c.dispose_changed.ensures.count

pub returns-clause-cost : goal.returns-clause-cost
returns-clause-cost g c =
    let f = found_serial c.args.self.now.registry.rooms c.args.room c.in-Some.at.serial c.know.ensures c.in-Some.ensures in
    cost_found g.R.RoomLike.room g.R.RoomLike.costs c.args.self.now.registry.rooms c.args.room c.in-Some.at.serial c.args.event.now f.it c.handle_at.new.steps c.args.steps.now f.is f.at c.handle_at.ensures.cost
