use Rattle.std.proofs.Common.{◌≡◌, ◌+◌, IfSome, IsTrue, refl, sym, ap, subst}
use Rattle.std.specs.Prelude.{Result, Ok, Err, OnOk, is_some}
use Rattle.lists.specs.Rising.{find as find_by}
use Rattle.room_model.specs.declared.event.RoomEvent.TheVariants as event
use Rattle.room_laws.specs.Places.{has_place_for}
use Rattle.hub_model.specs.HubValues.{def_of_room}
use Rattle.hub_core.specs.declared.parts.Parts.{Parts}
use Rattle.hub_core.specs.declared.entry.RoomEntry.{RoomEntry}
use Rattle.hub_core.specs.Hubs.{InOrder}
use Rattle.hub_core.specs.Lawful.{Lawful}
use Rattle.hub_core.specs.Seated.{Seated}
use Rattle.hub_core.specs.RoomEntry.{room_in, serial_of}
use Rattle.hub_core.specs.Turned.{Turned}
use Rattle.hub_core.proofs.EachLaws.{of_there, there}
use Rattle.hub_core.proofs.RegisteredLaws.{stepped_found}
use Rattle.hub_core.proofs.SeatLaws.{may_reserve, seated}
use Rattle.hub_core.proofs.parts.Parts.reserve.Given.{Over}
use Rattle.hub_core.proofs.parts.Parts.reserve.Goals as goal

lawful : (g : Over) → Lawful g.R.RoomLike.Holds g.R.RoomLike.handled
lawful g = record { goes_on = g.met.R.RoomLike.goes_on; tells = g.met.R.RoomLike.tells; seats = g.met.R.RoomLike.seats; names = g.met.R.RoomLike.names; quiet = g.met.R.RoomLike.quiet; keepers = g.met.R.RoomLike.keepers }

pub reply-requires-clause-there : goal.reply-requires-clause-there
reply-requires-clause-there g c =
    let old : Parts g.row.R.Denot = record {
      alloc = c.args.self.now.alloc;
      moment = c.args.self.now.moment;
      schema = c.args.self.now.schema;
      process = c.args.self.now.process;
      defs =
          c.args.self.now.defs;
      registry = c.args.self.now.registry;
      conns = c.args.self.now.conns;
      session_rooms = c.note.new.self;
    } in
    let P = λ (s : RoomEntry g.row.R.Denot). Turned g.R.RoomLike.room g.R.RoomLike.is_spent g.R.RoomLike.handled (event.Reserve c.args.session c.lapse_in.result) s old c.handle_at.new.self c.args.outs.now c.handle_at.new.outs in
    let it = there (find_by serial_of c.args.at.serial old.registry.rooms) P c.requires.there c.in_ok-handle_at.ensures.turned in
    ap is_some (stepped_found g.R.RoomLike.room g.R.RoomLike.is_spent c.args.at.serial it.it old.registry.rooms c.handle_at.new.self.registry.rooms _ it.holds.stepped it.is)

-- the hub in which the session is noted
abbrev noted : (g : Over) (c : goal.Joined-event-9 g) → Parts g.row.R.Denot
noted g c = record {
  alloc = c.args.self.now.alloc;
  moment = c.args.self.now.moment;
  schema = c.args.self.now.schema;
  process = c.args.self.now.process;
  defs = c.args.self.now.defs;
  registry =
      c.args.self.now.registry;
  conns = c.args.self.now.conns;
  session_rooms = c.note.new.self;
}

order : (g : Over) (c : goal.Joined-event-9 g) → InOrder g.R.RoomLike.room g.R.RoomLike.Holds (noted g c)
order g c =
    let order = c.requires.order in
    record {
      kept = order.kept;
      opens = order.opens;
      rooms = order.rooms;
      conns = order.conns;
      early = order.early;
      few = order.few;
      forms = order.forms;
      process = order.process;
      housed = c.in_ok-note.ensures.housed;
    }

abbrev new : (g : Over) (c : goal.Joined-event-9 g) → Parts g.row.R.Denot
new g c = record {
  alloc = c.handle_at.new.self.alloc;
  moment = c.handle_at.new.self.moment;
  schema = c.handle_at.new.self.schema;
  process = c.handle_at.new.self.process;
  defs =
      c.handle_at.new.self.defs;
  registry = c.dispose.new.self;
  conns = c.handle_at.new.self.conns;
  session_rooms = c.handle_at.new.self.session_rooms;
}

-- the note doesn't change the hub
of_noted : (g : Over) (c : goal.Joined-event-9 g) (s : RoomEntry g.row.R.Denot) → Seated g.R.RoomLike.room g.R.RoomLike.Holds g.R.RoomLike.handled c.args.conn c.args.session s (noted g c) (new g c) c.args.outs.now c.dispose.new.outs
    → Seated g.R.RoomLike.room g.R.RoomLike.Holds g.R.RoomLike.handled c.args.conn c.args.session s c.args.self.now (new g c) c.args.outs.now c.dispose.new.outs
of_noted g c s seated = record { hub = seated.hub; outs = seated.outs; stands = seated.stands }

four_ok : {A E : Type 0} (P Q T U S : Type 0) (r : Result A E) → (P → Q → T → U → S) → OnOk r P → OnOk r Q → OnOk r T → OnOk r U → OnOk r S
four_ok P Q T U S (Ok a) f p q t u = f p q t u
four_ok P Q T U S (Err e) f p q t u = tt

pub returns-clause-seated : goal.returns-clause-seated
returns-clause-seated g c =
    let old = noted g c in
    let ss = old.registry.rooms in
    let P = λ (s : RoomEntry g.row.R.Denot). Turned g.R.RoomLike.room g.R.RoomLike.is_spent g.R.RoomLike.handled (event.Reserve c.args.session c.lapse_in.result) s old c.handle_at.new.self c.args.outs.now c.handle_at.new.outs in
    let it = there (find_by serial_of c.args.at.serial ss) P c.requires.there c.in_ok-handle_at.ensures.turned in
    let place = of_there (find_by serial_of c.args.at.serial ss) it.it (λ s. IsTrue (has_place_for (g.R.RoomLike.room s.room) c.args.session)) it.is c.requires.place in
    let lapse = of_there (find_by serial_of c.args.at.serial ss) it.it (λ s. c.lapse_in.result ≡ old.moment + (def_of_room old.defs (room_in g.R.RoomLike.room s)).seat) it.is c.lapse_in.ensures.value in
    four_ok _ _ _ _ _ c.dispose.result (λ left outs kept count.
    subst (λ o. IfSome o (λ (s : RoomEntry g.row.R.Denot). Seated g.R.RoomLike.room g.R.RoomLike.Holds g.R.RoomLike.handled c.args.conn c.args.session s c.args.self.now (new g c) c.args.outs.now c.dispose.new.outs)) (sym it.is)
    (of_noted g c it.it (seated g.R.RoomLike.room g.R.RoomLike.is_spent g.R.RoomLike.Holds g.R.RoomLike.handled (lawful g)
    c.args.session c.lapse_in.result c.args.at.serial c.args.conn old c.handle_at.new.self c.dispose.new.self c.args.outs.now c.handle_at.new.outs c.reply.new.outs
    (order g c) c.requires.needed c.in_ok-handle_at.ensures.ordered it.it it.is lapse (may_reserve (g.R.RoomLike.room it.it.room) c.args.session c.lapse_in.result c.lapse_in.ensures.early place)
    it.holds c.in_ok-reply.ensures left (new g c) c.dispose.new.outs outs c.in_ok-handle_at.ensures.order c.dispose.ensures.ordered kept count refl refl refl refl refl refl refl)))
    c.dispose.ensures.rooms c.dispose.ensures.outs c.dispose.ensures.kept c.dispose.ensures.count
