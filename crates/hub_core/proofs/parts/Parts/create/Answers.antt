use Rattle.std.proofs.Common.{◌≡◌, ◌∙◌, ◌++◌, ◌∷◌, [], Option, Some, None, IfSome, get_or, refl, sym, ap, subst}
use Rattle.std.specs.Prelude.{slice_get}
use Rattle.lists.specs.Rising.{IsAbove}
use Rattle.room_model.specs.declared.definition.RoomDef.{RoomDef}
use Rattle.room_model.specs.Room.{new_room}
use Rattle.hub_model.specs.declared.event.HubOut.TheVariants as out
use Rattle.hub_model.specs.HubStep.{created_out, room_made}
use Rattle.hub_core.specs.declared.entry.RoomEntry.{RoomEntry}
use Rattle.hub_core.specs.Hubs.{hub_of}
use Rattle.hub_core.specs.Seated.{Added}
use Rattle.hub_core.specs.RoomEntry.{room_in, serial_of}
use Rattle.hub_core.proofs.SeatLaws.{def_taken, def_there, order_added}
use Rattle.hub_core.proofs.parts.Parts.create.Given.{Over}
use Rattle.hub_core.proofs.parts.Parts.create.Goals as goal

-- the room that is added
abbrev made : (g : Over) (c : goal.In_ok-push g) → RoomEntry g.row.R.Denot
made g c = c.in_ok-at.ensures.rooms.it

abbrev given : (g : Over) (c : goal.In_ok-push g) → RoomEntry g.row.R.Denot
given g c = record { serial = c.in_ok-at.at.serial; def = c.args.def; id = c.args.room; status = c.in_ok-at.ensures.rooms.it.status; room = c.in_ok-made.made; criteria = c.args.criteria }

given_is : (g : Over) (c : goal.In_ok-push g) → made g c ≡ given g c
given_is g c = c.in_ok-at.ensures.rooms.is

own_is : (g : Over) (c : goal.In_ok-push g) → c.index-as_slice-def.result ≡ get_or c.args.self.now.defs c.args.def c.index-as_slice-def.result
own_is g c = c.index-as_slice-def.is ∙ ap (λ ds. get_or ds c.args.def c.index-as_slice-def.result) c.as_slice.ensures

added : (g : Over) (c : goal.In_ok-push g) (d : RoomDef) → slice_get c.args.self.now.defs c.args.def ≡ Some d
    → Added g.R.RoomLike.room g.R.RoomLike.Holds d c.args.def c.args.criteria c.args.room c.in_ok-at.at.serial c.args.self.now
    (record {
      alloc = c.args.self.now.alloc;
      moment = c.args.self.now.moment;
      schema = c.args.self.now.schema;
      process = c.args.self.now.process;
      defs = c.args.self.now.defs;
      registry =
          c.push.new.self;
      conns = c.args.self.now.conns;
      session_rooms = c.args.self.now.session_rooms;
    }) c.args.outs.now c.push-2.new.self
added g c d there =
    let old = c.args.self.now in
    let own = c.index-as_slice-def.result in
    let one : own ≡ d = def_taken old.defs c.args.def own d c.requires.def (own_is g c) there in
    let is : room_in g.R.RoomLike.room (made g c) ≡ room_made (hub_of g.R.RoomLike.room old) c.args.criteria c.args.room c.args.def d =
    ap (room_in g.R.RoomLike.room) (given_is g c) ∙ ap (λ r. record { id = c.args.room; def = c.args.def; criteria = c.args.criteria; room = r }) (c.in_ok-made.ensures.value ∙ ap (λ d. new_room old.schema d c.args.criteria) one) in
    let named : c.in_ok-name.name ≡ (get_or old.defs c.args.def (g.R.RoomLike.room c.in_ok-made.made).def).name =
    c.in_ok-name.ensures ∙ ap (λ (d : RoomDef). d.name) (def_there old.defs c.args.def own (g.R.RoomLike.room c.in_ok-made.made).def c.requires.def (own_is g c)) in
    let number : (made g c).serial ≡ c.in_ok-at.at.serial = ap (λ (s : RoomEntry g.row.R.Denot). s.serial) (given_is g c) in
    record {
      it = made g c;
      number = number;
      is = is;
      rooms = c.in_ok-at.ensures.rooms.rooms;
      above = c.in_ok-at.ensures.above;
      outs = c.in_ok-push.ensures ∙ ap (λ n. c.args.outs.now ++ out.Created c.args.room n ∷ []) named
          ∙ ap (λ (s : RoomEntry g.row.R.Denot). c.args.outs.now ++ created_out (hub_of g.R.RoomLike.room old) (room_in g.R.RoomLike.room s) ∷ []) (sym (given_is g c));
      order = order_added g.R.RoomLike.room g.R.RoomLike.Holds g.met.R.RoomLike.begins d c.args.def c.args.criteria c.args.room old c.requires.order (made g c) is
          (subst (λ n. IsAbove serial_of n old.registry.rooms) (sym number) c.in_ok-at.ensures.above) c.requires.room _ c.in_ok-at.ensures.rooms.rooms c.in_ok-at.ensures.kept c.in_ok-at.ensures.count refl refl refl refl refl;
      conns = refl;
      moment = refl;
      schema = refl;
      process = refl;
      defs = refl;
    }

pub returns : goal.returns
returns g c = by_def (slice_get c.args.self.now.defs c.args.def) refl
  where
    by_def : (o : Option RoomDef) → slice_get c.args.self.now.defs c.args.def ≡ o
        → IfSome o (λ d. Added g.R.RoomLike.room g.R.RoomLike.Holds d c.args.def c.args.criteria c.args.room c.in_ok-at.at.serial c.args.self.now
        (record {
          alloc = c.args.self.now.alloc;
          moment = c.args.self.now.moment;
          schema = c.args.self.now.schema;
          process = c.args.self.now.process;
          defs = c.args.self.now.defs;
          registry =
              c.push.new.self;
          conns = c.args.self.now.conns;
          session_rooms = c.args.self.now.session_rooms;
        }) c.args.outs.now c.push-2.new.self)
    by_def None is = tt
    by_def (Some d) is = added g c d is
