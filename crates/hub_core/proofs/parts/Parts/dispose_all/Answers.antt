use Rattle.std.proofs.Common.{◌≡◌, ◌∙◌, ◌++◌, ◌∷◌, [], IfSome, refl, sym, subst}
use Rattle.std.specs.Prelude.{if◌then◌else◌}
use Rattle.lists.specs.Rising.{find as find_by, remove}
use Rattle.hub_model.specs.HubStep.{disposals, is_needed}
use Rattle.hub_core.specs.RoomEntry.{room_in, serial_of}
use Rattle.hub_core.specs.Lawful.{Lawful}
use Rattle.hub_core.proofs.LeftLaws.{Leaving, leaving_first, leaving_last, leaving_next}
use Rattle.hub_core.proofs.parts.Parts.dispose_all.Given.{Over}
use Rattle.hub_core.proofs.parts.Parts.dispose_all.Goals as goal

lawful : (g : Over) → Lawful g.R.RoomLike.Holds g.R.RoomLike.handled
lawful g = record { goes_on = g.met.R.RoomLike.goes_on; tells = g.met.R.RoomLike.tells; seats = g.met.R.RoomLike.seats; names = g.met.R.RoomLike.names; quiet = g.met.R.RoomLike.quiet; keepers = g.met.R.RoomLike.keepers }

pub rooms-init : goal.rooms-init
rooms-init g c =
    let old = c.args.self.now in
    subst (λ ks. Leaving g.R.RoomLike.room g.R.RoomLike.Holds ks old old c.args.outs.now c.args.outs.now) (sym (c.into_iter-serial-iterator.ensures.into_iter_gives ∙ c.iter-serial-items.ensures.rest))
    (leaving_first g.R.RoomLike.room g.R.RoomLike.Holds c.args.due.now.keys old c.args.outs.now c.requires.order c.requires.rises c.requires.there c.requires.needed)

pub dispose-requires : goal.dispose-requires
dispose-requires g c = record { kept = c.rooms.invariant.order.kept }

pub rooms-preserved : goal.rooms-preserved
rooms-preserved g c =
    leaving_next g.R.RoomLike.room g.R.RoomLike.Holds g.R.RoomLike.handled (lawful g) c.in-Some.serial.now c.next.new.self c.args.self.now c.rooms.self c.dispose.new.self c.args.outs.now c.rooms.outs c.dispose.new.outs
    (subst (λ ks. Leaving g.R.RoomLike.room g.R.RoomLike.Holds ks c.args.self.now c.rooms.self c.args.outs.now c.rooms.outs) c.in-Some.ensures.steps c.rooms.invariant)
    c.dispose.ensures.ordered
    (subst (λ k. IfSome (find_by serial_of k c.rooms.self.registry.rooms)
    (λ t. c.dispose.new.self.rooms ≡ (if is_needed (room_in g.R.RoomLike.room t) then c.rooms.self.registry.rooms else remove serial_of k c.rooms.self.registry.rooms))) c.reference-at.ensures c.in_ok-dispose.ensures.rooms)
    (subst (λ k. IfSome (find_by serial_of k c.rooms.self.registry.rooms) (λ t. c.dispose.new.outs ≡ c.rooms.outs ++ disposals (room_in g.R.RoomLike.room t ∷ []))) c.reference-at.ensures c.in_ok-dispose.ensures.outs)
    c.in_ok-dispose.ensures.kept c.in_ok-dispose.ensures.count _ refl refl refl refl refl refl refl

pub returns : goal.returns
returns g c = leaving_last g.R.RoomLike.room g.R.RoomLike.Holds c.rooms.serial-iterator c.args.self.now c.rooms.self c.args.outs.now c.rooms.outs c.in-None.ensures.steps.0 c.know.ensures c.rooms.invariant
