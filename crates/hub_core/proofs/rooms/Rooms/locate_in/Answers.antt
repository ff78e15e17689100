use Rattle.std.proofs.Common.{◌≡◌, ◌∙◌, Some, sym, ap, subst}
use Rattle.std.specs.List.{find}
use Rattle.std.specs.Option.{option_map}
use Rattle.lists.proofs.SameBytes.{same_bytes}
use Rattle.hub_core.specs.RoomEntry.{has_id, serial_of}
use Rattle.hub_core.proofs.RoomLaws.{found_by_id}
use Rattle.hub_core.proofs.rooms.Rooms.locate_in.Goals as goal

pub returns-in-Some : goal.returns-in-Some
returns-in-Some g c =
    let ss = c.self.inside.slots in
    let s = c.in-Some.entry.now in
    let named : find (has_id s.id) ss ≡ Some s = found_by_id s.serial s ss c.self.invariant.own_ids c.in-Some.ensures in
    let id : s.id ≡ c.args.id = ap (λ s. s.id) (sym c.entry.view_is) ∙ (same_bytes _ _ (sym c.eq.ensures ∙ c.if-eq.true) ∙ c.id.view_is) in
    let there : find (has_id c.args.id) c.args.self.now ≡ Some s = rw (← c.self.view_is) (subst (λ k. find (has_id k) ss ≡ Some s) id named) in
    ap (λ s. Some s.serial) c.entry.view_is ∙ ap (option_map serial_of) (sym there)
