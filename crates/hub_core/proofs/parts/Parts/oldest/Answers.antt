use Rattle.std.proofs.Common.{◌≡◌, ◌∙◌, ◌<◌, ℕ, false, Some, length, sym, ap, subst}
use Rattle.std.specs.Prelude.{option_and_then, slice_get}
use Rattle.std.specs.Option.{option_map_or}
use Rattle.std.proofs.lemmas.Option.{slice_get-get_or}
use Rattle.lists.specs.Rising.{find as find_by}
use Rattle.hub_core.specs.OpenRooms.{criteria_key, is_listed, is_open_at}
use Rattle.hub_core.specs.Outcome.{oldest_of_def}
use Rattle.hub_core.specs.RoomEntry.{serial_of}
use Rattle.hub_core.proofs.EachLaws.{of_there}
use Rattle.hub_core.proofs.OpenLaws.{oldest_is}
use Rattle.hub_core.proofs.parts.Parts.oldest.Goals as goal

pub returns : goal.returns
returns g c =
    let old = c.args.self.now in
    let ss = old.registry.rooms in
    let opens = old.registry.open_rooms.items in
    let d = c.in-Some.def in
    let criteria = c.args.criteria.now in
    let within : d < length opens = subst (λ n. d < n) (sym c.requires.stands.order.opens) (of_there c.args.def d (λ d. d < length old.defs) c.in-Some.is c.requires.def) in
    let place : slice_get opens d ≡ Some c.index.result.now = slice_get-get_or opens d c.index.result.now within ∙ ap Some (sym c.index.ensures) in
    let same : (n : ℕ) → is_open_at c.index.result.now c.deref.result.now n ≡ is_listed g.R.RoomLike.room d criteria (find_by serial_of n ss) =
    λ n. ap (λ k. is_open_at c.index.result.now k n) (c.deref.ensures.value ∙ c.in_ok-key.ensures)
    ∙ (sym (ap (λ o. option_map_or (λ o. is_open_at o (criteria_key criteria) n) o false) place) ∙ c.requires.stands.order.kept.listed d within criteria n) in
    oldest_is g.R.RoomLike.room d criteria (is_open_at c.index.result.now c.deref.result.now) ss c.oldest.result c.know.ensures.0 same c.oldest.ensures ∙ sym (ap (option_and_then (oldest_of_def g.R.RoomLike.room ss criteria)) c.in-Some.is)
