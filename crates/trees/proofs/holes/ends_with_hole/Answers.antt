use Rattle.std.proofs.Common.{◌-◌, ◌∙◌, length, sym}
use Rattle.lists.proofs.Places.{last_place}
use Rattle.trees.proofs.SlotLaws.{last_is, none_or_some}
use Rattle.trees.proofs.holes.ends_with_hole.Goals as goal

pub returns-in-Some : goal.returns-in-Some
returns-in-Some g c =
    let slots = c.args.slots.now in
    let slot = c.in-Some.slot.now in
    let last = sym c.in-Some.ensures.value in
    sym (last_is slots (length slots - 1) slot (last_place slots slot last) last ∙ none_or_some slot.item c.is_none.result c.is_none.ensures)
