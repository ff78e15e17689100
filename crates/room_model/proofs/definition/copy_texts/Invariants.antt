use Rattle.std.proofs.Common.{◌≡◌, take}
use Rattle.room_model.proofs.definition.copy_texts.Given as goal

abbrev pub invariant-loop-text : goal.invariant-loop-text
invariant-loop-text l = l.out ≡ take l.text-index l.text-items
