use Rattle.std.proofs.Common.{◌≡◌, false, take}
use Rattle.wire_model.specs.Patch.{stands_in}
use Rattle.canon_patch.proofs.by_ref.is_found.Given as goal

-- none so far
abbrev pub invariant-loop-other : goal.invariant-loop-other
invariant-loop-other l = stands_in (take l.other-index l.values) l.value ≡ false
