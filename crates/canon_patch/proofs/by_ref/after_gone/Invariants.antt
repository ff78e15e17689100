use Rattle.std.proofs.Common.{◌≡◌, drop}
use Rattle.wire_model.specs.Patch.{gone_of}
use Rattle.canon_patch.specs.ByRef.{after_all}
use Rattle.canon_patch.proofs.by_ref.after_gone.Given as goal

-- what is left of the values, behind the chosen ones that are left
abbrev pub invariant-loop-value : goal.invariant-loop-value
invariant-loop-value l = after_all l.values (gone_of l.others l.chosen) ≡ after_all l.rest (gone_of l.others (drop l.value-index l.chosen))
