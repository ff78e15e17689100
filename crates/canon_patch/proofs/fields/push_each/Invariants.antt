use Rattle.std.proofs.Common.{◌≡◌, ◌++◌, take}
use Rattle.std.specs.List.{flat_map}
use Rattle.canon_patch.specs.Encoded.{field_encoded}
use Rattle.canon_patch.proofs.fields.push_each.Given as goal

-- the operations so far
abbrev pub invariant-loop-number : goal.invariant-loop-number
invariant-loop-number l = l.ops ≡ l.fn.ops ++ flat_map (field_encoded l.to.schema.now l.to.rows.now l.class l.old l.new) (take l.number-index l.numbers)
