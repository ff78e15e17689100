use Rattle.std.proofs.Common.{◌≡◌, ◌++◌, Some, take}
use Rattle.std.specs.List.{flat_map}
use Rattle.schema_model.specs.declared.class.Item.TheVariants.{Scalar}
use Rattle.state_model.specs.declared.place.Expected.TheVariants.{Item as AnItem}
use Rattle.canon_patch.specs.Encoded.{element_encoded}
use Rattle.canon_patch.proofs.set.push_each.Given as goal

-- the operations so far
abbrev pub invariant-loop-number : goal.invariant-loop-number
invariant-loop-number l = l.ops ≡ l.fn.ops ++ flat_map (element_encoded l.to.rows.now (Some (AnItem (Scalar l.kind))) l.old l.new) (take l.number-index l.numbers)
