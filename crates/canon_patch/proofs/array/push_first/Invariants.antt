use Rattle.std.proofs.Common.{◌≡◌, ◌++◌, Some}
use Rattle.schema_model.specs.declared.class.Item.TheVariants.{Scalar}
use Rattle.state_model.specs.declared.place.Expected.TheVariants.{Item as AnItem}
use Rattle.canon_patch.specs.Encoded.{first_encoded}
use Rattle.canon_patch.proofs.array.push_first.Given as goal

-- the operations so far
abbrev pub invariant-loop-at : goal.invariant-loop-at
invariant-loop-at l = l.ops ≡ l.fn.ops ++ first_encoded l.to.rows.now (Some (AnItem (Scalar l.kind))) l.old l.new l.at
