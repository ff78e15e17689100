use Rattle.std.proofs.Common.{◌≡◌, ◌++◌, Some, map, take}
use Rattle.schema_model.specs.declared.class.Item.TheVariants.{Scalar}
use Rattle.state_model.specs.declared.place.Expected.TheVariants.{Item as AnItem}
use Rattle.canon_patch.specs.ByRef.{push_encoded}
use Rattle.canon_patch.proofs.by_ref.push_all.Given as goal

-- the operations so far
abbrev pub invariant-loop-value : goal.invariant-loop-value
invariant-loop-value l = l.ops ≡ l.fn.ops ++ map (push_encoded l.to.rows.now (Some (AnItem (Scalar l.kind)))) (take l.value-index l.values)
