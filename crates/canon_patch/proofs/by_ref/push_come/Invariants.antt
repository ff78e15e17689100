use Rattle.std.proofs.Common.{◌≡◌, ◌++◌, Some, take}
use Rattle.std.specs.List.{flat_map}
use Rattle.schema_model.specs.declared.class.Item.TheVariants.{Scalar}
use Rattle.state_model.specs.declared.place.Expected.TheVariants.{Item as AnItem}
use Rattle.canon_patch.specs.ByRef.{come_encoded}
use Rattle.canon_patch.proofs.by_ref.push_come.Given as goal

-- the operations so far
abbrev pub invariant-loop-value : goal.invariant-loop-value
invariant-loop-value l = l.ops ≡ l.fn.ops ++ flat_map (come_encoded l.to.rows.now (Some (AnItem (Scalar l.kind))) l.old) (take l.value-index l.new)
