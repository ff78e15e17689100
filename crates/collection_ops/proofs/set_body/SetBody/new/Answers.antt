use Rattle.std.proofs.Common.{refl, arith}
use Rattle.collection_ops.proofs.SetIndex.{empty_index}
use Rattle.collection_ops.proofs.set_body.SetBody.new.Goals as goal

pub invariant_of-result : goal.invariant_of-result
invariant_of-result c = rw c.new.ensures (record { rises = tt; below = tt; differ = refl; few = omega arith }, empty_index c.new-2.result c.new-2.ensures.plain c.new-2.ensures.texts)
