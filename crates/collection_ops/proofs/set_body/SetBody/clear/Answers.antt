use Rattle.std.proofs.Common.{refl}
use Rattle.collection_ops.proofs.SetIndex.{empty_index}
use Rattle.collection_ops.proofs.set_body.SetBody.clear.Goals as goal

pub invariant_of-self : goal.invariant_of-self
invariant_of-self c = rw c.clear.ensures (record { rises = tt; below = tt; differ = refl; few = c.self.invariant.0.few }, empty_index c.clear-2.new.self c.clear-2.ensures.plain c.clear-2.ensures.texts)
