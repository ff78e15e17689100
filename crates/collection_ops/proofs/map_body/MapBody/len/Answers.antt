use Rattle.std.proofs.Common.{arith, zero-le}
use Rattle.collection_ops.specs.Bodies.{map_number}
use Rattle.collection_ops.proofs.Indexed.{few_items}
use Rattle.collection_ops.proofs.map_body.MapBody.len.Goals as goal

pub overflow_cast-result : goal.overflow_cast-result
overflow_cast-result c =
    let kept = c.self.invariant.0 in
    omega (arith, c.len.ensures, kept.few, few_items map_number 0 c.self.inside.given c.self.inside.items kept.rises kept.below zero-le)
