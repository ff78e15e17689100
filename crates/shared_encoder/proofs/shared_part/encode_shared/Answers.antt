use Rattle.shared_encoder.proofs.SharedTicks.{settled_can}
use Rattle.shared_encoder.proofs.shared_part.encode_shared.Goals as goal

pub patch-requires : goal.patch-requires
patch-requires g c =
    rw (c.schema.ensures.value, c.before-before.ensures, c.after-after.ensures)
    (settled_can c.args.live.now c.args.shared.now c.schema.ensures.limits c.schema.ensures.spelled c.requires)
