use Rattle.std.proofs.Common.{sym, ◌∙◌}
use Rattle.collection_ops.proofs.map_body.MapBody.put_at.Goals as goal

pub put_again-requires : goal.put_again-requires
put_again-requires c = (c.args.key.now, sym c.requires ∙ c.in-Some.is)
