use Rattle.schema_model.proofs.Signed.{in_signed_w32}
use Rattle.schema_model.proofs.known.know_number.Goals as goal

pub returns : goal.returns
returns c = in_signed_w32 c.args.number c.ranges.number
