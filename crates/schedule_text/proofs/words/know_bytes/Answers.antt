use Rattle.std.proofs.Common.{arith}
use Rattle.schedule_text.proofs.Bytes.{are_bytes_from}
use Rattle.schedule_text.proofs.words.know_bytes.Goals as goal

pub returns : goal.returns
returns c = are_bytes_from c.args.bytes.now (λ i within. omega (arith, c.type_inv.bytes i))
