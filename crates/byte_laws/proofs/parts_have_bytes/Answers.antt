use Rattle.byte_laws.proofs.PartsBytes.{parts_have_bytes}
use Rattle.byte_laws.proofs.parts_have_bytes.Goals as goal

pub returns : goal.returns
returns c = parts_have_bytes
