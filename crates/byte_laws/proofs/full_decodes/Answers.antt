use Rattle.byte_laws.proofs.BytesDecoded.{full_decodes}
use Rattle.byte_laws.proofs.full_decodes.Goals as goal

pub returns : goal.returns
returns c = full_decodes
