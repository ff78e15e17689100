use Rattle.byte_laws.proofs.BytesDecoded.{joined_decodes}
use Rattle.byte_laws.proofs.joined_decodes.Goals as goal

pub returns : goal.returns
returns c = joined_decodes
