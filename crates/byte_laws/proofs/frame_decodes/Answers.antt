use Rattle.byte_laws.proofs.BytesDecoded.{frame_decodes}
use Rattle.byte_laws.proofs.frame_decodes.Goals as goal

pub returns : goal.returns
returns c = frame_decodes
