use Rattle.byte_laws.proofs.BlankFrames.{bytes_tell}
use Rattle.byte_laws.proofs.bytes_tell.Goals as goal

pub returns : goal.returns
returns c = bytes_tell
