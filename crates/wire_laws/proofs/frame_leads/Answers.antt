use Rattle.wire_laws.proofs.StateFrames.{frame_leads}
use Rattle.wire_laws.proofs.frame_leads.Goals as goal

pub returns : goal.returns
returns c = frame_leads
