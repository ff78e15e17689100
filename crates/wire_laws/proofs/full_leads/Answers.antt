use Rattle.wire_laws.proofs.StateFrames.{full_leads}
use Rattle.wire_laws.proofs.full_leads.Goals as goal

pub returns : goal.returns
returns c = full_leads
