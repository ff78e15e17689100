use Rattle.wire_laws.proofs.StateFrames.{joined_lead}
use Rattle.wire_laws.proofs.joined_lead.Goals as goal

pub returns : goal.returns
returns c = joined_lead
