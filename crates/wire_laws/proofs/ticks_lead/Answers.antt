use Rattle.wire_laws.proofs.StateFrames.{ticks_lead}
use Rattle.wire_laws.proofs.ticks_lead.Goals as goal

pub returns : goal.returns
returns c = ticks_lead
