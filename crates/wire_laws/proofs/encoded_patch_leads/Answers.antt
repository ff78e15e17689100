use Rattle.wire_laws.proofs.EncodedBlocks.{applied_leads}
use Rattle.wire_laws.proofs.encoded_patch_leads.Goals as goal

pub returns : goal.returns
returns c = applied_leads
