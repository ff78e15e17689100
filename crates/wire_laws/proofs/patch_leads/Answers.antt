use Rattle.wire_laws.proofs.Leads.{patch_leads}
use Rattle.wire_laws.proofs.patch_leads.Goals as goal

pub returns : goal.returns
returns c = patch_leads
