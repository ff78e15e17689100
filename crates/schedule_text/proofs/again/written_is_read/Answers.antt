use Rattle.schedule_text.proofs.AgainLaws.{law}
use Rattle.schedule_text.proofs.again.written_is_read.Goals as goal

pub returns : goal.returns
returns c = law
