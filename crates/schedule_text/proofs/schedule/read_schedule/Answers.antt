use Rattle.schedule_text.proofs.ReadLaws.{found, only}
use Rattle.schedule_text.proofs.schedule.read_schedule.Goals as goal

pub returns-clause-found : goal.returns-clause-found
returns-clause-found c = found c.args.text.now c.read_parts.result c.read_parts.ensures

pub returns-clause-only : goal.returns-clause-only
returns-clause-only c = only c.args.text.now c.read_parts.result c.read_parts.ensures
