use Rattle.schedule_text.proofs.ReadLaws.{found_print, only_print}
use Rattle.schedule_text.proofs.printed.read_print.Goals as goal

pub returns-clause-found : goal.returns-clause-found
returns-clause-found c = found_print c.args.text.now c.read_parts.result c.read_parts.ensures

pub returns-clause-only : goal.returns-clause-only
returns-clause-only c = only_print c.args.text.now c.read_parts.result c.read_parts.ensures
