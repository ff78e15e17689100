use Rattle.print_laws.proofs.Runs as runs
use Rattle.print_laws.proofs.prints.replayed_is_print.Goals as goal

pub returns : goal.returns
returns c = runs.replayed_is_print
