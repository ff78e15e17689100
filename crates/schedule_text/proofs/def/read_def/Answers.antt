use Rattle.std.proofs.Common.{arith}
use Rattle.schedule_text.proofs.Forms.{def_short}
use Rattle.schedule_text.proofs.def.read_def.Goals as goal

pub returns-in_default : goal.returns-in_default
returns-in_default c = def_short c.args.words.now (omega arith)
