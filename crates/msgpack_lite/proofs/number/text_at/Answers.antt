use Rattle.msgpack_lite.proofs.Texts.{text_at-good, text_at-bad}
use Rattle.msgpack_lite.proofs.number.text_at.Goals as goal

pub returns-in-Ok-clause-value : goal.returns-in-Ok-clause-value
returns-in-Ok-clause-value c = text_at-good c.args.len c.args.bytes.now c.args.at c.in_ok-run.end c.in_ok-run.run'.now c.in-Ok.text.now c.in_ok-run.ensures.value c.in-Ok.ensures.cases.0 c.in-Ok.ensures.cases.1

pub returns-in-Err-clause-value : goal.returns-in-Err-clause-value
returns-in-Err-clause-value c = text_at-bad c.args.len c.args.bytes.now c.args.at c.in_ok-run.end c.in_ok-run.run'.now c.in_ok-run.ensures.value c.in-Err.ensures.cases.0
