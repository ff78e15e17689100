use Rattle.std.proofs.Common.{◌∙◌, sym, arith}
use Rattle.schedule_text.proofs.PartLaws.{end_all, end_found, read_few, read_more, read_none}
use Rattle.schedule_text.proofs.part.schema_end.Goals as goal

pub loop-line-init : goal.loop-line-init
loop-line-init c = read_none c.args.text.now

pub overflow_add-lines : goal.overflow_add-lines
overflow_add-lines c = omega (arith, read_few c.args.text.now c.loop-line.lines c.loop-line.rest.now c.loop-line.invariant, c.in-Some.ensures.shorter)

pub overflow_sub-result : goal.overflow_sub-result
overflow_sub-result c = omega (arith, read_few c.args.text.now c.loop-line.lines c.loop-line.rest.now c.loop-line.invariant, c.in-Some.ensures.shorter)

pub returns-then-branch : goal.returns-then-branch
returns-then-branch c =
    end_found c.args.text.now c.loop-line.lines c.loop-line.rest.now c.in-Some.line.now c.in-Some.behind.now c.loop-line.invariant c.in-Some.ensures (sym c.in_ok-is_root_line.ensures ∙ c.if-branch.true)

pub loop-line-preserved : goal.loop-line-preserved
loop-line-preserved c =
    read_more c.args.text.now c.loop-line.lines c.loop-line.rest.now c.in-Some.line.now c.in-Some.behind.now c.loop-line.invariant c.in-Some.ensures (sym c.in_ok-is_root_line.ensures ∙ c.if-branch.false)

pub returns : goal.returns
returns c = end_all c.args.text.now c.loop-line.lines c.loop-line.rest.now c.loop-line.invariant c.in_default.ensures
