use Rattle.std.proofs.Common.{◌<◌, ◌∙◌, length, ap, arith, refl}
use Rattle.state_model.specs.Rows.{values_in}
use Rattle.state_model.specs.State.{text_limit}
use Rattle.state_model.specs.Values as texts
use Rattle.command_laws.specs.Accounts.{text_in_value}
use Rattle.instance_table.specs.Bodies.{row_of}
use Rattle.instance_table.proofs.AmountLaws.{sum_all, sum_grown, sum_bounded}
use Rattle.instance_table.proofs.PlaceSteps.{behind_start}
use Rattle.instance_table.proofs.amounts.values_size.Goals as goal

pub loop-n-init : goal.loop-n-init
loop-n-init c = record { size = refl; behind = behind_start (row_of c.args.body.now) }

pub overflow_add-size : goal.overflow_add-size
overflow_add-size c =
    let values = values_in (row_of c.args.body.now) in
    let within : c.loop-n.n < length values = omega (arith, c.len-count.ensures, c.loop-n-test.true) in
    omega (arith, sum_bounded texts.text_size c.loop-n.size c.loop-n.n c.text_size-size.result text_limit values within c.loop-n.invariant.size (c.text_size-size.ensures ∙ ap text_in_value c.value_nth-next.ensures.value) c.requires)

pub loop-n-preserved : goal.loop-n-preserved
loop-n-preserved c =
    let values = values_in (row_of c.args.body.now) in
    let within : c.loop-n.n < length values = omega (arith, c.len-count.ensures, c.loop-n-test.true) in
    record {
      size = sum_grown texts.text_size c.loop-n.size c.loop-n.n c.text_size-size.result values within c.loop-n.invariant.size (c.text_size-size.ensures ∙ ap text_in_value c.value_nth-next.ensures.value);
      behind = c.value_nth-next.ensures.next;
    }

pub returns : goal.returns
returns c =
    sum_all texts.text_size c.loop-n.size c.loop-n.n (values_in (row_of c.args.body.now)) (omega (arith, c.len-count.ensures, c.loop-n-test.false, c.loop-n.auto.n-end)) c.loop-n.invariant.size
