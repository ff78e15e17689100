use Rattle.std.proofs.Common.{rules, ◌≡◌, ◌<◌, length, true, Err, arith}
use Rattle.schema_model.specs.Classes.{is_kept}
use Rattle.op_reader.specs.Known.{is_holder}
use Rattle.patch_decoder.specs.Runs.{Leads}
use Rattle.patch_decoder.proofs.Going.{goes_first, goes_holder, goes_open, goes_on, goes_wrong, goes_out, steps_on}
use Rattle.patch_decoder.proofs.reading.read_steps.Goals as goal

pub loop-at-init : goal.loop-at-init
loop-at-init c = goes_first c.args.schema.now c.args.rows.now c.args.bytes.now c.in-Ok.run' c.requires c.started.ensures.rises c.in-Ok.ensures.opens

pub read_step-requires-clause-holder : goal.read_step-requires-clause-holder
read_step-requires-clause-holder c =
    let known : is_holder c.args.schema.now c.loop-at.run.rows c.loop-at.run.who ≡ true = goes_holder c.args.schema.now c.args.rows.now c.args.bytes.now c.loop-at.run c.loop-at.at c.loop-at.invariant in
    search rules

pub read_step-requires-clause-kind : goal.read_step-requires-clause-kind
read_step-requires-clause-kind c = goes_open c.args.schema.now c.args.rows.now c.args.bytes.now c.loop-at.run c.loop-at.at c.loop-at.invariant

pub returns-in_err-at : goal.returns-in_err-at
returns-in_err-at c =
    let below : c.loop-at.at < length c.args.bytes.now = omega arith in
    let wrong : Leads c.args.schema.now c.args.rows.now c.args.bytes.now (Err c.in_err-at.field-0.0) =
    goes_wrong c.args.schema.now c.args.rows.now c.args.bytes.now c.loop-at.run c.read_step.new.run c.loop-at.at c.in_err-at.field-0.0 c.loop-at.invariant below c.in_err-at.ensures in
    search rules

pub loop-at-smaller : goal.loop-at-smaller
loop-at-smaller c =
    let on : c.loop-at.at < c.in_ok-at.at = steps_on c.args.schema.now c.args.bytes.now c.loop-at.run c.read_step.new.run c.loop-at.at c.in_ok-at.at c.in_ok-at.ensures in
    omega arith

pub loop-at-preserved : goal.loop-at-preserved
loop-at-preserved c =
    let below : c.loop-at.at < length c.args.bytes.now = omega arith in
    let kept : is_kept c.args.schema.now ≡ true = search (rules, c.know_limits.ensures) in
    goes_on c.args.schema.now c.args.rows.now c.args.bytes.now c.loop-at.run c.read_step.new.run c.loop-at.at c.in_ok-at.at kept c.loop-at.invariant below c.in_ok-at.ensures

pub returns : goal.returns
returns c = goes_out c.args.schema.now c.args.rows.now c.args.bytes.now c.loop-at.run c.loop-at.at c.loop-at.invariant (omega arith)
