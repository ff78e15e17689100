use Rattle.std.proofs.Common.{rules, ◌≡◌, Ok, Err, sym}
use Rattle.wire_model.specs.Grammar.{step_at}
use Rattle.patch_decoder.specs.Runs.{Steps}
use Rattle.patch_decoder.proofs.StepFaults.{step_missed}
use Rattle.patch_decoder.proofs.reading.read_step.Goals as goal

pub returns-in_err-do_step : goal.returns-in_err-do_step
returns-in_err-do_step c =
    let run = c.args.run.now in
    let read : step_at c.args.schema.now run.rows run.who c.args.bytes.now c.args.at ≡ Ok (c.in_ok-step.step, c.in_ok-step.next) =
    sym c.in_ok-step.ensures in
    let missed : Steps c.args.schema.now c.args.bytes.now c.args.at run c.do_step.new.run (Err c.in_err-do_step.field-0.0) =
    step_missed c.args.schema.now c.args.bytes.now run c.do_step.new.run c.args.at c.in_ok-step.step c.in_ok-step.next c.in_err-do_step.field-0.0 read c.in_err-do_step.ensures in
    search rules
