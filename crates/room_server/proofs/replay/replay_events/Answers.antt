use Rattle.std.proofs.Common.{◌∙◌, ap}
use Rattle.room_server.proofs.WriteLaws.{writes_err, quiet_ok}
use Rattle.room_server.proofs.ReplayLaws.{one_further, stopped_within, stopped_here, takes_rest, outs_text_on, shorter}
use Rattle.room_server.proofs.replay.replay_events.Goals as goal

pub returns-in_err-outs-clause-writes : goal.returns-in_err-outs-clause-writes
returns-in_err-outs-clause-writes g c = writes_err _ _ _ _ _ c.from_residual.ensures.1 (stopped_here _ _ _ _ c.loop-event.invariant.so_far)

pub returns-in_err-write_outs-clause-writes : goal.returns-in_err-write_outs-clause-writes
returns-in_err-write_outs-clause-writes g c =
    let step = c.in_ok-outs.ensures in
    let next = outs_text_on _ _ _ _ _ _ c.in-Some.ensures.steps.0 step.outs step.after in
    writes_err _ _ _ _ _ c.from_residual-in_err-write_outs.ensures.1
    (stopped_within _ _ _ _ _ _ _ c.loop-event.invariant.so_far next c.in_err-write_outs.ensures.writes)

pub loop-event-preserved : goal.loop-event-preserved
loop-event-preserved g c =
    let step = c.in_ok-outs.ensures in
    let kept = c.loop-event.invariant in
    let next = outs_text_on _ _ _ _ _ _ c.in-Some.ensures.steps.0 step.outs step.after in
    record {
      so_far = one_further _ _ _ _ _ _ _ kept.so_far next c.in_ok-write_outs.ensures.writes;
      quiet = quiet_ok _ _ _ c.in_ok-write_outs.ensures.cause ∙ kept.quiet;
      len = shorter _ _ _ _ _ c.in-Some.ensures.steps.1 kept.len c.in-Some.ensures.steps.0;
      may = takes_rest _ _ _ c.in-Some.ensures.steps.0 kept.may;
      fresh = ap (λ h. h.spent) step.after;
    }
