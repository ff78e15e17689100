use Rattle.std.proofs.Common.{◌+◌, ◌++◌, ◌∙◌, ap}
use Rattle.load_maker.specs.Generated.{after_round, again, round_from}
use Rattle.load_maker.proofs.Pushed.{one_more, step_more}
use Rattle.load_maker.proofs.rounds.push_rounds.Goals as goal

pub loop-n-preserved : goal.loop-n-preserved
loop-n-preserved c =
    let n = c.loop-n.n in
    let was = c.loop-n.invariant in
    record {
      events = one_more (λ k. round_from (k + 1) (again after_round k c.args.seed)) c.args.events.now c.loop-n.events c.push_round.new.events n was.events
          (c.in_ok-push_round.ensures.events ∙ ap (λ s. c.loop-n.events ++ round_from (n + 1) s) was.state);
      state = step_more after_round c.args.seed c.loop-n.state c.push_round.new.state n was.state c.in_ok-push_round.ensures.state;
    }
