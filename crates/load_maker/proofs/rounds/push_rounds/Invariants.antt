use Rattle.std.proofs.Common.{◌≡◌, ◌+◌, ◌++◌}
use Rattle.load_maker.specs.Generated.{after_round, again, round_from, up_to}
use Rattle.load_maker.proofs.rounds.push_rounds.Given as goal

abbrev pub invariant-loop-n : goal.invariant-loop-n
invariant-loop-n l = record {
  events : l.events ≡ l.fn.events ++ up_to (λ n. round_from (n + 1) (again after_round n l.seed)) l.n;
  state : l.state ≡ again after_round l.n l.seed;
}
