use Rattle.std.proofs.Common.{◌≡◌, ◌++◌}
use Rattle.load_maker.specs.Generated.{after_move, again, moved}
use Rattle.load_maker.proofs.rounds.push_some.Given as goal

abbrev pub invariant-loop : goal.invariant-loop
invariant-loop l = record {
  events : l.events ≡ l.fn.events ++ moved l.counter l.fn.state;
  state : l.state ≡ again after_move l.counter l.fn.state;
}
