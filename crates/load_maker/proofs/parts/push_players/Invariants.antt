use Rattle.std.proofs.Common.{◌≡◌, ◌+◌, ◌++◌}
use Rattle.load_maker.specs.Generated.{player_made, up_to}
use Rattle.load_maker.proofs.parts.push_players.Given as goal

abbrev pub invariant-loop-n : goal.invariant-loop-n
invariant-loop-n l = l.events ≡ l.fn.events ++ up_to (λ n. player_made (n + 1)) l.n
