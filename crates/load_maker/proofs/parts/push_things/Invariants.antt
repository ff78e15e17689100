use Rattle.std.proofs.Common.{◌≡◌, ◌++◌}
use Rattle.load_maker.specs.Generated.{thing_made, up_to}
use Rattle.load_maker.proofs.parts.push_things.Given as goal

abbrev pub invariant-loop-number : goal.invariant-loop-number
invariant-loop-number l = l.events ≡ l.fn.events ++ up_to thing_made l.number
