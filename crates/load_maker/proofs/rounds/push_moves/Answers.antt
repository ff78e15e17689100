use Rattle.load_maker.specs.Generated.{most_moves}
use Rattle.load_maker.proofs.rounds.push_moves.Goals as goal

pub returns-clause-events : goal.returns-clause-events
unfolding most_moves
returns-clause-events c = c.push_some.ensures.events

pub returns-clause-state : goal.returns-clause-state
unfolding most_moves
returns-clause-state c = c.push_some.ensures.state
