-- What a request by the name of a definition leads to where the definition and the room were found. After Colyseus 0.16.
use Rattle.std.specs.Prelude.{ℕ, Option, Some, None, codes}
use Rattle.frame_model.specs.declared.codes.TheConstants.{INVALID_CRITERIA, NO_HANDLER}
use Rattle.hub_model.specs.declared.request.Decision.{Decision}
use Rattle.hub_model.specs.declared.request.Decision.TheVariants as decision
use Rattle.hub_model.specs.declared.request.Method.{Method}
use Rattle.hub_model.specs.declared.request.Method.TheVariants.{JoinOrCreate, Join}
use Rattle.hub_model.specs.Decisions.{joined_or}

abbrev pub found_decision : Method → Option ℕ → Option ℕ → Decision
found_decision m None room = decision.Refuse NO_HANDLER (codes "no handler")
found_decision JoinOrCreate (Some def) room = joined_or (decision.Make def) room
found_decision Join (Some def) room = joined_or (decision.Refuse INVALID_CRITERIA (codes "no room meets the criteria")) room
found_decision m (Some def) room = decision.Make def
