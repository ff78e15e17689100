use Rattle.std.proofs.Common.{◌≡◌, map, take}
use Rattle.serde_json.specs.View.{view}
use Rattle.hub_model.specs.Requests.{said_of}
use Rattle.matchmaker.specs.Bodies.{members_in}
use Rattle.matchmaker.proofs.request.criteria.Given as goal

-- the texts of the keys so far
abbrev pub invariant-loop-key : goal.invariant-loop-key
invariant-loop-key l = l.texts ≡ map (said_of (members_in (view l.said))) (take l.key-index l.keys)
