use Rattle.std.proofs.Common.{◌+◌, ◌*◌, length}
use Rattle.json.specs.Lex.{after_value, between, lex, punctuate, tokens}
use Rattle.validate.proofs.Lists.{ItemsLead, MembersLead}
use Rattle.validate.proofs.document.+levels.Given as goal

abbrev pub decreases-value : goal.decreases-value
decreases-value l = 3 * l.levels

abbrev pub decreases-member : goal.decreases-member
decreases-member l = 3 * l.levels + 1

abbrev pub decreases-items : goal.decreases-items
decreases-items l = 3 * l.levels + 1

abbrev pub decreases-members : goal.decreases-members
decreases-members l = 3 * l.levels + 2

-- the tokens of what is left end the array as all do
abbrev pub invariant-items-loop-item : goal.invariant-items-loop-item
invariant-items-loop-item l = ItemsLead l.fn.levels (tokens l.fn.text) (punctuate after_value (lex between l.left))

abbrev pub decreases-items-loop-item : goal.decreases-items-loop-item
decreases-items-loop-item l = length (punctuate after_value (lex between l.left))

-- the same of an object
abbrev pub invariant-members-loop-key : goal.invariant-members-loop-key
invariant-members-loop-key l = MembersLead l.fn.levels (tokens l.fn.text) (punctuate after_value (lex between l.left))

abbrev pub decreases-members-loop-key : goal.decreases-members-loop-key
decreases-members-loop-key l = length (punctuate after_value (lex between l.left))
