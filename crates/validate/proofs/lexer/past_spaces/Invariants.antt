use Rattle.std.proofs.Common.{◌≡◌, length}
use Rattle.json.specs.Lex.{between, lex}
use Rattle.validate.proofs.lexer.past_spaces.Given as goal

abbrev pub invariant-loop-left : goal.invariant-loop-left
invariant-loop-left l = lex between l.left ≡ lex between l.fn.text

abbrev pub decreases-loop-left : goal.decreases-loop-left
decreases-loop-left l = length l.left
