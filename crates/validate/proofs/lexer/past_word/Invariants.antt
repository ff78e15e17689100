use Rattle.std.proofs.Common.{◌≡◌, length}
use Rattle.json.specs.Lex.{in_word, lex}
use Rattle.validate.proofs.lexer.past_word.Given as goal

abbrev pub invariant-loop-left : goal.invariant-loop-left
invariant-loop-left l = lex in_word l.fn.text ≡ lex in_word l.left

abbrev pub decreases-loop-left : goal.decreases-loop-left
decreases-loop-left l = length l.left
