use Rattle.std.proofs.Common.{◌≡◌, length}
use Rattle.std.specs.Prelude.{is_some}
use Rattle.json.specs.Text.{content, plain}
use Rattle.json.specs.Lex.{in_string, lex}
use Rattle.validate.proofs.quoted.after_quoted.Given as goal

-- what is left spells a text as the whole does, and is as much within one
abbrev pub invariant-loop-left : goal.invariant-loop-left
invariant-loop-left l = (is_some (content plain l.fn.text) ≡ is_some (content plain l.left)) × (lex in_string l.fn.text ≡ lex in_string l.left)

abbrev pub decreases-loop-left : goal.decreases-loop-left
decreases-loop-left l = length l.left
