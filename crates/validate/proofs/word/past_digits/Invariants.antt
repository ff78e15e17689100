use Rattle.std.proofs.Common.{◌≡◌, length, drop}
use Rattle.std.specs.List.{prefix_len}
use Rattle.std.specs.Char.{is_ascii_digit}
use Rattle.validate.proofs.word.past_digits.Given as goal

abbrev pub invariant-loop-left : goal.invariant-loop-left
invariant-loop-left l = drop (prefix_len is_ascii_digit l.fn.text) l.fn.text ≡ drop (prefix_len is_ascii_digit l.left) l.left

abbrev pub decreases-loop-left : goal.decreases-loop-left
decreases-loop-left l = length l.left
