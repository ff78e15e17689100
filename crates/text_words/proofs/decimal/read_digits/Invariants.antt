use Rattle.std.proofs.Common.{◌≡◌, ◌^◌, ◌<◌, drop}
use Rattle.text_words.proofs.Numbers.{digits_on}
use Rattle.text_words.proofs.decimal.read_digits.Given as goal

abbrev pub invariant-loop-digit : goal.invariant-loop-digit
invariant-loop-digit l = record {
  rest : digits_on (2 ^ 64) (drop l.digit-index l.digits) l.number ≡ digits_on (2 ^ 64) l.digits 0;
  small : l.number < 2 ^ 64;
}
