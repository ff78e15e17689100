use Rattle.std.proofs.Common.{◌^◌, ◌∙◌, arith}
use Rattle.text_words.proofs.Numbers.{digits_on_done}
use Rattle.text_words.proofs.decimal.read_digits.Goals as goal

pub returns : goal.returns
returns c = digits_on_done (2 ^ 64) c.args.digits.now c.loop-digit.digit-index c.loop-digit.number (omega arith) (omega arith) ∙ c.loop-digit.invariant.rest
