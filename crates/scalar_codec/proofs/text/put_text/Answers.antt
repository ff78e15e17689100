-- What is left in `out` is read again.
use Rattle.std.proofs.Common.{arith}
use Rattle.std.proofs.lemmas.Grind.{common_steps}
use Rattle.std.proofs.lemmas.Str.{is_utf8-from_IsUtf8}
use Rattle.schema_model.specs.Spelling.{text_bytes}
use Rattle.schema_model.specs.Reading.{text_at}
use Rattle.schema_model.proofs.ScalarAgain.{text_again}
use Rattle.scalar_codec.proofs.Grown.{grown_again}
use Rattle.scalar_codec.proofs.text.put_text.Goals as goal

pub returns-else-is_err-clause-again : goal.returns-else-is_err-clause-again
returns-else-is_err-clause-again c =
    grown_again c.put_bytes-outcome.result text_at c.args.out.now.items c.put_bytes-outcome.new.out.items (text_bytes c.args.text.now) c.args.text.now
    (λ more. text_again c.args.out.now.items more c.args.text.now c.requires (is_utf8-from_IsUtf8 c.args.text.now c.utf8.text))
    (grind (arith, common_steps))
