-- What each form leaves in `out` is read again.
use Rattle.std.proofs.Common.{rules}
use Rattle.schema_model.specs.Spelling.{number_bytes}
use Rattle.schema_model.specs.Reading.{number_at}
use Rattle.schema_model.proofs.NumberAgain.{number_again}
use Rattle.schema_model.proofs.Signed.{in_signed_w32}
use Rattle.scalar_codec.proofs.Grown.{grown_again}
use Rattle.scalar_codec.proofs.number.put_number.Goals as goal

pub returns-then-value-lt0-clause-again : goal.returns-then-value-lt0-clause-again
returns-then-value-lt0-clause-again c =
    grown_again c.put_negative.result number_at c.args.out.now.items c.put_negative.new.out.items (number_bytes c.args.value) c.args.value
    (λ more. number_again c.args.out.now.items more c.args.value (in_signed_w32 c.args.value c.ranges.value)) (search rules)

pub returns-else-value-lt0-clause-again : goal.returns-else-value-lt0-clause-again
returns-else-value-lt0-clause-again c =
    grown_again c.put_natural.result number_at c.args.out.now.items c.put_natural.new.out.items (number_bytes c.args.value) c.args.value
    (λ more. number_again c.args.out.now.items more c.args.value (in_signed_w32 c.args.value c.ranges.value)) (search rules)
