-- A kind ends within the bytes.
use Rattle.std.proofs.Common.{sym}
use Rattle.schema_model.proofs.Within.{number_ends, text_ends}
use Rattle.client_frames.proofs.kind.kind_at.Goals as goal

pub returns-in-Ok-clause-within : goal.returns-in-Ok-clause-within
returns-in-Ok-clause-within c = text_ends c.args.bytes.now c.args.at c.in-Ok.name.now c.in-Ok.end c.in-Ok.ensures

pub returns-in-Ok-get_number-clause-within : goal.returns-in-Ok-get_number-clause-within
returns-in-Ok-get_number-clause-within c =
    number_ends c.args.bytes.now c.args.at c.in-Ok-get_number.number c.in-Ok-get_number.end (sym c.in-Ok-get_number.ensures)
