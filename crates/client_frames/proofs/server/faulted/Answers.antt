-- The text begins within the bytes.
use Rattle.std.proofs.Common.{sym}
use Rattle.schema_model.proofs.Within.{number_ends}
use Rattle.client_frames.proofs.server.faulted.Goals as goal

pub get_text-requires : goal.get_text-requires
get_text-requires c = number_ends c.args.bytes.now 1 c.in-Ok.code c.in-Ok.at (sym c.in-Ok.ensures)
