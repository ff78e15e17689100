use Rattle.std.proofs.Common.{sym, subst}
use Rattle.patch_decoder.specs.Decoders.{AreKnown}
use Rattle.patch_decoder.specs.Runs.{closed_rows}
use Rattle.patch_decoder.proofs.Going.{freed_known}
use Rattle.patch_decoder.proofs.reading.decoded.Goals as goal

pub returns-in-Ok-clause-known : goal.returns-in-Ok-clause-known
returns-in-Ok-clause-known c =
    subst (AreKnown c.args.schema.now) (sym c.in-Ok.ensures) (freed_known c.args.schema.now (closed_rows c.in_ok-run.run') c.in_ok-run.ensures.rises c.in_ok-run.ensures.known)
