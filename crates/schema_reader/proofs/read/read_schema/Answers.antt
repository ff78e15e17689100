use Rattle.schema_reader.proofs.ReadLaws.{found, only}
use Rattle.schema_reader.proofs.read.read_schema.Goals as goal

pub returns-clause-found : goal.returns-clause-found
returns-clause-found c = found c.args.text.now c.read_kept.result c.read_kept.ensures

pub returns-clause-only : goal.returns-clause-only
returns-clause-only c = only c.args.text.now c.read_kept.result c.read_kept.ensures
