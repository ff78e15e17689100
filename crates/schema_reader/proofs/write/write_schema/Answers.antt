use Rattle.schema_reader.proofs.ReadLaws.{written_again}
use Rattle.schema_reader.proofs.write.write_schema.Goals as goal

pub returns-clause-again : goal.returns-clause-again
returns-clause-again c = written_again c.args.schema.now c.write_lines.result c.write_lines.ensures
