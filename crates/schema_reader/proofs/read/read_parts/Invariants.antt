use Rattle.std.proofs.Common.{◌≡◌, length}
use Rattle.text_model.specs.SchemaReading.{read_schema_text}
use Rattle.schema_reader.proofs.Lines.{IsReached, read_rest}
use Rattle.schema_reader.proofs.read.read_parts.Given as goal

abbrev pub invariant-loop-line : goal.invariant-loop-line
invariant-loop-line l = record {
  whole : read_rest l.count l.draft l.rest ≡ read_schema_text l.text;
  reached : IsReached l.count l.draft;
}

abbrev pub decreases-loop-line : goal.decreases-loop-line
decreases-loop-line l = length l.rest
