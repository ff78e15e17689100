use Rattle.std.proofs.Common.{◌++◌}
use Rattle.outside.proofs.TakeLaws.{longer_prefix}
use Rattle.text_model.specs.SchemaLines.{schema_text}
use Rattle.room_server.specs.Turns.{end_line, start, outs_text}
use Rattle.room_server.proofs.WriteLaws.{writes_err, writes_behind}
use Rattle.room_server.proofs.replay.replay.Goals as goal

pub returns-in_err-write_schema-clause-writes : goal.returns-in_err-write_schema-clause-writes
returns-in_err-write_schema-clause-writes g c =
    let s = c.args.schedule in
    writes_err _ _ _ _ _ c.from_residual.ensures.1 (longer_prefix _ _ (schema_text s.schema) (outs_text (start s) s.events ++ end_line) c.in_err-write_schema.ensures.writes)

pub returns-clause-writes : goal.returns-clause-writes
returns-clause-writes g c =
    let s = c.args.schedule in
    writes_behind c.replay_whole.result _ _ _ (schema_text s.schema) (outs_text (start s) s.events ++ end_line) c.in_ok-write_schema.ensures.writes c.replay_whole.ensures.writes
