-- The operations of a state frame.
use Rattle.std.specs.Prelude.{List, ◌++◌}
use Rattle.schema_model.specs.Classes.{Schema}
use Rattle.state_model.specs.Shown.{shared}
use Rattle.wire_model.specs.Edits.{EditBlock}
use Rattle.wire_model.specs.Frame.{shared_part, view_part}
use Rattle.wire_laws.specs.FrameLaw.{Moment, view_at}

-- the operations of a frame from one tick to the next, as edits
abbrev pub frame_edits : Schema → Moment → Moment → List EditBlock
frame_edits schema old new =
    shared_part schema (shared schema old.rows) (shared schema new.rows)
    ++ view_part schema (shared schema old.rows) (view_at schema old) (shared schema new.rows) (view_at schema new)
