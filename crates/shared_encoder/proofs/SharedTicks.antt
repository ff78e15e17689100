-- The shared views of two ticks: what the patch between them asks of them.
use Rattle.std.proofs.Common.{◌≡◌, true, List, []}
use Rattle.schema_model.specs.Classes.{Schema, is_kept}
use Rattle.state_model.specs.declared.row.RowEntry.{RowEntry}
use Rattle.state_model.specs.Members.{no_members}
use Rattle.state_model.specs.Shown.{shared}
use Rattle.state_model.specs.Spelled.{are_spelled}
use Rattle.wire_laws.specs.FrameLaw.{Follows}
use Rattle.byte_laws.proofs.PartsBytes.{parts_have_bytes}
use Rattle.canon_patch.specs.Positions.{have_positions}
use Rattle.canon_patch.proofs.LeadingRows.{views_lead}
use Rattle.live_state.specs.Live.{Live, schema_of, rows_of}
use Rattle.view_counts.specs.Settled.{View, IsSettledAtTick, view_before, view_now}

-- a patch may lead from what everybody sees at a tick to what everybody sees at the next
shared_can : (schema : Schema) (old new : List RowEntry) → is_kept schema ≡ true → Follows schema old new → are_spelled old ≡ true → are_spelled new ≡ true
    → have_positions schema (shared schema old) (shared schema new) ≡ true
shared_can schema old new kept f old_bytes new_bytes =
    let h = parts_have_bytes schema (record { rows = old; members = [] }) (record { rows = new; members = [] }) kept f old_bytes new_bytes in
    views_lead schema old new [] [] f h.old_shared_short h.new_shared_short

-- so it may from the shared view before to that of now
pub settled_can : (live : Live) (v : View) → is_kept (schema_of live) ≡ true → are_spelled (rows_of live) ≡ true → IsSettledAtTick live no_members v
    → have_positions (schema_of live) (view_before v) (view_now v) ≡ true
settled_can live v kept spelled at =
    let t = at.tick in
    rw (at.is_settled.before, at.is_settled.now) (shared_can (schema_of live) t.rows (rows_of live) kept t.follows t.spelled spelled)
