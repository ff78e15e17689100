-- The parts of a frame between two settled views: each can be made, and they have bytes, which are the frame's.
use Rattle.std.proofs.Common.{◌≡◌, true, false, List, [], ◌++◌, refl, sym, ap, ◌∙◌}
use Rattle.schema_model.specs.Classes.{Schema, is_kept}
use Rattle.state_model.specs.declared.row.RowEntry.{RowEntry}
use Rattle.state_model.specs.Members.{Members}
use Rattle.state_model.specs.Rows.{root_alone}
use Rattle.state_model.specs.Shown.{permitted, shared}
use Rattle.state_model.specs.Sound.{Sound}
use Rattle.wire_model.specs.declared.op.Block.{Block}
use Rattle.wire_model.specs.Frame.{patch, state_frame}
use Rattle.wire_model.specs.OpBytes.{block_bytes}
use Rattle.wire_model.specs.Patch.{are_short}
use Rattle.wire_model.specs.Resolved.{applied}
use Rattle.wire_laws.specs.FrameLaw.{Moment, view_at, Follows}
use Rattle.wire_laws.proofs.StateFrames.{root_follows}
use Rattle.block_laws.specs.Writable.{are_writable}
use Rattle.state_model.specs.Spelled.{are_spelled}
use Rattle.byte_laws.proofs.PartsBytes.{parts_have_bytes}
use Rattle.canon_patch.specs.Positions.{have_positions}
use Rattle.canon_patch.proofs.LeadingRows.{views_lead, left_leads}
use Rattle.live_state.specs.Live.{Live, schema_of, rows_of}
use Rattle.view_counts.specs.Settled.{View, AreSettled, view_before, view_now}

-- the parts of a frame from one view to another: each can be made,
-- and the shared part and the patch from what it leaves have bytes, which are the frame's
pub record IsFrame (schema : Schema) (shared0 permitted0 shared1 permitted1 : List RowEntry) (part : List Block) : Type 0 where
  pub shared_leads : have_positions schema shared0 shared1 ≡ true
  pub own_leads : have_positions schema (applied schema permitted0 part) permitted1 ≡ true
  pub shared_written : are_writable part ≡ true
  pub own_written : are_writable (patch schema (applied schema permitted0 part) permitted1) ≡ true
  pub bytes : block_bytes part true ++ block_bytes (patch schema (applied schema permitted0 part) permitted1) false ≡ state_frame schema shared0 permitted0 shared1 permitted1

-- between two moments
moments_frame : (schema : Schema) (old new : Moment) → is_kept schema ≡ true → Follows schema old.rows new.rows → are_spelled old.rows ≡ true → are_spelled new.rows ≡ true
    → IsFrame schema (shared schema old.rows) (view_at schema old) (shared schema new.rows) (view_at schema new) (patch schema (shared schema old.rows) (shared schema new.rows))
moments_frame schema old new kept f old_bytes new_bytes =
    let h = parts_have_bytes schema old new kept f old_bytes new_bytes in
    let own = ap (λ rows. patch schema rows (view_at schema new)) h.shared_means in
    record {
      shared_leads = views_lead schema old.rows new.rows [] [] f h.old_shared_short h.new_shared_short;
      own_leads =
          ap (λ rows. have_positions schema rows (view_at schema new)) h.shared_means
          ∙ left_leads schema old.rows new.rows old.members new.members f (ap (are_short schema) (sym h.shared_means) ∙ h.left_short) h.view_short;
      shared_written = h.shared_written;
      own_written = ap are_writable own ∙ h.view_written;
      bytes = ap (λ bs. block_bytes (patch schema (shared schema old.rows) (shared schema new.rows)) true ++ block_bytes bs false) own;
    }

-- between views that are those of two moments
pub views_frame : (schema : Schema) (rows0 rows1 : List RowEntry) (m0 m1 : Members) (shared0 permitted0 shared1 permitted1 : List RowEntry) (part : List Block)
    → is_kept schema ≡ true → Follows schema rows0 rows1 → are_spelled rows0 ≡ true → are_spelled rows1 ≡ true
    → shared0 ≡ shared schema rows0 → permitted0 ≡ permitted schema rows0 m0.last → shared1 ≡ shared schema rows1 → permitted1 ≡ permitted schema rows1 m1.now
    → part ≡ patch schema shared0 shared1
    → IsFrame schema shared0 permitted0 shared1 permitted1 part
views_frame schema rows0 rows1 m0 m1 shared0 permitted0 shared1 permitted1 part kept f old_bytes new_bytes a b c d e =
    let there = moments_frame schema (record { rows = rows0; members = m0.last }) (record { rows = rows1; members = m1.now }) kept f old_bytes new_bytes in
    rw (e, a, b, c, d) there

-- the whole state, from the root alone
pub full_frame : (schema : Schema) (rows : List RowEntry) (m : Members) → is_kept schema ≡ true → Sound schema rows → are_spelled rows ≡ true
    → IsFrame schema (root_alone schema) (root_alone schema) (shared schema rows) (permitted schema rows m.now) (patch schema (root_alone schema) (shared schema rows))
full_frame schema rows m kept sound spelled =
    moments_frame schema (record { rows = root_alone schema; members = [] }) (record { rows = rows; members = m.now }) kept (root_follows schema rows sound) refl spelled

-- between views that are settled at this tick
pub settled_frame : (live : Live) (members : Members) (shared_view view : View) (part : List Block) → is_kept (schema_of live) ≡ true → are_spelled (rows_of live) ≡ true
    → AreSettled live members shared_view view part
    → IsFrame (schema_of live) (view_before shared_view) (view_before view) (view_now shared_view) (view_now view) part
settled_frame live members shared_view view part kept spelled are =
    let t = are.tick in
    views_frame (schema_of live) t.rows (rows_of live) members members (view_before shared_view) (view_before view) (view_now shared_view) (view_now view) part
    kept t.follows t.spelled spelled
    are.shared_settled.before are.view_settled.before are.shared_settled.now are.view_settled.now are.is_part
