-- The operations of a frame from one tick to the next have bytes, fit the client's rows, and mean again what they were.
use Rattle.std.proofs.Common.{◌≡◌, true, [], ◌++◌, refl, sym, ap, subst, ◌∙◌, append-nil}
use Rattle.schema_model.specs.Classes.{Schema, is_kept}
use Rattle.state_model.specs.Rows.{is_live, kinds_of}
use Rattle.state_model.specs.Shown.{shared}
use Rattle.wire_model.specs.Edits.{encoded_blocks}
use Rattle.wire_model.specs.Effect.{apply_edits}
use Rattle.wire_model.specs.Resolved.{resolved_blocks}
use Rattle.wire_laws.specs.FrameLaw.{Moment, view_at, Follows}
use Rattle.wire_laws.proofs.EncodedBlocks.{follows_patch}
use Rattle.block_laws.specs.Writable.{are_writable}
use Rattle.block_laws.specs.Fitting.{BlocksFit}
use Rattle.byte_laws.proofs.FrameEdits.{frame_edits}
use Rattle.state_model.specs.Spelled.{are_spelled}
use Rattle.byte_laws.proofs.PatchBlocks.{blocks_writable}
use Rattle.byte_laws.proofs.KnownBlocks.{prefix_fits, prefix_means}
use Rattle.byte_laws.specs.BytesLaw.{shared_blocks, view_blocks}
use Rattle.byte_laws.proofs.FrameParts.{known_between, parts_of}

-- they have bytes
pub frame_writable : (schema : Schema) (old new : Moment) → is_kept schema ≡ true → Follows schema old.rows new.rows → are_spelled old.rows ≡ true → are_spelled new.rows ≡ true
    → are_writable (encoded_blocks (frame_edits schema old new)) ≡ true
frame_writable schema old new kept f old_bytes new_bytes =
    let p = parts_of schema old new kept f old_bytes new_bytes in
    let last = view_blocks schema old new in
    let behind = ap (λ bs. are_writable (encoded_blocks bs)) (sym (append-nil last)) ∙ blocks_writable schema (view_at schema new) kept p.view_rows last [] p.view_fit refl in
    blocks_writable schema (shared schema new.rows) kept p.shared_rows (shared_blocks schema old new) last p.shared_fit behind

-- they fit the kinds of the client's rows
pub frame_fits : (schema : Schema) (old new : Moment) → is_kept schema ≡ true → Follows schema old.rows new.rows → are_spelled old.rows ≡ true → are_spelled new.rows ≡ true
    → BlocksFit schema (kinds_of (view_at schema old)) (encoded_blocks (frame_edits schema old new))
frame_fits schema old new kept f old_bytes new_bytes =
    let p = parts_of schema old new kept f old_bytes new_bytes in
    let client = view_at schema old in
    let first = shared_blocks schema old new in
    let last = view_blocks schema old new in
    let left = apply_edits first client in
    let read = prefix_fits schema (view_at schema new) p.view_rows last [] (known_between schema old new) (is_live left) p.view_knows p.view_known (follows_patch schema left (view_at schema new)) p.view_fit tt in
    prefix_fits schema (shared schema new.rows) p.shared_rows first last (kinds_of client) (is_live (shared schema old.rows)) p.shared_knows p.shared_known
    (follows_patch schema (shared schema old.rows) (shared schema new.rows)) p.shared_fit (subst (λ bs. BlocksFit schema (known_between schema old new) (encoded_blocks bs)) (append-nil last) read)

-- they mean again what they were
pub frame_means : (schema : Schema) (old new : Moment) → is_kept schema ≡ true → Follows schema old.rows new.rows → are_spelled old.rows ≡ true → are_spelled new.rows ≡ true
    → resolved_blocks schema (kinds_of (view_at schema old)) (encoded_blocks (frame_edits schema old new)) ≡ frame_edits schema old new
frame_means schema old new kept f old_bytes new_bytes =
    let p = parts_of schema old new kept f old_bytes new_bytes in
    let client = view_at schema old in
    let first = shared_blocks schema old new in
    let last = view_blocks schema old new in
    let left = apply_edits first client in
    let mean = prefix_means schema (view_at schema new) p.view_rows last [] (known_between schema old new) (is_live left) p.view_knows p.view_known (follows_patch schema left (view_at schema new)) p.view_fit in
    prefix_means schema (shared schema new.rows) p.shared_rows first last (kinds_of client) (is_live (shared schema old.rows)) p.shared_knows p.shared_known
    (follows_patch schema (shared schema old.rows) (shared schema new.rows)) p.shared_fit
    ∙ ap (λ bs. first ++ bs) (ap (λ bs. resolved_blocks schema (known_between schema old new) (encoded_blocks bs)) (sym (append-nil last)) ∙ (mean ∙ append-nil last))
