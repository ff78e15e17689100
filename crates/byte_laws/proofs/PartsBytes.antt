-- Each part of a frame has bytes and is between short rows, and the shared part means against a client's rows what it is.
use Rattle.std.proofs.Common.{[], refl, sym, ap, ◌∙◌, append-nil}
use Rattle.state_model.specs.Rows.{is_live, kinds_of}
use Rattle.state_model.specs.Shown.{shared}
use Rattle.wire_model.specs.Edits.{encoded_blocks}
use Rattle.wire_model.specs.Effect.{apply_edits}
use Rattle.wire_model.specs.Patch.{are_short}
use Rattle.wire_model.specs.Resolved.{resolved_blocks}
use Rattle.wire_laws.specs.FrameLaw.{view_at}
use Rattle.wire_laws.proofs.EncodedBlocks.{follows_patch}
use Rattle.block_laws.specs.Writable.{are_writable}
use Rattle.byte_laws.specs.BytesLaw.{PartsHaveBytes, shared_blocks, view_blocks}
use Rattle.byte_laws.proofs.PatchBlocks.{blocks_writable}
use Rattle.byte_laws.proofs.KnownBlocks.{prefix_means}
use Rattle.byte_laws.proofs.FrameParts.{parts_of}

pub parts_have_bytes : PartsHaveBytes
parts_have_bytes schema old new kept f old_bytes new_bytes =
    let p = parts_of schema old new kept f old_bytes new_bytes in
    let client = view_at schema old in
    let first = shared_blocks schema old new in
    let last = view_blocks schema old new in
    let mean = prefix_means schema (shared schema new.rows) p.shared_rows first [] (kinds_of client) (is_live (shared schema old.rows)) p.shared_knows p.shared_known
    (follows_patch schema (shared schema old.rows) (shared schema new.rows)) p.shared_fit in
    let means = ap (λ bs. apply_edits bs client) (ap (λ bs. resolved_blocks schema (kinds_of client) (encoded_blocks bs)) (sym (append-nil first)) ∙ (mean ∙ append-nil first)) in
    record {
      shared_written = ap (λ bs. are_writable (encoded_blocks bs)) (sym (append-nil first)) ∙ blocks_writable schema (shared schema new.rows) kept p.shared_rows first [] p.shared_fit refl;
      view_written = ap (λ bs. are_writable (encoded_blocks bs)) (sym (append-nil last)) ∙ blocks_writable schema (view_at schema new) kept p.view_rows last [] p.view_fit refl;
      old_shared_short = p.old_shared_short;
      new_shared_short = p.new_shared_short;
      left_short = ap (are_short schema) means ∙ p.left_short;
      view_short = p.view_short;
      shared_means = means;
    }
