-- The bytes of state frames are decoded to exactly the view.
use Rattle.std.proofs.Common.{◌≡◌, Bool, true, false, cond, ◌==◌, ◌&&◌, List, [], ◌∷◌, ◌++◌, map, Ok, refl, sym, ap, subst, ◌∙◌, append_assoc}
use Rattle.std.specs.List.{flat_map, fold}
use Rattle.std.proofs.lemmas.List.{map-append}
use Rattle.std.proofs.lemmas.Grind.{flat_map-append}
use Rattle.schema_model.specs.Classes.{Schema, is_kept}
use Rattle.state_model.specs.Rows.{root_alone}
use Rattle.state_model.specs.Reached.{freed}
use Rattle.state_model.specs.Shown.{shared}
use Rattle.wire_model.specs.declared.op.Block.{Block}
use Rattle.wire_model.specs.Edits.{EditBlock, encoded_block, encoded_blocks}
use Rattle.wire_model.specs.Effect.{apply_edits}
use Rattle.wire_model.specs.Frame.{shared_part, view_part}
use Rattle.wire_model.specs.Grammar.{ReadBlock, read_blocks}
use Rattle.wire_model.specs.OpBytes.{block_bytes, first_block, whole_block}
use Rattle.wire_model.specs.Decoded.{edits_of, run_blocks, ended_by, decoded, after_frame}
use Rattle.wire_laws.specs.FrameLaw.{Moment, view_at, Follows, AllFollow, last_moment}
use Rattle.wire_laws.proofs.StateFrames.{root_follows}
use Rattle.block_laws.specs.Fitting.{ReadAs, found_blocks}
use Rattle.block_laws.proofs.BlocksRead.{blocks_read_again}
use Rattle.byte_laws.specs.BytesLaw.{FrameDecodes, FullDecodes, JoinedDecodes, AllSpelled, bytes_between, patch_frames}
use Rattle.byte_laws.proofs.FrameEdits.{frame_edits}
use Rattle.byte_laws.proofs.FrameFits.{frame_writable, frame_fits, frame_means}
use Rattle.byte_laws.proofs.FrameRuns.{frame_runs, frame_runs_behind, frame_edits_lead}

-- ---- two parts, one behind the other

-- there are blocks
abbrev is_any : List Block → Bool
is_any [] = false
is_any (b ∷ bs) = true

-- blocks of which each has its switch
all_whole : (bs : List Block) → block_bytes bs false ≡ flat_map whole_block bs
all_whole [] = refl
all_whole (b ∷ bs) = refl

-- the bytes of two lists of blocks are those of both, which may be bare where the first one has a block
both_parts : (first second : List Block) → block_bytes first true ++ block_bytes second false ≡ block_bytes (first ++ second) (is_any first)
both_parts [] second = refl
both_parts (b ∷ bs) second =
    let whole : flat_map whole_block bs ++ block_bytes second false ≡ flat_map whole_block (bs ++ second) = ap (λ bytes. flat_map whole_block bs ++ bytes) (all_whole second) ∙ sym (flat_map-append whole_block bs second) in
    append_assoc (first_block true b) (flat_map whole_block bs) (block_bytes second false) ∙ ap (λ bytes. first_block true b ++ bytes) whole

-- the bytes between two ticks are those of the frame's operations
between_bytes : (schema : Schema) (old new : Moment) → bytes_between schema old new
    ≡ block_bytes (encoded_blocks (frame_edits schema old new)) (is_any (encoded_blocks (shared_part schema (shared schema old.rows) (shared schema new.rows))))
between_bytes schema old new =
    let first = shared_part schema (shared schema old.rows) (shared schema new.rows) in
    let second = view_part schema (shared schema old.rows) (view_at schema old) (shared schema new.rows) (view_at schema new) in
    both_parts (encoded_blocks first) (encoded_blocks second) ∙ ap (λ bs. block_bytes bs (is_any (encoded_blocks first))) (sym (map-append encoded_block first second))

-- ---- one frame

-- what was read is the frame's operations, or they stand behind a block of the root without any
run_found : (schema : Schema) (old new : Moment) (bare : Bool) (read : List ReadBlock) → Follows schema old.rows new.rows → map edits_of read ≡ found_blocks bare (frame_edits schema old new)
    → run_blocks read (view_at schema old) ≡ Ok (apply_edits (frame_edits schema old new) (view_at schema old))
run_found schema old new bare read f is = by (frame_edits schema old new) refl where
  by : (es : List EditBlock) → frame_edits schema old new ≡ es → run_blocks read (view_at schema old) ≡ Ok (apply_edits (frame_edits schema old new) (view_at schema old))
  by [] none = frame_runs_behind schema old new read f (is ∙ (ap (found_blocks bare) none ∙ ap (λ es. record { holder = 0; edits = [] } ∷ es) (sym none)))
  by (e ∷ es) some = test (bare && (e.holder == 0)) (is ∙ ap (found_blocks bare) some) where
    test : (t : Bool) → map edits_of read ≡ cond t (e ∷ es) (record { holder = 0; edits = [] } ∷ e ∷ es) → run_blocks read (view_at schema old) ≡ Ok (apply_edits (frame_edits schema old new) (view_at schema old))
    test true there = frame_runs schema old new read f (there ∙ sym some)
    test false there = frame_runs_behind schema old new read f (there ∙ ap (λ es. record { holder = 0; edits = [] } ∷ es) (sym some))

pub frame_decodes : FrameDecodes
frame_decodes schema old new kept f old_bytes new_bytes =
    let bare = is_any (encoded_blocks (shared_part schema (shared schema old.rows) (shared schema new.rows))) in
    let view = view_at schema old in
    let again = blocks_read_again schema view (encoded_blocks (frame_edits schema old new)) bare (frame_writable schema old new kept f old_bytes new_bytes) (frame_fits schema old new kept f old_bytes new_bytes) in
    let read = subst (λ es. ReadAs (read_blocks schema view (block_bytes (encoded_blocks (frame_edits schema old new)) bare)) (found_blocks bare es)) (frame_means schema old new kept f old_bytes new_bytes) again in
    let readings = read_blocks schema view (block_bytes (encoded_blocks (frame_edits schema old new)) bare) in
    let run = run_found schema old new bare readings.blocks f read.blocks in
    let done : ended_by readings.fault (run_blocks readings.blocks view) ≡ Ok (freed (apply_edits (frame_edits schema old new) view)) = rw (read.fault, run) refl in
    ap (λ bytes. decoded schema bytes view) (between_bytes schema old new) ∙ (done ∙ ap Ok (frame_edits_lead schema old new f))

-- ---- a full state, and the patches behind it

pub full_decodes : FullDecodes
full_decodes schema new kept sound spelled =
    frame_decodes schema (record { rows = root_alone schema; members = [] }) new kept (root_follows schema new.rows sound) refl spelled

-- the patches of ticks lead from the view at the first to the view at the last
patches_decode : (schema : Schema) (first : Moment) (ms : List Moment) → is_kept schema ≡ true → AllFollow schema first ms → AllSpelled (first ∷ ms)
    → fold (after_frame schema) (Ok (view_at schema first)) (patch_frames schema first ms) ≡ Ok (view_at schema (last_moment first ms))
patches_decode schema first [] kept follow spelled = refl
patches_decode schema first (m ∷ ms) kept follow spelled =
    ap (λ rows. fold (after_frame schema) rows (patch_frames schema m ms)) (frame_decodes schema first m kept follow.0 spelled.0 spelled.1.0)
    ∙ patches_decode schema m ms kept follow.1 spelled.1

pub joined_decodes : JoinedDecodes
joined_decodes schema first ms kept sound follow spelled =
    ap (λ rows. fold (after_frame schema) rows (patch_frames schema first ms)) (full_decodes schema first kept sound spelled.0) ∙ patches_decode schema first ms kept follow spelled
