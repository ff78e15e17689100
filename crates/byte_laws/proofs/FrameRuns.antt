-- What is read of a state frame runs over a client's old view without a miss, and makes of it what its operations do.
use Rattle.std.proofs.Common.{◌≡◌, true, List, [], ◌∷◌, map, Option, Some, None, Ok, refl, sym, ap, subst, ◌∙◌}
use Rattle.std.specs.Option.{option_map_or}
use Rattle.lists.specs.Rising.{RisesFrom}
use Rattle.lists.proofs.RisingLaws.{put_found}
use Rattle.schema_model.specs.Classes.{Schema}
use Rattle.state_model.specs.declared.row.Row.{Row}
use Rattle.state_model.specs.declared.row.RowEntry.{RowEntry}
use Rattle.state_model.specs.Rows.{number_of, row_at}
use Rattle.state_model.specs.Reached.{freed}
use Rattle.state_model.specs.Shown.{shared}
use Rattle.state_laws.proofs.Numbers.{entry, row_found}
use Rattle.state_laws.proofs.PermittedLaws.{permitted_rises}
use Rattle.state_laws.proofs.RowsOf.{rows_rise}
use Rattle.wire_model.specs.Edits.{EditBlock}
use Rattle.wire_model.specs.Effect.{opened, closed, with_edits, apply_block, apply_edits}
use Rattle.wire_model.specs.Frame.{shared_part, view_part}
use Rattle.wire_model.specs.Grammar.{ReadBlock}
use Rattle.wire_model.specs.Decoded.{edits_of, run_blocks}
use Rattle.wire_laws.specs.FrameLaw.{Moment, view_at, Follows}
use Rattle.wire_laws.proofs.CommonPhase.{fold-append_blocks}
use Rattle.wire_laws.proofs.EditSteps.{closed_opened}
use Rattle.wire_laws.proofs.StateFrames.{rows_of_sound, frame_leads}
use Rattle.byte_laws.proofs.FrameEdits.{frame_edits}
use Rattle.byte_laws.proofs.Found.{all_found}
use Rattle.byte_laws.proofs.BlocksFound.{AllFound, found_runs}
use Rattle.byte_laws.proofs.FrameFound.{frame_found}

-- blocks with places that are these operations run without a miss, wherever the places are
pub frame_runs : (schema : Schema) (old new : Moment) (read : List ReadBlock) → Follows schema old.rows new.rows → map edits_of read ≡ frame_edits schema old new
    → run_blocks read (view_at schema old) ≡ Ok (apply_edits (frame_edits schema old new) (view_at schema old))
frame_runs schema old new read f is =
    found_runs read (view_at schema old) (subst (λ bs. AllFound bs (view_at schema old)) (sym is) (frame_found schema old.rows new.rows old.members new.members f))
    ∙ ap (λ bs. Ok (apply_edits bs (view_at schema old))) is

-- ---- a first block of the root without operations

-- the block of the root without operations
abbrev idle : EditBlock
idle = record { holder = 0; edits = [] }

-- it leaves the rows as they are
idle_leaves : (rows : List RowEntry) → RisesFrom number_of 0 rows → apply_block rows idle ≡ rows
idle_leaves rows rises = by (row_at rows 0) refl
  where
    by : (o : Option Row) → row_at rows 0 ≡ o → with_edits idle rows o ≡ rows
    by None is = refl
    by (Some r) is = put_found number_of 0 (entry 0 (closed (opened r))) rows rises (row_found rows 0 r is ∙ ap (λ x. Some (entry 0 x)) (sym (closed_opened r)))

-- and behind it the operations of a frame run as they do alone
pub frame_runs_behind : (schema : Schema) (old new : Moment) (read : List ReadBlock) → Follows schema old.rows new.rows → map edits_of read ≡ record { holder = 0; edits = [] } ∷ frame_edits schema old new
    → run_blocks read (view_at schema old) ≡ Ok (apply_edits (frame_edits schema old new) (view_at schema old))
frame_runs_behind schema old new read f is =
    let rises = permitted_rises schema old.rows old.members (rows_rise schema old.rows (rows_of_sound schema old.rows f.old_sound)) in
    let leaves = idle_leaves (view_at schema old) rises in
    let found : AllFound (idle ∷ frame_edits schema old new) (view_at schema old) =
    (idle_found (row_at (view_at schema old) 0), subst (AllFound (frame_edits schema old new)) (sym leaves) (frame_found schema old.rows new.rows old.members new.members f)) in
    found_runs read (view_at schema old) (subst (λ bs. AllFound bs (view_at schema old)) (sym is) found)
    ∙ (ap (λ bs. Ok (apply_edits bs (view_at schema old))) is ∙ ap (λ rows. Ok (apply_edits (frame_edits schema old new) rows)) leaves)
  where
    idle_found : (o : Option Row) → option_map_or (λ r. all_found idle.edits (opened r)) o true ≡ true
    idle_found None = refl
    idle_found (Some r) = refl

-- ---- where they lead

-- freed of what nothing holds, what the operations of a frame make of the old view is the new one
pub frame_edits_lead : (schema : Schema) (old new : Moment) → Follows schema old.rows new.rows → freed (apply_edits (frame_edits schema old new) (view_at schema old)) ≡ view_at schema new
frame_edits_lead schema old new f =
    let part = shared_part schema (shared schema old.rows) (shared schema new.rows) in
    ap freed (fold-append_blocks part (view_part schema (shared schema old.rows) (view_at schema old) (shared schema new.rows) (view_at schema new)) (view_at schema old))
    ∙ frame_leads schema old new f
