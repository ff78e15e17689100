-- The bytes of a tick's frames are decoded to what is permitted.
use Rattle.std.proofs.Common.{◌≡◌, true, false, not, ◌||◌, List, [], ◌∷◌, sym, refl, ap₂, ◌∙◌}
use Rattle.schema_model.specs.Classes.{Schema, is_kept}
use Rattle.schema_model.specs.declared.place.Pair.{Pair}
use Rattle.state_model.specs.declared.row.RowEntry.{RowEntry}
use Rattle.state_model.specs.Reached.{freed}
use Rattle.state_model.specs.Shown.{permitted, shared}
use Rattle.state_model.specs.Spelled.{are_spelled}
use Rattle.state_model.specs.State.{State, swept}
use Rattle.command_laws.proofs.SpelledStates.{sweep_spells}
use Rattle.command_laws.proofs.SweptStates.{sweep_keeps}
use Rattle.wire_model.specs.Edits.{EditBlock}
use Rattle.wire_model.specs.Effect.{apply_edits}
use Rattle.wire_model.specs.Frame.{shared_part, view_part, is_blank, has_operation}
use Rattle.wire_laws.specs.FrameLaw.{Moment, Follows}
use Rattle.wire_laws.proofs.StateFrames.{frame_leads}
use Rattle.byte_laws.proofs.BytesDecoded.{frame_decodes, full_decodes}
use Rattle.view_counts.proofs.TickLaws.{later_follows}
use Rattle.room_promises.proofs.StateFacts.{GoodStates, swept_later}
use Rattle.room_promises.proofs.TickFits.{TickDecodes}

-- a frame without an operation has no block in either part
no_blocks : (first second : List EditBlock) → (not (is_blank first) || not (is_blank second)) ≡ false → (first ≡ []) × (second ≡ [])
no_blocks [] [] h = (refl, refl)
no_blocks [] (b ∷ bs) h = cc
no_blocks (b ∷ bs) second h = cc

-- the rows and the pairs of a view at a tick
abbrev at : List RowEntry → List Pair → Moment
at rows members = record { rows = rows; members = members }

-- so the rows are freed alone
silent_stays : (schema : Schema) (before after : List RowEntry) (last now : List Pair) → Follows schema before after
    → has_operation schema (shared schema before) (permitted schema before last) (shared schema after) (permitted schema after now) ≡ false → freed (permitted schema before last) ≡ permitted schema after now
silent_stays schema before after last now f none =
    let first = shared_part schema (shared schema before) (shared schema after) in
    let second = view_part schema (shared schema before) (permitted schema before last) (shared schema after) (permitted schema after now) in
    let both = no_blocks first second none in
    sym (ap₂ (λ bs cs. freed (apply_edits cs (apply_edits bs (permitted schema before last)))) both.0 both.1) ∙ frame_leads schema (at before last) (at after now) f

pub tick_decodes : (schema : Schema) (last now : State) → is_kept schema ≡ true → GoodStates schema last now → TickDecodes schema last.rows (swept now).rows
tick_decodes schema last now kept g =
    let follows : Follows schema last.rows (swept now).rows = later_follows schema last (swept now) g.was (sweep_keeps schema now g.kept) (swept_later schema last now g) in
    let spelled : are_spelled (swept now).rows ≡ true = sweep_spells now g.spelled in
    record {
      whole = λ ps. full_decodes schema (at (swept now).rows ps) kept follows.new_sound spelled;
      between = λ qs ps. frame_decodes schema (at last.rows qs) (at (swept now).rows ps) kept follows g.was_spelled spelled;
      silent = λ qs ps none. silent_stays schema last.rows (swept now).rows qs ps follows none;
    }
