use Rattle.std.proofs.Common.{◌≡◌, ◌∙◌, ◌+◌, ◌≤◌, true, false, List, length, Result, Err, refl, sym, ap, subst}
use Rattle.std.proofs.lemmas.Result.{err_from_is_err_and}
use Rattle.schema_model.specs.Classes.{Schema}
use Rattle.schema_model.specs.declared.place.Pair.{Pair}
use Rattle.state_model.specs.declared.row.RowEntry.{RowEntry}
use Rattle.state_model.specs.Members.{Members}
use Rattle.state_model.specs.Rows.{is_live}
use Rattle.state_model.specs.Sound.{are_sound}
use Rattle.live_state.specs.declared.fault.ExpandFault.{ExpandFault}
use Rattle.live_state.specs.declared.fault.ExpandFault.TheVariants as expanding
use Rattle.live_state.specs.Live.{rows_of, schema_of}
use Rattle.view_edits.specs.declared.fault.EditFault.{EditFault}
use Rattle.view_edits.specs.declared.fault.EditFault.TheVariants as editing
use Rattle.view_edits.specs.Edited.{Shows}
use Rattle.view_edits.proofs.FullViews.{not_full}
use Rattle.view_edits.proofs.There.{added_there}
use Rattle.view_edits.proofs.edits.show_in_memory.Goals as goal

pub returns-clause-there : goal.returns-clause-there
returns-clause-there g c h =
    let live = c.args.live.now in
    let told = c.in_ok-pairs.ensures.pairs in
    added_there (schema_of live) (rows_of live) c.know_rows.ensures.kept.sound c.args.pair c.as_slice.result.now c.args.members.now c.add_all.new.self told.0 (c.as_slice.ensures.value ∙ told.1) c.in_ok-add_all.ensures.1 h

-- a refused expansion, where there is room for all rows
refused : (schema : Schema) (rows : List RowEntry) (p : Pair) (m : Members) (f : ExpandFault) (e : EditFault) (r : Result (Unit {0}) EditFault)
    → r ≡ Err e → (f ≡ expanding.NoRef → e ≡ editing.NoRef) → (f ≡ expanding.Memory → e ≡ editing.Memory)
    → (f ≡ expanding.NoRef → is_live rows p.who ≡ false) → (f ≡ expanding.Memory → is_live rows p.who ≡ true)
    → are_sound schema rows ≡ true → length m.kept + length rows ≤ 65536 → Shows schema rows p m m r
refused schema rows p m expanding.NoRef e r is none lacks dead live sound room =
    subst (Shows schema rows p m m) (sym (is ∙ ap Err (none refl))) (dead refl, refl)
refused schema rows p m expanding.Memory e r is none lacks dead live sound room =
    subst (Shows schema rows p m m) (sym (is ∙ ap Err (lacks refl))) (live refl, not_full schema rows p m sound (live refl) room, refl)

pub returns-in_err-pairs-clause-shows : goal.returns-in_err-pairs-clause-shows
returns-in_err-pairs-clause-shows g c =
    let live = c.args.live.now in
    let told = err_from_is_err_and c.from_residual.result c.from_residual.ensures.1 in
    refused (schema_of live) (rows_of live) c.args.pair c.args.members.now c.in_err-pairs.field-0.0 told.0 c.from_residual.result told.1 told.2.0 told.2.1
    (λ h. c.in_err-pairs.ensures.none (ap Err h)) (λ h. c.in_err-pairs.ensures.lacks (ap Err h)) c.know_rows.ensures.kept.sound c.requires
