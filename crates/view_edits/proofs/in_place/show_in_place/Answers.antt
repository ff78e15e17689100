use Rattle.std.proofs.Common.{◌≡◌, ◌∙◌, ℕ, ◌+◌, true, List, Result, Err, refl, sym, ap, subst, arith}
use Rattle.std.proofs.lemmas.Result.{err_from_is_err_and}
use Rattle.schema_model.specs.Classes.{Schema}
use Rattle.schema_model.specs.declared.place.Pair.{Pair}
use Rattle.state_model.specs.declared.row.RowEntry.{RowEntry}
use Rattle.state_model.specs.Members.{Members, is_view_full, pairs_behind}
use Rattle.state_model.specs.Rows.{is_live}
use Rattle.instance_table.specs.Behind.{numbers_behind, places_behind}
use Rattle.instance_table.specs.Table.{TableState}
use Rattle.live_state.specs.Live.{pairs_of, rows_of, schema_of}
use Rattle.view_members.specs.declared.fault.MemberFault.{MemberFault}
use Rattle.view_members.specs.declared.fault.MemberFault.TheVariants as adding
use Rattle.view_members.specs.Sets.{Adds, with_all}
use Rattle.view_edits.specs.declared.fault.EditFault.{EditFault}
use Rattle.view_edits.specs.declared.fault.EditFault.TheVariants as editing
use Rattle.view_edits.specs.Edited.{Costs, Shows}
use Rattle.view_edits.proofs.FullViews.{found_pairs}
use Rattle.view_edits.proofs.There.{added_there}
use Rattle.view_edits.proofs.in_place.show_in_place.Goals as goal

-- pairs that aren't added, and what that costs
refused : (schema : Schema) (rows : List RowEntry) (p : Pair) (pairs : List Pair) (old new : Members) (f : MemberFault) (e : EditFault) (r : Result (Unit {0}) EditFault)
    → r ≡ Err e → (f ≡ adding.ViewFull → e ≡ editing.ViewFull) → (f ≡ adding.Memory → e ≡ editing.Memory)
    → is_live rows p.who ≡ true → pairs ≡ pairs_behind schema rows p → Adds pairs old new (Err f) → Shows schema rows p old new r
refused schema rows p pairs old new adding.ViewFull e r is full lacks live are adds =
    subst (Shows schema rows p old new) (sym (is ∙ ap Err (full refl))) (live, ap (λ ps. is_view_full (with_all ps old)) (sym are) ∙ adds.0, adds.1)
refused schema rows p pairs old new adding.Memory e r is full lacks live are adds =
    subst (Shows schema rows p old new) (sym (is ∙ ap Err (lacks refl))) (live, ap (λ ps. is_view_full (with_all ps old)) (sym are) ∙ adds.0, adds.1)

refused_costs : (told steps : ℕ) (f : MemberFault) (e : EditFault) (r : Result (Unit {0}) EditFault)
    → r ≡ Err e → (f ≡ adding.ViewFull → e ≡ editing.ViewFull) → (f ≡ adding.Memory → e ≡ editing.Memory) → steps ≡ told → Costs told steps r
refused_costs told steps adding.ViewFull e r is full lacks cost = subst (Costs told steps) (sym (is ∙ ap Err (full refl))) cost
refused_costs told steps adding.Memory e r is full lacks cost = subst (Costs told steps) (sym (is ∙ ap Err (lacks refl))) (omega arith)

pub returns-in_err-add_under-clause-shows : goal.returns-in_err-add_under-clause-shows
returns-in_err-add_under-clause-shows g c =
    let live = c.args.live.now in
    let p = c.args.pair in
    let here = sym (c.if-not-see_behind.ensures.live ∙ ap (λ (t : TableState). is_live t.state.rows p.who) c.table-table.ensures) in
    let value = c.if-not-see_behind.ensures.value ∙ ap (λ (t : TableState). numbers_behind t.schema t.state.rows p.who p.tag) c.table-table.ensures in
    let are = ap (λ ns. pairs_of ns p.tag) c.seen.ensures.value ∙ found_pairs (schema_of live) (rows_of live) p c.see_behind.new.room.seen here value in
    let told = err_from_is_err_and c.from_residual.result c.from_residual.ensures.1 in
    refused (schema_of live) (rows_of live) p (pairs_of c.seen.result.now p.tag) c.args.members.now c.add_under.new.members c.in_err-add_under.field-0.0 told.0 c.from_residual.result
    told.1 told.2.0 told.2.1 here are c.in_err-add_under.ensures

pub returns-in_err-add_under-clause-cost : goal.returns-in_err-add_under-clause-cost
returns-in_err-add_under-clause-cost g c =
    let live = c.args.live.now in
    let p = c.args.pair in
    let cost = c.see_behind.ensures.cost ∙ ap (λ (t : TableState). c.args.steps.now + places_behind t.schema t.state.rows p.who p.tag) c.table-table.ensures in
    let told = err_from_is_err_and c.from_residual.result c.from_residual.ensures.1 in
    refused_costs (c.args.steps.now + places_behind (schema_of live) (rows_of live) p.who p.tag) c.see_behind.new.steps c.in_err-add_under.field-0.0 told.0 c.from_residual.result
    told.1 told.2.0 told.2.1 cost

pub returns-clause-there : goal.returns-clause-there
returns-clause-there g c h =
    let live = c.args.live.now in
    let p = c.args.pair in
    let here = sym (c.if-not-see_behind.ensures.live ∙ ap (λ (t : TableState). is_live t.state.rows p.who) c.table-table.ensures) in
    let value = c.if-not-see_behind.ensures.value ∙ ap (λ (t : TableState). numbers_behind t.schema t.state.rows p.who p.tag) c.table-table.ensures in
    let are = ap (λ ns. pairs_of ns p.tag) c.seen.ensures.value ∙ found_pairs (schema_of live) (rows_of live) p c.see_behind.new.room.seen here value in
    added_there (schema_of live) (rows_of live) c.know_rows.ensures.kept.sound p (pairs_of c.seen.result.now p.tag) c.args.members.now c.add_under.new.members here are c.in_ok-add_under.ensures.1 h
