-- Rows of which one is open stand for what was read so far: the blocks before are done, and the holder's operations are done to the open row.
use Rattle.std.proofs.Common.{◌≡◌, ℕ, ◌+◌, true, List, [], ◌∷◌, ◌++◌, Some, None, Ok, refl, sym, ap, subst, ◌∙◌}
use Rattle.std.specs.Option.{option_map, option_map_or}
use Rattle.std.specs.Prelude.{option_and_then}
use Rattle.lists.specs.Rising.{RisesFrom}
use Rattle.schema_model.specs.Classes.{Schema}
use Rattle.state_model.specs.declared.row.Row.{Row}
use Rattle.state_model.specs.declared.row.Row.TheVariants as row
use Rattle.state_model.specs.declared.row.RowEntry.{RowEntry}
use Rattle.state_model.specs.Rows.{number_of, row_at, is_live, emptied, kinds_of, put_row}
use Rattle.state_model.specs.Sound.{has_kind}
use Rattle.state_laws.proofs.Fitting.{same_declared}
use Rattle.state_laws.proofs.Numbers.{put_rises}
use Rattle.wire_model.specs.declared.op.Op.{Op}
use Rattle.wire_model.specs.Effect.{opened, closed, effect, finds, carried_by, with_named, with_edits, apply_edits}
use Rattle.wire_model.specs.Grammar.{PlacedEdit, ReadBlock, Progress, did, resolved, known_after}
use Rattle.wire_model.specs.Decoded.{edits_of, missed_in, missed_by, run_or_miss, run_blocks}
use Rattle.wire_model.specs.Resolved.{holder_kind}
use Rattle.wire_laws.proofs.LinkedRows.{with_carried, named_rises}
use Rattle.wire_laws.proofs.EncodedKnown.{row_at-kinds_of}
use Rattle.wire_laws.proofs.EditedForm.{edited_kind}
use Rattle.wire_laws.proofs.Keeping.{emptied_twice}
use Rattle.wire_ops.proofs.EffectLaws.{same_effect}
use Rattle.canon_patch.proofs.Applying.{put_kind, link_known}
use Rattle.patch_decoder.specs.declared.run.Run.{Run}
use Rattle.patch_decoder.specs.Runs.{closed_rows, Opens, Does}
use Rattle.patch_decoder.proofs.RowsPut.{same_finds, row_put, put_twice, carried_put, HasKinds, kinds_put, live_put, kinds_carried, live_carried}
use Rattle.patch_decoder.proofs.LinkKinds.{Brings}
use Rattle.patch_decoder.proofs.Running.{bare, after_edits, bodies_more, named_more, missed_found, carried_keeps, run_of, run_last}

-- the rows with those that the holder's operations name
abbrev pub named_in : Progress → List RowEntry → List RowEntry
named_in p all = with_named (bare p.block.edits) all

-- no fault was read; of the rows behind the blocks before, with the linked ones, the holder's is open, and its operations are done
pub record Stands (schema : Schema) (start : List RowEntry) (p : Progress) (run : Run) : Type 0 where
  pub fault : p.fault ≡ None
  pub holder : p.block.holder ≡ run.who
  pub known : p.known ≡ kinds_of run.rows
  pub all : List RowEntry
  pub done : run_blocks p.done start ≡ Ok all
  pub rises : RisesFrom number_of 0 all
  pub row : Row
  pub there : row_at (with_named (bare p.block.edits) all) run.who ≡ Some row
  pub rows : run.rows ≡ put_row run.who (emptied row) (with_named (bare p.block.edits) all)
  pub kind : run.kind ≡ emptied row
  pub body : run.holder ≡ after_edits (bare p.block.edits) (opened row)
  pub found : missed_in p.block.edits (opened row) ≡ None
  pub kinds : HasKinds schema run.rows
  pub root : is_live run.rows 0 ≡ true

-- what the open row is known as
pub open_known : (schema : Schema) (start : List RowEntry) (p : Progress) (run : Run) → Stands schema start p run → row_at run.rows run.who ≡ Some run.kind
open_known schema start p run s = ap (λ l. row_at l run.who) s.rows ∙ (row_put (named_in p s.all) run.who (emptied s.row) ∙ ap Some (sym s.kind))

-- the open row has nothing but its kind
pub open_kind : (schema : Schema) (start : List RowEntry) (p : Progress) (run : Run) → Stands schema start p run → row_at (kinds_of run.rows) run.who ≡ Some run.kind
open_kind schema start p run s =
    row_at-kinds_of run.rows run.who ∙ (ap (option_map emptied) (open_known schema start p run s) ∙ ap Some (ap emptied s.kind ∙ (emptied_twice s.row ∙ sym s.kind)))

-- a row that is opened
pub stands_open : (schema : Schema) (start : List RowEntry) (p : Progress) (run : Run) (all : List RowEntry) (n : ℕ) (r : Row) → p.fault ≡ None → p.block ≡ record { holder = n; edits = [] } → p.known ≡ kinds_of all →
    run_blocks p.done start ≡ Ok all → RisesFrom number_of 0 all → row_at all n ≡ Some r → HasKinds schema all → is_live all 0 ≡ true → Opens all n run → Stands schema start p run
stands_open schema start p run all n r none block known done rises there kinds root o =
    let kind : holder_kind (kinds_of all) n ≡ emptied r = ap (λ q. option_map_or (λ r. r) q (row.Struct 0 [])) (row_at-kinds_of all n ∙ ap (option_map emptied) there) in
    let rows : run.rows ≡ put_row n (emptied r) all = o.rows ∙ ap (λ k. put_row n k all) kind in
    let fits : has_kind schema (emptied r) ≡ true = same_declared schema (emptied r) r (emptied_twice r) ∙ kinds n r there in
    let named : with_named (bare p.block.edits) all ≡ all = ap (λ (b : ReadBlock). with_named (bare b.edits) all) block in
    record {
      fault = none;
      holder = ap (λ (b : ReadBlock). b.holder) block ∙ sym o.who;
      known = known ∙ (sym (put_kind all n r (emptied r) rises there (emptied_twice r)) ∙ ap kinds_of (sym rows));
      all = all;
      done = done;
      rises = rises;
      row = r;
      there = ap (λ l. row_at l run.who) named ∙ (ap (row_at all) o.who ∙ there);
      rows = rows ∙ (ap (λ m. put_row m (emptied r) all) (sym o.who) ∙ ap (put_row run.who (emptied r)) (sym named));
      kind = o.kind ∙ kind;
      body = o.body ∙ (ap (λ q. opened (option_map_or (λ r. r) q (row.Struct 0 []))) there ∙ sym (ap (λ (b : ReadBlock). after_edits (bare b.edits) (opened r)) block));
      found = ap (λ (b : ReadBlock). missed_in b.edits (opened r)) block;
      kinds = subst (HasKinds schema) (sym rows) (kinds_put schema all n (emptied r) kinds fits);
      root = ap (λ l. is_live l 0) rows ∙ live_put all n 0 (emptied r) root;
    }

-- what an operation on the open row means
pub open_means : (schema : Schema) (start : List RowEntry) (p : Progress) (run : Run) (o : Op) → Stands schema start p run →
    resolved schema p.known (option_map_or (λ r. r) (row_at p.known p.block.holder) (row.Struct 0 [])) o ≡ resolved schema (kinds_of run.rows) run.kind o
open_means schema start p run o s =
    let kind : option_map_or (λ r. r) (row_at p.known p.block.holder) (row.Struct 0 []) ≡ run.kind =
    ap (λ n. option_map_or (λ r. r) (row_at p.known n) (row.Struct 0 [])) s.holder
    ∙ (ap (λ l. option_map_or (λ r. r) (row_at l run.who) (row.Struct 0 [])) s.known ∙ ap (λ q. option_map_or (λ r. r) q (row.Struct 0 [])) (open_kind schema start p run s)) in
    ap (λ k. resolved schema p.known k o) kind ∙ ap (λ l. resolved schema l run.kind o) s.known

-- an operation that is done to it
pub stands_done : (schema : Schema) (start : List RowEntry) (p : Progress) (run new : Run) (o : Op) (next : ℕ) → Stands schema start p run → Does schema o run new →
    Brings schema (kinds_of run.rows) (carried_by (resolved schema (kinds_of run.rows) run.kind o)) → RisesFrom number_of 0 run.rows → Stands schema start (did p (resolved schema (kinds_of run.rows) run.kind o) next) new
stands_done schema start p run new o next s d brings run_rises =
    let e = resolved schema (kinds_of run.rows) run.kind o in
    let x : PlacedEdit = record { edit = e; number_place = p.at + 1 } in
    let c = carried_by e in
    let named = named_in p s.all in
    let more : with_named (bare (p.block.edits ++ x ∷ [])) s.all ≡ with_carried c named = named_more p.block.edits x s.all in
    let there : row_at (with_carried c named) run.who ≡ Some s.row = carried_keeps c named run.who s.row s.there in
    let rows : new.rows ≡ put_row run.who (emptied s.row) (with_carried c named) =
    d.rows ∙ (ap (with_carried c) s.rows ∙ carried_put c named run.who s.row (emptied s.row) (named_rises (bare p.block.edits) s.all s.rises) s.there) in
    record {
      fault = refl;
      holder = s.holder ∙ sym d.who;
      known = ap (known_after e) s.known ∙ (sym (link_known schema run.kind o run.rows run_rises) ∙ ap kinds_of (sym d.rows));
      all = s.all;
      done = s.done;
      rises = s.rises;
      row = s.row;
      there = ap (λ l. row_at l new.who) more ∙ (ap (row_at (with_carried c named)) d.who ∙ there);
      rows = rows ∙ (ap (λ m. put_row m (emptied s.row) (with_carried c named)) (sym d.who) ∙ ap (put_row new.who (emptied s.row)) (sym more));
      kind = d.kind ∙ s.kind;
      body = d.body ∙ (same_effect schema (kinds_of run.rows) run.kind o run.holder ∙ (ap (effect e) s.body ∙ sym (bodies_more p.block.edits x (opened s.row))));
      found = missed_found p.block.edits x (opened s.row) s.found (ap (finds e) (sym s.body) ∙ (sym (same_finds schema (kinds_of run.rows) run.kind o run.holder) ∙ d.found));
      kinds = subst (HasKinds schema) (sym d.rows) (kinds_carried schema c run.rows s.kinds brings);
      root = ap (λ l. is_live l 0) d.rows ∙ live_carried c run.rows 0 s.root;
    }

-- ---- closing

-- the rows with the open one closed are those behind all blocks
pub record Closes (schema : Schema) (start : List RowEntry) (p : Progress) (run : Run) : Type 0 where
  pub ran : run_of p start ≡ Ok (closed_rows run)
  pub rises : RisesFrom number_of 0 (closed_rows run)
  pub known : p.known ≡ kinds_of (closed_rows run)
  pub kinds : HasKinds schema (closed_rows run)
  pub root : is_live (closed_rows run) 0 ≡ true

-- the rows of a run rise
pub run_rises : (schema : Schema) (start : List RowEntry) (p : Progress) (run : Run) → Stands schema start p run → RisesFrom number_of 0 run.rows
run_rises schema start p run s = subst (RisesFrom number_of 0) (sym s.rows) (put_rises (named_in p s.all) run.who (emptied s.row) (named_rises (bare p.block.edits) s.all s.rises))

-- the open row closed
pub stands_closed : (schema : Schema) (start : List RowEntry) (p : Progress) (run : Run) → Stands schema start p run → Closes schema start p run
stands_closed schema start p run s =
    let named = named_in p s.all in
    let named_rise : RisesFrom number_of 0 named = named_rises (bare p.block.edits) s.all s.rises in
    let edited = closed (after_edits (bare p.block.edits) (opened s.row)) in
    let is : closed run.holder ≡ edited = ap closed s.body in
    let kind : emptied (closed run.holder) ≡ emptied s.row = ap emptied is ∙ edited_kind (bare p.block.edits) s.row in
    let there : row_at named p.block.holder ≡ Some s.row = ap (row_at named) s.holder ∙ s.there in
    let shut : closed_rows run ≡ put_row run.who edited named =
    ap (λ r. put_row run.who r run.rows) is ∙ (ap (put_row run.who edited) s.rows ∙ put_twice named run.who (emptied s.row) edited named_rise) in
    let applied : apply_edits (edits_of p.block ∷ []) s.all ≡ put_row run.who edited named = ap (with_edits (edits_of p.block) named) there ∙ ap (λ n. put_row n edited named) s.holder in
    let none : missed_by p.block s.all ≡ None = ap (option_and_then (λ r. missed_in p.block.edits (opened r))) there ∙ s.found in
    let rise : RisesFrom number_of 0 run.rows = run_rises schema start p run s in
    let known_open : row_at run.rows run.who ≡ Some run.kind = open_known schema start p run s in
    let fits : has_kind schema (closed run.holder) ≡ true =
    same_declared schema (closed run.holder) run.kind (kind ∙ (sym (emptied_twice s.row) ∙ ap emptied (sym s.kind))) ∙ s.kinds run.who run.kind known_open in
    record {
      ran = run_last p start s.all s.done ∙ (ap (λ o. run_or_miss o (Ok (apply_edits (edits_of p.block ∷ []) s.all))) none ∙ ap Ok (applied ∙ sym shut));
      rises = put_rises run.rows run.who (closed run.holder) rise;
      known = s.known ∙ sym (put_kind run.rows run.who run.kind (closed run.holder) rise known_open (kind ∙ (sym (emptied_twice s.row) ∙ ap emptied (sym s.kind))));
      kinds = kinds_put schema run.rows run.who (closed run.holder) s.kinds fits;
      root = live_put run.rows run.who 0 (closed run.holder) s.root;
    }
