-- Bytes read step by step: what the rest of them comes to, from the rows of which one is open.
use Rattle.std.proofs.Common.{◌≡◌, ℕ, zero, suc, ◌+◌, ◌<◌, ◌≤◌, Bool, true, false, cond, not, ◌&&◌, ◌==◌, List, [], ◌∷◌, ◌++◌, length, Some, None, is_some, Result, Ok, Err, refl, sym, ap, ◌∙◌, inl, inr, arith}
use Rattle.std.specs.List.{list_all}
use Rattle.std.specs.Option.{option_map, option_map_or}
use Rattle.std.specs.Prelude.{option_and_then, nat_lt, ◌⊎◌}
use Rattle.std.proofs.lemmas.Bool.Decides.{nat_tests}
use Rattle.lists.specs.Rising.{RisesFrom, find}
use Rattle.lists.proofs.RisingLaws.{find_below}
use Rattle.schema_model.specs.Classes.{Schema, is_kept}
use Rattle.schema_model.proofs.FieldCounts.{and_no}
use Rattle.state_model.specs.declared.row.RowEntry.{RowEntry}
use Rattle.state_model.specs.Rows.{number_of, row_at, is_live, kinds_of}
use Rattle.state_model.specs.Sound.{has_kind}
use Rattle.state_model.specs.Reached.{freed}
use Rattle.state_laws.proofs.Numbers.{live_row, at_live}
use Rattle.state_laws.proofs.FreedLaw.{freed_rises}
use Rattle.state_laws.proofs.FreedParts.{freed_within, freed_root}
use Rattle.wire_model.specs.declared.op.Op.{Op}
use Rattle.wire_model.specs.declared.op.Step.{Step}
use Rattle.wire_model.specs.declared.op.Step.TheVariants.{Turn, Do}
use Rattle.wire_model.specs.declared.fault.OpFault.{OpFault}
use Rattle.wire_model.specs.declared.fault.OpFault.TheVariants.{Scalar, UnknownRef, UnknownField, UnknownType, UnknownOp, Unsupported, NoItem, WrongClass, Memory}
use Rattle.wire_model.specs.Effect.{opened, finds, carried_by, with_named, apply_edits}
use Rattle.wire_model.specs.Grammar.{PlacedEdit, Progress, with_edit, turned, did, after_step, advanced, reading_start, resolved, step_at}
use Rattle.wire_model.specs.Decoded.{decoded, edits_of, missed_in, missed_by, run_or_miss, ended_by}
use Rattle.wire_laws.proofs.EncodedKnown.{is_live-kinds_of}
use Rattle.wire_laws.proofs.LinkedRows.{with_carried}
use Rattle.wire_ops.specs.PlainEdits.{plain_edit}
use Rattle.op_reader.specs.Known.{is_holder}
use Rattle.patch_decoder.specs.declared.run.Run.{Run}
use Rattle.patch_decoder.specs.Decoders.{AreKnown}
use Rattle.patch_decoder.specs.Runs.{closed_rows, Opens, Does, DoesStep, Steps, Led, Leads}
use Rattle.patch_decoder.proofs.KindsRead.{step_same}
use Rattle.patch_decoder.proofs.ReadOn.{step_on}
use Rattle.patch_decoder.proofs.LinkKinds.{op_brings, turn_leads}
use Rattle.patch_decoder.proofs.Running.{bare, run_of, run_last, named_more, missed_here, carried_keeps, outcome, outcome_missed, outcome_ended, advanced_by}
use Rattle.patch_decoder.proofs.RowsPut.{HasKinds, same_finds}
use Rattle.patch_decoder.proofs.Standing.{Stands, named_in, stands_open, stands_done, stands_closed, open_known, open_kind, open_means, run_rises}

-- ---- rows of kinds of the schema

-- where all rows are of kinds of the schema, each is
kinds_each : (schema : Schema) (rows : List RowEntry) → list_all (λ (e : RowEntry). has_kind schema e.row) rows ≡ true → HasKinds schema rows
kinds_each schema [] h n r there = absurd (cc)
kinds_each schema (e ∷ es) h n r there =
    let parts : (a b : Bool) → (a && b) ≡ true → (a ≡ true) × (b ≡ true) = elim [ true ↦ λ b k. (refl, k) | false ↦ λ b k. absurd (cc) ] in
    let two = parts (has_kind schema e.row) (list_all (λ (e : RowEntry). has_kind schema e.row) es) h in
    let go : (b : Bool) → option_map (λ (e : RowEntry). e.row) (cond b (Some e) (find number_of n es)) ≡ Some r → has_kind schema r ≡ true = elim [
      | true ↦ λ is. let same : e.row ≡ r = cc in ap (has_kind schema) (sym same) ∙ two.0
      | false ↦ λ is. kinds_each schema es two.1 n r is
    ] in go (e.who == n) there

-- where each is, all are
kinds_all : (schema : Schema) (low : ℕ) (rows : List RowEntry) → RisesFrom number_of low rows → HasKinds schema rows → list_all (λ (e : RowEntry). has_kind schema e.row) rows ≡ true
kinds_all schema low [] rises kinds = refl
kinds_all schema low (e ∷ es) rises kinds =
    let self : (e.who == e.who) ≡ true = grind (arith, nat_tests) in
    let first : has_kind schema e.row ≡ true = kinds e.who e.row (ap (λ b. option_map (λ (e : RowEntry). e.row) (cond b (Some e) (find number_of e.who es))) self) in
    let rest : HasKinds schema es = λ n r there.
    let go : (b : Bool) → (e.who == n) ≡ b → option_map (λ (e : RowEntry). e.row) (cond b (Some e) (find number_of n es)) ≡ Some r = elim [
      | true ↦ λ is.
          let same : n ≡ e.who = grind (arith, nat_tests) in
          let none : row_at es n ≡ None = ap (option_map (λ (e : RowEntry). e.row)) (find_below number_of (suc e.who) es n rises.1 (omega arith)) in
          absurd (cc)
      | false ↦ λ is. there
    ] in kinds n r (go (e.who == n) refl) in
    ap (λ b. b && list_all (λ (e : RowEntry). has_kind schema e.row) es) first ∙ kinds_all schema (suc e.who) es rises.1 rest

-- what is left of known rows when what nothing holds is freed
pub freed_known : (schema : Schema) (rows : List RowEntry) → RisesFrom number_of 0 rows → AreKnown schema rows → AreKnown schema (freed rows)
freed_known schema rows rises known = record {
  root = live_row (freed rows) 0 ∙ (ap is_some (freed_root rows rises) ∙ (sym (live_row rows 0) ∙ known.root));
  kinds = kinds_all schema 0 (freed rows) (freed_rises rows rises) (λ n r there. kinds_each schema rows known.kinds n r (freed_within rows n r rises there));
}

-- ---- going on

-- the rows stand for what was read up to a place, and the rest of the bytes comes to what all of them come to
pub record Goes (schema : Schema) (start : List RowEntry) (bytes : List ℕ) (run : Run) (at : ℕ) : Type 0 where
  pub p : Progress
  pub left : ℕ
  pub enough : length bytes ≤ at + left
  pub place : p.at ≡ at
  pub comes : outcome schema bytes start left p ≡ decoded schema bytes start
  pub stands : Stands schema start p run

-- at the first byte
pub goes_first : (schema : Schema) (start : List RowEntry) (bytes : List ℕ) (run : Run) → AreKnown schema start → RisesFrom number_of 0 start → Opens start 0 run → Goes schema start bytes run 0
goes_first schema start bytes run known rises o =
    let root = at_live start 0 known.root in
    record {
      p = reading_start start;
      left = length bytes;
      enough = omega arith;
      place = refl;
      comes = refl;
      stands = stands_open schema start (reading_start start) run start 0 root.0 refl refl refl refl rises root.1 (kinds_each schema start known.kinds) known.root o;
    }

-- the holder is known
pub goes_holder : (schema : Schema) (start : List RowEntry) (bytes : List ℕ) (run : Run) (at : ℕ) → Goes schema start bytes run at → is_holder schema run.rows run.who ≡ true
goes_holder schema start bytes run at g =
    let there = open_known schema start g.p run g.stands in
    ap (λ o. option_map_or (has_kind schema) o false) there ∙ g.stands.kinds run.who run.kind there

-- and as what it is open as
pub goes_open : (schema : Schema) (start : List RowEntry) (bytes : List ℕ) (run : Run) (at : ℕ) → Goes schema start bytes run at → row_at run.rows run.who ≡ Some run.kind
goes_open schema start bytes run at g = open_known schema start g.p run g.stands

-- the step at the place, as reading takes it
step_read : (schema : Schema) (start : List RowEntry) (bytes : List ℕ) (run : Run) (at : ℕ) (g : Goes schema start bytes run at) → step_at schema g.p.known g.p.block.holder bytes g.p.at ≡ step_at schema run.rows run.who bytes at
step_read schema start bytes run at g =
    ap (λ k. step_at schema k g.p.block.holder bytes g.p.at) g.stands.known
    ∙ (ap (λ n. step_at schema (kinds_of run.rows) n bytes g.p.at) g.stands.holder ∙ (ap (step_at schema (kinds_of run.rows) run.who bytes) g.place ∙ step_same schema run.rows run.who bytes at))

-- what the rest comes to behind the step at the place
comes_behind : (schema : Schema) (start : List RowEntry) (bytes : List ℕ) (run : Run) (at : ℕ) (g : Goes schema start bytes run at) (r : Result (Step × ℕ) OpFault) → at < length bytes → step_at schema run.rows run.who bytes at ≡ r →
    (k : ℕ) × (length bytes ≤ at + suc k) × (outcome schema bytes start k (after_step schema g.p r) ≡ decoded schema bytes start)
comes_behind schema start bytes run at g r below is =
    let go : (left : ℕ) → length bytes ≤ at + left → outcome schema bytes start left g.p ≡ decoded schema bytes start →
    (k : ℕ) × (length bytes ≤ at + suc k) × (outcome schema bytes start k (after_step schema g.p r) ≡ decoded schema bytes start) = elim [
      | zero ↦ λ enough comes. absurd (omega arith)
      | suc k ↦ λ enough comes.
          let within : g.p.at < length bytes = omega (arith, g.place) in
          let step : advanced schema bytes g.p ≡ after_step schema g.p r = advanced_by schema bytes g.p within g.stands.fault ∙ ap (after_step schema g.p) (step_read schema start bytes run at g ∙ is) in
          (k, enough, ap (outcome schema bytes start k) (sym step) ∙ comes)
    ] in go g.left g.enough g.comes

-- behind a switch
turn_goes : (schema : Schema) (start : List RowEntry) (bytes : List ℕ) (run new : Run) (at n next : ℕ) → Goes schema start bytes run at → at < length bytes → is_kept schema ≡ true →
    step_at schema run.rows run.who bytes at ≡ Ok (Turn n, next) → Opens (closed_rows run) n new → Goes schema start bytes new next
turn_goes schema start bytes run new at n next g below kept read o =
    let behind = comes_behind schema start bytes run at g (Ok (Turn n, next)) below read in
    let on : at < next = step_on schema run.rows run.who bytes at (Turn n) next read in
    let shut = stands_closed schema start g.p run g.stands in
    let known : is_some (row_at (kinds_of run.rows) n) ≡ true = turn_leads schema (kinds_of run.rows) run.who run.kind bytes at n next kept (open_kind schema start g.p run g.stands) (step_same schema run.rows run.who bytes at ∙ read) in
    let same : kinds_of run.rows ≡ kinds_of (closed_rows run) = sym g.stands.known ∙ shut.known in
    let live : is_live (closed_rows run) n ≡ true = sym (is_live-kinds_of (closed_rows run) n) ∙ (live_row (kinds_of (closed_rows run)) n ∙ (ap (λ l. is_some (row_at l n)) (sym same) ∙ known)) in
    let there = at_live (closed_rows run) n live in
    record {
      p = turned g.p n next;
      left = behind.0;
      enough = omega (arith, behind.1);
      place = refl;
      comes = behind.2;
      stands = stands_open schema start (turned g.p n next) new (closed_rows run) n there.0 refl refl shut.known shut.ran shut.rises there.1 shut.kinds shut.root o;
    }

-- behind an operation
op_goes : (schema : Schema) (start : List RowEntry) (bytes : List ℕ) (run new : Run) (at : ℕ) (o : Op) (next : ℕ) → Goes schema start bytes run at → at < length bytes → is_kept schema ≡ true →
    step_at schema run.rows run.who bytes at ≡ Ok (Do o, next) → Does schema o run new → Goes schema start bytes new next
op_goes schema start bytes run new at o next g below kept read d =
    let behind = comes_behind schema start bytes run at g (Ok (Do o, next)) below read in
    let on : at < next = step_on schema run.rows run.who bytes at (Do o) next read in
    let e = resolved schema (kinds_of run.rows) run.kind o in
    let means = open_means schema start g.p run o g.stands in
    let brings = op_brings schema (kinds_of run.rows) run.who run.kind bytes at o next kept (open_kind schema start g.p run g.stands) (step_same schema run.rows run.who bytes at ∙ read) in
    record {
      p = did g.p e next;
      left = behind.0;
      enough = omega (arith, behind.1);
      place = refl;
      comes = ap (λ e. outcome schema bytes start behind.0 (did g.p e next)) (sym means) ∙ behind.2;
      stands = stands_done schema start g.p run new o next g.stands d brings (run_rises schema start g.p run g.stands);
    }

-- behind a step
pub goes_on : (schema : Schema) (start : List RowEntry) (bytes : List ℕ) (run new : Run) (at next : ℕ) → is_kept schema ≡ true → Goes schema start bytes run at → at < length bytes → Steps schema bytes at run new (Ok next) →
    Goes schema start bytes new next
goes_on schema start bytes run new at next kept g below s =
    let go : (x : Step) → step_at schema run.rows run.who bytes at ≡ Ok (x, next) → DoesStep schema x run new → Goes schema start bytes new next = elim [
      | Turn n ↦ λ read d. turn_goes schema start bytes run new at n next g below kept read d
      | Do o ↦ λ read d. op_goes schema start bytes run new at o next g below kept read d
    ] in go s.0 s.1 s.2

-- a step that is done ends further on
pub steps_on : (schema : Schema) (bytes : List ℕ) (run new : Run) (at next : ℕ) → Steps schema bytes at run new (Ok next) → at < next
steps_on schema bytes run new at next s = step_on schema run.rows run.who bytes at s.0 next s.1

-- ---- faults

-- a fault of reading
read_fails : (schema : Schema) (start : List RowEntry) (bytes : List ℕ) (run : Run) (at : ℕ) (f : OpFault) → Goes schema start bytes run at → at < length bytes → step_at schema run.rows run.who bytes at ≡ Err f → decoded schema bytes start ≡ Err f
read_fails schema start bytes run at f g below read =
    let behind = comes_behind schema start bytes run at g (Err f) below read in
    let shut = stands_closed schema start g.p run g.stands in
    sym behind.2 ∙ (outcome_ended schema bytes start behind.0 (after_step schema g.p (Err f)) (and_no (nat_lt g.p.at (length bytes))) ∙ ap (ended_by (Some f)) shut.ran)

-- an item that is missed
op_misses : (schema : Schema) (start : List RowEntry) (bytes : List ℕ) (run : Run) (at : ℕ) (o : Op) (next : ℕ) (f : OpFault) → Goes schema start bytes run at → at < length bytes →
    step_at schema run.rows run.who bytes at ≡ Ok (Do o, next) → f ≡ NoItem (at + 1) → finds (plain_edit o) run.holder ≡ false → decoded schema bytes start ≡ Err f
op_misses schema start bytes run at o next f g below read is missed =
    let behind = comes_behind schema start bytes run at g (Ok (Do o, next)) below read in
    let s = g.stands in
    let p = g.p in
    let e = resolved schema (kinds_of run.rows) run.kind o in
    let x : PlacedEdit = record { edit = e; number_place = p.at + 1 } in
    let means = open_means schema start p run o s in
    let named = named_in p s.all in
    let more : with_named (bare (p.block.edits ++ x ∷ [])) s.all ≡ with_carried (carried_by e) named = named_more p.block.edits x s.all in
    let there : row_at (with_named (bare (p.block.edits ++ x ∷ [])) s.all) p.block.holder ≡ Some s.row =
    ap (λ l. row_at l p.block.holder) more ∙ (ap (row_at (with_carried (carried_by e) named)) s.holder ∙ carried_keeps (carried_by e) named run.who s.row s.there) in
    let here : missed_in (p.block.edits ++ x ∷ []) (opened s.row) ≡ Some (p.at + 1) =
    missed_here p.block.edits x (opened s.row) s.found (ap (finds e) (sym s.body) ∙ (sym (same_finds schema (kinds_of run.rows) run.kind o run.holder) ∙ missed)) in
    let by : missed_by (with_edit p.block e (p.at + 1)) s.all ≡ Some (p.at + 1) = ap (option_and_then (λ r. missed_in (p.block.edits ++ x ∷ []) (opened r))) there ∙ here in
    let fails : run_of (did p e next) start ≡ Err f =
    run_last (did p e next) start s.all s.done ∙ (ap (λ m. run_or_miss m (Ok (apply_edits (edits_of (with_edit p.block e (p.at + 1)) ∷ []) s.all))) by ∙ (ap (λ n. Err (NoItem (n + 1))) g.place ∙ ap Err (sym is))) in
    sym (ap (λ e. outcome schema bytes start behind.0 (did p e next)) (sym means) ∙ behind.2) ∙ outcome_missed schema bytes start behind.0 (did p e next) f fails

-- either fault of a step
fails_at : (schema : Schema) (start : List RowEntry) (bytes : List ℕ) (run : Run) (at : ℕ) (f : OpFault) → Goes schema start bytes run at → at < length bytes →
    ((step_at schema run.rows run.who bytes at ≡ Err f)
    ⊎ ((o : Op) × (next : ℕ) × (step_at schema run.rows run.who bytes at ≡ Ok (Do o, next)) × (f ≡ NoItem (at + 1)) × (finds (plain_edit o) run.holder ≡ false))) → decoded schema bytes start ≡ Err f
fails_at schema start bytes run at f g below (inl read) = read_fails schema start bytes run at f g below read
fails_at schema start bytes run at f g below (inr m) = op_misses schema start bytes run at m.0 m.1 f g below m.2 m.3 m.4

-- a step that fails, fails as all of the bytes do
pub goes_wrong : (schema : Schema) (start : List RowEntry) (bytes : List ℕ) (run new : Run) (at : ℕ) (f : OpFault) → Goes schema start bytes run at → at < length bytes → Steps schema bytes at run new (Err f) → Leads schema start bytes (Err f)
goes_wrong schema start bytes run new at Memory g below s = tt
goes_wrong schema start bytes run new at (Scalar x) g below s = fails_at schema start bytes run at (Scalar x) g below s
goes_wrong schema start bytes run new at (UnknownRef x) g below s = fails_at schema start bytes run at (UnknownRef x) g below s
goes_wrong schema start bytes run new at (UnknownField x) g below s = fails_at schema start bytes run at (UnknownField x) g below s
goes_wrong schema start bytes run new at (UnknownType x) g below s = fails_at schema start bytes run at (UnknownType x) g below s
goes_wrong schema start bytes run new at (UnknownOp x y) g below s = fails_at schema start bytes run at (UnknownOp x y) g below s
goes_wrong schema start bytes run new at (Unsupported x y) g below s = fails_at schema start bytes run at (Unsupported x y) g below s
goes_wrong schema start bytes run new at (NoItem x) g below s = fails_at schema start bytes run at (NoItem x) g below s
goes_wrong schema start bytes run new at (WrongClass x) g below s = fails_at schema start bytes run at (WrongClass x) g below s

-- ---- the end

-- at the end of the bytes
pub goes_out : (schema : Schema) (start : List RowEntry) (bytes : List ℕ) (run : Run) (at : ℕ) → Goes schema start bytes run at → length bytes ≤ at → Led schema start bytes run
goes_out schema start bytes run at g past =
    let shut = stands_closed schema start g.p run g.stands in
    let behind : nat_lt g.p.at (length bytes) ≡ false = grind (arith, nat_tests, g.place) in
    let ended : (nat_lt g.p.at (length bytes) && not (is_some g.p.fault)) ≡ false = ap (λ b. b && not (is_some g.p.fault)) behind in
    record {
      decoded = sym g.comes ∙ (outcome_ended schema bytes start g.left g.p ended ∙ (ap (λ o. ended_by o (run_of g.p start)) g.stands.fault ∙ ap (ended_by None) shut.ran));
      rises = shut.rises;
      known = record { root = shut.root; kinds = kinds_all schema 0 (closed_rows run) shut.rises shut.kinds };
    }
