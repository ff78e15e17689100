-- Blocks that were read, run one behind another; a missed item stays missed, whatever is read behind it.
use Rattle.std.proofs.Common.{◌≡◌, ℕ, zero, suc, ◌+◌, ◌<◌, Bool, true, false, cond, not, ◌&&◌, ◌==◌, List, [], ◌∷◌, ◌++◌, length, map, Option, Some, None, is_some, Result, Ok, Err, refl, sym, ap, ◌∙◌, arith}
use Rattle.std.specs.List.{fold}
use Rattle.std.specs.Option.{option_map_or}
use Rattle.std.specs.Prelude.{option_and_then, nat_lt}
use Rattle.std.proofs.lemmas.Bool.Decides.{nat_tests}
use Rattle.schema_model.specs.Classes.{Schema}
use Rattle.state_model.specs.declared.row.Row.{Row}
use Rattle.state_model.specs.declared.row.Row.TheVariants as row
use Rattle.state_model.specs.declared.row.RowEntry.{RowEntry}
use Rattle.state_model.specs.Rows.{row_at, is_live, put_row}
use Rattle.state_model.specs.Reached.{times}
use Rattle.state_laws.proofs.Numbers.{live_at}
use Rattle.wire_model.specs.declared.op.Step.{Step}
use Rattle.wire_model.specs.declared.op.Step.TheVariants.{Turn, Do}
use Rattle.wire_model.specs.declared.fault.OpFault.{OpFault}
use Rattle.wire_model.specs.Edits.{Edit, Carried, Plain, Linked}
use Rattle.wire_model.specs.Effect.{Body, opened, effect, finds, carried_by, with_named, apply_edits}
use Rattle.wire_model.specs.Grammar.{ReadBlock, PlacedEdit, Progress, with_edit, turned, after_step, advanced, resolved, step_at}
use Rattle.wire_model.specs.Decoded.{edits_of, missed_in, missed_by, run_or_miss, run_blocks, ended_by}
use Rattle.wire_laws.proofs.LinkedRows.{with_carried, row_at-put_row}

-- ---- one operation more

-- the edits without their places
abbrev pub bare : List PlacedEdit → List Edit
bare es = map (λ (e : PlacedEdit). e.edit) es

-- what a body is after edits
abbrev pub after_edits : List Edit → Body → Body
after_edits es body = fold (λ body e. effect e body) body es

-- what a body is after one operation more
pub bodies_more : (es : List PlacedEdit) (e : PlacedEdit) (body : Body) → after_edits (bare (es ++ e ∷ [])) body ≡ effect e.edit (after_edits (bare es) body)
bodies_more [] e body = refl
bodies_more (x ∷ es) e body = bodies_more es e (effect x.edit body)

-- the rows with those that one operation more names
pub named_more : (es : List PlacedEdit) (e : PlacedEdit) (rows : List RowEntry) → with_named (bare (es ++ e ∷ [])) rows ≡ with_carried (carried_by e.edit) (with_named (bare es) rows)
named_more [] e rows = refl
named_more (x ∷ es) e rows = named_more es e (with_carried (carried_by x.edit) rows)

-- the first that is there
abbrev first_of : Option ℕ → Option ℕ → Option ℕ
first_of (Some place) o = Some place
first_of None o = o

-- the first item that is missed with one operation more
missed_more : (es : List PlacedEdit) (e : PlacedEdit) (body : Body) → missed_in (es ++ e ∷ []) body ≡ first_of (missed_in es body) (cond (finds e.edit (after_edits (bare es) body)) None (Some e.number_place))
missed_more [] e body = refl
missed_more (x ∷ es) e body =
    let go : (b : Bool) → cond b (missed_in (es ++ e ∷ []) (effect x.edit body)) (Some x.number_place)
    ≡ first_of (cond b (missed_in es (effect x.edit body)) (Some x.number_place)) (cond (finds e.edit (after_edits (bare es) (effect x.edit body))) None (Some e.number_place)) = elim [
      | true ↦ missed_more es e (effect x.edit body)
      | false ↦ refl
    ] in go (finds x.edit body)

-- an operation that finds its item behind ones that found theirs
pub missed_found : (es : List PlacedEdit) (e : PlacedEdit) (body : Body) → missed_in es body ≡ None → finds e.edit (after_edits (bare es) body) ≡ true → missed_in (es ++ e ∷ []) body ≡ None
missed_found es e body none found = missed_more es e body ∙ (ap (λ o. first_of o (cond (finds e.edit (after_edits (bare es) body)) None (Some e.number_place))) none ∙ ap (λ b. cond b None (Some e.number_place)) found)

-- an operation that misses its item behind ones that found theirs
pub missed_here : (es : List PlacedEdit) (e : PlacedEdit) (body : Body) → missed_in es body ≡ None → finds e.edit (after_edits (bare es) body) ≡ false → missed_in (es ++ e ∷ []) body ≡ Some e.number_place
missed_here es e body none missed = missed_more es e body ∙ (ap (λ o. first_of o (cond (finds e.edit (after_edits (bare es) body)) None (Some e.number_place))) none ∙ ap (λ b. cond b None (Some e.number_place)) missed)

-- an item that was missed before
missed_before : (es : List PlacedEdit) (e : PlacedEdit) (body : Body) (place : ℕ) → missed_in es body ≡ Some place → missed_in (es ++ e ∷ []) body ≡ Some place
missed_before es e body place missed = missed_more es e body ∙ ap (λ o. first_of o (cond (finds e.edit (after_edits (bare es) body)) None (Some e.number_place))) missed

-- a row stays where another one is linked
pub carried_keeps : (o : Option Carried) (rows : List RowEntry) (n : ℕ) (r : Row) → row_at rows n ≡ Some r → row_at (with_carried o rows) n ≡ Some r
carried_keeps None rows n r h = h
carried_keeps (Some (Plain k s)) rows n r h = h
carried_keeps (Some (Linked j empty)) rows n r h =
    let go : (b : Bool) → is_live rows j ≡ b → row_at (cond b rows (put_row j empty rows)) n ≡ Some r = elim [
      | true ↦ λ live. h
      | false ↦ λ live.
          let by : (b : Bool) → (j == n) ≡ b → cond b (Some empty) (row_at rows n) ≡ Some r = elim [
            | true ↦ λ e. let same : j ≡ n = grind (arith, nat_tests) in let there : is_live rows j ≡ true = ap (is_live rows) same ∙ live_at rows n r h in absurd (cc)
            | false ↦ λ e. h
          ] in row_at-put_row j empty rows n ∙ by (j == n) refl
    ] in go (is_live rows j) refl

-- a block in which an item is missed, with one more operation
block_misses : (b : ReadBlock) (e : Edit) (pl : ℕ) (rows : List RowEntry) (place : ℕ) → missed_by b rows ≡ Some place → missed_by (with_edit b e pl) rows ≡ Some place
block_misses b e pl rows place h =
    let x : PlacedEdit = record { edit = e; number_place = pl } in
    let go : (o : Option Row) → row_at (with_named (bare b.edits) rows) b.holder ≡ o → option_and_then (λ r. missed_in b.edits (opened r)) o ≡ Some place → missed_by (with_edit b e pl) rows ≡ Some place = elim [
      | None ↦ λ is m. absurd (cc)
      | Some r ↦ λ is m.
          let there : row_at (with_named (bare (b.edits ++ x ∷ [])) rows) b.holder ≡ Some r =
          ap (λ l. row_at l b.holder) (named_more b.edits x rows) ∙ carried_keeps (carried_by e) (with_named (bare b.edits) rows) b.holder r is in
          ap (option_and_then (λ r. missed_in (b.edits ++ x ∷ []) (opened r))) there ∙ missed_before b.edits x (opened r) place m
    ] in go (row_at (with_named (bare b.edits) rows) b.holder) refl h

-- ---- blocks

-- blocks run behind others
abbrev pub run_on : List ReadBlock → Result (List RowEntry) OpFault → Result (List RowEntry) OpFault
run_on bs (Ok rows) = run_blocks bs rows
run_on bs (Err f) = Err f

-- blocks behind others run on from what those come to
pub run_both : (bs cs : List ReadBlock) (rows : List RowEntry) → run_blocks (bs ++ cs) rows ≡ run_on cs (run_blocks bs rows)
run_both [] cs rows = refl
run_both (b ∷ bs) cs rows =
    let after = apply_edits (edits_of b ∷ []) rows in
    let go : (o : Option ℕ) → run_or_miss o (run_blocks (bs ++ cs) after) ≡ run_on cs (run_or_miss o (run_blocks bs after)) = elim [
      | None ↦ run_both bs cs after
      | Some place ↦ refl
    ] in go (missed_by b rows)

-- what blocks that were read come to, with that of the holder
abbrev pub run_of : Progress → List RowEntry → Result (List RowEntry) OpFault
run_of p rows = run_blocks (p.done ++ p.block ∷ []) rows

-- the same from the rows behind the blocks before it
pub run_last : (p : Progress) (rows all : List RowEntry) → run_blocks p.done rows ≡ Ok all → run_of p rows ≡ run_or_miss (missed_by p.block all) (Ok (apply_edits (edits_of p.block ∷ []) all))
run_last p rows all done = run_both p.done (p.block ∷ []) rows ∙ ap (run_on (p.block ∷ [])) done

-- with one operation more
edit_fails : (done : List ReadBlock) (b : ReadBlock) (e : Edit) (pl : ℕ) (rows : List RowEntry) (f : OpFault) → run_blocks (done ++ b ∷ []) rows ≡ Err f → run_blocks (done ++ with_edit b e pl ∷ []) rows ≡ Err f
edit_fails done b e pl rows f h =
    let go : (r : Result (List RowEntry) OpFault) → run_on (b ∷ []) r ≡ Err f → run_on (with_edit b e pl ∷ []) r ≡ Err f = elim [
      | Err g ↦ λ k. k
      | Ok all ↦ λ k.
          let more = apply_edits (edits_of (with_edit b e pl) ∷ []) all in
          let by : (o : Option ℕ) → missed_by b all ≡ o → run_or_miss o (Ok (apply_edits (edits_of b ∷ []) all)) ≡ Err f → run_or_miss (missed_by (with_edit b e pl) all) (Ok more) ≡ Err f = elim [
            | None ↦ λ is m. absurd (cc)
            | Some place ↦ λ is m. ap (λ o. run_or_miss o (Ok more)) (block_misses b e pl all place is) ∙ m
          ] in by (missed_by b all) refl k
    ] in run_both done (with_edit b e pl ∷ []) rows ∙ go (run_blocks done rows) (sym (run_both done (b ∷ []) rows) ∙ h)

-- behind a switch
turn_fails : (p : Progress) (n next : ℕ) (rows : List RowEntry) (f : OpFault) → run_of p rows ≡ Err f → run_of (turned p n next) rows ≡ Err f
turn_fails p n next rows f h = run_both (p.done ++ p.block ∷ []) ((turned p n next).block ∷ []) rows ∙ ap (run_on ((turned p n next).block ∷ [])) h

-- where an item was missed, it stays missed
step_fails : (schema : Schema) (p : Progress) (r : Result (Step × ℕ) OpFault) (rows : List RowEntry) (f : OpFault) → run_of p rows ≡ Err f → run_of (after_step schema p r) rows ≡ Err f
step_fails schema p (Err g) rows f h = h
step_fails schema p (Ok (Turn n, next)) rows f h = turn_fails p n next rows f h
step_fails schema p (Ok (Do o, next)) rows f h =
    edit_fails p.done p.block (resolved schema p.known (option_map_or (λ r. r) (row_at p.known p.block.holder) (row.Struct 0 [])) o) (p.at + 1) rows f h

-- after any step
advance_fails : (schema : Schema) (bytes : List ℕ) (p : Progress) (rows : List RowEntry) (f : OpFault) → run_of p rows ≡ Err f → run_of (advanced schema bytes p) rows ≡ Err f
advance_fails schema bytes p rows f h =
    let go : (b : Bool) → run_of (cond b (after_step schema p (step_at schema p.known p.block.holder bytes p.at)) p) rows ≡ Err f = elim [
      | true ↦ step_fails schema p (step_at schema p.known p.block.holder bytes p.at) rows f h
      | false ↦ h
    ] in go (nat_lt p.at (length bytes) && not (is_some p.fault))

-- ---- what reading comes to

-- what so many more steps come to
abbrev pub outcome : Schema → List ℕ → List RowEntry → ℕ → Progress → Result (List RowEntry) OpFault
outcome schema bytes rows k p = ended_by (times k (advanced schema bytes) p).fault (run_of (times k (advanced schema bytes) p) rows)

-- a missed item stands before a fault of reading
missed_end : (o : Option OpFault) (r : Result (List RowEntry) OpFault) (f : OpFault) → r ≡ Err f → ended_by o r ≡ Err f
missed_end None r f h = ap (ended_by None) h
missed_end (Some g) r f h = ap (ended_by (Some g)) h

-- a missed item
pub outcome_missed : (schema : Schema) (bytes : List ℕ) (rows : List RowEntry) (k : ℕ) (p : Progress) (f : OpFault) → run_of p rows ≡ Err f → outcome schema bytes rows k p ≡ Err f
outcome_missed schema bytes rows zero p f h = missed_end p.fault (run_of p rows) f h
outcome_missed schema bytes rows (suc k) p f h = outcome_missed schema bytes rows k (advanced schema bytes p) f (advance_fails schema bytes p rows f h)

-- where reading ended, no step changes anything
pub outcome_ended : (schema : Schema) (bytes : List ℕ) (rows : List RowEntry) (k : ℕ) (p : Progress) → (nat_lt p.at (length bytes) && not (is_some p.fault)) ≡ false → outcome schema bytes rows k p ≡ ended_by p.fault (run_of p rows)
outcome_ended schema bytes rows zero p h = refl
outcome_ended schema bytes rows (suc k) p h =
    let stays : advanced schema bytes p ≡ p = ap (λ b. cond b (after_step schema p (step_at schema p.known p.block.holder bytes p.at)) p) h in
    ap (outcome schema bytes rows k) stays ∙ outcome_ended schema bytes rows k p h

-- a step, where bytes are left and there was no fault
pub advanced_by : (schema : Schema) (bytes : List ℕ) (p : Progress) → p.at < length bytes → p.fault ≡ None → advanced schema bytes p ≡ after_step schema p (step_at schema p.known p.block.holder bytes p.at)
advanced_by schema bytes p below none =
    let goes : nat_lt p.at (length bytes) ≡ true = grind (arith, nat_tests) in
    ap (λ b. cond (b && not (is_some p.fault)) (after_step schema p (step_at schema p.known p.block.holder bytes p.at)) p) goes
    ∙ ap (λ o. cond (not (is_some o)) (after_step schema p (step_at schema p.known p.block.holder bytes p.at)) p) none
