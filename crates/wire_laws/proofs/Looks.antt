-- Rows on the way from old rows to new rows: some numbers have their new row, the others their old one; and new rows that were only named are empty.
use Rattle.std.proofs.Common.{◌≡◌, ℕ, Bool, true, false, cond, ◌||◌, List, ◌++◌, Option, Some, None, refl, sym, ap, ◌∙◌, ◌==◌}
use Rattle.std.specs.Prelude.{is_some}
use Rattle.std.proofs.lemmas.Bool.{eqb-true}
use Rattle.lists.specs.Rising.{RisesFrom}
use Rattle.state_model.specs.declared.row.Row.{Row}
use Rattle.state_model.specs.declared.row.RowEntry.{RowEntry}
use Rattle.state_model.specs.Rows.{number_of, row_at, is_live}
use Rattle.state_model.specs.Reached.{is_among}
use Rattle.state_laws.proofs.Numbers.{live_row, among_both}
use Rattle.wire_model.specs.Edits.{Edit, EditBlock}
use Rattle.wire_model.specs.Effect.{apply_block, edited_row, with_named}
use Rattle.wire_model.specs.Patch.{named_in, kind_in}
use Rattle.wire_laws.proofs.LinkedRows.{CarriesKinds, named_rows}
use Rattle.wire_laws.proofs.OneBlock.{block_rises, block_rows}

-- what stands under a number
abbrev pub looked : List RowEntry → List RowEntry → (ℕ → Bool) → List ℕ → ℕ → Option Row
looked old new worked named n =
    cond (worked n) (row_at new n) (cond (is_live old n) (row_at old n) (cond (is_among n named) (Some (kind_in new n)) None))

-- the rows are on the way: those that are worked are new rows
pub record Looks (old new now : List RowEntry) (worked : ℕ → Bool) (named : List ℕ) : Type 0 where
  pub rises : RisesFrom number_of 0 now
  pub rows : (n : ℕ) → row_at now n ≡ looked old new worked named n
  pub there : (n : ℕ) → worked n ≡ true → is_live new n ≡ true

-- one number more is worked
abbrev pub one_more : ℕ → (ℕ → Bool) → ℕ → Bool
one_more m worked n = (m == n) || worked n

-- an option with another in its stead, where it is none
or_else : Option Row → Option Row → Option Row
or_else x y = cond (is_some x) x y

pub some_of : (o : Option Row) → is_some o ≡ true → (r : Row) × (o ≡ Some r)
some_of None h = cc
some_of (Some r) h = (r, refl)

-- what stands under another number after a block
beside : (w live named more : Bool) (new_row old_row kind : Option Row) → (w ≡ true → is_some new_row ≡ true) → is_some old_row ≡ live → is_some kind ≡ true
    → (let before = cond w new_row (cond live old_row (cond named kind None)) in cond (is_some before) before (cond more kind None))
    ≡ cond w new_row (cond live old_row (cond (named || more) kind None))
beside true live named more new_row old_row kind there is k = let s = there refl in ap (λ b. cond b new_row (cond more kind None)) s
beside false true named more new_row old_row kind there is k = ap (λ b. cond b old_row (cond more kind None)) is
beside false false true more new_row old_row kind there is k = ap (λ b. cond b kind (cond more kind None)) k
beside false false false more new_row old_row kind there is k = refl

-- the rows that a block's operations name are there
pub named_looks : (old new now : List RowEntry) (worked : ℕ → Bool) (named : List ℕ) (edits : List Edit) (n : ℕ)
    → Looks old new now worked named → CarriesKinds new edits → row_at (with_named edits now) n ≡ looked old new worked (named ++ named_in edits) n
named_looks old new now worked named edits n l carries =
    named_rows new edits now n l.rises carries
    ∙ (ap (λ b. cond b (row_at now n) (cond (is_among n (named_in edits)) (Some (kind_in new n)) None)) (live_row now n)
    ∙ (ap (λ o. cond (is_some o) o (cond (is_among n (named_in edits)) (Some (kind_in new n)) None)) (l.rows n)
    ∙ (beside (worked n) (is_live old n) (is_among n named) (is_among n (named_in edits)) (row_at new n) (row_at old n) (Some (kind_in new n))
    (λ w. sym (live_row new n) ∙ l.there n w) (sym (live_row old n)) refl
    ∙ ap (λ b. cond (worked n) (row_at new n) (cond (is_live old n) (row_at old n) (cond b (Some (kind_in new n)) None))) (sym (among_both named (named_in edits) n)))))

-- the holder's row is the new one, the others are as they were
worked_more : (m n : ℕ) (w : Bool) (result : Row) (new_row rest : Option Row) → (m ≡ n → new_row ≡ Some result)
    → cond (m == n) (Some result) (cond w new_row rest) ≡ cond ((m == n) || w) new_row rest
worked_more m n w result new_row rest same =
    let go : (b : Bool) → (m == n) ≡ b → cond b (Some result) (cond w new_row rest) ≡ cond (b || w) new_row rest = elim [ true ↦ λ t. sym (same (eqb-true m n t)) | false ↦ λ t. refl ] in
    go (m == n) refl

pub there_more : (new : List RowEntry) (m n : ℕ) (w : Bool) (result : Row) → row_at new m ≡ Some result → (w ≡ true → is_live new n ≡ true) → ((m == n) || w) ≡ true → is_live new n ≡ true
there_more new m n w result is there h =
    let go : (b : Bool) → (m == n) ≡ b → (b || w) ≡ true → is_live new n ≡ true = elim [
      | true ↦ λ t k. ap (is_live new) (sym (eqb-true m n t)) ∙ (live_row new m ∙ ap is_some is)
      | false ↦ λ t k. there k
    ] in go (m == n) refl h

-- a block brings its holder to its new row
pub block_looks : (old new now : List RowEntry) (worked : ℕ → Bool) (named : List ℕ) (b : EditBlock) (before after : Row)
    → Looks old new now worked named → CarriesKinds new b.edits → looked old new worked (named ++ named_in b.edits) b.holder ≡ Some before
    → edited_row b.edits before ≡ after → row_at new b.holder ≡ Some after
    → Looks old new (apply_block now b) (one_more b.holder worked) (named ++ named_in b.edits)
block_looks old new now worked named b before after l carries holder leads is = record {
  rises = block_rises b now l.rises;
  rows = λ n.
      block_rows new b now before n l.rises carries (named_looks old new now worked named b.edits b.holder l carries ∙ holder)
      ∙ (ap (λ r. cond (b.holder == n) (Some r) (row_at (with_named b.edits now) n)) leads
      ∙ (ap (cond (b.holder == n) (Some after)) (named_looks old new now worked named b.edits n l carries)
      ∙ worked_more b.holder n (worked n) after (row_at new n) _ (λ e. ap (row_at new) (sym e) ∙ is)));
  there = λ n w. there_more new b.holder n (worked n) after is (l.there n) w;
}
