-- The blocks of the numbers that old and new rows both have, one after another.
use Rattle.std.proofs.Common.{◌≡◌, ◌≤◌, ℕ, suc, Bool, true, false, cond, ◌||◌, ◌&&◌, List, [], ◌∷◌, ◌++◌, Option, Some, None, refl, sym, ap, subst, ◌∙◌, ◌==◌, arith, append_assoc, append-nil}
use Rattle.std.specs.Prelude.{is_some}
use Rattle.std.specs.List.{flat_map}
use Rattle.std.proofs.lemmas.Bool.{eqb-true}
use Rattle.std.proofs.lemmas.Grind.{flat_map-append}
use Rattle.std.proofs.lemmas.Bool.Decides.{nat_tests}
use Rattle.lists.specs.Rising.{RisesFrom}
use Rattle.schema_model.specs.Classes.{Schema}
use Rattle.state_model.specs.declared.row.Row.{Row}
use Rattle.state_model.specs.declared.row.RowEntry.{RowEntry}
use Rattle.state_model.specs.Rows.{number_of, row_at, is_live, held_in}
use Rattle.state_model.specs.Places.{same_kind}
use Rattle.state_model.specs.Reached.{is_among}
use Rattle.state_laws.proofs.Numbers.{live_row}
use Rattle.wire_model.specs.Edits.{Edit, EditBlock}
use Rattle.wire_model.specs.Effect.{apply_block, apply_edits, edited_row}
use Rattle.wire_model.specs.Patch.{named_in, named_by_blocks, row_edits, block_of, common_block, kind_in}
use Rattle.wire_laws.proofs.Forms.{IsFormed, SameKeys}
use Rattle.wire_laws.proofs.LinkedRows.{CarriesKinds, row_carries}
use Rattle.wire_laws.proofs.RowLaw.{row_law}
use Rattle.wire_laws.proofs.Looks.{Looks, looked, one_more, block_looks, there_more}
use Rattle.wire_laws.proofs.EditSteps.{closed_opened}

-- old and new rows, each row of its form; what both have is of one kind; links lead to rows that are there
pub record Ready (schema : Schema) (old new : List RowEntry) : Type 0 where
  pub old_rise : RisesFrom number_of 0 old
  pub new_rise : RisesFrom number_of 0 new
  pub old_root : is_live old 0 ≡ true
  pub new_root : is_live new 0 ≡ true
  pub old_formed : (n : ℕ) (r : Row) → row_at old n ≡ Some r → IsFormed schema r
  pub new_formed : (n : ℕ) (r : Row) → row_at new n ≡ Some r → IsFormed schema r
  pub old_links : (n m : ℕ) (r : Row) → row_at old n ≡ Some r → is_among m (held_in r) ≡ true → is_live old m ≡ true
  pub new_links : (n m : ℕ) (r : Row) → row_at new n ≡ Some r → is_among m (held_in r) ≡ true → is_live new m ≡ true
  pub kinds : (n : ℕ) (a b : Row) → row_at old n ≡ Some a → row_at new n ≡ Some b → same_kind a b ≡ true
  pub keys : (n : ℕ) (a b : Row) → row_at old n ≡ Some a → row_at new n ≡ Some b → SameKeys a b

-- the operations lead from the old row to the new one
leads_to : (schema : Schema) (old new : List RowEntry) (n : ℕ) (a b : Row) → Ready schema old new → row_at old n ≡ Some a → row_at new n ≡ Some b → edited_row (row_edits schema new a b) a ≡ b
leads_to schema old new n a b r is_old is_new =
    row_law schema new a b (r.kinds n a b is_old is_new) (r.old_formed n a is_old) (r.new_formed n b is_new) (r.keys n a b is_old is_new)

-- ---- one number

-- a number that isn't worked and that old rows have looks as there
pub looks_old : (old new : List RowEntry) (worked : ℕ → Bool) (named : List ℕ) (n : ℕ) (a : Row) → worked n ≡ false → row_at old n ≡ Some a → looked old new worked named n ≡ Some a
looks_old old new worked named n a fresh is =
    let rest : Option Row = cond (is_among n named) (Some (kind_in new n)) None in
    ap (λ w. cond w (row_at new n) (cond (is_live old n) (row_at old n) rest)) fresh ∙ (ap (λ b. cond b (row_at old n) rest) (live_row old n ∙ ap is_some is) ∙ is)

-- one number more is worked, which looks as in the new rows already
pub looks_more : (n k : ℕ) (w : Bool) (new_row rest : Option Row) → (n ≡ k → cond w new_row rest ≡ new_row) → cond w new_row rest ≡ cond ((n == k) || w) new_row rest
looks_more n k w new_row rest same =
    let go : (b : Bool) → (n == k) ≡ b → cond w new_row rest ≡ cond (b || w) new_row rest = elim [ true ↦ λ t. same (eqb-true n k t) | false ↦ λ t. refl ] in
    go (n == k) refl

-- what is worked may be told in another way
pub looks_same : (old new now : List RowEntry) (v w : ℕ → Bool) (named more : List ℕ) → Looks old new now v named → ((n : ℕ) → v n ≡ w n) → named ≡ more → Looks old new now w more
looks_same old new now v w named more l same is = record {
  rises = l.rises;
  rows = λ n.
      l.rows n
      ∙ (ap (λ b. cond b (row_at new n) (cond (is_live old n) (row_at old n) (cond (is_among n named) (Some (kind_in new n)) None))) (same n)
      ∙ ap (λ ns. cond (w n) (row_at new n) (cond (is_live old n) (row_at old n) (cond (is_among n ns) (Some (kind_in new n)) None))) is);
  there = λ n h. l.there n (same n ∙ h);
}

-- no operation: the row is the new one already
pub already : (old new now : List RowEntry) (worked : ℕ → Bool) (named : List ℕ) (n : ℕ) (a : Row)
    → Looks old new now worked named → looked old new worked named n ≡ Some a → row_at new n ≡ Some a → Looks old new now (one_more n worked) named
already old new now worked named n a l is is_new = record {
  rises = l.rises;
  rows = λ k.
      l.rows k ∙ looks_more n k (worked k) (row_at new k) _ (λ e. ap (looked old new worked named) (sym e) ∙ (is ∙ (sym is_new ∙ ap (row_at new) e)));
  there = λ k h. there_more new n k (worked k) a is_new (l.there k) h;
}

-- the block of one number, where both have it
pub one_block : (schema : Schema) (old new now : List RowEntry) (worked : ℕ → Bool) (named : List ℕ) (n : ℕ) (a b : Row) (es : List Edit)
    → Ready schema old new → Looks old new now worked named → worked n ≡ false → row_at old n ≡ Some a → row_at new n ≡ Some b → row_edits schema new a b ≡ es
    → Looks old new (apply_edits (block_of n es) now) (one_more n worked) (named ++ named_in es)
one_block schema old new now worked named n a b [] r l fresh is_old is_new edits =
    let leads = leads_to schema old new n a b r is_old is_new in
    let same : a ≡ b = sym (ap (λ es. edited_row es a) edits ∙ closed_opened a) ∙ leads in
    looks_same old new now (one_more n worked) (one_more n worked) named (named ++ [])
    (already old new now worked named n a l (looks_old old new worked named n a fresh is_old) (is_new ∙ ap Some (sym same))) (λ k. refl) (sym (append-nil named))
one_block schema old new now worked named n a b (e ∷ es) r l fresh is_old is_new edits =
    let leads = leads_to schema old new n a b r is_old is_new in
    block_looks old new now worked named (record { holder = n; edits = e ∷ es }) a b l
    (subst (CarriesKinds new) edits (row_carries schema new a b)) (looks_old old new worked (named ++ named_in (e ∷ es)) n a fresh is_old)
    (ap (λ es. edited_row es a) (sym edits) ∙ leads) is_new

-- ---- all numbers that both have

-- the blocks of some of the new rows
abbrev pub blocks_for : Schema → List RowEntry → List RowEntry → List RowEntry → List EditBlock
blocks_for schema old new es = flat_map (λ (e : RowEntry). common_block schema new e (row_at old e.who)) es

-- these are rows of the new ones
abbrev pub AreAmong : List RowEntry → List RowEntry → Type 0
AreAmong new [] = Unit {0}
AreAmong new (e ∷ es) = (row_at new e.who ≡ Some e.row) × AreAmong new es

-- a block names what its operations name
pub named_block : (n : ℕ) (es : List Edit) → named_by_blocks (block_of n es) ≡ named_in es
named_block n [] = refl
named_block n (e ∷ es) = append-nil (named_in (e ∷ es))

pub named_both : (n : ℕ) (es : List Edit) (bs : List EditBlock) → named_by_blocks (block_of n es ++ bs) ≡ named_in es ++ named_by_blocks bs
named_both n es bs = flat_map-append (λ (b : EditBlock). named_in b.edits) (block_of n es) bs ∙ ap (λ ns. ns ++ named_by_blocks bs) (named_block n es)

pub fold-append_blocks : (xs ys : List EditBlock) (rows : List RowEntry) → apply_edits (xs ++ ys) rows ≡ apply_edits ys (apply_edits xs rows)
fold-append_blocks [] ys rows = refl
fold-append_blocks (x ∷ xs) ys rows = fold-append_blocks xs ys (apply_block rows x)

-- what is worked, with one number more
joined_worked : (here there live w : Bool) → (here ≡ true → live ≡ true) → ((there && live) || (here || w)) ≡ (((here || there) && live) || w)
joined_worked true true true w h = refl
joined_worked true false true w h = refl
joined_worked true there false w h = let e = h refl in cc
joined_worked false there live w h = refl

not_yet : (n k : ℕ) (w : Bool) → suc n ≤ k → w ≡ false → ((n == k) || w) ≡ false
not_yet n k w h f = grind (arith, nat_tests)

skipped_worked : (here there live w : Bool) → (here ≡ true → live ≡ false) → ((there && live) || w) ≡ (((here || there) && live) || w)
skipped_worked true there true w h = let e = h refl in cc
skipped_worked true true false w h = refl
skipped_worked true false false w h = refl
skipped_worked false there live w h = refl

-- the numbers of these rows that old rows have too are brought to their new rows
abbrev CommonLaw : Schema → List RowEntry → List RowEntry → ℕ → List RowEntry → Type 0
CommonLaw schema old new low es =
    (now : List RowEntry) (worked : ℕ → Bool) (named : List ℕ) → ((k : ℕ) → low ≤ k → worked k ≡ false) → Looks old new now worked named
    → Looks old new (apply_edits (blocks_for schema old new es) now) (λ k. (is_live es k && is_live old k) || worked k) (named ++ named_by_blocks (blocks_for schema old new es))

common_next : (schema : Schema) (old new : List RowEntry) (e : RowEntry) (es : List RowEntry) (low : ℕ) (now : List RowEntry) (worked : ℕ → Bool) (named : List ℕ) (old_row : Option Row)
    → Ready schema old new → CommonLaw schema old new (suc e.who) es → low ≤ e.who → row_at new e.who ≡ Some e.row
    → ((k : ℕ) → low ≤ k → worked k ≡ false) → Looks old new now worked named → row_at old e.who ≡ old_row
    → Looks old new (apply_edits (common_block schema new e old_row ++ blocks_for schema old new es) now) (λ k. (is_live (e ∷ es) k && is_live old k) || worked k)
    (named ++ named_by_blocks (common_block schema new e old_row ++ blocks_for schema old new es))
common_next schema old new e es low now worked named None r law above is_new fresh l is =
    looks_same old new (apply_edits (blocks_for schema old new es) now) _ _ _ _ (law now worked named (λ k h. fresh k (omega arith)) l)
    (λ k. skipped_worked (e.who == k) (is_live es k) (is_live old k) (worked k) (λ t. ap (is_live old) (sym (eqb-true e.who k t)) ∙ (live_row old e.who ∙ ap is_some is))) refl
common_next schema old new e es low now worked named (Some a) r law above is_new fresh l is =
    let edits = row_edits schema new a e.row in
    let first = one_block schema old new now worked named e.who a e.row edits r l (fresh e.who above) is is_new refl in
    let fresh_more : (k : ℕ) → suc e.who ≤ k → one_more e.who worked k ≡ false = λ k h. not_yet e.who k (worked k) h (fresh k (omega arith)) in
    let rest = law (apply_edits (block_of e.who edits) now) (one_more e.who worked) (named ++ named_in edits) fresh_more first in
    subst (λ rows. Looks old new rows (λ k. (is_live (e ∷ es) k && is_live old k) || worked k) (named ++ named_by_blocks (block_of e.who edits ++ blocks_for schema old new es)))
    (sym (fold-append_blocks (block_of e.who edits) (blocks_for schema old new es) now))
    (looks_same old new (apply_edits (blocks_for schema old new es) (apply_edits (block_of e.who edits) now)) _ _ _ _ rest
    (λ k. joined_worked (e.who == k) (is_live es k) (is_live old k) (worked k) (λ t. ap (is_live old) (sym (eqb-true e.who k t)) ∙ (live_row old e.who ∙ ap is_some is)))
    (append_assoc named (named_in edits) _ ∙ ap (λ ns. named ++ ns) (sym (named_both e.who edits (blocks_for schema old new es)))))

pub common_looks : (schema : Schema) (old new : List RowEntry) (es : List RowEntry) (low : ℕ) → Ready schema old new → RisesFrom number_of low es → AreAmong new es → CommonLaw schema old new low es
common_looks schema old new [] low r rises among now worked named fresh l = looks_same old new now worked worked named (named ++ []) l (λ k. refl) (sym (append-nil named))
common_looks schema old new (e ∷ es) low r rises among now worked named fresh l =
    common_next schema old new e es low now worked named (row_at old e.who) r (common_looks schema old new es (suc e.who) r rises.1 among.1) rises.0 among.0 fresh l refl
