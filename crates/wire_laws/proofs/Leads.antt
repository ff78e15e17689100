-- A patch leads from old rows to new rows.
use Rattle.std.proofs.Common.{◌≡◌, ◌≤◌, ◌<◌, ℕ, suc, Bool, true, false, not, cond, ◌||◌, ◌&&◌, List, [], ◌∷◌, ◌++◌, length, Option, Some, None, refl, sym, ap, subst, ◌∙◌, ◌==◌, arith}
use Rattle.std.specs.Prelude.{is_some}
use Rattle.std.proofs.lemmas.Bool.Decides.{nat_tests}
use Rattle.std.proofs.lemmas.Grind.{flat_map-append}
use Rattle.std.proofs.lemmas.Bool.{or_left, or_right, false_from_ne_true}
use Rattle.lists.specs.Rising.{RisesFrom, find}
use Rattle.lists.proofs.RisingLaws.{RisesFrom-filter}
use Rattle.lists.proofs.Passing.{length-filter_most}
use Rattle.schema_model.specs.Classes.{Schema}
use Rattle.state_model.specs.declared.row.Row.{Row}
use Rattle.state_model.specs.declared.row.RowEntry.{RowEntry}
use Rattle.state_model.specs.Rows.{number_of, numbers_of, row_at, is_live, held_in}
use Rattle.state_model.specs.Reached.{is_among}
use Rattle.state_laws.proofs.Numbers.{entry, live_row, row_chosen, live_chosen, at_live, row_found, among_both}
use Rattle.state_laws.proofs.Joins.{Joined}
use Rattle.state_laws.proofs.FreedLaw.{freed_joined}
use Rattle.wire_model.specs.Edits.{EditBlock}
use Rattle.wire_model.specs.Effect.{apply_edits}
use Rattle.wire_model.specs.Patch.{named_in, named_by_blocks, row_edits, common_block, common_blocks, new_blocks, patch_edits, kind_in}
use Rattle.wire_laws.specs.PatchLaw.{Patchable, PatchLeads, outside}
use Rattle.state_laws.proofs.RowsOf.{rows_rise, rows_links, rows_root}
use Rattle.wire_laws.proofs.FormedRows.{rows_formed}
use Rattle.wire_laws.proofs.NamedNumbers.{named_held, held_named}
use Rattle.wire_laws.proofs.Looks.{Looks, looked}
use Rattle.wire_laws.proofs.CommonPhase.{Ready, AreAmong, blocks_for, common_looks, fold-append_blocks, named_block}
use Rattle.wire_laws.proofs.NewPhase.{Tracks, Arrives, new_looks}
use Rattle.wire_laws.proofs.Bools.{in_either}

-- ---- rows among themselves

among_behind : (e : RowEntry) (es xs : List RowEntry) (low : ℕ) → suc e.who ≤ low → RisesFrom number_of low xs → AreAmong es xs → AreAmong (e ∷ es) xs
among_behind e es [] low h rises among = tt
among_behind e es (x ∷ xs) low h rises among = (behind_row e es x (omega (arith, rises.0)) among.0, among_behind e es xs (suc x.who) (omega (arith, rises.0)) rises.1 among.1)
  where
    behind_row : (e : RowEntry) (es : List RowEntry) (x : RowEntry) → e.who < x.who → row_at es x.who ≡ Some x.row → row_at (e ∷ es) x.who ≡ Some x.row
    behind_row e es x h is = grind (arith, nat_tests)

pub among_self : (es : List RowEntry) (low : ℕ) → RisesFrom number_of low es → AreAmong es es
among_self [] low rises = tt
among_self (e ∷ es) low rises = (grind (arith, nat_tests), among_behind e es es (suc e.who) (omega arith) rises.1 (among_self es (suc e.who) rises.1))

-- ---- what the blocks of common numbers name

named_first : (schema : Schema) (new : List RowEntry) (e : RowEntry) (old_row : Option Row) (bs : List EditBlock) (m : ℕ)
    → is_among m (named_by_blocks (common_block schema new e old_row ++ bs)) ≡ (is_among m (named_by_blocks (common_block schema new e old_row)) || is_among m (named_by_blocks bs))
named_first schema new e old_row bs m =
    ap (is_among m) (flat_map-append (λ (b : EditBlock). named_in b.edits) (common_block schema new e old_row) bs)
    ∙ among_both (named_by_blocks (common_block schema new e old_row)) (named_by_blocks bs) m

block_names : (schema : Schema) (old new : List RowEntry) (e : RowEntry) (old_row : Option Row) (m : ℕ) → Ready schema old new → row_at new e.who ≡ Some e.row
    → is_among m (named_by_blocks (common_block schema new e old_row)) ≡ true → is_live new m ≡ true
block_names schema old new e None m r is h = cc
block_names schema old new e (Some a) m r is h =
    r.new_links e.who m e.row is (named_held schema new a e.row m (sym (ap (is_among m) (named_block e.who (row_edits schema new a e.row))) ∙ h))

-- what they name is there
common_names : (schema : Schema) (old new es : List RowEntry) (m : ℕ) → Ready schema old new → AreAmong new es
    → is_among m (named_by_blocks (blocks_for schema old new es)) ≡ true → is_live new m ≡ true
common_names schema old new [] m r among h = cc
common_names schema old new (e ∷ es) m r among h =
    in_either (is_among m (named_by_blocks (common_block schema new e (row_at old e.who)))) (is_among m (named_by_blocks (blocks_for schema old new es))) (is_live new m)
    (block_names schema old new e (row_at old e.who) m r among.0) (common_names schema old new es m r among.1)
    (sym (named_first schema new e (row_at old e.who) (blocks_for schema old new es) m) ∙ h)

-- what the operations on one row name, all of the blocks name
names_one : (schema : Schema) (old new es : List RowEntry) (e : RowEntry) (a : Row) (n m : ℕ) → find number_of n es ≡ Some e → row_at old e.who ≡ Some a
    → is_among m (named_in (row_edits schema new a e.row)) ≡ true → is_among m (named_by_blocks (blocks_for schema old new es)) ≡ true
names_one schema old new [] e a n m f is h = cc
names_one schema old new (x ∷ es) e a n m f is h =
    let first = named_first schema new x (row_at old x.who) (blocks_for schema old new es) m in
    let go : (b : Bool) → (x.who == n) ≡ b → cond b (Some x) (find number_of n es) ≡ Some e → is_among m (named_by_blocks (blocks_for schema old new (x ∷ es))) ≡ true = elim [
      | true ↦ λ t g. first ∙ or_left (is_among m (named_by_blocks (common_block schema new x (row_at old x.who)))) (is_among m (named_by_blocks (blocks_for schema old new es))) (names_here x (same_entry x e g))
      | false ↦ λ t g. first ∙ or_right (is_among m (named_by_blocks (common_block schema new x (row_at old x.who)))) (is_among m (named_by_blocks (blocks_for schema old new es))) (names_one schema old new es e a n m g is h)
    ] in go (x.who == n) refl f
  where
    same_entry : (x y : RowEntry) → Some x ≡ Some y → x ≡ y
    same_entry x y h = cc

    names_here : (x : RowEntry) → x ≡ e → is_among m (named_by_blocks (common_block schema new x (row_at old x.who))) ≡ true
    names_here x same =
        let here : is_among m (named_by_blocks (common_block schema new e (Some a))) ≡ true = ap (is_among m) (named_block e.who (row_edits schema new a e.row)) ∙ h in
        let encoded : is_among m (named_by_blocks (common_block schema new e (row_at old e.who))) ≡ true = ap (λ o. is_among m (named_by_blocks (common_block schema new e o))) is ∙ here in
        subst (λ y. is_among m (named_by_blocks (common_block schema new y (row_at old y.who))) ≡ true) (sym same) encoded

-- ---- the two phases

first_row : (o : Option Row) (live : Bool) → live ≡ is_some o → o ≡ cond live o None
first_row None live h = rw h refl
first_row (Some r) live h = rw h refl

-- nothing is worked yet
at_first : (old new : List RowEntry) → RisesFrom number_of 0 old → Looks old new old (λ k. false) []
at_first old new rises = record {
  rises = rises;
  rows = λ n. first_row (row_at old n) (is_live old n) (live_row old n);
  there = λ n h. cc;
}

worked_first : (a b : Bool) → ((a && b) || false) ≡ (a && b)
worked_first true true = refl
worked_first true false = refl
worked_first false b = refl

among_numbers : (rows : List RowEntry) (k : ℕ) → is_among k (numbers_of rows) ≡ is_live rows k
among_numbers [] k = refl
among_numbers (e ∷ es) k = ap (λ x. (e.who == k) || x) (among_numbers es k)

-- what both have is worked, and what that names is named
tracks_first : (schema : Schema) (old new : List RowEntry) → Ready schema old new
    → Tracks old new (λ k. (is_live new k && is_live old k) || false) (numbers_of old) (named_by_blocks (common_blocks schema old new))
tracks_first schema old new r = record {
  done_is = λ k. among_numbers old k ∙ both_done (is_live new k) (is_live old k);
  named_new = λ k h. common_names schema old new new k r (among_self new 0 r.new_rise) h;
  both = λ k o live. both_worked (is_live new k) (is_live old k) live o;
  holds = λ n m b w is held. holds_first n m b (live_old (is_live new n) (is_live old n) w) is held;
}
  where
    both_done : (a b : Bool) → b ≡ (((a && b) || false) || b)
    both_done true true = refl
    both_done true false = refl
    both_done false true = refl
    both_done false false = refl

    both_worked : (a b : Bool) → a ≡ true → b ≡ true → ((a && b) || false) ≡ true
    both_worked a b h k = rw (h, k) refl

    live_old : (a b : Bool) → ((a && b) || false) ≡ true → b ≡ true
    live_old true true h = refl
    live_old true false h = h
    live_old false b h = cc

    not_held : (a : Row) (m n : ℕ) (b : Bool) → is_among m (held_in a) ≡ b → row_at old n ≡ Some a → is_live old m ≡ false → is_among m (held_in a) ≡ false
    not_held a m n true h is gone = absurd (let e = r.old_links n m a is h in cc)
    not_held a m n false h is gone = h

    holds_first : (n m : ℕ) (b : Row) → is_live old n ≡ true → row_at new n ≡ Some b → is_among m (held_in b) ≡ true
        → (is_among m (numbers_of old) || is_among m (named_by_blocks (common_blocks schema old new))) ≡ true
    holds_first n m b live is held =
        let a = at_live old n live in
        let go : (c : Bool) → is_live old m ≡ c → (is_among m (numbers_of old) || is_among m (named_by_blocks (common_blocks schema old new))) ≡ true = elim [
          | true ↦ λ c. or_left (is_among m (numbers_of old)) (is_among m (named_by_blocks (common_blocks schema old new))) (among_numbers old m ∙ c)
          | false ↦ λ c.
              let named = held_named schema new a.0 b m (r.kinds n a.0 b a.1 is) (r.new_formed n b is) held (not_held a.0 m n (is_among m (held_in a.0)) refl a.1 c) in
              or_right (is_among m (numbers_of old)) (is_among m (named_by_blocks (common_blocks schema old new)))
              (names_one schema old new new (entry n b) a.0 n m (row_found new n b is) a.1 named)
        ] in go (is_live old m) refl

-- old and new rows that can be patched are ready
ready_of : (schema : Schema) (old new : List RowEntry) → Patchable schema old new → Ready schema old new
ready_of schema old new p = record {
  old_rise = rows_rise schema old p.old_rows;
  new_rise = rows_rise schema new p.new_rows;
  old_root = rows_root schema old p.old_rows;
  new_root = rows_root schema new p.new_rows;
  old_formed = λ n r is. rows_formed schema old n r p.old_rows is;
  new_formed = λ n r is. rows_formed schema new n r p.new_rows is;
  old_links = rows_links schema old p.old_rows;
  new_links = rows_links schema new p.new_rows;
  kinds = p.agree.kinds;
  keys = p.agree.keys;
}

-- the rows after the patch: the new ones, and the old ones beside them
arrives : (schema : Schema) (old new : List RowEntry) → Patchable schema old new → Ready schema old new → Arrives old new (apply_edits (patch_edits schema old new) old)
arrives schema old new p r =
    let common = common_blocks schema old new in
    let first = common_looks schema old new new 0 r r.new_rise (among_self new 0 r.new_rise) old (λ k. false) [] (λ k h. refl) (at_first old new r.old_rise) in
    let rest = new_looks schema old new r p.reach (length new) (apply_edits common old) (λ k. (is_live new k && is_live old k) || false) (numbers_of old) (named_by_blocks common) first
    (tracks_first schema old new r) (length-filter_most _ new) in
    subst (Arrives old new) (sym (fold-append_blocks common (new_blocks (length new) schema new (numbers_of old) (named_by_blocks common)) old)) rest

joined : (schema : Schema) (old new now : List RowEntry) → Patchable schema old new → Ready schema old new → Arrives old new now → Joined new (outside new old) now
joined schema old new now p r a = record {
  stay_rise = r.new_rise;
  others_rise = RisesFrom-filter number_of 0 (λ (e : RowEntry). not (is_live new e.who)) old r.old_rise;
  all_rise = a.looks.rises;
  rows = λ n. a.looks.rows n ∙ row_joined n;
  root = r.new_root;
  links = r.new_links;
  reach = p.reach;
  apart = λ n live. apart_row (is_live new n) (is_live old n) (sym (live_chosen (λ k. not (is_live new k)) old n) ∙ live);
  no_cycle = p.no_cycle;
}
  where
    apart_row : (a b : Bool) → (not a && b) ≡ true → a ≡ false
    apart_row true b h = cc
    apart_row false b h = refl

    row_joined : (n : ℕ) → looked old new a.worked a.named n ≡ cond (is_live new n) (row_at new n) (row_at (outside new old) n)
    row_joined n =
        let go : (b : Bool) → is_live new n ≡ b → looked old new a.worked a.named n ≡ cond b (row_at new n) (row_at (outside new old) n) = elim [
          | true ↦ λ live. ap (λ w. cond w (row_at new n) (cond (is_live old n) (row_at old n) (cond (is_among n a.named) (Some (kind_in new n)) None))) (a.all n live)
          | false ↦ λ gone.
              let idle : a.worked n ≡ false = false_from_ne_true (a.worked n) (λ w. let e = a.looks.there n w in cc) in
              let unnamed : is_among n a.named ≡ false = false_from_ne_true (is_among n a.named) (λ w. let e = a.named_new n w in cc) in
              ap (λ w. cond w (row_at new n) (cond (is_live old n) (row_at old n) (cond (is_among n a.named) (Some (kind_in new n)) None))) idle
              ∙ (ap (λ x. cond (is_live old n) (row_at old n) (cond x (Some (kind_in new n)) None)) unnamed
              ∙ (sym (first_row (row_at old n) (is_live old n) (live_row old n))
              ∙ sym (row_chosen (λ k. not (is_live new k)) old n ∙ ap (λ x. cond (not x) (row_at old n) None) gone)))
        ] in go (is_live new n) refl

-- the patch leads from the old rows to the new ones
pub patch_leads : PatchLeads
patch_leads schema old new p =
    let r = ready_of schema old new p in
    freed_joined new (outside new old) (apply_edits (patch_edits schema old new) old) (joined schema old new _ p r (arrives schema old new p r))
