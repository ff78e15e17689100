-- Drafts seen as rows: looking up, putting in, taking all out.
use Rattle.std.proofs.Common.{◌≡◌, ℕ, ◌+◌, ◌<◌, ◌==◌, Bool, true, false, cond, List, [], ◌∷◌, ◌++◌, map, take, length, get_or, append_assoc, Option, Some, None, refl, sym, ap, subst, ◌∙◌, zero-le, arith}
use Rattle.std.specs.Option.{option_map, option_map_or}
use Rattle.std.specs.Ordering.{nat_cmp}
use Rattle.std.specs.BTreeMap.{insert_entry, is_at}
use Rattle.std.specs.Map.{lookup}
use Rattle.std.proofs.lemmas.Bool.Decides.{nat_tests}
use Rattle.lists.specs.Rising.{RisesFrom, IsAbove, find, put}
use Rattle.lists.proofs.RisingLaws.{RisesFrom-put}
use Rattle.state_model.specs.declared.row.Row.{Row}
use Rattle.state_model.specs.declared.row.Row.TheVariants as row
use Rattle.state_model.specs.declared.row.RowEntry.{RowEntry}
use Rattle.state_model.specs.Rows.{number_of, row_at, emptied, kinds_of, put_row}
use Rattle.wire_model.specs.Resolved.{holder_kind}
use Rattle.canon_patch.specs.Applying.{with_row}
use Rattle.canon_patch.proofs.Applying.{kind_found, kind_missing, added, kept, put_next}
use Rattle.trees.proofs.TreeLaws.{next_above}
use Rattle.op_reader.specs.Known.{known_kind, kind_of_row}
use Rattle.patch_decoder.specs.declared.draft.Draft.{Draft}
use Rattle.patch_decoder.specs.Drafts.{row_of, entry_of, entries_of, old_row}
use Rattle.patch_decoder.specs.Runs.{row_or_first}

-- the drafts of a map
abbrev pub Entries : Type 0
Entries = List (ℕ × Draft)

-- what a map has at a number
abbrev pub at : ℕ → Entries → Option Draft
at n es = lookup (is_at (nat_cmp n)) es

-- a draft's row under a number
abbrev under : ℕ → Draft → RowEntry
under n d = record { who = n; row = row_of d }

pub find_entry : (n : ℕ) (es : Entries) → find number_of n (entries_of es) ≡ option_map (under n) (at n es)
find_entry n [] = refl
find_entry n (e ∷ es) = grind (arith, nat_tests, find_entry n es)

pub put_entry : (n : ℕ) (d : Draft) (es : Entries) → entries_of (insert_entry nat_cmp es n d) ≡ put number_of (under n d) (entries_of es)
put_entry n d [] = refl
put_entry n d (e ∷ es) = grind (arith, nat_tests, put_entry n d es)

-- what is found of a number
entry_found : (es : Entries) (n : ℕ) (d : Draft) → at n es ≡ Some d → find number_of n (entries_of es) ≡ Some (under n d)
entry_found es n d h = find_entry n es ∙ ap (option_map (under n)) h

entry_missing : (es : Entries) (n : ℕ) → at n es ≡ None → find number_of n (entries_of es) ≡ None
entry_missing es n h = find_entry n es ∙ ap (option_map (under n)) h

-- the kind of a row that is there, and of one that isn't
pub draft_kind : (rows : List RowEntry) (es : Entries) (n m : ℕ) (d : Draft) → entries_of es ≡ rows → m ≡ n → at m es ≡ Some d → holder_kind (kinds_of rows) n ≡ emptied (row_of d)
draft_kind rows es n m d are same h = ap (λ l. holder_kind (kinds_of l) n) (sym are) ∙ kind_found (entries_of es) n m (under m d) same (entry_found es m d h)

pub draft_kind_missing : (rows : List RowEntry) (es : Entries) (n m : ℕ) → entries_of es ≡ rows → m ≡ n → at m es ≡ None → holder_kind (kinds_of rows) n ≡ row.Struct 0 []
draft_kind_missing rows es n m are same h = ap (λ l. holder_kind (kinds_of l) n) (sym are) ∙ kind_missing (entries_of es) n m same (entry_missing es m h)

-- the row that was there
pub draft_old : (rows : List RowEntry) (es : Entries) (n m : ℕ) (o : Option Draft) → entries_of es ≡ rows → m ≡ n → o ≡ at m es → old_row o ≡ row_or_first rows n
draft_old rows es n m o are same is =
    let go : (q : Option Draft) → old_row q ≡ option_map_or (λ r. r) (option_map (λ (e : RowEntry). e.row) (option_map (under m) q)) (row.Struct 0 []) = elim [ Some d ↦ refl | None ↦ refl ] in
    ap old_row is
    ∙ (go (at m es)
    ∙ (sym (ap (λ o. option_map_or (λ r. r) (option_map (λ (e : RowEntry). e.row) o) (row.Struct 0 [])) (find_entry m es)) ∙ (ap (λ l. row_or_first l m) are ∙ ap (row_or_first rows) same)))

-- a row that is put in
pub draft_put : (rows : List RowEntry) (es after : Entries) (n m : ℕ) (d : Draft) → entries_of es ≡ rows → m ≡ n → after ≡ insert_entry nat_cmp es m d → entries_of after ≡ put_row n (row_of d) rows
draft_put rows es after n m d are same is =
    ap entries_of is ∙ (put_entry m d es ∙ (ap (put_row m (row_of d)) are ∙ ap (λ k. put_row k (row_of d) rows) same))

-- with it they still rise
pub drafts_rise : (es after : Entries) (m : ℕ) (d : Draft) → RisesFrom number_of 0 (entries_of es) → after ≡ insert_entry nat_cmp es m d → RisesFrom number_of 0 (entries_of after)
drafts_rise es after m d rises is = subst (RisesFrom number_of 0) (sym (ap entries_of is ∙ put_entry m d es)) (RisesFrom-put number_of 0 (under m d) (entries_of es) rises zero-le)

-- a row that is there is not added, and one that isn't is
pub draft_kept : (rows : List RowEntry) (es : Entries) (e : RowEntry) (m : ℕ) (d : Draft) → entries_of es ≡ rows → m ≡ e.who → at m es ≡ Some d → rows ≡ with_row (Some e) rows
draft_kept rows es e m d are same h = subst (λ l. l ≡ with_row (Some e) l) are (kept (entries_of es) e.who m e.row (under m d) same (entry_found es m d h))

pub draft_added : (rows : List RowEntry) (es : Entries) (e : RowEntry) (m : ℕ) → entries_of es ≡ rows → m ≡ e.who → at m es ≡ None → put_row e.who e.row rows ≡ with_row (Some e) rows
draft_added rows es e m are same h = subst (λ l. put_row e.who e.row l ≡ with_row (Some e) l) are (added (entries_of es) e.who m e.row same (entry_missing es m h))

-- a copy more
pub draft_next : (items : List RowEntry) (es after : Entries) (i m : ℕ) (x : RowEntry) (d : Draft) → RisesFrom number_of 0 items → entries_of es ≡ take i items → i < length items → x ≡ get_or items i x →
    row_of d ≡ x.row → m ≡ x.who → after ≡ insert_entry nat_cmp es m d → entries_of after ≡ take (i + 1) items
draft_next items es after i m x d rises so_far below is copied same put_in =
    let alike : under m d ≡ x = ap (λ k. under k d) same ∙ ap (λ r. let e : RowEntry = record { who = x.who; row = r } in e) copied in
    ap entries_of put_in ∙ (put_entry m d es ∙ put_next items (entries_of es) i x (under m d) rises so_far below is alike)

-- what a number is known to be
pub draft_known : (rows : List RowEntry) (es : Entries) (n m : ℕ) (d : Draft) → entries_of es ≡ rows → m ≡ n → at m es ≡ Some d → known_kind rows n ≡ Some (kind_of_row (row_of d))
draft_known rows es n m d are same h =
    let found : at n es ≡ Some d = rw (← same) h in
    ap (λ l. known_kind l n) (sym are) ∙ ap (λ o. option_map kind_of_row (option_map (λ (e : RowEntry). e.row) o)) (entry_found es n d found)

pub draft_unknown : (rows : List RowEntry) (es : Entries) (n m : ℕ) → entries_of es ≡ rows → m ≡ n → at m es ≡ None → known_kind rows n ≡ None
draft_unknown rows es n m are same h =
    let found : at n es ≡ None = rw (← same) h in
    ap (λ l. known_kind l n) (sym are) ∙ ap (λ o. option_map kind_of_row (option_map (λ (e : RowEntry). e.row) o)) (entry_missing es n found)

-- the first one taken out, and put behind the rows so far
pub draft_moved : (all rows : List RowEntry) (es after : Entries) (e : ℕ × Draft) (r : RowEntry) → rows ++ entries_of es ≡ all → es ≡ e ∷ after → r ≡ entry_of e → (rows ++ r ∷ []) ++ entries_of after ≡ all
draft_moved all rows es after e r whole is same = rw append_assoc (ap (λ x. rows ++ x ∷ entries_of after) same ∙ (ap (λ l. rows ++ entries_of l) (sym is) ∙ whole))

-- and it is above these
pub draft_above : (all rows : List RowEntry) (es after : Entries) (e : ℕ × Draft) (n : ℕ) → RisesFrom number_of 0 all → rows ++ entries_of es ≡ all → es ≡ e ∷ after → n ≡ e.0 → IsAbove number_of n rows
draft_above all rows es after e n rises whole is same =
    rw same (next_above number_of all rows (entries_of es) (entry_of e) (entries_of after) rises (sym whole) (ap entries_of is))
