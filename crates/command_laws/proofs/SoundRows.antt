-- Sound rows: what each of them keeps, and when rows are sound.
use Rattle.std.proofs.Common.{◌≡◌, ℕ, true, false, ◌&&◌, ◌==◌, List, Some, map, sym, ap, subst, ◌∙◌, inl, inr}
use Rattle.std.specs.List.{list_all}
use Rattle.std.specs.Option.{option_map_or}
use Rattle.std.proofs.lemmas.Bool.{and_parts, and_from}
use Rattle.lists.specs.Rising.{RisesFrom}
use Rattle.lists.proofs.Passing.{all-found, found-all}
use Rattle.schema_model.specs.Classes.{Schema}
use Rattle.state_model.specs.declared.row.Row.{Row}
use Rattle.state_model.specs.declared.row.RowEntry.{RowEntry}
use Rattle.state_model.specs.Rows.{number_of, row_at, is_live, held_in, put_row, emptied}
use Rattle.state_model.specs.Reached.{is_among}
use Rattle.state_model.specs.Sound.{rise, has_root, has_kind, places_fit, set_differs, are_rows_of, are_sound}
use Rattle.state_laws.proofs.Numbers.{at_live, entry, row_found, found_row, put_rises}
use Rattle.state_laws.proofs.Fitting.{OneKind, same_class}
use Rattle.state_laws.proofs.FittingRows.{rise_where, places_fit_elsewhere, held_live}
use Rattle.state_laws.proofs.RowsOf.{rows_rise, rows_fit, rows_links, rows_root}
use Rattle.command_laws.proofs.LinkedRows.{put_from}

-- a row is of a declared kind, its places fit over these rows, and where it is a set its values differ
pub record IsSoundRow (schema : Schema) (rows : List RowEntry) (r : Row) : Type 0 where
  pub kind : has_kind schema r ≡ true
  pub fits : places_fit schema rows r ≡ true
  pub differs : set_differs r ≡ true

-- what sound rows keep

sound_parts : (schema : Schema) (rows : List RowEntry) → are_sound schema rows ≡ true → (are_rows_of schema rows ≡ true) × (list_all (λ (e : RowEntry). set_differs e.row) rows ≡ true)
sound_parts schema rows h = and_parts (are_rows_of schema rows) (list_all (λ (e : RowEntry). set_differs e.row) rows) h

-- sound rows are rows of the schema
pub sound_of : (schema : Schema) (rows : List RowEntry) → are_sound schema rows ≡ true → are_rows_of schema rows ≡ true
sound_of schema rows h = (sound_parts schema rows h).0

-- they rise
pub sound_rises : (schema : Schema) (rows : List RowEntry) → are_sound schema rows ≡ true → RisesFrom number_of 0 rows
sound_rises schema rows h = rows_rise schema rows (sound_of schema rows h)

-- each of them is sound
pub sound_row : (schema : Schema) (rows : List RowEntry) → are_sound schema rows ≡ true → (n : ℕ) (r : Row) → row_at rows n ≡ Some r → IsSoundRow schema rows r
sound_row schema rows h n r s =
    let two = sound_parts schema rows h in
    let own = rows_fit schema rows two.0 n r s in
    record { kind = own.0; fits = own.1; differs = all-found number_of (λ (e : RowEntry). set_differs e.row) rows n (entry n r) two.1 (row_found rows n r s) }

-- what they hold is there
pub sound_links : (schema : Schema) (rows : List RowEntry) → are_sound schema rows ≡ true → (n m : ℕ) (r : Row) → row_at rows n ≡ Some r → is_among m (held_in r) ≡ true → is_live rows m ≡ true
sound_links schema rows h = rows_links schema rows (sound_of schema rows h)

-- the root is there, of the root class
pub sound_root : (schema : Schema) (rows : List RowEntry) → are_sound schema rows ≡ true → (r : Row) × (row_at rows 0 ≡ Some r) × (has_root schema (Some r) ≡ true)
sound_root schema rows h =
    let own = sound_of schema rows h in
    let first = and_parts (rise (map number_of rows) && has_root schema (row_at rows 0)) (list_all (λ (e : RowEntry). has_kind schema e.row && places_fit schema rows e.row) rows) own in
    let root = and_parts (rise (map number_of rows)) (has_root schema (row_at rows 0)) first.0 in
    let at = at_live rows 0 (rows_root schema rows own) in
    (at.0, at.1, ap (has_root schema) (sym at.1) ∙ root.1)

-- when rows are sound

-- rows that rise are sound where the root is of the root class and each of them is sound
pub sound_from : (schema : Schema) (rows : List RowEntry) → RisesFrom number_of 0 rows → has_root schema (row_at rows 0) ≡ true → ((n : ℕ) (r : Row) → row_at rows n ≡ Some r → IsSoundRow schema rows r) → are_sound schema rows ≡ true
sound_from schema rows rises root each =
    let fit = λ (e : RowEntry). has_kind schema e.row && places_fit schema rows e.row in
    let own = λ (e : RowEntry). set_differs e.row in
    and_from (are_rows_of schema rows) (list_all own rows)
    (and_from (rise (map number_of rows) && has_root schema (row_at rows 0)) (list_all fit rows)
    (and_from (rise (map number_of rows)) (has_root schema (row_at rows 0)) (rise_where number_of 0 rows rises) root)
    (found-all number_of fit 0 rows rises (λ e s. let r = each e.who e.row (found_row rows e.who e s) in and_from (has_kind schema e.row) (places_fit schema rows e.row) r.kind r.fits)))
    (found-all number_of own 0 rows rises (λ e s. (each e.who e.row (found_row rows e.who e s)).differs))

-- each row of some stands among others, of its kind
abbrev pub KindsStay : List RowEntry → List RowEntry → Type 0
KindsStay rows some = (n : ℕ) (a : Row) → row_at rows n ≡ Some a → (b : Row) × (row_at some n ≡ Some b) × (emptied b ≡ emptied a)

-- a sound row is so over other rows where what it holds stands among them, of its kind
pub sound_elsewhere : (schema : Schema) (rows some : List RowEntry) (r : Row) → ((m : ℕ) → is_among m (held_in r) ≡ true → OneKind rows some m) → IsSoundRow schema rows r → IsSoundRow schema some r
sound_elsewhere schema rows some r k own = record { kind = own.kind; fits = places_fit_elsewhere schema rows some r k own.fits; differs = own.differs }

-- what a sound row holds stands among rows whose kinds stay
one_kind : (schema : Schema) (rows some : List RowEntry) (r : Row) → KindsStay rows some → IsSoundRow schema rows r → (m : ℕ) → is_among m (held_in r) ≡ true → OneKind rows some m
one_kind schema rows some r stay own m t =
    let at = at_live rows m (held_live schema rows m r own.fits t) in
    let new = stay m at.0 at.1 in
    (at.0, new.0, at.1, new.1, sym new.2)

-- the root is of the root class where it is of the kind that it was of
root_again : (schema : Schema) (a b : Row) → emptied b ≡ emptied a → has_root schema (Some a) ≡ true → has_root schema (Some b) ≡ true
root_again schema a b kind h = ap (λ o. option_map_or (λ c. c == schema.root) o false) (same_class b a kind) ∙ h

-- sound rows with a row put that is sound over them are sound where kinds stay
pub put_sound : (schema : Schema) (rows : List RowEntry) (who : ℕ) (row : Row) → are_sound schema rows ≡ true → KindsStay rows (put_row who row rows) → IsSoundRow schema rows row → are_sound schema (put_row who row rows) ≡ true
put_sound schema rows who row h stay new =
    let some = put_row who row rows in
    let root = sound_root schema rows h in
    let there = stay 0 root.0 root.1 in
    let own : (n : ℕ) (r : Row) → row_at some n ≡ Some r → IsSoundRow schema rows r =
    λ n r s. elim (put_from rows who row n r s) [ inl put ↦ subst (λ (q : Row). IsSoundRow schema rows q) (sym put.1) new | inr old ↦ sound_row schema rows h n r old ] in
    sound_from schema some (put_rises rows who row (sound_rises schema rows h)) (ap (has_root schema) there.1 ∙ root_again schema root.0 there.0 there.2 root.2)
    (λ n r s. sound_elsewhere schema rows some r (one_kind schema rows some r stay (own n r s)) (own n r s))
