-- Rows of a schema: they rise, their links lead to rows that are there, row 0 is there, and what is permitted of them is rows of the schema.
use Rattle.std.proofs.Common.{◌≡◌, ℕ, Bool, true, false, ◌&&◌, ◌==◌, List, Option, Some, None, map, refl, sym, ap, ◌∙◌}
use Rattle.std.specs.List.{list_all}
use Rattle.std.specs.Option.{option_map_or}
use Rattle.lists.specs.Rising.{RisesFrom}
use Rattle.lists.proofs.Passing.{all-found, found-all}
use Rattle.schema_model.specs.declared.place.Pair.{Pair}
use Rattle.schema_model.specs.Classes.{Schema}
use Rattle.state_model.specs.declared.row.Row.{Row}
use Rattle.state_model.specs.declared.row.RowEntry.{RowEntry}
use Rattle.state_model.specs.Rows.{number_of, row_at, is_live, held_in, emptied}
use Rattle.state_model.specs.Reached.{is_among}
use Rattle.state_model.specs.Sound.{rise, has_root, has_kind, places_fit, are_rows_of}
use Rattle.state_model.specs.Shown.{shown_row, shown, permitted}
use Rattle.std.proofs.lemmas.Bool.{and_parts, and_from}
use Rattle.state_laws.proofs.Numbers.{live_at, at_live, entry, row_found, found_row}
use Rattle.state_laws.proofs.ReachedLaws.{reached_start}
use Rattle.state_laws.proofs.ShownRows.{shown_kind}
use Rattle.state_laws.proofs.PermittedLaws.{permitted_rises, permitted_from, permitted_at, permitted_links}
use Rattle.state_laws.proofs.Fitting.{OneKind, same_class, same_declared}
use Rattle.state_laws.proofs.FittingRows.{rises_where, rise_where, shown_fits, places_fit_elsewhere, held_live}

-- a row is of a declared kind and its places fit
abbrev row_fits : Schema → List RowEntry → RowEntry → Bool
row_fits schema rows e = has_kind schema e.row && places_fit schema rows e.row

-- the parts of the test
parts : (schema : Schema) (rows : List RowEntry) → are_rows_of schema rows ≡ true → (rise (map number_of rows) ≡ true) × (has_root schema (row_at rows 0) ≡ true) × (list_all (row_fits schema rows) rows ≡ true)
parts schema rows h =
    let two = and_parts (rise (map number_of rows) && has_root schema (row_at rows 0)) (list_all (row_fits schema rows) rows) h in
    let rest = and_parts (rise (map number_of rows)) (has_root schema (row_at rows 0)) two.0 in
    (rest.0, rest.1, two.1)

-- rows of a schema rise
pub rows_rise : (schema : Schema) (rows : List RowEntry) → are_rows_of schema rows ≡ true → RisesFrom number_of 0 rows
rows_rise schema rows h = rises_where number_of rows (parts schema rows h).0

-- a row of a schema is of a declared kind, and its places fit
pub rows_fit : (schema : Schema) (rows : List RowEntry) → are_rows_of schema rows ≡ true → (n : ℕ) (r : Row) → row_at rows n ≡ Some r → (has_kind schema r ≡ true) × (places_fit schema rows r ≡ true)
rows_fit schema rows h n r s =
    and_parts (has_kind schema r) (places_fit schema rows r) (all-found number_of (row_fits schema rows) rows n (entry n r) (parts schema rows h).2 (row_found rows n r s))

-- the links of rows of a schema lead to rows that are there
pub rows_links : (schema : Schema) (rows : List RowEntry) → are_rows_of schema rows ≡ true → (n m : ℕ) (r : Row) → row_at rows n ≡ Some r → is_among m (held_in r) ≡ true → is_live rows m ≡ true
rows_links schema rows h n m r s t = held_live schema rows m r (rows_fit schema rows h n r s).1 t

-- a row of the root class at 0 is there
root_there : (schema : Schema) (rows : List RowEntry) (o : Option Row) → row_at rows 0 ≡ o → has_root schema o ≡ true → is_live rows 0 ≡ true
root_there schema rows None s h = cc
root_there schema rows (Some r) s h = live_at rows 0 r s

-- the root of rows of a schema is there
pub rows_root : (schema : Schema) (rows : List RowEntry) → are_rows_of schema rows ≡ true → is_live rows 0 ≡ true
rows_root schema rows h = root_there schema rows (row_at rows 0) refl (parts schema rows h).1

-- what is permitted of rows of a schema

-- the permitted row 0 is of the root class
permitted_root_class : (schema : Schema) (rows : List RowEntry) (M : List Pair) → are_rows_of schema rows ≡ true → has_root schema (row_at (permitted schema rows M) 0) ≡ true
permitted_root_class schema rows M h =
    let root = at_live rows 0 (rows_root schema rows h) in
    let stands = permitted_at schema rows M 0 root.0 (rows_rise schema rows h) root.1 (reached_start (shown schema M rows) 0) in
    ap (has_root schema) stands ∙ ap (λ o. option_map_or (λ c. c == schema.root) o false) (same_class (shown_row schema M 0 root.0) root.0 (shown_kind schema M 0 root.0)) ∙ ap (has_root schema) (sym root.1) ∙ (parts schema rows h).1

-- where a permitted row leads, stands a row of the kind that stood there
permitted_one_kind : (schema : Schema) (rows : List RowEntry) (M : List Pair) → are_rows_of schema rows ≡ true → (n : ℕ) (p : Row) → row_at (permitted schema rows M) n ≡ Some p
    → (m : ℕ) → is_among m (held_in p) ≡ true → OneKind rows (permitted schema rows M) m
permitted_one_kind schema rows M h n p s m t =
    let rise = rows_rise schema rows h in
    let there = at_live (permitted schema rows M) m (permitted_links schema rows M rise (rows_links schema rows h) n m p s t) in
    let from = permitted_from schema rows M m there.0 rise there.1 in
    (from.0, there.0, from.1, there.1, sym (ap emptied from.2 ∙ shown_kind schema M m from.0))

-- a permitted row is of a declared kind, and its places fit over the permitted rows
permitted_row_fits : (schema : Schema) (rows : List RowEntry) (M : List Pair) → are_rows_of schema rows ≡ true → (n : ℕ) (p : Row) → row_at (permitted schema rows M) n ≡ Some p
    → (has_kind schema p && places_fit schema (permitted schema rows M) p) ≡ true
permitted_row_fits schema rows M h n p s =
    let from = permitted_from schema rows M n p (rows_rise schema rows h) s in
    let old = rows_fit schema rows h n from.0 from.1 in
    let kind : emptied p ≡ emptied from.0 = ap emptied from.2 ∙ shown_kind schema M n from.0 in
    let fits : places_fit schema rows p ≡ true = ap (places_fit schema rows) from.2 ∙ shown_fits schema rows M n from.0 old.1 in
    and_from (has_kind schema p) (places_fit schema (permitted schema rows M) p) (same_declared schema p from.0 kind ∙ old.0)
    (places_fit_elsewhere schema rows (permitted schema rows M) p (permitted_one_kind schema rows M h n p s) fits)

-- what is permitted of rows of a schema is rows of the schema
pub permitted_rows_of : (schema : Schema) (rows : List RowEntry) (M : List Pair) → are_rows_of schema rows ≡ true → are_rows_of schema (permitted schema rows M) ≡ true
permitted_rows_of schema rows M h =
    let some = permitted schema rows M in
    let rises = permitted_rises schema rows M (rows_rise schema rows h) in
    let each = found-all number_of (row_fits schema some) 0 some rises (λ e s. permitted_row_fits schema rows M h e.who e.row (found_row some e.who e s)) in
    and_from (rise (map number_of some) && has_root schema (row_at some 0)) (list_all (row_fits schema some) some)
    (and_from (rise (map number_of some)) (has_root schema (row_at some 0)) (rise_where number_of 0 some rises) (permitted_root_class schema rows M h))
    each
