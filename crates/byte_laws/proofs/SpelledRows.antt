-- Rows whose numbers, keys and texts have bytes: what is known of each, and that the places of a schema within its limits have numbers below 63.
use Rattle.std.proofs.Common.{◌≡◌, ℕ, ◌<◌, ◌≤◌, Bool, true, false, ◌&&◌, List, [], length, Option, Some, None, refl, subst, arith}
use Rattle.std.specs.Prelude.{is_some, option_and_then, nat_lt, nat_le, slice_get}
use Rattle.std.specs.List.{list_all}
use Rattle.std.specs.Option.{option_map, option_map_or}
use Rattle.std.proofs.lemmas.Bool.{and_parts}
use Rattle.std.proofs.lemmas.Bool.Decides.{nat_tests}
use Rattle.std.proofs.lemmas.Option.{slice_get_within}
use Rattle.lists.proofs.Passing.{all-found}
use Rattle.wire_model.specs.Patch.{is_short}
use Rattle.schema_model.specs.Classes.{Schema, Declared, is_kept, parents_earlier, item_in_range, item_of, fields_of, fields_from, home_field}
use Rattle.schema_model.specs.declared.class.Class.{Class}
use Rattle.schema_model.specs.declared.class.FieldDecl.{FieldDecl}
use Rattle.schema_model.specs.declared.value.Value.{Value}
use Rattle.schema_model.specs.declared.value.Value.TheVariants as value
use Rattle.schema_model.specs.declared.place.Home.{Home}
use Rattle.schema_model.proofs.FieldTables.{count_small}
use Rattle.state_model.specs.declared.row.Row.{Row}
use Rattle.state_model.specs.declared.row.Row.TheVariants.{Struct, Map, Array, Set}
use Rattle.state_model.specs.declared.row.RowEntry.{RowEntry}
use Rattle.state_model.specs.declared.row.MapItem.{MapItem}
use Rattle.state_model.specs.declared.row.SetItem.{SetItem}
use Rattle.state_model.specs.Rows.{number_of, row_at}
use Rattle.state_model.specs.declared.place.Expected.{Expected}
use Rattle.state_model.specs.declared.place.Expected.TheVariants.{Item as AnItem}
use Rattle.state_model.specs.Places.{expected_of, field_expects, item_expects, row_home, same_kind, collection_of, empty_collection}
use Rattle.state_model.specs.Sound.{fits_place, has_kind}
use Rattle.state_laws.proofs.Numbers.{entry, row_found}
use Rattle.state_model.specs.Spelled.{is_spelled_row, are_spelled}
use Rattle.block_laws.specs.Writable.{is_count}

-- ---- rows

-- each row has bytes, and so has its number
abbrev pub EachSpelled : List RowEntry → Type 0
EachSpelled rows = (n : ℕ) (r : Row) → row_at rows n ≡ Some r → (is_count n ≡ true) × (is_spelled_row r ≡ true)

-- so it is in rows that pass the test
pub each_spelled : (rows : List RowEntry) → are_spelled rows ≡ true → EachSpelled rows
each_spelled rows h = λ n r is.
    and_parts (is_count n) (is_spelled_row r) (all-found number_of (λ (e : RowEntry). is_count e.who && is_spelled_row e.row) rows n (entry n r) h (row_found rows n r is))

-- ---- rows whose places can go

-- a link leads to a number that has bytes
abbrev pub is_counted : Value → Bool
is_counted (value.Link n) = is_count n
is_counted v = true

-- the item numbers and the links of an array have bytes
abbrev pub has_numbers : Row → Bool
has_numbers (Struct class fields) = true
has_numbers (Map home items) = list_all (λ (i : MapItem). is_count i.number) items
has_numbers (Array home values) = list_all is_counted values
has_numbers (Set home items) = list_all (λ (i : SetItem). is_count i.number) items

-- the places of a row can go one by one
abbrev pub has_counts : Schema → Row → Bool
has_counts schema r = is_short schema r && has_numbers r

-- ---- limits

-- the limits of a schema: at most 256 classes, and at most 63 fields in a class
pub kept_limits : (schema : Schema) → is_kept schema ≡ true → (length schema.classes ≤ 256) × ((class : ℕ) → length (fields_of schema class) ≤ 63)
kept_limits schema h =
    let few = nat_le (length schema.classes) 256 in
    let root = nat_lt schema.root (length schema.classes) in
    let early = parents_earlier 0 schema.classes in
    let ranged = list_all (λ (c : Class). list_all (λ (f : FieldDecl). item_in_range (length schema.classes) (item_of f.shape)) c.own) schema.classes in
    let wide = list_all (λ (fs : List Declared). nat_le (length fs) 63) (fields_from [] schema.classes) in
    let ends = and_parts (few && root && early && ranged) wide h in
    let first = (and_parts few root (and_parts (few && root) early (and_parts (few && root && early) ranged ends.0).0).0).0 in
    (grind (arith, nat_tests, first), λ class. count_small schema.classes (Some class) ends.1)

-- a field that is declared is one of the first 63
pub wants_small : (schema : Schema) (class i : ℕ) → is_kept schema ≡ true → is_some (field_expects schema class i) ≡ true → nat_lt i 63 ≡ true
wants_small schema class i kept h = by_field (slice_get (fields_of schema class) i) refl h
  where
    by_field : (o : Option Declared) → slice_get (fields_of schema class) i ≡ o → is_some (option_map (expected_of i) o) ≡ true → nat_lt i 63 ≡ true
    by_field None is h = cc
    by_field (Some d) is h =
        let within : i < length (fields_of schema class) = slice_get_within (fields_of schema class) i d is in
        let small = (kept_limits schema kept).1 class in
        let less : i < 63 = omega (arith, within, small) in
        grind (arith, nat_tests, less)

-- a value fits a place that is declared alone
pub fits_some : (schema : Schema) (rows : List RowEntry) (v : Value) (expected : Option Expected) → fits_place schema rows v expected ≡ true → is_some expected ≡ true
fits_some schema rows v None h = cc
fits_some schema rows v (Some w) h = refl

-- so are the items of a home that declares a collection of a row's kind
declared_items : (schema : Schema) (r : Row) (a home : Home) → a ≡ home → option_map_or (same_kind r) (empty_collection schema a) false ≡ true → is_some (item_expects schema home) ≡ true
declared_items schema r a home same h = subst (λ x. is_some (item_expects schema x) ≡ true) same (by_field (home_field schema a) h)
  where
    by_field : (o : Option FieldDecl) → option_map_or (same_kind r) (option_and_then (λ (f : FieldDecl). collection_of a f.shape) o) false ≡ true
        → is_some (option_map (λ (f : FieldDecl). AnItem (item_of f.shape)) o) ≡ true
    by_field None h = cc
    by_field (Some f) h = refl

-- the items of a collection of a declared kind are declared
pub items_expected : (schema : Schema) (r : Row) (home : Home) → has_kind schema r ≡ true → row_home r ≡ Some home → is_some (item_expects schema home) ≡ true
items_expected schema (Struct class fields) home h is = cc
items_expected schema (Map a items) home h is = let same : a ≡ home = cc in declared_items schema (Map a items) a home same h
items_expected schema (Array a values) home h is = let same : a ≡ home = cc in declared_items schema (Array a values) a home same h
items_expected schema (Set a items) home h is = let same : a ≡ home = cc in declared_items schema (Set a items) a home same h
