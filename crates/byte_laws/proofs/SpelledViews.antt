-- The view of rows that have bytes has bytes, and an array that goes by position is one in every view.
use Rattle.std.proofs.Common.{◌≡◌, ℕ, ◌^◌, ◌≤◌, Bool, true, false, ◌&&◌, List, [], length, filter, Option, Some, None, refl, sym, ap, ◌∙◌, arith}
use Rattle.std.specs.Prelude.{is_some, option_and_then, nat_le, ℤ}
use Rattle.std.specs.List.{list_all}
use Rattle.std.proofs.lemmas.Bool.{and_parts, and_from, or_right, not-true}
use Rattle.std.proofs.lemmas.Bool.Decides.{nat_tests}
use Rattle.std.proofs.lemmas.List.Elements.{filter_agree}
use Rattle.std.proofs.lemmas.Option.{same_Some}
use Rattle.lists.specs.Rising.{RisesFrom}
use Rattle.lists.proofs.Passing.{length-filter_most, list_all_wider, list_all_filtered, found-all}
use Rattle.wire_model.specs.Patch.{is_short, are_short}
use Rattle.schema_model.specs.Classes.{Schema, home_field, item_of}
use Rattle.schema_model.specs.declared.class.FieldDecl.{FieldDecl}
use Rattle.schema_model.specs.declared.class.Item.{Item}
use Rattle.schema_model.specs.declared.class.Item.TheVariants as item
use Rattle.schema_model.specs.declared.place.Home.{Home}
use Rattle.schema_model.specs.declared.place.Pair.{Pair}
use Rattle.schema_model.specs.declared.value.Value.{Value}
use Rattle.schema_model.specs.declared.value.Value.TheVariants as value
use Rattle.state_model.specs.declared.row.Row.{Row}
use Rattle.state_model.specs.declared.row.Row.TheVariants.{Struct, Map, Array, Set}
use Rattle.state_model.specs.declared.row.RowEntry.{RowEntry}
use Rattle.state_model.specs.declared.row.FieldValue.{FieldValue}
use Rattle.state_model.specs.declared.row.MapItem.{MapItem}
use Rattle.state_model.specs.declared.row.SetItem.{SetItem}
use Rattle.state_model.specs.Rows.{number_of, row_at}
use Rattle.state_model.specs.Places.{is_filtered, instance_class}
use Rattle.state_model.specs.Shown.{item_shown, declared_item_shown, shows_field, shows_item, shown_row, permitted, shared}
use Rattle.state_laws.proofs.Numbers.{found_row}
use Rattle.state_laws.proofs.PermittedLaws.{permitted_from}
use Rattle.state_laws.proofs.SharedWithin.{shared_within}
use Rattle.state_model.specs.Spelled.{is_spelled_key, is_spelled_value, is_spelled_row}
use Rattle.block_laws.specs.Writable.{is_count}
use Rattle.byte_laws.proofs.SpelledRows.{EachSpelled, is_counted, has_numbers, has_counts}
use Rattle.byte_laws.proofs.ShortArrays.{by_position, SameArray}

-- ---- views have bytes

-- a filtered list is no longer than positions go where the list isn't
filtered_short : (keep : Value → Bool) (values : List Value) → nat_le (length values) (2 ^ 31) ≡ true → nat_le (length (filter keep values)) (2 ^ 31) ≡ true
filtered_short keep values h =
    let most : length (filter keep values) ≤ length values = length-filter_most keep values in
    grind (arith, nat_tests, most, h)

-- the shown places of a row that has bytes have bytes
shown_spelled : (schema : Schema) (M : List Pair) (who : ℕ) (r : Row) → is_spelled_row r ≡ true → is_spelled_row (shown_row schema M who r) ≡ true
shown_spelled schema M who (Struct class fields) h = list_all_filtered (λ (f : FieldValue). is_spelled_value f.value) (shows_field schema M who class) fields h
shown_spelled schema M who (Map home items) h =
    list_all_filtered (λ (i : MapItem). is_count i.number && (is_spelled_key i.key && is_spelled_value i.value)) (λ (i : MapItem). shows_item schema M who home i.value) items h
shown_spelled schema M who (Array home values) h =
    let two = and_parts (nat_le (length values) (2 ^ 31)) (list_all is_spelled_value values) h in
    and_from _ _ (filtered_short (shows_item schema M who home) values two.0) (list_all_filtered is_spelled_value (shows_item schema M who home) values two.1)
shown_spelled schema M who (Set home items) h = list_all_filtered (λ (i : SetItem). is_count i.number && is_spelled_value i.value) (λ (i : SetItem). shows_item schema M who home i.value) items h

-- each row of a view of rows that have bytes has bytes
pub view_spelled : (schema : Schema) (rows : List RowEntry) (M : List Pair) → RisesFrom number_of 0 rows → EachSpelled rows → EachSpelled (permitted schema rows M)
view_spelled schema rows M rises spelled = λ n p is.
    let from = permitted_from schema rows M n p rises is in
    let bytes = spelled n from.0 from.1 in
    (bytes.0, ap is_spelled_row from.2 ∙ shown_spelled schema M n from.0 bytes.1)

-- ---- the places of rows that have bytes can go

-- a link of a value that has bytes has bytes
value_counted : (v : Value) → is_spelled_value v ≡ true → is_counted v ≡ true
value_counted (value.Whole z) h = refl
value_counted (value.Str t) h = refl
value_counted (value.Truth b) h = refl
value_counted (value.Link n) h = h

-- an array that has bytes is short
pub spelled_short : (schema : Schema) (r : Row) → is_spelled_row r ≡ true → is_short schema r ≡ true
spelled_short schema (Struct class fields) h = refl
spelled_short schema (Map home items) h = refl
spelled_short schema (Array home values) h = or_right (is_filtered schema home) _ (and_parts (nat_le (length values) (2 ^ 31)) (list_all is_spelled_value values) h).0
spelled_short schema (Set home items) h = refl

-- rows that rise are short where each of them is
pub each_short : (schema : Schema) (rows : List RowEntry) → RisesFrom number_of 0 rows → ((n : ℕ) (r : Row) → row_at rows n ≡ Some r → is_short schema r ≡ true) → are_short schema rows ≡ true
each_short schema rows rises each = found-all number_of (λ (e : RowEntry). is_short schema e.row) 0 rows rises (λ e is. each e.who e.row (found_row rows e.who e is))

-- the numbers of a row that has bytes have bytes
spelled_numbers : (r : Row) → is_spelled_row r ≡ true → has_numbers r ≡ true
spelled_numbers (Struct class fields) h = refl
spelled_numbers (Map home items) h =
    list_all_wider (λ (i : MapItem). is_count i.number && (is_spelled_key i.key && is_spelled_value i.value)) (λ (i : MapItem). is_count i.number) items (λ i stands t. (and_parts (is_count i.number) _ t).0) h
spelled_numbers (Array home values) h = list_all_wider is_spelled_value is_counted values (λ v stands t. value_counted v t) (and_parts (nat_le (length values) (2 ^ 31)) (list_all is_spelled_value values) h).1
spelled_numbers (Set home items) h = list_all_wider (λ (i : SetItem). is_count i.number && is_spelled_value i.value) (λ (i : SetItem). is_count i.number) items (λ i stands t. (and_parts (is_count i.number) _ t).0) h

-- the places of a row that has bytes can go
pub spelled_counts : (schema : Schema) (r : Row) → is_spelled_row r ≡ true → has_counts schema r ≡ true
spelled_counts schema r h = and_from (is_short schema r) (has_numbers r) (spelled_short schema r h) (spelled_numbers r h)

-- ---- arrays that go by position

-- an item is shown where it is no instance or its home has no tag
untagged_shown : (M : List Pair) (who : ℕ) (i : Item) (v : Value) (tag : Option ℤ) → (is_some tag && is_some (instance_class i)) ≡ false → item_shown M who i v tag ≡ true
untagged_shown M who i v None h = refl
untagged_shown M who (item.Scalar k) v (Some tag) h = refl
untagged_shown M who (item.Class c) v (Some tag) h = cc

-- an array that isn't filtered shows all of its items
unfiltered_shown : (schema : Schema) (M : List Pair) (who : ℕ) (home : Home) (v : Value) → is_filtered schema home ≡ false → shows_item schema M who home v ≡ true
unfiltered_shown schema M who home v h = by_field (home_field schema home) h
  where
    by_field : (o : Option FieldDecl) → (is_some (option_and_then (λ (f : FieldDecl). f.tag) o) && is_some (option_and_then (λ (f : FieldDecl). instance_class (item_of f.shape)) o)) ≡ false
        → declared_item_shown M who v o ≡ true
    by_field None h = refl
    by_field (Some d) h = untagged_shown M who (item_of d.shape) v d.tag h

-- an array that goes by position is shown as it is to no members
position_shown : (schema : Schema) (M : List Pair) (who : ℕ) (r : Row) → SameArray schema (shown_row schema [] who r) (shown_row schema M who r)
position_shown schema M who (Struct class fields) h = cc
position_shown schema M who (Map home items) h = cc
position_shown schema M who (Array home values) h =
    let unfiltered = not-true (is_filtered schema home) h in
    ap (Array home) (filter_agree (shows_item schema [] who home) (shows_item schema M who home) (λ v. unfiltered_shown schema [] who home v unfiltered ∙ sym (unfiltered_shown schema M who home v unfiltered)) values)
position_shown schema M who (Set home items) h = cc

-- a row of the shared view is in every view, and is one there where it is an array that goes by position
pub shared_array : (schema : Schema) (rows : List RowEntry) (M : List Pair) (n : ℕ) (x : Row) → RisesFrom number_of 0 rows → row_at (shared schema rows) n ≡ Some x
    → (c : Row) × (row_at (permitted schema rows M) n ≡ Some c) × SameArray schema x c
shared_array schema rows M n x rises is =
    let within = shared_within schema rows M n x rises is in
    let here = permitted_from schema rows [] n x rises is in
    let there = permitted_from schema rows M n within.0 rises within.1 in
    let one : there.0 ≡ here.0 = same_Some there.0 here.0 (sym there.1 ∙ here.1) in
    let shown_is : within.0 ≡ shown_row schema M n here.0 = there.2 ∙ ap (shown_row schema M n) one in
    (within.0, within.1, λ h. here.2 ∙ (position_shown schema M n here.0 (ap (by_position schema) (sym shown_is) ∙ h) ∙ sym shown_is))
