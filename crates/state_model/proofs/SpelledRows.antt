-- Rows that have bytes: each condition holding, and failing by itself.
use Rattle.std.specs.Prelude.{◌≡◌, ℕ, ◌^◌, List, [], ◌∷◌, length, map, pos, true, false, codes, nat_lt, nat_le, refl}
use Rattle.std.specs.List.{list_all}
use Rattle.std.specs.Str.{is_utf8, chars}
use Rattle.std.proofs.lemmas.Bool.{and_parts}
use lib.Utf8.{encode}
use Rattle.schema_model.specs.declared.value.Value.{Value}
use Rattle.schema_model.specs.declared.value.Value.TheVariants.{Whole, Str, Truth, Link}
use Rattle.schema_model.specs.declared.place.Home.{Home}
use Rattle.state_model.specs.declared.row.Row.{Row}
use Rattle.state_model.specs.declared.row.Row.TheVariants.{Struct, Map, Array, Set}
use Rattle.state_model.specs.Spelled.{is_count, is_spelled_value, is_spelled_key, is_spelled_row, are_spelled}
use Rattle.state_model.proofs.Examples as ex
use Rattle.state_model.proofs.Zoo as z

numbers_end_at_the_last : map is_count (0 ∷ 2147483647 ∷ 2147483648 ∷ []) ≡ true ∷ true ∷ false ∷ []
numbers_end_at_the_last = refl

values_have_bytes : map is_spelled_value
    (Whole (pos 9) ∷ Truth true ∷ Str (codes "a") ∷ Str (255 ∷ []) ∷ Link 2147483647 ∷ Link 2147483648 ∷ [])
    ≡ true ∷ true ∷ true ∷ false ∷ true ∷ false ∷ []
unfolding is_utf8 chars encode
values_have_bytes = refl

keys_are_utf8 : map is_spelled_key ([] ∷ codes "key" ∷ (255 ∷ []) ∷ []) ≡ true ∷ true ∷ false ∷ []
unfolding is_utf8 chars encode
keys_are_utf8 = refl

keys_end_below_four_gigabytes : (key : List ℕ) → is_spelled_key key ≡ true → nat_lt (length key) (2 ^ 32) ≡ true
keys_end_below_four_gigabytes key h = (and_parts (is_utf8 key) (nat_lt (length key) (2 ^ 32)) h).1

fields_have_bytes : map is_spelled_row
    (Struct 0 [] ∷ Struct 0 (ex.field 0 (Link 3) ∷ []) ∷ Struct 0 (ex.field 0 (Str (255 ∷ [])) ∷ []) ∷ [])
    ≡ true ∷ true ∷ false ∷ []
unfolding is_utf8 chars encode
fields_have_bytes = refl

abbrev map_of : ℕ → List ℕ → Value → Row
map_of number key v = Map (ex.home 0 0) (ex.named number key v ∷ [])

items_of_maps_have_bytes : map is_spelled_row
    (map_of 2147483647 (codes "k") (Link 3) ∷ map_of 2147483648 (codes "k") (Link 3)
    ∷ map_of 0 (255 ∷ []) (Link 3) ∷ map_of 0 (codes "k") (Str (255 ∷ [])) ∷ [])
    ≡ true ∷ false ∷ false ∷ false ∷ []
unfolding is_utf8 chars encode
items_of_maps_have_bytes = refl

items_of_arrays_have_bytes : map is_spelled_row
    (Array (ex.home 0 0) (Link 3 ∷ Link 4 ∷ []) ∷ Array (ex.home 0 0) (Link 3 ∷ Link 2147483648 ∷ []) ∷ [])
    ≡ true ∷ false ∷ []
items_of_arrays_have_bytes = refl

arrays_end_with_the_positions : (home : Home) (values : List Value) → is_spelled_row (Array home values) ≡ true
    → nat_le (length values) (2 ^ 31) ≡ true
arrays_end_with_the_positions home values h =
    (and_parts (nat_le (length values) (2 ^ 31)) (list_all is_spelled_value values) h).0

abbrev set_of : ℕ → Value → Row
set_of number v = Set (ex.home 0 0) (ex.element number v ∷ [])

items_of_sets_have_bytes : map is_spelled_row
    (set_of 2147483647 (Link 3) ∷ set_of 2147483648 (Link 3) ∷ set_of 0 (Str (255 ∷ [])) ∷ [])
    ≡ true ∷ false ∷ false ∷ []
unfolding is_utf8 chars encode
items_of_sets_have_bytes = refl

rows_have_bytes : map are_spelled
    (z.zoo_rows ∷ (ex.row 2147483647 (Struct 0 []) ∷ []) ∷ (ex.row 2147483648 (Struct 0 []) ∷ [])
    ∷ (ex.row 0 (Struct 0 (ex.field 0 (Str (255 ∷ [])) ∷ [])) ∷ []) ∷ [])
    ≡ true ∷ true ∷ false ∷ false ∷ []
unfolding is_utf8 chars encode
rows_have_bytes = refl
