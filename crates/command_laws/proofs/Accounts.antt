-- The accounts of an accepted command over a row: held numbers, places and text are what they were, with what it puts, without what that replaces.
use Rattle.std.proofs.Common.{◌≡◌, ℕ, ◌+◌, ◌<◌, true, false, cond, not, ◌&&◌, ◌==◌, List, [], ◌∷◌, ◌++◌, length, map, filter, Option, Some, None, is_none, is_some, refl, sym, ap, arith}
use Rattle.std.specs.List.{sum_by, list_all, find}
use Rattle.std.specs.Option.{option_map, option_map_or}
use Rattle.std.specs.Str.{bytes_eq}
use Rattle.std.proofs.lemmas.Bool.{and_parts, cond-false}
use Rattle.std.proofs.lemmas.Bool.Decides.{nat_tests}
use Rattle.std.proofs.lemmas.List.Sums.{sum_by_push}
use Rattle.std.proofs.lemmas.Option.{slice_get-get_or}
use Rattle.lists.specs.Rising as rising
use Rattle.schema_model.specs.declared.value.Value.{Value}
use Rattle.schema_model.specs.declared.value.Value.TheVariants as value
use Rattle.schema_model.specs.Values.{same_value}
use Rattle.schema_model.specs.declared.place.Home.{Home}
use Rattle.schema_model.specs.Classes.{Schema}
use Rattle.state_model.specs.declared.row.Row.{Row}
use Rattle.state_model.specs.declared.row.Row.TheVariants.{Struct, Map, Array, Set}
use Rattle.state_model.specs.declared.row.RowEntry.{RowEntry}
use Rattle.state_model.specs.declared.row.FieldValue.{FieldValue}
use Rattle.state_model.specs.declared.row.MapItem.{MapItem}
use Rattle.state_model.specs.declared.row.SetItem.{SetItem}
use Rattle.state_model.specs.declared.command.Command.{Command}
use Rattle.state_model.specs.declared.command.Command.TheVariants.{Make, MakeFor, Put, Unset, PutKey, DelKey, Push, SetAt, DelAt, Add, Del, Clear}
use Rattle.state_model.specs.Values.{held_by, text_size}
use Rattle.state_model.specs.Rows.{row_at, values_in, held_in, key_bytes}
use Rattle.state_model.specs.Places.{field_expects, item_expects}
use Rattle.state_model.specs.Sound.{rise, keys_differ, fits_place, places_fit, are_sound}
use Rattle.state_model.specs.State.{State}
use Rattle.state_model.specs.Commands.{value_put, has_key, has_value, put_key, is_no_field, adds_place, edited}
use Rattle.state_laws.proofs.FittingRows.{rises_where}
use Rattle.command_laws.specs.Accounts.{count_of, one_if, replaced, held_in_value, text_in_value, row_text, key_added, key_taken, is_clear, IsFit}
use Rattle.command_laws.proofs.Accepted.{IsAccepted}
use Rattle.command_laws.proofs.SoundRows.{sound_row}
use Rattle.command_laws.proofs.KeyedItems.{key_of, number_in}
use Rattle.command_laws.proofs.EditedRows.{field_in, field_value, item_value, set_value, set_item}
use Rattle.command_laws.proofs.ListSums.{sum_by-map, sum_by-flat_map, sum_by-ones, weight-map, sum_by-put, sum_by-remove_key, sum_by-set_at, sum_by-remove_at}
use Rattle.command_laws.proofs.ItemSums.{sum_by_value_put, sum_by_key_put, sum_by_key_removed, key_found, sum_by_value_removed}

-- an accepted command fits its row, where rows are sound
pub accepted_fits : (schema : Schema) (s : State) (c : Command) (n : ℕ) (row : Row) → are_sound schema s.rows ≡ true → row_at s.rows n ≡ Some row → IsAccepted schema s c (Some row) → IsFit schema s.rows c row
accepted_fits schema s c n row sound stands free =
    let own = sound_row schema s.rows sound n row stands in
    record { fits = own.fits; differs = own.differs; field = free.declared; item = free.there; fresh = free.absent }

-- ---- the values of a row

-- a sum over values, from the sum over the items that have them
by_values : {X : Type 0} (w : Value → ℕ) (g : X → Value) (xs ys : List X) (o : Option X) (n : ℕ)
    → sum_by (λ x. w (g x)) ys + option_map_or (λ x. w (g x)) o 0 ≡ sum_by (λ x. w (g x)) xs + n → sum_by w (map g ys) + option_map_or w (option_map g o) 0 ≡ sum_by w (map g xs) + n
by_values w g xs ys o n h = omega (arith, sum_by-map w g xs, sum_by-map w g ys, weight-map w g o)

-- fields rise
fields_rise : (schema : Schema) (rows : List RowEntry) (class : ℕ) (fields : List FieldValue) → places_fit schema rows (Struct class fields) ≡ true → rising.RisesFrom field_in 0 fields
fields_rise schema rows class fields h =
    rises_where field_in fields (and_parts (rise (map field_in fields)) (list_all (λ (x : FieldValue). fits_place schema rows x.value (field_expects schema class x.field)) fields) h).0

-- the keys of a map differ
map_keys_differ : (schema : Schema) (rows : List RowEntry) (home : Home) (items : List MapItem) → places_fit schema rows (Map home items) ≡ true → keys_differ (map key_of items) ≡ true
map_keys_differ schema rows home items h =
    let two = and_parts (rise (map number_in items) && keys_differ (map key_of items)) (list_all (λ (i : MapItem). fits_place schema rows i.value (item_expects schema home)) items) h in
    (and_parts (rise (map number_in items)) (keys_differ (map key_of items)) two.0).1

-- a sum over the values of a row gains what the command puts and loses what that replaces
pub edited_sum : (schema : Schema) (rows : List RowEntry) (c : Command) (next : ℕ) (row : Row) (w : Value → ℕ) → is_clear c ≡ false → IsFit schema rows c row
    → sum_by w (values_in (edited c next row)) + option_map_or w (replaced c row) 0 ≡ sum_by w (values_in row) + option_map_or w (value_put c) 0
edited_sum schema rows (Put r f v) next (Struct class fields) w n fit =
    let field : FieldValue = record { field = f; value = v } in
    by_values w field_value fields (rising.put field_in field fields) (rising.find field_in f fields) (w v)
    (sum_by-put field_in (λ x. w (field_value x)) 0 field fields (fields_rise schema rows class fields fit.fits))
edited_sum schema rows (Unset r f) next (Struct class fields) w n fit =
    let gone = sum_by-remove_key field_in (λ x. w (field_value x)) 0 f fields (fields_rise schema rows class fields fit.fits) in
    by_values w field_value fields (rising.remove field_in f fields) (rising.find field_in f fields) 0 (omega arith)
edited_sum schema rows (PutKey r k v) next (Map home items) w n fit =
    by_values w item_value items (put_key next k v items) (find (λ (i : MapItem). bytes_eq i.key k) items) (w v) (sum_by_value_put w next k v items)
edited_sum schema rows (DelKey r k) next (Map home items) w n fit =
    let gone = sum_by_key_removed (λ i. w (item_value i)) k items (map_keys_differ schema rows home items fit.fits) in
    by_values w item_value items (filter (λ (i : MapItem). not (bytes_eq i.key k)) items) (find (λ (i : MapItem). bytes_eq i.key k) items) 0 (omega arith)
edited_sum schema rows (Push r v) next (Array home values) w n fit = omega (arith, sum_by_push w values v)
edited_sum schema rows (SetAt r at v) next (Array home values) w n fit =
    let within : at < length values = grind (arith, nat_tests, fit.item) in
    sum_by-set_at w values at v within
edited_sum schema rows (DelAt r at) next (Array home values) w n fit =
    let within : at < length values = grind (arith, nat_tests, fit.item) in
    omega (arith, sum_by-remove_at w values at (value.Link 0) within)
edited_sum schema rows (Add r v) next (Set home items) w n fit =
    let new = items ++ set_item next v ∷ [] in
    let added = ap (λ (q : Row). sum_by w (values_in q)) (cond-false (has_value items v) (Set home items) (Set home new) fit.fresh) in
    omega (arith, added, sum_by-map w set_value new, sum_by_push (λ i. w (set_value i)) items (set_item next v), sum_by-map w set_value items)
edited_sum schema rows (Del r v) next (Set home items) w n fit =
    let rest = filter (λ (i : SetItem). not (same_value i.value v)) items in
    omega (arith, sum_by-map w set_value rest, sum_by_value_removed w v items fit.differs, sum_by-map w set_value items)
edited_sum schema rows (Clear r) next row w n fit = cc
edited_sum schema rows (Make class) next row w n fit = refl
edited_sum schema rows (MakeFor home) next row w n fit = refl
edited_sum schema rows c next row w n fit = let h = fit.field in cc

-- ---- the numbers that a row holds

-- how often a row holds a number, as a sum over its values
pub held_sum : (n : ℕ) (row : Row) → count_of n (held_in row) ≡ sum_by (λ v. count_of n (held_by v)) (values_in row)
held_sum n row = sum_by-flat_map (λ m. cond (m == n) 1 0) held_by (values_in row)

held_value_sum : (n : ℕ) (o : Option Value) → count_of n (held_in_value o) ≡ option_map_or (λ v. count_of n (held_by v)) o 0
held_value_sum n None = refl
held_value_sum n (Some v) = refl

-- how often a row holds a number
pub edited_counts : (schema : Schema) (rows : List RowEntry) (c : Command) (next : ℕ) (row : Row) (n : ℕ) → is_clear c ≡ false → IsFit schema rows c row
    → count_of n (held_in (edited c next row)) + count_of n (held_in_value (replaced c row)) ≡ count_of n (held_in row) + count_of n (held_in_value (value_put c))
edited_counts schema rows c next row n other fit =
    let total = edited_sum schema rows c next row (λ v. count_of n (held_by v)) other fit in
    omega (arith, held_sum n (edited c next row), held_value_sum n (replaced c row), held_sum n row, held_value_sum n (value_put c))

-- ---- the places of a row

one_value_sum : (o : Option Value) → one_if (is_some o) ≡ option_map_or (λ v. 1) o 0
one_value_sum None = refl
one_value_sum (Some v) = refl

-- how many places a row has
pub edited_places : (schema : Schema) (rows : List RowEntry) (c : Command) (next : ℕ) (row : Row) → is_clear c ≡ false → IsFit schema rows c row
    → length (values_in (edited c next row)) + one_if (is_some (replaced c row)) ≡ length (values_in row) + one_if (is_some (value_put c))
edited_places schema rows c next row other fit =
    let total = edited_sum schema rows c next row (λ v. 1) other fit in
    omega (arith, sum_by-ones (values_in (edited c next row)), one_value_sum (replaced c row), sum_by-ones (values_in row), one_value_sum (value_put c))

-- a command adds a place where it puts a value and replaces none
pub adds_place_is : (schema : Schema) (rows : List RowEntry) (c : Command) (row : Row) → IsFit schema rows c row → adds_place c (Some row) ≡ (is_some (value_put c) && not (is_some (replaced c row)))
adds_place_is schema rows (Put r f v) (Struct class fields) fit = none_found (rising.find field_in f fields)
  where
    none_found : (o : Option FieldValue) → is_none o ≡ not (is_some (option_map field_value o))
    none_found None = refl
    none_found (Some x) = refl
adds_place_is schema rows (PutKey r k v) (Map home items) fit = none_has items
  where
    none_has : (is : List MapItem) → not (has_key is k) ≡ not (is_some (option_map item_value (find (λ (i : MapItem). bytes_eq i.key k) is)))
    none_has [] = refl
    none_has (i ∷ is) = grind (arith, nat_tests, none_has is)
adds_place_is schema rows (SetAt r at v) (Array home values) fit =
    let within : at < length values = grind (arith, nat_tests, fit.item) in
    ap (λ o. not (is_some o)) (sym (slice_get-get_or values at v within))
adds_place_is schema rows (Add r v) (Set home items) fit = ap not fit.fresh
adds_place_is schema rows (Push r v) (Array home values) fit = refl
adds_place_is schema rows (Unset r f) row fit = refl
adds_place_is schema rows (DelKey r k) row fit = refl
adds_place_is schema rows (DelAt r at) row fit = refl
adds_place_is schema rows (Del r v) row fit = refl
adds_place_is schema rows (Clear r) row fit = refl
adds_place_is schema rows (Make class) row fit = refl
adds_place_is schema rows (MakeFor home) row fit = refl
adds_place_is schema rows c row fit = let h = fit.field in cc

-- ---- the text of a row

-- how many bytes the keys of a row are
edited_keys : (schema : Schema) (rows : List RowEntry) (c : Command) (next : ℕ) (row : Row) → is_clear c ≡ false → IsFit schema rows c row → key_bytes (edited c next row) + key_taken c row ≡ key_bytes row + key_added c row
edited_keys schema rows (PutKey r k v) next (Map home items) n fit = omega (arith, sum_by_key_put next k v items)
edited_keys schema rows (DelKey r k) next (Map home items) n fit =
    omega (arith, sum_by_key_removed (λ (i : MapItem). length i.key) k items (map_keys_differ schema rows home items fit.fits), key_found k items)
edited_keys schema rows (Put r f v) next (Struct class fields) n fit = refl
edited_keys schema rows (Unset r f) next (Struct class fields) n fit = refl
edited_keys schema rows (Push r v) next (Array home values) n fit = refl
edited_keys schema rows (SetAt r at v) next (Array home values) n fit = refl
edited_keys schema rows (DelAt r at) next (Array home values) n fit = refl
edited_keys schema rows (Add r v) next (Set home items) n fit =
    ap (λ (q : Row). key_bytes q + 0) (cond-false (has_value items v) (Set home items) (Set home (items ++ set_item next v ∷ [])) fit.fresh)
edited_keys schema rows (Del r v) next (Set home items) n fit = refl
edited_keys schema rows (Clear r) next row n fit = cc
edited_keys schema rows (Make class) next row n fit = refl
edited_keys schema rows (MakeFor home) next row n fit = refl
edited_keys schema rows c next row n fit = let h = fit.field in cc

-- how many bytes the text values and keys of a row are
pub edited_text : (schema : Schema) (rows : List RowEntry) (c : Command) (next : ℕ) (row : Row) → is_clear c ≡ false → IsFit schema rows c row
    → row_text (edited c next row) + text_in_value (replaced c row) + key_taken c row ≡ row_text row + text_in_value (value_put c) + key_added c row
edited_text schema rows c next row other fit =
    let values = edited_sum schema rows c next row text_size other fit in
    let keys = edited_keys schema rows c next row other fit in
    omega arith

-- ---- a row that is cleared

-- a cleared collection holds nothing, has no values and no text
pub clear_counts : (schema : Schema) (r next : ℕ) (row : Row) → is_no_field schema (Clear r) (Some row) ≡ false
    → (held_in (edited (Clear r) next row) ≡ []) × (values_in (edited (Clear r) next row) ≡ []) × (row_text (edited (Clear r) next row) ≡ 0)
clear_counts schema r next (Map home items) h = (refl, refl, refl)
clear_counts schema r next (Array home values) h = (refl, refl, refl)
clear_counts schema r next (Set home items) h = (refl, refl, refl)
clear_counts schema r next (Struct class fields) h = cc
