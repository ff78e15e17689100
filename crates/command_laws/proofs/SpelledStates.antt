-- Rows that have bytes do so after a command whose texts are UTF-8, and after a sweep.
use Rattle.std.proofs.Common.{◌≡◌, ℕ, zero, suc, ◌≤◌, Bool, true, false, not, ◌&&◌, ◌||◌, ◌==◌, List, [], ◌∷◌, ◌++◌, set, length, nat_lt, nat_le, Option, Some, Ok, refl, sym, ap, subst, ◌∙◌, arith, inl, inr}
use Rattle.std.specs.Prelude.{◌^◌}
use Rattle.std.specs.List.{list_any, list_all, remove}
use Rattle.std.specs.Option.{option_map_or}
use Rattle.std.specs.Str.{bytes_eq, is_utf8}
use Rattle.std.proofs.lemmas.Bool.{and_parts, and_from, or_parts, not-false, cond_both}
use Rattle.std.proofs.lemmas.Bool.Decides.{nat_tests}
use Rattle.lists.proofs.Passing.{list_all_put, list_all_filtered, all-found}
use Rattle.schema_model.specs.declared.value.Value.{Value}
use Rattle.schema_model.specs.declared.value.Value.TheVariants as value
use Rattle.schema_model.specs.Classes.{Schema}
use Rattle.schema_model.specs.Fits.{is_worded}
use Rattle.schema_model.specs.Values.{same_value}
use Rattle.state_model.specs.declared.row.Row.{Row}
use Rattle.state_model.specs.declared.row.Row.TheVariants.{Struct, Map, Array, Set}
use Rattle.state_model.specs.declared.row.RowEntry.{RowEntry}
use Rattle.state_model.specs.declared.row.FieldValue.{FieldValue}
use Rattle.state_model.specs.declared.row.MapItem.{MapItem}
use Rattle.state_model.specs.declared.row.SetItem.{SetItem}
use Rattle.state_model.specs.declared.command.Command.{Command}
use Rattle.state_model.specs.declared.command.Command.TheVariants.{Make, MakeFor, Put, Unset, PutKey, DelKey, Push, SetAt, DelAt, Add, Del, Clear}
use Rattle.state_model.specs.Values.{held_by}
use Rattle.state_model.specs.Rows.{number_of, row_at, is_live, values_in, place_count, put_row, emptied}
use Rattle.state_model.specs.Reached.{is_among, all_held, times, swept_once}
use Rattle.state_model.specs.State.{State, next_item, swept, places_limit, last_number, one_text_limit}
use Rattle.state_model.specs.Commands.{value_put, has_key, has_value, put_key, gives_number, edited, is_no_ref, is_long_text, is_long_key, holder_of, makes_row, do_command}
use Rattle.state_model.specs.Spelled.{is_count, is_spelled_value, is_spelled_key, is_spelled_row, are_spelled}
use Rattle.state_laws.proofs.Numbers.{entry, row_found, at_live}
use Rattle.command_laws.specs.Kept.{IsKept}
use Rattle.state_model.specs.Worded.{is_worded_command, key_put}
use Rattle.command_laws.proofs.Accepted.{IsAccepted, IsNew, outcome}
use Rattle.command_laws.proofs.ChangedRows.{after_row}
use Rattle.command_laws.proofs.EditedRows.{field_in, set_item, list_all_pushed}
use Rattle.command_laws.proofs.ListEdits.{list_all_set, list_all_removed}
use Rattle.command_laws.proofs.RowSums.{put_row_places, removed_row_places}
use Rattle.command_laws.proofs.SoundRows.{sound_rises}

-- ---- what a command puts

-- a value that is UTF-8 where it is a text has bytes where its link has
value_spelled : (v : Value) → is_worded v ≡ true → ((n : ℕ) → v ≡ value.Link n → is_count n ≡ true)
    → is_spelled_value v ≡ true
value_spelled (value.Whole z) w l = refl
value_spelled (value.Str t) w l = w
value_spelled (value.Truth b) w l = refl
value_spelled (value.Link n) w l = l n refl

-- the one number that a command names besides its row is live
second_live : (rows : List RowEntry) (r n : ℕ) (ns : List ℕ) → ns ≡ n ∷ []
    → list_any (λ m. not (is_live rows m)) (r ∷ ns) ≡ false → is_live rows n ≡ true
second_live rows r n ns e h =
    let dead = λ (m : ℕ). not (is_live rows m) in
    let both : (dead r || (dead n || false)) ≡ false = ap (λ (ms : List ℕ). list_any dead (r ∷ ms)) (sym e) ∙ h in
    not-false (is_live rows n) (or_parts (dead n) false (or_parts (dead r) (dead n || false) both).1).0

-- the row of a link that a command puts is there
link_live : (rows : List RowEntry) (c : Command) (n : ℕ) → is_no_ref rows c ≡ false
    → value_put c ≡ Some (value.Link n) → is_live rows n ≡ true
link_live rows (Put r f v) n h p = second_live rows r n (held_by v) (ap (λ o. option_map_or held_by o []) p) h
link_live rows (PutKey r k v) n h p = second_live rows r n (held_by v) (ap (λ o. option_map_or held_by o []) p) h
link_live rows (Push r v) n h p = second_live rows r n (held_by v) (ap (λ o. option_map_or held_by o []) p) h
link_live rows (SetAt r at v) n h p = second_live rows r n (held_by v) (ap (λ o. option_map_or held_by o []) p) h
link_live rows (Add r v) n h p = second_live rows r n (held_by v) (ap (λ o. option_map_or held_by o []) p) h
link_live rows c n h p = cc

-- each row of rows that have bytes has them, and so has its number
row_spelled : (rows : List RowEntry) → are_spelled rows ≡ true → (n : ℕ) (r : Row) → row_at rows n ≡ Some r
    → (is_count n ≡ true) × (is_spelled_row r ≡ true)
row_spelled rows h n r at =
    let p = λ (e : RowEntry). is_count e.who && is_spelled_row e.row in
    and_parts (is_count n) (is_spelled_row r) (all-found number_of p rows n (entry n r) h (row_found rows n r at))

-- what an accepted command puts has bytes
put_spelled : (schema : Schema) (s : State) (c : Command) (row : Option Row) (v : Value) → is_worded_command c ≡ true
    → IsAccepted schema s c row → are_spelled s.rows ≡ true → value_put c ≡ Some v → is_spelled_value v ≡ true
put_spelled schema s c row v words free h p =
    let both = and_parts (option_map_or is_worded (value_put c) true) (option_map_or is_utf8 (key_put c) true) words in
    value_spelled v (sym (ap (λ o. option_map_or is_worded o true) p) ∙ both.0) (λ n link.
    let at = at_live s.rows n (link_live s.rows c n free.named (p ∙ ap Some link)) in
    (row_spelled s.rows h n at.0 at.1).0)

-- a command that makes a row puts no text
pub makes_worded : (c : Command) → makes_row c ≡ true → is_worded_command c ≡ true
makes_worded (Make class) h = refl
makes_worded (MakeFor home) h = refl
makes_worded c h = cc

-- the key under which it puts a value has bytes
key_spelled : (key : List ℕ) → is_utf8 key ≡ true → nat_lt one_text_limit (length key) ≡ false
    → is_spelled_key key ≡ true
key_spelled key utf short =
    let few : length key ≤ one_text_limit = grind (arith, nat_tests) in
    and_from (is_utf8 key) (nat_lt (length key) (2 ^ 32)) utf (grind (arith, nat_tests))

-- ---- the row that it changes

-- items of a map with a value put under a key
items_put : (c : ℕ → Bool) (k : List ℕ → Bool) (q : Value → Bool) (next : ℕ) (key : List ℕ) (v : Value)
    (items : List MapItem) → (has_key items key || c next) ≡ true → k key ≡ true → q v ≡ true
    → list_all (λ (i : MapItem). c i.number && (k i.key && q i.value)) items ≡ true
    → list_all (λ (i : MapItem). c i.number && (k i.key && q i.value)) (put_key next key v items) ≡ true
items_put c k q next key v [] n t u h = grind (arith, nat_tests)
items_put c k q next key v (i ∷ items) n t u h = grind (arith, nat_tests, items_put c k q next key v items)

-- a number is given, or none is
given_or : (there number : Bool) → (not (not there) || number) ≡ true → (there || number) ≡ true
given_or true number h = refl
given_or false number h = h

-- a length within the places of a room is one of positions
positions_left : (values : List Value) → length values ≤ places_limit → nat_le (length values) (2 ^ 31) ≡ true
positions_left values few = grind (arith, nat_tests)

-- a row that has bytes does so after an edit
edited_spelled : (c : Command) (next : ℕ) (row : Row)
    → ((v : Value) → value_put c ≡ Some v → is_spelled_value v ≡ true)
    → ((k : List ℕ) → key_put c ≡ Some k → is_spelled_key k ≡ true)
    → (not (gives_number c (Some row)) || is_count next) ≡ true
    → length (values_in (edited c next row)) ≤ places_limit → is_spelled_row row ≡ true
    → is_spelled_row (edited c next row) ≡ true
edited_spelled (Put r f v) next (Struct class fields) put key n few h =
    let field : FieldValue = record { field = f; value = v } in
    list_all_put field_in (λ (x : FieldValue). is_spelled_value x.value) field fields (put v refl) h
edited_spelled (Unset r f) next (Struct class fields) put key n few h =
    list_all_filtered (λ (x : FieldValue). is_spelled_value x.value) (λ (x : FieldValue). not (x.field == f)) fields h
edited_spelled (PutKey r k v) next (Map home items) put key n few h =
    items_put is_count is_spelled_key is_spelled_value next k v items (given_or (has_key items k) (is_count next) n)
    (key k refl) (put v refl) h
edited_spelled (DelKey r k) next (Map home items) put key n few h =
    list_all_filtered (λ (i : MapItem). is_count i.number && (is_spelled_key i.key && is_spelled_value i.value))
    (λ (i : MapItem). not (bytes_eq i.key k)) items h
edited_spelled (Push r v) next (Array home values) put key n few h =
    let new = values ++ v ∷ [] in
    let both = and_parts (nat_le (length values) (2 ^ 31)) (list_all is_spelled_value values) h in
    and_from (nat_le (length new) (2 ^ 31)) (list_all is_spelled_value new) (positions_left new few)
    (list_all_pushed is_spelled_value v values (put v refl) both.1)
edited_spelled (SetAt r at v) next (Array home values) put key n few h =
    let new = set values at v in
    let both = and_parts (nat_le (length values) (2 ^ 31)) (list_all is_spelled_value values) h in
    and_from (nat_le (length new) (2 ^ 31)) (list_all is_spelled_value new) (positions_left new few)
    (list_all_set is_spelled_value v values at (put v refl) both.1)
edited_spelled (DelAt r at) next (Array home values) put key n few h =
    let new = remove values at in
    let both = and_parts (nat_le (length values) (2 ^ 31)) (list_all is_spelled_value values) h in
    and_from (nat_le (length new) (2 ^ 31)) (list_all is_spelled_value new) (positions_left new few)
    (list_all_removed is_spelled_value values at both.1)
edited_spelled (Add r v) next (Set home items) put key n few h =
    let p = λ (i : SetItem). is_count i.number && is_spelled_value i.value in
    let new = items ++ set_item next v ∷ [] in
    let given : has_value items v ≡ false → is_count next ≡ true = λ f.
    sym (ap (λ b. not (not b) || is_count next) f) ∙ n in
    cond_both (has_value items v) (Set home items) (Set home new) (λ (q : Row). is_spelled_row q ≡ true)
    (λ t. h)
    (λ f.
    let own = and_from (is_count next) (is_spelled_value v) (given f) (put v refl) in
    list_all_pushed p (set_item next v) items own h)
edited_spelled (Del r v) next (Set home items) put key n few h =
    list_all_filtered (λ (i : SetItem). is_count i.number && is_spelled_value i.value)
    (λ (i : SetItem). not (same_value i.value v)) items h
edited_spelled (Clear r) next (Map home items) put key n few h = refl
edited_spelled (Clear r) next (Array home values) put key n few h = refl
edited_spelled (Clear r) next (Set home items) put key n few h = refl
edited_spelled c next row put key n few h = h

-- ---- the rows

-- rows that have bytes, with one put that has them
put_row_spelled : (rows : List RowEntry) (who : ℕ) (row : Row) → is_count who ≡ true → is_spelled_row row ≡ true
    → are_spelled rows ≡ true → are_spelled (put_row who row rows) ≡ true
put_row_spelled rows who row n own h =
    list_all_put number_of (λ (e : RowEntry). is_count e.who && is_spelled_row e.row) (entry who row) rows
    (and_from (is_count who) (is_spelled_row row) n own) h

-- a row without places has bytes
empty_spelled : (row : Row) → is_spelled_row (emptied row) ≡ true
empty_spelled (Struct class fields) = refl
empty_spelled (Map home items) = refl
empty_spelled (Array home values) = refl
empty_spelled (Set home items) = refl

-- a number that was given has bytes
given_spelled : (n : ℕ) → n ≤ last_number → is_count n ≡ true
given_spelled n h = grind (arith, nat_tests)

-- the row that is made
made_spelled : (schema : Schema) (s : State) (row : Row) → IsNew schema row → suc s.given ≤ last_number
    → are_spelled s.rows ≡ true → are_spelled (put_row (suc s.given) row s.rows) ≡ true
made_spelled schema s row new few h =
    put_row_spelled s.rows (suc s.given) row (given_spelled (suc s.given) few)
    (ap is_spelled_row (sym new.empty) ∙ empty_spelled row) h

-- an item number that an accepted command gives has bytes
number_spelled : (gives : Bool) (next : ℕ) → (gives && nat_lt last_number next) ≡ false
    → (not gives || is_count next) ≡ true
number_spelled true next h = grind (arith, nat_tests)
number_spelled false next h = refl

-- the row that is changed
changed_spelled : (schema : Schema) (s : State) (c : Command) (holder : ℕ) (row : Row) → IsKept schema s
    → is_worded_command c ≡ true → holder_of c ≡ Some holder → row_at s.rows holder ≡ Some row
    → IsAccepted schema s c (Some row)
    → place_count (put_row holder (after_row s c holder row) s.rows) ≤ places_limit → are_spelled s.rows ≡ true
    → are_spelled (put_row holder (after_row s c holder row) s.rows) ≡ true
changed_spelled schema s c holder row kept words names at free few h =
    let new = after_row s c holder row in
    let next = next_item s holder in
    let rise = sound_rises schema s.rows kept.sound in
    let own = row_spelled s.rows h holder row at in
    let both = and_parts (option_map_or is_worded (value_put c) true) (option_map_or is_utf8 (key_put c) true) words in
    let put = put_row_places s.rows holder row new rise at in
    let taken = removed_row_places s.rows holder row rise at in
    let places : length (values_in new) ≤ places_limit = omega (arith, few, put, taken) in
    let gives = gives_number c (Some row) in
    let spent = λ (o : Option ℕ). gives && nat_lt last_number (option_map_or (next_item s) o 0) in
    let left : (gives && nat_lt last_number next) ≡ false = ap spent (sym names) ∙ free.numbers_left in
    let short = (or_parts (is_long_text (value_put c)) (is_long_key c) free.short).1 in
    let key_there : (k : List ℕ) → key_put c ≡ Some k → is_spelled_key k ≡ true = λ k p.
    key_spelled k (sym (ap (λ o. option_map_or is_utf8 o true) p) ∙ both.1) (key_short c k p short) in
    let value_there : (v : Value) → value_put c ≡ Some v → is_spelled_value v ≡ true = λ v p.
    put_spelled schema s c (Some row) v words free h p in
    put_row_spelled s.rows holder new own.0
    (edited_spelled c next row value_there key_there (number_spelled gives next left) places own.1) h
  where
    key_short : (c : Command) (k : List ℕ) → key_put c ≡ Some k → is_long_key c ≡ false
        → nat_lt one_text_limit (length k) ≡ false
    key_short (PutKey r key v) k p short =
        let long = λ (t : List ℕ). nat_lt one_text_limit (length t) in
        ap (λ o. option_map_or long o false) (sym p) ∙ short
    key_short c k p short = cc

-- rows that have bytes do so after an accepted command whose texts are UTF-8, within the limits of a room
pub command_spells : (schema : Schema) (s : State) (c : Command) (t : State) (made : Option ℕ) → IsKept schema s
    → is_worded_command c ≡ true → t.given ≤ last_number → place_count t.rows ≤ places_limit
    → do_command schema s c ≡ Ok (t, made) → are_spelled s.rows ≡ true → are_spelled t.rows ≡ true
command_spells schema s c t made kept words few places does h = elim (outcome schema s c t made does) [
  | inl m ↦
      let given : suc s.given ≤ last_number = subst (λ (q : State). q.given ≤ last_number) m.after few in
      ap (λ (q : State). are_spelled q.rows) m.after ∙ made_spelled schema s m.row m.new given h
  | inr d ↦
      let within : place_count (put_row d.holder (after_row s c d.holder d.row) s.rows) ≤ places_limit =
      subst (λ (q : State). place_count q.rows ≤ places_limit) d.after places in
      ap (λ (q : State). are_spelled q.rows) d.after ∙ changed_spelled schema s c d.holder d.row kept words d.names
      d.stands d.free within h
]

-- what all rows pass, those that are left pass
all_left : (p : RowEntry → Bool) (n : ℕ) (rows : List RowEntry) → list_all p rows ≡ true
    → list_all p (times n swept_once rows) ≡ true
all_left p zero rows h = h
all_left p (suc n) rows h =
    let stays = λ (e : RowEntry). (e.who == 0) || is_among e.who (all_held rows) in
    all_left p n (swept_once rows) (list_all_filtered p stays rows h)

-- and so they do after a sweep
pub sweep_spells : (s : State) → are_spelled s.rows ≡ true → are_spelled (swept s).rows ≡ true
sweep_spells s h = all_left (λ (e : RowEntry). is_count e.who && is_spelled_row e.row) (length s.rows) s.rows h
