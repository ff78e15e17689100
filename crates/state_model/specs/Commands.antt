-- What a command does to a state, and why it is refused: the causes in their order. Ours, after `@colyseus/schema` 3.
use Rattle.std.specs.Prelude.{ℕ, suc, Bool, true, false, not, ◌&&◌, ◌||◌, List, [], ◌∷◌, ◌++◌, length, filter, set, Option, Some, None, is_none, option_and_then, nat_lt, nat_le, if◌then◌else◌, Result, Ok, Err}
use Rattle.std.specs.List.{list_any, remove}
use Rattle.std.specs.Option.{option_map_or}
use Rattle.std.specs.Str.{bytes_eq}
use Rattle.lists.specs.Rising as rising
use Rattle.schema_model.specs.Classes.{Schema, home_of}
use Rattle.schema_model.specs.declared.value.Value.{Value}
use Rattle.schema_model.specs.declared.value.Value.TheVariants as value
use Rattle.state_model.specs.declared.row.Row.{Row}
use Rattle.state_model.specs.declared.row.Row.TheVariants.{Struct, Map, Array, Set}
use Rattle.state_model.specs.declared.row.RowEntry.{RowEntry}
use Rattle.state_model.specs.declared.row.FieldValue.{FieldValue}
use Rattle.state_model.specs.declared.row.MapItem.{MapItem}
use Rattle.state_model.specs.declared.row.SetItem.{SetItem}
use Rattle.state_model.specs.declared.command.Command.{Command}
use Rattle.state_model.specs.declared.command.Command.TheVariants.{Make, MakeFor, Put, Unset, PutKey, DelKey, Push, SetAt, DelAt, Add, Del, Clear}
use Rattle.state_model.specs.declared.command.TableFault.{TableFault}
use Rattle.state_model.specs.declared.command.TableFault.TheVariants as fault
use Rattle.state_model.specs.Values.{same_value, held_by}
use Rattle.state_model.specs.Rows.{row_at, is_live, put_row, place_count, text_bytes_of}
use Rattle.state_model.specs.declared.place.Expected.{Expected}
use Rattle.state_model.specs.Places.{field_expects, item_expects, is_filtered, empty_collection, row_home}
use Rattle.state_model.specs.Reached.{makes_cycle}
use Rattle.state_model.specs.Sound.{is_of_type, is_out_of_range}
use Rattle.state_model.specs.State.{State, ItemCount, next_item, rows_limit, places_limit, text_limit, one_text_limit, last_number}

-- ---- what a command names

-- the row that it changes
abbrev pub holder_of : Command → Option ℕ
holder_of (Make class) = None
holder_of (MakeFor home) = None
holder_of (Put r f v) = Some r
holder_of (Unset r f) = Some r
holder_of (PutKey r k v) = Some r
holder_of (DelKey r k) = Some r
holder_of (Push r v) = Some r
holder_of (SetAt r at v) = Some r
holder_of (DelAt r at) = Some r
holder_of (Add r v) = Some r
holder_of (Del r v) = Some r
holder_of (Clear r) = Some r

-- the value that it puts somewhere
abbrev pub value_put : Command → Option Value
value_put (Put r f v) = Some v
value_put (PutKey r k v) = Some v
value_put (Push r v) = Some v
value_put (SetAt r at v) = Some v
value_put (Add r v) = Some v
value_put c = None

-- the numbers that have to be live: its row, and the row of its link
abbrev pub named_by : Command → List ℕ
named_by (Del r v) = r ∷ held_by v
named_by c = option_map_or (λ r. r ∷ option_map_or held_by (value_put c) []) (holder_of c) []

-- the row that it makes
abbrev pub made_row : Schema → Command → Option Row
made_row schema (Make class) = if nat_lt class (length schema.classes) then Some (Struct class []) else None
made_row schema (MakeFor home) = option_and_then (empty_collection schema) (home_of schema home.class home.field)
made_row schema c = None

-- it makes a row
abbrev pub makes_row : Command → Bool
makes_row (Make class) = true
makes_row (MakeFor home) = true
makes_row c = false

-- ---- items of a row by key, value and position

-- the key is there
abbrev pub has_key : List MapItem → List ℕ → Bool
has_key items key = list_any (λ (i : MapItem). bytes_eq i.key key) items

-- the value is there
abbrev pub has_value : List SetItem → Value → Bool
has_value items v = list_any (λ (i : SetItem). same_value i.value v) items

-- the item of the key has this value, under its number; a new key gets the next number
abbrev pub put_key : ℕ → List ℕ → Value → List MapItem → List MapItem
put_key next key v [] = record { number = next; key = key; value = v } ∷ []
put_key next key v (i ∷ items) =
    if bytes_eq i.key key then record { number = i.number; key = i.key; value = v } ∷ items else i ∷ put_key next key v items

-- ---- the causes, each over the row that the command changes

-- NoRef: the holder or the linked number isn't live
abbrev pub is_no_ref : List RowEntry → Command → Bool
is_no_ref rows c = list_any (λ n. not (is_live rows n)) (named_by c)

-- NoField: the class or the field isn't declared, or the row isn't of the shape that the command needs
abbrev pub is_no_field : Schema → Command → Option Row → Bool
is_no_field schema (Make class) row = is_none (made_row schema (Make class))
is_no_field schema (MakeFor home) row = is_none (made_row schema (MakeFor home))
is_no_field schema (Put r f v) (Some (Struct class fields)) = is_none (field_expects schema class f)
is_no_field schema (Unset r f) (Some (Struct class fields)) = is_none (field_expects schema class f)
is_no_field schema (PutKey r k v) (Some (Map home items)) = false
is_no_field schema (DelKey r k) (Some (Map home items)) = false
is_no_field schema (Push r v) (Some (Array home values)) = false
is_no_field schema (SetAt r at v) (Some (Array home values)) = false
is_no_field schema (DelAt r at) (Some (Array home values)) = false
is_no_field schema (Add r v) (Some (Set home items)) = false
is_no_field schema (Del r v) (Some (Set home items)) = false
is_no_field schema (Clear r) (Some (Map home items)) = false
is_no_field schema (Clear r) (Some (Array home values)) = false
is_no_field schema (Clear r) (Some (Set home items)) = false
is_no_field schema c row = true

-- NoItem: an absent field, a position past the length, or a key or value that isn't there
abbrev pub is_no_item : Command → Option Row → Bool
is_no_item (Unset r f) (Some (Struct class fields)) = is_none (rising.find (λ (x : FieldValue). x.field) f fields)
is_no_item (DelKey r k) (Some (Map home items)) = not (has_key items k)
is_no_item (SetAt r at v) (Some (Array home values)) = nat_le (length values) at
is_no_item (DelAt r at) (Some (Array home values)) = nat_le (length values) at
is_no_item (Del r v) (Some (Set home items)) = not (has_value items v)
is_no_item c row = false

-- what the place of the value is declared to hold
abbrev pub expected_for : Schema → Command → Option Row → Option Expected
expected_for schema (Put r f v) (Some (Struct class fields)) = field_expects schema class f
expected_for schema c row = option_and_then (item_expects schema) (option_and_then row_home row)

-- WrongType: the value isn't of what is declared
abbrev pub is_wrong_type : Schema → List RowEntry → Option Value → Option Expected → Bool
is_wrong_type schema rows (Some v) (Some expected) = not (is_of_type schema rows expected v)
is_wrong_type schema rows v expected = false

-- OutOfRange: a whole number outside its kind's range
abbrev pub is_past_range : Option Value → Option Expected → Bool
is_past_range (Some v) (Some expected) = is_out_of_range expected v
is_past_range v expected = false

-- Cycle: the linked instance reaches the holder
abbrev pub is_cycle : List RowEntry → Option ℕ → Option Value → Bool
is_cycle rows (Some holder) (Some (value.Link n)) = makes_cycle rows holder n
is_cycle rows holder v = false

-- Duplicate: the instance stands at another position of this filtered array
abbrev pub is_duplicate : Schema → Command → Option Row → Bool
is_duplicate schema (Push r v) (Some (Array home values)) = is_filtered schema home && list_any (same_value v) values
is_duplicate schema (SetAt r at v) (Some (Array home values)) = is_filtered schema home && list_any (same_value v) (remove values at)
is_duplicate schema c row = false

-- it gives an item number
abbrev pub gives_number : Command → Option Row → Bool
gives_number (PutKey r k v) (Some (Map home items)) = not (has_key items k)
gives_number (Add r v) (Some (Set home items)) = not (has_value items v)
gives_number c row = false

-- it adds a place
abbrev pub adds_place : Command → Option Row → Bool
adds_place (Put r f v) (Some (Struct class fields)) = is_none (rising.find (λ (x : FieldValue). x.field) f fields)
adds_place (Push r v) row = true
adds_place c row = gives_number c row

-- TextTooLong: the text value or the key is longer than one may be
abbrev pub is_long_text : Option Value → Bool
is_long_text (Some (value.Str t)) = nat_lt one_text_limit (length t)
is_long_text v = false

abbrev pub is_long_key : Command → Bool
is_long_key (PutKey r k v) = nat_lt one_text_limit (length k)
is_long_key c = false

-- Present: the set holds the value
abbrev pub is_present : Command → Option Row → Bool
is_present (Add r v) (Some (Set home items)) = has_value items v
is_present c row = false

-- ---- what an accepted command does

-- the row after it, where the next new item gets this number
abbrev pub edited : Command → ℕ → Row → Row
edited (Put r f v) next (Struct class fields) = Struct class (rising.put (λ (x : FieldValue). x.field) (record { field = f; value = v }) fields)
edited (Unset r f) next (Struct class fields) = Struct class (rising.remove (λ (x : FieldValue). x.field) f fields)
edited (PutKey r k v) next (Map home items) = Map home (put_key next k v items)
edited (DelKey r k) next (Map home items) = Map home (filter (λ (i : MapItem). not (bytes_eq i.key k)) items)
edited (Push r v) next (Array home values) = Array home (values ++ v ∷ [])
edited (SetAt r at v) next (Array home values) = Array home (set values at v)
edited (DelAt r at) next (Array home values) = Array home (remove values at)
edited (Add r v) next (Set home items) = if has_value items v then Set home items else Set home (items ++ record { number = next; value = v } ∷ [])
edited (Del r v) next (Set home items) = Set home (filter (λ (i : SetItem). not (same_value i.value v)) items)
edited (Clear r) next (Map home items) = Map home []
edited (Clear r) next (Array home values) = Array home []
edited (Clear r) next (Set home items) = Set home []
edited c next row = row

-- a map and a set count the item numbers that they give
abbrev pub counts_items : Row → Bool
counts_items (Map home items) = true
counts_items (Set home items) = true
counts_items row = false

-- the counts with this one
abbrev pub put_count : ℕ → ℕ → List ItemCount → List ItemCount
put_count who count counts = rising.put (λ (c : ItemCount). c.who) (record { who = who; count = count }) counts

-- the state with a new row
abbrev pub with_new : State → Option Row → State
with_new s None = s
with_new s (Some row) = record {
  rows = put_row (suc s.given) row s.rows;
  given = suc s.given;
  counts = if counts_items row then put_count (suc s.given) 0 s.counts else s.counts;
}

-- the state with a row changed
abbrev pub with_change : State → Command → Option ℕ → Option Row → State
with_change s c (Some r) (Some row) = record {
  rows = put_row r (edited c (next_item s r) row) s.rows;
  given = s.given;
  counts = if gives_number c (Some row) then put_count r (suc (next_item s r)) s.counts else s.counts;
}
with_change s c r row = s

-- the row that a command changes
abbrev pub row_for : List RowEntry → Command → Option Row
row_for rows c = option_and_then (row_at rows) (holder_of c)

-- the state after an accepted command
abbrev pub state_after : Schema → State → Command → State
state_after schema s c =
    if makes_row c then with_new s (made_row schema c) else with_change s c (holder_of c) (row_for s.rows c)

-- the number of the row that it made
abbrev pub number_made : State → Command → Option ℕ
number_made s c = if makes_row c then Some (suc s.given) else None

-- the first cause that holds
abbrev pub first_cause : List (Bool × TableFault) → Option TableFault
first_cause [] = None
first_cause (c ∷ cs) = if c.0 then Some c.1 else first_cause cs

-- the causes in their order, each with whether it holds, over the row that the command changes
abbrev pub causes_over : Schema → State → Command → Option Row → List (Bool × TableFault)
causes_over schema s c row =
    (is_no_ref s.rows c, fault.NoRef)
    ∷ (is_no_field schema c row, fault.NoField)
    ∷ (is_no_item c row, fault.NoItem)
    ∷ (is_wrong_type schema s.rows (value_put c) (expected_for schema c row), fault.WrongType)
    ∷ (is_past_range (value_put c) (expected_for schema c row), fault.OutOfRange)
    ∷ (is_cycle s.rows (holder_of c) (value_put c), fault.Cycle)
    ∷ (is_duplicate schema c row, fault.Duplicate)
    ∷ (makes_row c && nat_le rows_limit (length s.rows), fault.InstancesFull)
    ∷ (adds_place c row && nat_le places_limit (place_count s.rows), fault.PlacesFull)
    ∷ (nat_lt text_limit (text_bytes_of (state_after schema s c).rows), fault.TextFull)
    ∷ (is_long_text (value_put c) || is_long_key c, fault.TextTooLong)
    ∷ (makes_row c && nat_le last_number s.given, fault.RefsSpent)
    ∷ (gives_number c row && nat_lt last_number (option_map_or (next_item s) (holder_of c) 0), fault.NumbersSpent)
    ∷ (is_present c row, fault.Present)
    ∷ []

-- why a command is refused
abbrev pub refusal_of : Schema → State → Command → Option TableFault
refusal_of schema s c = first_cause (causes_over schema s c (row_for s.rows c))

-- the answer: the state after it and the number of the row that it made, or the refusal
abbrev pub answer_of : Option TableFault → State → Option ℕ → Result (State × Option ℕ) TableFault
answer_of (Some f) s made = Err f
answer_of None s made = Ok (s, made)

-- what a command does; a refused one leaves the state as it was
abbrev pub do_command : Schema → State → Command → Result (State × Option ℕ) TableFault
do_command schema s c = answer_of (refusal_of schema s c) (state_after schema s c) (number_made s c)
