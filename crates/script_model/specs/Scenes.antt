-- What a statement sees: the state, the presence, what the handler is about, and its variables. Ours.
use Rattle.std.specs.Prelude.{ℕ, suc, ◌-◌, ◌+ℤ◌, ◌-ℤ◌, ◌*ℤ◌, ◌==◌, ◌^◌, Bool, true, false, List, [], ◌∷◌, length, map, ℤ, pos, negsuc, Option, Some, None, option_and_then, unwrap_or, if◌then◌else◌, int_lt, nat_lt, slice_get, Result, Ok, Err}
use Rattle.std.specs.List.{find, position}
use Rattle.std.specs.Option.{option_map, option_map_or}
use Rattle.std.specs.Str.{bytes_eq}
use Rattle.lists.specs.Rising as rising
use Rattle.schema_model.specs.declared.value.Value.{Value}
use Rattle.schema_model.specs.Classes.{Schema, Declared, fields_of}
use Rattle.schema_model.specs.Fits.{in_signed}
use Rattle.state_model.specs.declared.row.Row.{Row}
use Rattle.state_model.specs.declared.row.Row.TheVariants as row
use Rattle.state_model.specs.declared.row.RowEntry.{RowEntry}
use Rattle.state_model.specs.declared.row.FieldValue.{FieldValue}
use Rattle.state_model.specs.declared.row.MapItem.{MapItem}
use Rattle.state_model.specs.Rows.{row_at, values_in}
use Rattle.frame_model.specs.PackData.{PackData, nil, truth, whole, text, binary, list, dict, PackItems, no_items, item, PackMembers, no_members, member, data_of}
use Rattle.frame_model.specs.Packs.{is_whole, items_len, members_len}
use Rattle.script_model.specs.declared.facts.Facts.{Facts}
use Rattle.script_model.specs.declared.operand.Operand.{Operand}
use Rattle.script_model.specs.declared.operand.Operand.TheVariants as operand
use Rattle.script_model.specs.declared.expression.Operator.{Operator}
use Rattle.script_model.specs.declared.expression.Operator.TheVariants.{Plus, Minus, Times, Less, Equal}
use Rattle.script_model.specs.declared.fault.PresenceFault.{PresenceFault}
use Rattle.script_model.specs.Datum.{Datum, row as a_row, plain, nothing, datum_of, or_nothing, is_true, same_datum}
use Rattle.script_model.specs.Presence.{PresenceData, get, incr, scard, smembers}

-- what a handler is run about
pub record FactsData : Type 0 where
  pub sender : Option (List ℕ)
  pub item : PackData
  pub room : List ℕ

abbrev pub facts_of : Facts → FactsData
facts_of f = record { sender = f.sender; item = data_of f.item; room = f.room }

-- what is there when a handler goes on; `made` is the number that the last act gave
pub record World : Type 0 where
  pub schema : Schema
  pub rows : List RowEntry
  pub presence : PresenceData
  pub made : Option ℕ

-- what each variable holds
abbrev pub Variables : Type 0
Variables = List ℕ → Datum

abbrev pub no_variables : Variables
no_variables v = nothing

abbrev pub with_variable : List ℕ → Datum → Variables → Variables
with_variable v d vars w = if bytes_eq v w then d else vars w

-- all that a statement sees
pub record Scene : Type 0 where
  pub world : World
  pub facts : FactsData
  pub vars : Variables

-- ---- operands

abbrev pub sender_of : Option (List ℕ) → Datum
sender_of None = nothing
sender_of (Some id) = plain (text id)

abbrev pub operand_of : Operand → Scene → Datum
operand_of (operand.Variable v) s = s.vars v
operand_of operand.Root s = a_row 0
operand_of operand.Sender s = sender_of s.facts.sender
operand_of operand.Item s = plain s.facts.item
operand_of (operand.Whole z) s = plain (whole z)
operand_of (operand.Str t) s = plain (text t)
operand_of (operand.Truth b) s = plain (truth b)

-- ---- what a row or a payload holds

-- the index of a class's field of a name
abbrev pub field_named : Schema → ℕ → List ℕ → Option ℕ
field_named schema class name = position (λ (d : Declared). bytes_eq d.field.name name) (fields_of schema class)

-- what an instance has in a field
abbrev pub field_value : List FieldValue → ℕ → Option Datum
field_value fs index = option_map (λ (f : FieldValue). datum_of f.value) (rising.find (λ (f : FieldValue). f.field) index fs)

-- what a map has under a key
abbrev pub key_value : List MapItem → List ℕ → Option Datum
key_value is key = option_map (λ (i : MapItem). datum_of i.value) (find (λ (i : MapItem). bytes_eq i.key key) is)

-- what a row has under a name or a key, and at a position
abbrev pub row_named : Schema → List ℕ → Row → Option Datum
row_named schema name (row.Struct class fs) = option_and_then (field_value fs) (field_named schema class name)
row_named schema name (row.Map home is) = key_value is name
row_named schema name r = None

abbrev pub row_numbered : ℕ → Row → Option Datum
row_numbered n (row.Array home values) = option_map datum_of (slice_get values n)
row_numbered n r = None

-- what a list has at a position; of a repeated key of a map the first counts
abbrev pub item_numbered : ℕ → PackItems → Option PackData
item_numbered n no_items = None
item_numbered n (item d ds) = if n == 0 then Some d else item_numbered (n - 1) ds

abbrev pub member_named : List ℕ → PackMembers → Option PackData
member_named key no_members = None
member_named key (member k d ms) = if bytes_eq k key then Some d else member_named key ms

abbrev pub payload_named : List ℕ → PackData → Option Datum
payload_named key (dict ms) = option_map plain (member_named key ms)
payload_named key d = None

abbrev pub payload_numbered : ℕ → PackData → Option Datum
payload_numbered n (list ds) = option_map plain (item_numbered n ds)
payload_numbered n d = None

-- what stands at a row or a payload under a text, or at a whole number
abbrev pub held_by : Datum → World → PackData → Option Datum
held_by (a_row n) w (text t) = option_and_then (row_named w.schema t) (row_at w.rows n)
held_by (a_row n) w (whole (pos i)) = option_and_then (row_numbered i) (row_at w.rows n)
held_by (plain d) w (text t) = payload_named t d
held_by (plain d) w (whole (pos i)) = payload_numbered i d
held_by d w k = None

abbrev pub got : Datum → Datum → World → Datum
got d (plain k) w = or_nothing (held_by d w k)
got d (a_row n) w = nothing

-- how many items a collection or a payload has
abbrev pub row_size : Row → Option ℕ
row_size (row.Struct class fs) = None
row_size r = Some (length (values_in r))

abbrev pub payload_size : PackData → Option ℕ
payload_size (list ds) = Some (items_len ds)
payload_size (dict ms) = Some (members_len ms)
payload_size d = None

abbrev pub size_of : Datum → World → Option ℕ
size_of (a_row n) w = option_and_then row_size (row_at w.rows n)
size_of (plain d) w = payload_size d

-- a count that may be missing
abbrev pub number_or_nothing : Option ℕ → Datum
number_or_nothing None = nothing
number_or_nothing (Some n) = plain (whole (pos n))

-- the positions of so many values
abbrev pub positions_from : ℕ → List Value → List Datum
positions_from n [] = []
positions_from n (v ∷ vs) = plain (whole (pos n)) ∷ positions_from (suc n) vs

-- what a block is run for: the keys of a map, the positions of an array or the values of a set, by number
abbrev pub row_items : Row → List Datum
row_items (row.Struct class fs) = []
row_items (row.Map home is) = map (λ (i : MapItem). plain (text i.key)) is
row_items (row.Array home values) = positions_from 0 values
row_items r = map datum_of (values_in r)

abbrev pub items_of : Datum → World → List Datum
items_of (a_row n) w = option_map_or row_items (row_at w.rows n) []
items_of (plain d) w = []

-- ---- sums

-- a whole number of 64 bits, with a sign or without
abbrev pub sum_or_nothing : ℤ → Datum
sum_or_nothing z = if is_whole z then plain (whole z) else nothing

abbrev pub computed_wholes : Operator → ℤ → ℤ → Datum
computed_wholes Plus a b = sum_or_nothing (a +ℤ b)
computed_wholes Minus a b = sum_or_nothing (a -ℤ b)
computed_wholes Times a b = sum_or_nothing (a *ℤ b)
computed_wholes Less a b = plain (truth (int_lt a b))
computed_wholes Equal a b = nothing

abbrev pub computed_with : Operator → Datum → Datum → Datum
computed_with o (plain (whole a)) (plain (whole b)) = computed_wholes o a b
computed_with o a b = nothing

-- whether two values are equal is always told; all else is of two whole numbers
abbrev pub computed : Operator → Datum → Datum → Datum
computed Equal a b = plain (truth (same_datum a b))
computed o a b = computed_with o a b
