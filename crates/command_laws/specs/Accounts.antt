-- What a command puts into a row and takes out of it: numbers that are held, places and text.
use Rattle.std.specs.Prelude.{◌≡◌, ℕ, ◌+◌, Bool, true, false, List, [], length, Option, Some, None, if◌then◌else◌, sum_by}
use Rattle.std.specs.List.{find, slice_get}
use Rattle.std.specs.Option.{option_map, option_map_or}
use Rattle.std.specs.Str.{bytes_eq}
use Rattle.lists.specs.Rising as rising
use Rattle.schema_model.specs.Classes.{Schema}
use Rattle.schema_model.specs.declared.value.Value.{Value}
use Rattle.state_model.specs.declared.row.Row.{Row}
use Rattle.state_model.specs.declared.row.Row.TheVariants.{Struct, Map, Array, Set}
use Rattle.state_model.specs.declared.row.RowEntry.{RowEntry}
use Rattle.state_model.specs.declared.row.FieldValue.{FieldValue}
use Rattle.state_model.specs.declared.row.MapItem.{MapItem}
use Rattle.state_model.specs.declared.command.Command.{Command}
use Rattle.state_model.specs.declared.command.Command.TheVariants.{Put, Unset, PutKey, DelKey, SetAt, DelAt, Del, Clear}
use Rattle.state_model.specs.Values.{held_by, text_size}
use Rattle.state_model.specs.Rows.{values_in, key_bytes}
use Rattle.state_model.specs.Reached.{all_held}
use Rattle.state_model.specs.Sound.{places_fit, set_differs}
use Rattle.state_model.specs.Commands.{has_key, has_value, is_no_field, is_no_item, is_present}
pub use Rattle.state_laws.specs.Counts.{count_of}

-- how often rows hold a number
abbrev pub count_held : ℕ → List RowEntry → ℕ
count_held n rows = count_of n (all_held rows)

-- one where a test holds
abbrev pub one_if : Bool → ℕ
one_if true = 1
one_if false = 0

-- the value that stands in the place that a command writes or takes out
abbrev pub replaced : Command → Row → Option Value
replaced (Put r f v) (Struct class fields) = option_map (λ (x : FieldValue). x.value) (rising.find (λ (x : FieldValue). x.field) f fields)
replaced (Unset r f) (Struct class fields) = option_map (λ (x : FieldValue). x.value) (rising.find (λ (x : FieldValue). x.field) f fields)
replaced (PutKey r k v) (Map home items) = option_map (λ (i : MapItem). i.value) (find (λ (i : MapItem). bytes_eq i.key k) items)
replaced (DelKey r k) (Map home items) = option_map (λ (i : MapItem). i.value) (find (λ (i : MapItem). bytes_eq i.key k) items)
replaced (SetAt r at v) (Array home values) = slice_get values at
replaced (DelAt r at) (Array home values) = slice_get values at
replaced (Del r v) (Set home items) = if has_value items v then Some v else None
replaced c row = None

-- the numbers that a value holds, where there is one
abbrev pub held_in_value : Option Value → List ℕ
held_in_value o = option_map_or held_by o []

-- how many bytes of text a value is, where there is one
abbrev pub text_in_value : Option Value → ℕ
text_in_value o = option_map_or text_size o 0

-- how many bytes the text values and keys of a row are
abbrev pub row_text : Row → ℕ
row_text row = key_bytes row + sum_by text_size (values_in row)

-- how many bytes the key is that a command adds
abbrev pub key_added : Command → Row → ℕ
key_added (PutKey r k v) (Map home items) = if has_key items k then 0 else length k
key_added c row = 0

-- how many bytes the key is that a command takes out
abbrev pub key_taken : Command → Row → ℕ
key_taken (DelKey r k) (Map home items) = if has_key items k then length k else 0
key_taken c row = 0

-- it takes out all places of a row
abbrev pub is_clear : Command → Bool
is_clear (Clear r) = true
is_clear c = false

-- a command that is accepted over a row whose places fit
pub record IsFit (schema : Schema) (rows : List RowEntry) (c : Command) (row : Row) : Type 0 where
  pub fits : places_fit schema rows row ≡ true
  pub differs : set_differs row ≡ true
  pub field : is_no_field schema c (Some row) ≡ false
  pub item : is_no_item c (Some row) ≡ false
  pub fresh : is_present c (Some row) ≡ false
