-- The row that a body is, and the item numbers that it has given.
use Rattle.std.specs.Prelude.{◌≡◌, ℕ, ◌+◌, ◌<◌, ◌≤◌, ◌^◌, Bool, true, false, Option, Some, None, IfSome, drop, length, slice_get}
use Rattle.std.specs.Option.{option_map, option_map_or}
use Rattle.lists.specs.Rising as rising
use Rattle.schema_model.specs.declared.value.Value.{Value}
use Rattle.schema_model.specs.declared.place.Key.{Key}
use Rattle.schema_model.specs.declared.place.Key.TheVariants as key
use Rattle.state_model.specs.declared.row.Row.{Row}
use Rattle.state_model.specs.declared.row.Row.TheVariants as row
use Rattle.state_model.specs.declared.row.FieldValue.{FieldValue}
use Rattle.state_model.specs.declared.row.MapItem.{MapItem}
use Rattle.state_model.specs.declared.row.SetItem.{SetItem}
use Rattle.state_model.specs.declared.command.Command.{Command}
use Rattle.state_model.specs.declared.command.Command.TheVariants.{Unset, DelKey, DelAt, Del, Clear}
use Rattle.state_model.specs.Rows.{values_in}
use Rattle.state_model.specs.State.{last_number}
use Rattle.state_model.specs.Commands.{edited, gives_number}
use Rattle.command_laws.specs.Accounts.{one_if}
use Rattle.instance_table.specs.declared.body.Body.{Body}
use Rattle.instance_table.specs.declared.body.Body.TheVariants.{Struct, Map, Array, Set}

-- the row
abbrev pub row_of : Body → Row
row_of (Struct class fields) = row.Struct class fields
row_of (Map home items) = row.Map home items.items
row_of (Array home values) = row.Array home values
row_of (Set home items) = row.Set home items.items

-- how many item numbers a map or a set has given
abbrev pub given_of : Body → Option ℕ
given_of (Struct class fields) = None
given_of (Map home items) = Some items.given
given_of (Array home values) = None
given_of (Set home items) = Some items.given

-- a body, from its row and how many item numbers it has given
abbrev pub body_from : Row → Option ℕ → Body
body_from (row.Struct class fields) given = Struct class fields
body_from (row.Map home items) given = Map home (record { items = items; given = option_map_or (λ n. n) given 0 })
body_from (row.Array home values) given = Array home values
body_from (row.Set home items) given = Set home (record { items = items; given = option_map_or (λ n. n) given 0 })

-- the number that the next new item gets
abbrev pub next_in : Body → ℕ
next_in b = option_map_or (λ n. n) (given_of b) 0

-- how many item numbers a command gives in a body
abbrev pub given_by : Command → Body → ℕ
given_by c b = one_if (gives_number c (Some (row_of b)))

-- the body after a command
abbrev pub edited_body : Command → Body → Body
edited_body c b = body_from (edited c (next_in b) (row_of b)) (option_map (λ n. n + given_by c b) (given_of b))

-- the value in a row's place
abbrev pub value_in : Row → Key → Option Value
value_in (row.Struct class fields) (key.Field f) = option_map (λ (x : FieldValue). x.value) (rising.find (λ (x : FieldValue). x.field) f fields)
value_in (row.Map home items) (key.Item n) = option_map (λ (i : MapItem). i.value) (rising.find (λ (i : MapItem). i.number) n items)
value_in (row.Array home values) (key.At at) = slice_get values at
value_in (row.Set home items) (key.Item n) = option_map (λ (i : SetItem). i.value) (rising.find (λ (i : SetItem). i.number) n items)
value_in r k = None

-- what stands behind a number is what stands from the n-th item of a collection on
abbrev pub IsBehind : Row → ℕ → Option ℕ → Type 0
IsBehind (row.Struct class fields) n behind = Unit {0}
IsBehind (row.Map home items) n behind = rising.after_key (λ (i : MapItem). i.number) behind items ≡ drop n items
IsBehind (row.Array home values) n behind = Unit {0}
IsBehind (row.Set home items) n behind = rising.after_key (λ (i : SetItem). i.number) behind items ≡ drop n items

-- an item number is left
abbrev pub HasNumber : Option ℕ → Type 0
HasNumber given = IfSome given (λ n. n ≤ last_number)

-- a command can change a body: it has an item number left where it gives one, and few values
pub record CanEdit (c : Command) (b : Body) : Type 0 where
  pub number : gives_number c (Some (row_of b)) ≡ true → HasNumber (given_of b)
  pub few : length (values_in (row_of b)) < 2 ^ 31

-- a command that only takes places out
abbrev pub takes_out : Command → Bool
takes_out (Unset r f) = true
takes_out (DelKey r k) = true
takes_out (DelAt r at) = true
takes_out (Del r v) = true
takes_out (Clear r) = true
takes_out c = false
