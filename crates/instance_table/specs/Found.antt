-- What a command finds in the row that it changes, and what it does to it.
use Rattle.std.specs.Prelude.{◌≡◌, ℕ, Bool, false, not, List, Option, Some, None, IfSome, is_none, length, nat_le}
use Rattle.std.specs.Option.{option_map}
use Rattle.lists.specs.Rising as rising
use Rattle.schema_model.specs.Classes.{Schema}
use Rattle.state_model.specs.declared.row.Row.{Row}
use Rattle.state_model.specs.declared.row.Row.TheVariants.{Struct, Map, Array, Set}
use Rattle.state_model.specs.declared.row.FieldValue.{FieldValue}
use Rattle.state_model.specs.declared.command.Command.{Command}
use Rattle.state_model.specs.declared.command.Command.TheVariants.{Put, Unset, PutKey, DelKey, SetAt, DelAt, Add, Del}
use Rattle.state_model.specs.Commands.{has_key, has_value, holder_of, refusal_of}
use Rattle.command_laws.specs.Accounts.{replaced}
use Rattle.collection_ops.specs.Bodies.{key_item, map_number, set_number, value_item}
use Rattle.instance_table.specs.declared.node.Node.{Node}
use Rattle.instance_table.specs.declared.plan.Plan.{Plan}
use Rattle.instance_table.specs.declared.plan.Verdict.{Verdict}
use Rattle.instance_table.specs.declared.plan.Verdict.TheVariants.{Refused, Makes, Changes}
use Rattle.instance_table.specs.Amounts.{places_after, text_after}
use Rattle.instance_table.specs.Bodies.{row_of}
use Rattle.instance_table.specs.Changes.{link_in}
use Rattle.instance_table.specs.Nodes.{node_at}
use Rattle.instance_table.specs.Table.{state_in}

-- what the command's place needs isn't there: the field, the key, the position or the value
abbrev pub is_absent : Command → Row → Bool
is_absent (Put r f v) (Struct class fields) = is_none (rising.find (λ (x : FieldValue). x.field) f fields)
is_absent (Unset r f) (Struct class fields) = is_none (rising.find (λ (x : FieldValue). x.field) f fields)
is_absent (PutKey r k v) (Map home items) = not (has_key items k)
is_absent (DelKey r k) (Map home items) = not (has_key items k)
is_absent (SetAt r at v) (Array home values) = nat_le (length values) at
is_absent (DelAt r at) (Array home values) = nat_le (length values) at
is_absent (Add r v) (Set home items) = not (has_value items v)
is_absent (Del r v) (Set home items) = not (has_value items v)
is_absent c row = false

-- the number of the item of its key or value
abbrev pub item_number : Command → Row → Option ℕ
item_number (PutKey r k v) (Map home items) = option_map map_number (key_item items k)
item_number (DelKey r k) (Map home items) = option_map map_number (key_item items k)
item_number (Add r v) (Set home items) = option_map set_number (value_item items v)
item_number (Del r v) (Set home items) = option_map set_number (value_item items v)
item_number c row = None

-- the item, the link in its place before, and the totals after it, of so many before
pub record IsPlanned (c : Command) (row : Row) (places text : ℕ) (plan : Plan) : Type 0 where
  pub number : plan.located.number ≡ item_number c row
  pub before : plan.before ≡ link_in (replaced c row)
  pub places_after : plan.totals.places ≡ places_after c row places
  pub text_after : plan.totals.text ≡ text_after c row text

-- a command is refused, or makes a row, or changes that of a number as planned
abbrev pub IsJudged : Schema → List (ℕ × Node) → ℕ → ℕ → ℕ → Command → Verdict → Type 0
IsJudged schema es given places text c (Refused fault) = refusal_of schema (state_in es given) c ≡ Some fault
IsJudged schema es given places text c Makes = (refusal_of schema (state_in es given) c ≡ None) × (holder_of c ≡ None)
IsJudged schema es given places text c (Changes who plan) =
    (refusal_of schema (state_in es given) c ≡ None) × (holder_of c ≡ Some who) × IfSome (node_at es who) (λ (n : Node). IsPlanned c (row_of n.body) places text plan)
