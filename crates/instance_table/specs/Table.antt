-- A table: its state, what the last sweep freed, and what its nodes keep of the state.
use Rattle.std.specs.Prelude.{◌≡◌, ℕ, ◌≤◌, true, false, List, [], map, filter, length, not, ◌==◌, Option, Some, Result, Ok, Err}
use Rattle.std.specs.Option.{option_and_then}
use Rattle.schema_model.specs.Classes.{Schema, is_kept}
use Rattle.schema_model.specs.declared.place.Key.{Key}
use Rattle.schema_model.specs.declared.value.Value.{Value}
use Rattle.state_model.specs.declared.row.RowEntry.{RowEntry}
use Rattle.state_model.specs.declared.command.TableFault.{TableFault}
use Rattle.state_model.specs.declared.command.TableFault.TheVariants as fault
use Rattle.state_model.specs.Rows.{row_at, is_live, place_count, text_bytes_of}
use Rattle.state_model.specs.Reached.{freed}
use Rattle.state_model.specs.Spelled.{are_spelled}
use Rattle.state_model.specs.State.{State, new_state, rows_limit, places_limit, text_limit, last_number}
use Rattle.plain_rows.specs.Links.{held_at}
use Rattle.command_laws.specs.Kept.{IsKept}
use Rattle.command_laws.specs.Accounts.{count_of}
use Rattle.instance_table.specs.declared.node.Node.{Node}
use Rattle.instance_table.specs.Bodies.{value_in}
use Rattle.instance_table.specs.Holders.{AscendsFrom}
use Rattle.instance_table.specs.Nodes.{node_at, rows_in, counts_in}

-- a table: a state of a schema, and the numbers that the last sweep freed
pub record TableState : Type 0 where
  pub schema : Schema
  pub state : State
  pub swept : List ℕ

-- the root alone
abbrev pub new_table : Schema → TableState
new_table schema = record { schema = schema; state = new_state schema; swept = [] }

-- the value in a place
abbrev pub value_of : List RowEntry → ℕ → Key → Option Value
value_of rows holder key = option_and_then (λ r. value_in r key) (row_at rows holder)

-- the numbers that a sweep frees, rising
abbrev pub freed_numbers : List RowEntry → List ℕ
freed_numbers rows = map (λ (e : RowEntry). e.who) (filter (λ (e : RowEntry). not (is_live (freed rows) e.who)) rows)

-- an answer tells what a command does: the new state and the number, or the refusal, or out of memory; without a new state the table is as before
abbrev pub Answers : Result (State × Option ℕ) TableFault → TableState → TableState → Result (Option ℕ) TableFault → Type 0
Answers does old new (Ok made) = (does ≡ Ok (new.state, made)) × (new ≡ record old { state = new.state })
Answers does old new (Err fault.Memory) = new ≡ old
Answers does old new (Err f) = (does ≡ Err f) × (new ≡ old)

-- ---- what nodes keep

-- the state whose rows and counts they are
abbrev pub state_in : List (ℕ × Node) → ℕ → State
state_in es given = record { rows = rows_in es; given = given; counts = counts_in es }

-- the holders of each node are the places that hold it, rising; one without holders waits, unless it is the root
pub record IsExact (es : List (ℕ × Node)) : Type 0 where
  pub counts : (who h : ℕ) (n : Node) → node_at es who ≡ Some n → count_of h n.holders ≡ count_of who (held_at (rows_in es) h)
  pub ascend : (who : ℕ) (n : Node) → node_at es who ≡ Some n → AscendsFrom 0 n.holders
  pub wait : (who : ℕ) (n : Node) → node_at es who ≡ Some n → (who == 0) ≡ false → (length n.holders == 0) ≡ true → n.waits ≡ true

-- the nodes are those of a kept state within the limits, whose rows have bytes, of so many places and bytes of text
pub record IsTable (schema : Schema) (es : List (ℕ × Node)) (given places text : ℕ) : Type 0 where
  pub schema_kept : is_kept schema ≡ true
  pub kept : IsKept schema (state_in es given)
  pub spelled : are_spelled (rows_in es) ≡ true
  pub exact : IsExact es
  pub placed : places ≡ place_count (rows_in es)
  pub texts : text ≡ text_bytes_of (rows_in es)
  pub rows_few : length es ≤ rows_limit
  pub places_few : places ≤ places_limit
  pub text_few : text ≤ text_limit
  pub given_few : given ≤ last_number
