-- What commands and sweeps make of the nodes.
use Rattle.std.specs.Prelude.{◌≡◌, ◌⊎◌, ℕ, List, [], ◌∷◌, Option, Some, None, IfSome, if◌then◌else◌}
use Rattle.std.specs.Option.{option_map_or}
use Rattle.schema_model.specs.declared.value.Value.{Value}
use Rattle.schema_model.specs.declared.value.Value.TheVariants as value
use Rattle.state_model.specs.declared.command.Command.{Command}
use Rattle.state_model.specs.declared.command.Command.TheVariants.{Del}
use Rattle.state_model.specs.Commands.{value_put}
use Rattle.state_model.specs.Rows.{held_in, values_in}
use Rattle.command_laws.specs.Accounts.{is_clear, replaced}
use Rattle.instance_table.specs.declared.node.Node.{Node}
use Rattle.instance_table.specs.declared.body.Body.{Body}
use Rattle.instance_table.specs.Bodies.{row_of, edited_body, IsBehind}
use Rattle.instance_table.specs.Nodes.{at_node, node_at, held_more, held_less, held_not}

-- the values in the row of a number
abbrev pub values_at : List (ℕ × Node) → ℕ → List Value
values_at es who = option_map_or (λ (n : Node). values_in (row_of n.body)) (node_at es who) []

-- what stands behind a number is what stands from the n-th place of a row on
abbrev pub IsBehindAt : List (ℕ × Node) → ℕ → ℕ → Option ℕ → Type 0
IsBehindAt es who n behind = IfSome (node_at es who) (λ (m : Node). IsBehind (row_of m.body) n behind)

-- the node whose body a command changed
abbrev pub edited_node : Command → Node → Node
edited_node c n = record { body = edited_body c n.body; holders = n.holders; waits = n.waits }

-- the number that a value links to
abbrev pub link_in : Option Value → Option ℕ
link_in (Some (value.Link n)) = Some n
link_in v = None

-- the value whose number has to be live: the one that is put, or that is taken out of a set
abbrev pub value_named : Command → Option Value
value_named (Del r v) = Some v
value_named c = value_put c

-- a place more of a holder holds this, where it is one
abbrev pub hold_link : Option ℕ → ℕ → List (ℕ × Node) → List (ℕ × Node)
hold_link (Some n) h es = at_node n (held_more h) es
hold_link None h es = es

-- a place less of a holder holds this, where it is one
abbrev pub let_go_link : Option ℕ → ℕ → List (ℕ × Node) → List (ℕ × Node)
let_go_link (Some n) h es = at_node n (held_less h) es
let_go_link None h es = es

-- no place of a holder holds these any more
abbrev pub let_go_each : List ℕ → ℕ → List (ℕ × Node) → List (ℕ × Node)
let_go_each [] h es = es
let_go_each (n ∷ ns) h es = let_go_each ns h (at_node n (held_not h) es)

-- after a command that changes one place of a row with this body
abbrev pub place_changed : Command → ℕ → Body → List (ℕ × Node) → List (ℕ × Node)
place_changed c h b es = let_go_link (link_in (replaced c (row_of b))) h (at_node h (edited_node c) (hold_link (link_in (value_put c)) h es))

-- after a command that takes all places out of a row with this body
abbrev pub row_cleared : Command → ℕ → Body → List (ℕ × Node) → List (ℕ × Node)
row_cleared c h b es = at_node h (edited_node c) (let_go_each (held_in (row_of b)) h es)

-- after a command that changes a row with this body
abbrev pub changed : Command → ℕ → Body → List (ℕ × Node) → List (ℕ × Node)
changed c h b es = if is_clear c then row_cleared c h b es else place_changed c h b es

-- as before, but that the link of the command was held and let go again
abbrev pub IsUndone : Command → ℕ → List (ℕ × Node) → List (ℕ × Node) → Type 0
IsUndone c h old new = (new ≡ old) ⊎ (new ≡ let_go_link (link_in (value_put c)) h (hold_link (link_in (value_put c)) h old))
