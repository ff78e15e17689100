-- Rows by their numbers, each with who holds it.
use Rattle.std.specs.Prelude.{ℕ, Bool, true, false, not, ◌&&◌, List, [], ◌∷◌, map, filter, length, Option, ◌==◌, if◌then◌else◌}
use Rattle.std.specs.Option.{option_map, option_map_or}
use Rattle.std.specs.List.{flat_map}
use Rattle.lists.specs.Rising as rising
use Rattle.trees.specs.declared.slot.Slot.{Slot}
use Rattle.state_model.specs.declared.row.RowEntry.{RowEntry}
use Rattle.state_model.specs.State.{ItemCount}
use Rattle.instance_table.specs.declared.node.Node.{Node}
use Rattle.instance_table.specs.Bodies.{row_of, given_of}
use Rattle.instance_table.specs.Holders.{with_holder, without_one}

-- the number of an entry
abbrev pub number_of : ℕ × Node → ℕ
number_of e = e.0

-- the node of a number
abbrev pub node_at : List (ℕ × Node) → ℕ → Option Node
node_at es n = option_map (λ e. e.1) (rising.find number_of n es)

-- the entries with the node of a number changed
abbrev pub at_node : ℕ → (Node → Node) → List (ℕ × Node) → List (ℕ × Node)
at_node n f es = map (λ e. if e.0 == n then (e.0, f e.1) else e) es

-- the rows
abbrev pub entry_row : ℕ × Node → RowEntry
entry_row e = record { who = e.0; row = row_of e.1.body }

abbrev pub rows_in : List (ℕ × Node) → List RowEntry
rows_in es = map entry_row es

-- the counts of item numbers
abbrev pub entry_counts : ℕ × Node → List ItemCount
entry_counts e = option_map_or (λ n. record { who = e.0; count = n } ∷ []) (given_of e.1.body) []

abbrev pub counts_in : List (ℕ × Node) → List ItemCount
counts_in es = flat_map entry_counts es

-- ---- what becomes of a node

-- a place more of a holder
abbrev pub held_more : ℕ → Node → Node
held_more h n = record { body = n.body; holders = with_holder h n.holders; waits = n.waits }

-- nothing holds it, and it doesn't wait yet
abbrev pub wakes : List ℕ → Bool → Bool
wakes holders waits = (length holders == 0) && not waits

-- these are its holders; where there are none it waits
abbrev pub woken : List ℕ → Node → Node
woken holders n = record { body = n.body; holders = holders; waits = if wakes holders n.waits then true else n.waits }

-- a place less of a holder, and no place of it
abbrev pub held_less : ℕ → Node → Node
held_less h n = woken (without_one h n.holders) n

abbrev pub held_not : ℕ → Node → Node
held_not h n = woken (filter (λ m. not (m == h)) n.holders) n

-- it doesn't wait any more
abbrev pub rested : Node → Node
rested n = record { body = n.body; holders = n.holders; waits = false }

-- ---- nodes in slots

-- a slot whose node changed, where it has one
abbrev pub at_slot : (Node → Node) → Slot Node → Slot Node
at_slot f s = record { number = s.number; item = option_map f s.item }
