-- All rows, and which of them the next sweep has to look at.
use Rattle.std.specs.Prelude.{◌≡◌, ℕ, Bool, true, false, not, ◌&&◌, List, [], ◌∷◌, ◌++◌, length, if◌then◌else◌}
use Rattle.std.specs.List.{count_by}
use Rattle.std.specs.Option.{option_map_or}
use Rattle.state_model.specs.Reached.{is_among}
use Rattle.instance_table.specs.declared.node.Node.{Node}
use Rattle.instance_table.specs.Nodes.{node_at}

-- the nodes by their numbers, and the numbers of those that wait
pub record GraphState : Type 0 where
  pub nodes : List (ℕ × Node)
  pub loose : List ℕ

-- no number stands twice
abbrev pub numbers_differ : List ℕ → Bool
numbers_differ [] = true
numbers_differ (n ∷ ns) = not (is_among n ns) && numbers_differ ns

-- a number's node waits
abbrev pub waits_at : List (ℕ × Node) → ℕ → Bool
waits_at es who = option_map_or (λ (n : Node). n.waits) (node_at es who) false

-- how many wait
abbrev pub waiting_count : List (ℕ × Node) → ℕ
waiting_count es = count_by (λ e. e.1.waits) es

-- the numbers of the nodes that wait stand in the list, each once, and no others
pub record AreListed (es : List (ℕ × Node)) (loose : List ℕ) : Type 0 where
  pub listed : (who : ℕ) → is_among who loose ≡ waits_at es who
  pub once : numbers_differ loose ≡ true
  pub counted : length loose ≡ waiting_count es

-- the list with one more, where it is new
abbrev pub with_loose : Bool → ℕ → List ℕ → List ℕ
with_loose new who loose = if new then loose ++ who ∷ [] else loose
