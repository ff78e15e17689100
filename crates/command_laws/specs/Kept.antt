-- What every state keeps that commands and sweeps make of the new one.
use Rattle.std.specs.Prelude.{◌≡◌, ℕ, ◌≤◌, ◌<◌, true, false, List, [], map, Some, is_some}
use Rattle.std.specs.Option.{option_map_or}
use Rattle.lists.specs.Rising.{RisesFrom, find}
use Rattle.schema_model.specs.Classes.{Schema}
use Rattle.state_model.specs.declared.row.Row.{Row}
use Rattle.state_model.specs.declared.row.Row.TheVariants.{Map, Set}
use Rattle.state_model.specs.declared.row.MapItem.{MapItem}
use Rattle.state_model.specs.declared.row.SetItem.{SetItem}
use Rattle.state_model.specs.Rows.{row_at, is_live}
use Rattle.state_model.specs.Reached.{is_among, HasNoCycle}
use Rattle.state_model.specs.Sound.{are_sound}
use Rattle.state_model.specs.State.{State, ItemCount, next_item}
use Rattle.state_model.specs.Commands.{counts_items}

-- the item numbers in a row
abbrev pub item_numbers : Row → List ℕ
item_numbers (Map home items) = map (λ (i : MapItem). i.number) items
item_numbers (Set home items) = map (λ (i : SetItem). i.number) items
item_numbers row = []

-- what a state keeps: sound rows without a cycle, numbers that were given, and a count for each map and set above its item numbers
pub record IsKept (schema : Schema) (s : State) : Type 0 where
  pub sound : are_sound schema s.rows ≡ true
  pub acyclic : HasNoCycle s.rows
  pub given : (n : ℕ) → is_live s.rows n ≡ true → n ≤ s.given
  pub counts_rise : RisesFrom (λ (c : ItemCount). c.who) 0 s.counts
  pub counted : (n : ℕ) → is_some (find (λ (c : ItemCount). c.who) n s.counts) ≡ option_map_or counts_items (row_at s.rows n) false
  pub items_given : (n : ℕ) (r : Row) → row_at s.rows n ≡ Some r → (k : ℕ) → is_among k (item_numbers r) ≡ true → k < next_item s n
