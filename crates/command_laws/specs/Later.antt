-- What stays of a state from one command or sweep to the next: kinds and keys, and that no number is given again. Ours.
use Rattle.std.specs.Prelude.{◌≡◌, ◌⊎◌, ℕ, ◌<◌, ◌≤◌, true, List, Some, None}
use Rattle.lists.specs.Rising.{find}
use Rattle.schema_model.specs.declared.place.Home.{Home}
use Rattle.state_model.specs.declared.row.Row.{Row}
use Rattle.state_model.specs.declared.row.Row.TheVariants.{Map}
use Rattle.state_model.specs.declared.row.MapItem.{MapItem}
use Rattle.state_model.specs.Reached.{is_among}
use Rattle.state_model.specs.Rows.{row_at, emptied}
use Rattle.state_model.specs.State.{State, next_item}
use Rattle.command_laws.specs.Kept.{item_numbers}

-- a row that stays is of its kind; a new one has a number above all that were given; an item that stays keeps its key, and a new one has a number that its row hadn't given
pub record IsLater (old new : State) : Type 0 where
  pub kinds : (n : ℕ) (a b : Row) → row_at old.rows n ≡ Some a → row_at new.rows n ≡ Some b → emptied b ≡ emptied a
  pub fresh : (n : ℕ) (b : Row) → row_at old.rows n ≡ None → row_at new.rows n ≡ Some b → old.given < n
  pub given : old.given ≤ new.given
  pub items : (n k : ℕ) (a b : Row) → row_at old.rows n ≡ Some a → row_at new.rows n ≡ Some b → is_among k (item_numbers b) ≡ true → (is_among k (item_numbers a) ≡ true) ⊎ (next_item old n ≤ k)
  pub counts : (n : ℕ) (b : Row) → row_at new.rows n ≡ Some b → next_item old n ≤ next_item new n
  pub keys : (n k : ℕ) (home other : Home) (is js : List MapItem) (i j : MapItem) → row_at old.rows n ≡ Some (Map home is) → row_at new.rows n ≡ Some (Map other js)
      → find (λ (x : MapItem). x.number) k is ≡ Some i → find (λ (x : MapItem). x.number) k js ≡ Some j → j.key ≡ i.key
