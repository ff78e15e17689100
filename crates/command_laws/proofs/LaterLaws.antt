-- What stays of a state: over an accepted command, over a sweep, and where nothing changed.
use Rattle.std.proofs.Common.{◌≡◌, ◌⊎◌, inl, inr, ℕ, ◌≤◌, List, Option, Some, None, Ok, sym, ap, ◌∙◌, arith}
use Rattle.lists.specs.Rising.{find}
use Rattle.lists.proofs.Options.{same_some}
use Rattle.schema_model.specs.Classes.{Schema}
use Rattle.schema_model.specs.declared.place.Home.{Home}
use Rattle.state_model.specs.declared.row.Row.{Row}
use Rattle.state_model.specs.declared.row.Row.TheVariants.{Map}
use Rattle.state_model.specs.declared.row.MapItem.{MapItem}
use Rattle.state_model.specs.declared.command.Command.{Command}
use Rattle.state_model.specs.Reached.{is_among}
use Rattle.state_model.specs.Rows.{row_at, emptied}
use Rattle.state_model.specs.State.{State, next_item, swept}
use Rattle.state_model.specs.Commands.{do_command}
use Rattle.state_laws.proofs.Numbers.{live_at}
use Rattle.command_laws.specs.Kept.{IsKept, item_numbers}
use Rattle.command_laws.proofs.CommandLaws.{command_counts, command_given, command_keys, command_kinds, command_new, command_numbers}
use Rattle.command_laws.proofs.SoundRows.{sound_rises}
use Rattle.command_laws.proofs.SweptStates.{sweep_next, sweep_rows}
use Rattle.command_laws.specs.Later.{IsLater}

-- an item that is found twice in the items of one row has one key
one_key : (k : ℕ) (home other : Home) (is js : List MapItem) (i j : MapItem) → Map home is ≡ Map other js → find (λ (x : MapItem). x.number) k is ≡ Some i → find (λ (x : MapItem). x.number) k js ≡ Some j → j.key ≡ i.key
one_key k home other is js i j same a b =
    let items : is ≡ js = cc in
    let both : Some j ≡ Some i = sym b ∙ (ap (find (λ (x : MapItem). x.number) k) (sym items) ∙ a) in
    let one : j ≡ i = cc in
    ap (λ (x : MapItem). x.key) one

-- rows that stay as they are, with counts that stay
rows_stay : (s t : State) → ((n : ℕ) (b : Row) → row_at t.rows n ≡ Some b → row_at s.rows n ≡ Some b) → s.given ≤ t.given → ((n : ℕ) (b : Row) → row_at t.rows n ≡ Some b → next_item s n ≤ next_item t n) → IsLater s t
rows_stay s t within given counts = record {
  kinds = λ n a b was is. ap emptied (one n a b was is);
  fresh = λ n b none is. let clash : Some b ≡ None = sym (within n b is) ∙ none in cc;
  given = given;
  items = λ n k a b was is there. inl (ap (λ r. is_among k (item_numbers r)) (sym (one n a b was is)) ∙ there);
  counts = counts;
  keys = λ n k home other is js i j was at. one_key k home other is js i j (sym (one n (Map home is) (Map other js) was at));
}
  where
    one : (n : ℕ) (a b : Row) → row_at s.rows n ≡ Some a → row_at t.rows n ≡ Some b → b ≡ a
    one n a b was is = same_some b a (sym (within n b is) ∙ was)

-- nothing changed
pub later_same : (s : State) → IsLater s s
later_same s = rows_stay s s (λ n b is. is) (omega arith) (λ n b is. omega arith)

-- a sweep
pub later_swept : (schema : Schema) (s : State) → IsKept schema s → IsLater s (swept s)
later_swept schema s kept =
    rows_stay s (swept s) (λ n b is. sweep_rows s n b (sound_rises schema s.rows kept.sound) is) (omega arith)
    (λ n b is. let same = sweep_next s n (live_at (swept s).rows n b is) in omega (arith, same))

-- an accepted command
pub later_command : (schema : Schema) (s : State) (c : Command) (t : State) (made : Option ℕ) → IsKept schema s → do_command schema s c ≡ Ok (t, made) → IsLater s t
later_command schema s c t made kept h = record {
  kinds = λ n a b was is.
      let after = command_kinds schema s c t made kept h n a was in
      ap emptied (same_some b after.0 (sym is ∙ after.1)) ∙ after.2;
  fresh = λ n b none is. let new = command_new schema s c t made h n b none is in omega (arith, new.1);
  given = command_given schema s c t made h;
  items = λ n k a b was is there. next k n (command_numbers schema s c t made kept h n a b k was is there);
  counts = λ n b is. command_counts schema s c t made kept h n;
  keys = λ n k home other is js i j was at. command_keys schema s c t made kept h n home other is js k i j was at;
}
  where
    next : {A : Type 0} → (k n : ℕ) → A ⊎ (k ≡ next_item s n) → A ⊎ (next_item s n ≤ k)
    next k n (inl a) = inl a
    next k n (inr e) = inr (omega (arith, e))
