-- What stays over two changes of a state, one after the other.
use Rattle.std.proofs.Common.{◌≡◌, ◌⊎◌, inl, inr, ℕ, ◌<◌, ◌≤◌, true, false, List, Option, Some, None, is_some, refl, sym, ap, ◌∙◌, arith}
use Rattle.std.specs.Option.{option_map_or}
use Rattle.lists.specs.Rising.{find}
use Rattle.lists.proofs.RisingLaws.{list_any-keys}
use Rattle.lists.proofs.Options.{some_there}
use Rattle.schema_model.specs.Classes.{Schema}
use Rattle.schema_model.specs.declared.place.Home.{Home}
use Rattle.state_model.specs.declared.row.Row.{Row}
use Rattle.state_model.specs.declared.row.Row.TheVariants.{Struct, Map, Array, Set}
use Rattle.state_model.specs.declared.row.MapItem.{MapItem}
use Rattle.state_model.specs.Reached.{is_among}
use Rattle.state_model.specs.Rows.{row_at, emptied}
use Rattle.state_model.specs.State.{State, ItemCount, next_item}
use Rattle.state_model.specs.Commands.{counts_items}
use Rattle.state_laws.proofs.Numbers.{live_at}
use Rattle.command_laws.specs.Kept.{IsKept, item_numbers}
use Rattle.command_laws.specs.Later.{IsLater}

-- the number of an item
abbrev item_number : MapItem → ℕ
item_number x = x.number

-- a number is among those of the items where an item is found under it
found_among : (k : ℕ) (home : Home) (is : List MapItem) (i : MapItem) → find item_number k is ≡ Some i → is_among k (item_numbers (Map home is)) ≡ true
found_among k home is i h = list_any-keys item_number is k ∙ ap is_some h

-- and an item is found under a number that is among them
among_found : (k : ℕ) (home : Home) (is : List MapItem) → is_among k (item_numbers (Map home is)) ≡ true → (i : MapItem) × (find item_number k is ≡ Some i)
among_found k home is h = some_there (find item_number k is) (sym (list_any-keys item_number is k) ∙ h)

-- a row that isn't there gave no item numbers
none_given : (schema : Schema) (s : State) (n : ℕ) → IsKept schema s → row_at s.rows n ≡ None → next_item s n ≡ 0
none_given schema s n kept none = by (find (λ (c : ItemCount). c.who) n s.counts) (kept.counted n ∙ ap (λ o. option_map_or counts_items o false) none) where
  by : (o : Option ItemCount) → is_some o ≡ false → option_map_or (λ (c : ItemCount). c.count) o 0 ≡ 0
  by None h = refl
  by (Some c) h = absurd (cc)

-- a row of a map's kind is a map
as_map : (home : Home) (is : List MapItem) (m : Row) → emptied m ≡ emptied (Map home is) → (other : Home) × (ms : List MapItem) × (m ≡ Map other ms)
as_map home is (Struct c fs) h = absurd (cc)
as_map home is (Map other ms) h = (other, ms, refl)
as_map home is (Array c fs) h = absurd (cc)
as_map home is (Set c fs) h = absurd (cc)

module _ (schema : Schema) (r s t : State) (kept : IsKept schema r) (first : IsLater r s) (second : IsLater s t) where
  -- a row that is there before and behind is there between
  between : (n : ℕ) (a b : Row) → row_at r.rows n ≡ Some a → row_at t.rows n ≡ Some b → (m : Row) × (row_at s.rows n ≡ Some m)
  between n a b was is = by (row_at s.rows n) refl where
    by : (o : Option Row) → row_at s.rows n ≡ o → (m : Row) × (row_at s.rows n ≡ Some m)
    by (Some m) here = (m, here)
    by None none = absurd (omega (arith, kept.given n (live_at r.rows n a was), first.given, second.fresh n b none is))

  fresh_again : (n : ℕ) (b : Row) → row_at r.rows n ≡ None → row_at t.rows n ≡ Some b → r.given < n
  fresh_again n b none is = by (row_at s.rows n) refl where
    by : (o : Option Row) → row_at s.rows n ≡ o → r.given < n
    by (Some m) here = first.fresh n m none here
    by None gone = omega (arith, first.given, second.fresh n b gone is)

  items_again : (n k : ℕ) (a b : Row) → row_at r.rows n ≡ Some a → row_at t.rows n ≡ Some b → is_among k (item_numbers b) ≡ true → (is_among k (item_numbers a) ≡ true) ⊎ (next_item r n ≤ k)
  items_again n k a b was is there =
      let m = between n a b was is in
      elim (second.items n k m.0 b m.1 is there) [
        | inl here ↦ first.items n k a m.0 was m.1 here
        | inr late ↦ inr (omega (arith, late, first.counts n m.0 m.1))
      ]

  counts_again : (n : ℕ) (b : Row) → row_at t.rows n ≡ Some b → next_item r n ≤ next_item t n
  counts_again n b is = by (row_at s.rows n) refl where
    unknown : (o : Option Row) → row_at r.rows n ≡ o → s.given < n → next_item r n ≤ next_item t n
    unknown None none late = omega (arith, none_given schema r n kept none)
    unknown (Some a) was late = absurd (omega (arith, kept.given n (live_at r.rows n a was), first.given))

    by : (o : Option Row) → row_at s.rows n ≡ o → next_item r n ≤ next_item t n
    by (Some m) here = omega (arith, first.counts n m here, second.counts n b is)
    by None gone = unknown (row_at r.rows n) refl (second.fresh n b gone is)

  keys_again : (n k : ℕ) (home other : Home) (is js : List MapItem) (i j : MapItem) → row_at r.rows n ≡ Some (Map home is) → row_at t.rows n ≡ Some (Map other js)
      → find item_number k is ≡ Some i → find item_number k js ≡ Some j → j.key ≡ i.key
  keys_again n k home other is js i j was now at_first at_last =
      let m = between n (Map home is) (Map other js) was now in
      let map = as_map home is m.0 (first.kinds n (Map home is) m.0 was m.1) in
      let here : row_at s.rows n ≡ Some (Map map.0 map.1) = m.1 ∙ ap Some map.2 in
      let given : k < next_item r n = kept.items_given n (Map home is) was k (found_among k home is i at_first) in
      elim (second.items n k (Map map.0 map.1) (Map other js) here now (found_among k other js j at_last)) [
        | inl stays ↦
            let x = among_found k map.0 map.1 stays in
            second.keys n k map.0 other map.1 js x.0 j here now x.1 at_last ∙ first.keys n k home map.0 is map.1 i x.0 was here at_first x.1
        | inr late ↦ absurd (omega (arith, late, given, first.counts n (Map map.0 map.1) here))
      ]

  pub later_again : IsLater r t
  later_again = record {
    kinds = λ n a b was is. let m = between n a b was is in second.kinds n m.0 b m.1 is ∙ first.kinds n a m.0 was m.1;
    fresh = fresh_again;
    given = omega (arith, first.given, second.given);
    items = items_again;
    counts = counts_again;
    keys = keys_again;
  }
