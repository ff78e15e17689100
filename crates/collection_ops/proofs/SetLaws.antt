-- The items of a set while values are added and taken out.
use Rattle.std.proofs.Common.{◌≡◌, ℕ, ◌+◌, ◌≤◌, Bool, true, false, not, List, [], ◌∷◌, ◌++◌, map, filter, Option, Some, None, Ok, Err, is_some, option_map, refl, sym, ap, ◌∙◌, zero-le, arith}
use Rattle.std.specs.Bool.{nat_lt}
use Rattle.std.specs.Map.{update}
use Rattle.std.proofs.lemmas.Bool.Decides.{nat_tests}
use Rattle.lists.specs.Rising as rising
use Rattle.lists.proofs.RisingLaws.{RisesFrom-push, RisesFrom-filter, IsAbove-higher, IsAbove-append, IsAbove-filter}
use Rattle.schema_model.specs.declared.value.Value.{Value}
use Rattle.state_model.specs.declared.row.SetItem.{SetItem}
use Rattle.state_model.specs.Values.{same_value}
use Rattle.state_model.specs.Sound.{differ}
use Rattle.state_model.specs.Commands.{has_value}
use Rattle.collection_ops.specs.declared.fault.ItemFault.TheVariants.{Present, NumbersSpent}
use Rattle.collection_ops.specs.Bodies.{SetState, set_number, value_item, if_there, set_add, set_remove, IsSetKept}
use Rattle.collection_ops.specs.Indexes.{value_number, IsWithValue, IsWithoutValue, IsValueIndex}
use Rattle.collection_ops.specs.declared.value_index.ValueIndex.{ValueIndex}
use Rattle.collection_ops.proofs.SetIndex.{index_by, more_index, less_index}
use Rattle.collection_ops.proofs.Indexed.{all_differ, item_has, item_found, item_there, leads-push, differ-push, item_out, leads-out, differ-filter}
use Rattle.state_laws.proofs.SameValues.{same_is, same_self}

-- the value of an item
abbrev value_in : SetItem → Value
value_in i = i.value

-- values differ where nothing stands twice
values_apart : (vs : List Value) → differ vs ≡ all_differ same_value vs
values_apart [] = refl
values_apart (v ∷ vs) = grind (arith, nat_tests, values_apart vs)

-- a value is there where its item has a number
any_item : (items : List SetItem) (v : Value) → has_value items v ≡ is_some (option_map set_number (value_item items v))
any_item [] v = refl
any_item (i ∷ items) v = grind (arith, nat_tests, any_item items v)

-- the test whether a value has a number
pub value_there : (items : List SetItem) (v : Value) (found : Option ℕ) (b : Bool) → found ≡ option_map set_number (value_item items v) → is_some found ≡ b → has_value items v ≡ b
value_there items v found b at is = any_item items v ∙ (ap is_some (sym at) ∙ is)

-- where it has none no item holds it
pub none_holds : (items : List SetItem) (v : Value) (found : Option ℕ) → found ≡ option_map set_number (value_item items v) → is_some found ≡ false → value_item items v ≡ None
none_holds items v found at is = go (value_item items v) (ap is_some (sym at) ∙ is)
  where
    go : (o : Option SetItem) → is_some (option_map set_number o) ≡ false → o ≡ None
    go None h = refl
    go (Some i) h = cc

-- ---- a value is added

-- the value is there
pub add_present : (s : SetState) (v : Value) → has_value s.items v ≡ true → set_add s v ≡ Err Present
add_present s v h = rw h refl

-- a value that no item holds isn't there
not_there : (items : List SetItem) (v : Value) → value_item items v ≡ None → has_value items v ≡ false
not_there items v none = any_item items v ∙ ap (λ o. is_some (option_map set_number o)) none

-- no number is left
pub add_spent : (s : SetState) (v : Value) → value_item s.items v ≡ None → nat_lt 2147483647 s.given ≡ true → set_add s v ≡ Err NumbersSpent
add_spent s v none spent = rw (not_there s.items v none, spent) refl

-- what a state keeps, its index and the answer of a call
abbrev pub AfterAdd : SetState → Value → ValueIndex → Type 0
AfterAdd s v index =
    let after : SetState = record { items = s.items ++ record { number = s.given; value = v } ∷ []; given = s.given + 1 } in
    IsSetKept after × IsValueIndex after.items index × (set_add s v ≡ Ok (after, s.given))

-- a value that isn't there is added
pub added : (s : SetState) (v : Value) (old new : ValueIndex) → IsSetKept s → IsValueIndex s.items old → value_item s.items v ≡ None → nat_lt 2147483647 s.given ≡ false → IsWithValue old new v s.given → AfterAdd s v new
added s v old new kept is none left more =
    let x : SetItem = record { number = s.given; value = v } in
    let f = value_number s.items old in
    let g = update same_value f v (Some s.given) in
    let few : s.given ≤ 2147483647 = grind (arith, nat_tests) in
    let differ = differ-push set_number value_in same_value same_is same_self s.items x none (sym (values_apart (map value_in s.items)) ∙ kept.differ) in (
      record {
        rises = RisesFrom-push set_number 0 s.items x kept.rises kept.below zero-le;
        below = IsAbove-append set_number (s.given + 1) s.items (x ∷ []) (IsAbove-higher set_number s.given (s.given + 1) s.items kept.below (omega arith)) (omega arith, tt);
        differ = values_apart (map value_in (s.items ++ x ∷ [])) ∙ differ;
        few = omega arith;
      },
      index_by (s.items ++ x ∷ []) new g (more_index s.items old is new v s.given kept.below none more) (leads-push set_number value_in same_value same_is same_self s.items x f g none is.values (λ q. refl)),
      rw (not_there s.items v none, left) refl,
    )

-- ---- an item is taken out

-- what a state keeps, its index and the answer, where an item is taken out
abbrev pub AfterRemove : SetState → Value → List SetItem → ValueIndex → ℕ → Type 0
AfterRemove s v after index n =
    IsSetKept (record { items = after; given = s.given }) × IsValueIndex after index × (set_remove s v ≡ Ok (record { items = after; given = s.given }, n))

-- the items without that of a value
abbrev without : Value → List SetItem → List SetItem
without v items = filter (λ (x : SetItem). not (same_value x.value v)) items

-- what is kept without the item of the value
kept_without : (s : SetState) (v : Value) → IsSetKept s → IsSetKept (record { items = without v s.items; given = s.given })
kept_without s v kept =
    let stays : SetItem → Bool = λ x. not (same_value x.value v) in
    let differ = differ-filter set_number value_in same_value same_is same_self s.items stays (sym (values_apart (map value_in s.items)) ∙ kept.differ) in
    record {
      rises = RisesFrom-filter set_number 0 stays s.items kept.rises;
      below = IsAbove-filter set_number s.given stays s.items kept.below;
      differ = values_apart (map value_in (filter stays s.items)) ∙ differ;
      few = kept.few;
    }

-- a removal by the number that the index tells
pub taken_out : (s : SetState) (v : Value) (old new : ValueIndex) (n : ℕ) (after : List SetItem) →
    IsSetKept s → IsValueIndex s.items old → option_map set_number (value_item s.items v) ≡ Some n →
    after ≡ rising.remove set_number n s.items → IsWithoutValue old new v n → AfterRemove s v after new n
taken_out s v old new n after kept is led made less = rw whole (kept_without s v kept, index, answer)
  where
    there : (e : SetItem) × (value_item s.items v ≡ Some e) × (e.number ≡ n)
    there = item_there set_number value_in same_value same_is same_self s.items v n led

    at : rising.find set_number n s.items ≡ Some there.0
    at = rw there.2 at (item_found set_number value_in same_value same_is same_self 0 s.items v there.0 kept.rises there.1)

    holds : there.0.value ≡ v
    holds = same_is there.0.value v (item_has set_number value_in same_value same_is same_self s.items v there.0 there.1)

    out : rising.remove set_number n s.items ≡ without v s.items
    out = rw there.2 at (item_out set_number value_in same_value same_is same_self 0 s.items v there.0 kept.rises (sym (values_apart (map value_in s.items)) ∙ kept.differ) there.1)

    whole : after ≡ without v s.items
    whole = made ∙ out

    index : IsValueIndex (without v s.items) new
    index =
        let f = value_number s.items old in
        let g = update same_value f v None in
        index_by (without v s.items) new g (rw out at (less_index s.items old is new v n there.0 led at holds less)) (leads-out set_number value_in same_value same_is same_self s.items v f g is.values (λ q. refl))

    answer : set_remove s v ≡ Ok (record { items = without v s.items; given = s.given }, n)
    answer =
        ap (λ o. if_there (record { items = without v s.items; given = s.given }) (option_map (λ (x : SetItem). x.number) o)) there.1
        ∙ ap (λ m. Ok (record { items = without v s.items; given = s.given }, m)) there.2
