-- The operations on places that go by number find their items, where those at each number leave what the numbers behind it ask for.
use Rattle.std.proofs.Common.{◌≡◌, ◌≢◌, ℕ, suc, Bool, true, false, cond, ◌==◌, List, [], ◌∷◌, map, Option, Some, None, refl, sym, ap, ◌∙◌, arith}
use Rattle.std.specs.List.{fold, flat_map}
use Rattle.std.specs.Option.{option_map}
use Rattle.std.proofs.lemmas.Bool.{or_right}
use Rattle.std.proofs.lemmas.Bool.Decides.{nat_tests}
use Rattle.lists.specs.Rising.{RisesFrom, find}
use Rattle.schema_model.specs.declared.value.Value.{Value}
use Rattle.state_model.specs.declared.row.RowEntry.{RowEntry}
use Rattle.state_model.specs.Values.{same_value, is_link}
use Rattle.state_model.specs.declared.place.Expected.{Expected}
use Rattle.state_model.specs.Reached.{is_among}
use Rattle.state_laws.proofs.Numbers.{rises_with}
use Rattle.wire_model.specs.declared.op.OpKey.{OpKey}
use Rattle.wire_model.specs.Edits.{Edit, Add, Replace, DeleteAdd, Delete, Carried}
use Rattle.wire_model.specs.Effect.{Body, effect}
use Rattle.wire_model.specs.Patch.{carried, changed_place, place_edit, either_number}
use Rattle.wire_laws.proofs.Runs.{is_among_below, RisesFrom-keys}
use Rattle.byte_laws.proofs.Found.{all_found, all_found-append}

module _ {E : Type 0} (key : E → ℕ) (wrap : List E → Body) (old new : List E) where
  -- of the numbers that are left, those that old and new both have are there as in old
  abbrev pub Waiting : List ℕ → List E → Type 0
  Waiting left es = (k : ℕ) (x y : E) → is_among k left ≡ true → find key k old ≡ Some x → find key k new ≡ Some y → find key k es ≡ Some x

  -- operations find their items, and the numbers that are left still wait
  pub record Passes (left : List ℕ) (es : List E) (edits : List Edit) : Type 0 where
    pub found : all_found edits (wrap es) ≡ true
    pub next : List E
    pub leads : fold (λ b e. effect e b) (wrap es) edits ≡ wrap next
    pub waits : Waiting left next

  -- a number that is left isn't one that isn't
  apart_from : (u k : ℕ) (us : List ℕ) → is_among u us ≡ false → is_among k us ≡ true → k ≢ u
  apart_from u k us apart among e = let t : is_among u us ≡ true = ap (λ n. is_among n us) (sym e) ∙ among in cc

  -- what is left behind a number is left
  left_behind : (u k : ℕ) (us : List ℕ) → is_among k us ≡ true → is_among k (u ∷ us) ≡ true
  left_behind u k us among = or_right (u == k) (is_among k us) among

  -- where each other number that waits looks up as before, the numbers behind still wait
  pub others_wait : (u : ℕ) (us : List ℕ) (es next : List E) → is_among u us ≡ false → Waiting (u ∷ us) es
      → ((k : ℕ) (x y : E) → k ≢ u → find key k es ≡ Some x → find key k old ≡ Some x → find key k new ≡ Some y → find key k next ≡ Some x) → Waiting us next
  others_wait u us es next apart w stays k x y among o n = stays k x y (apart_from u k us apart among) (w k x y (left_behind u k us among) o n) o n

  -- without an operation, the numbers behind still wait
  none_passes : (u : ℕ) (us : List ℕ) (es : List E) → Waiting (u ∷ us) es → Passes us es []
  none_passes u us es w = record { found = refl; next = es; leads = refl; waits = λ k x y among o n. w k x y (left_behind u k us among) o n }

  -- each operation at the first number that is left passes; the item of an operation in place of another is there
  pub record Keyed (place named : ℕ → OpKey) : Type 0 where
    pub adds : (u : ℕ) (us : List ℕ) (es : List E) (y : E) (c : Carried) → is_among u us ≡ false → Waiting (u ∷ us) es → find key u new ≡ Some y → Passes us es (Add (named u) c ∷ [])
    pub changes : (u : ℕ) (us : List ℕ) (es : List E) (y : E) (c : Carried) → is_among u us ≡ false → Waiting (u ∷ us) es → find key u new ≡ Some y → Passes us es (DeleteAdd (named u) c ∷ [])
    pub replaces : (u : ℕ) (us : List ℕ) (es : List E) (x : E) (c : Carried) → is_among u us ≡ false → Waiting (u ∷ us) es → find key u es ≡ Some x → Passes us es (Replace (place u) c ∷ [])
    pub deletes : (u : ℕ) (us : List ℕ) (es : List E) → is_among u us ≡ false → Waiting (u ∷ us) es → Passes us es (Delete (place u) ∷ [])

  module _ (place named : ℕ → OpKey) (laws : Keyed place named) (value : E → Value) (rows : List RowEntry) (expected : ℕ → Option Expected) where
    -- the operation on a place that has another value
    change_passes : (u : ℕ) (us : List ℕ) (es : List E) (x y : E) (c : Carried) → is_among u us ≡ false → Waiting (u ∷ us) es → find key u old ≡ Some x → find key u new ≡ Some y
        → (link : Bool) → is_link (value y) ≡ link → Passes us es (changed_place (place u) (named u) (value y) c ∷ [])
    change_passes u us es x y c apart w o n true t = rw t (laws.changes u us es y c apart w n)
    change_passes u us es x y c apart w o n false t = rw t (laws.replaces u us es x c apart w (w u x y (grind (arith, nat_tests)) o n))

    -- the operations at a number, by whether it is in old and in new
    place_passes : (u : ℕ) (us : List ℕ) (es : List E) (o n : Option E) → is_among u us ≡ false → Waiting (u ∷ us) es → find key u old ≡ o → find key u new ≡ n
        → Passes us es (place_edit (place u) (named u) rows (expected u) (option_map value o) (option_map value n))
    place_passes u us es None None apart w o n = none_passes u us es w
    place_passes u us es None (Some y) apart w o n = laws.adds u us es y (carried rows (expected u) (value y)) apart w n
    place_passes u us es (Some x) None apart w o n = laws.deletes u us es apart w
    place_passes u us es (Some x) (Some y) apart w o n = by (same_value (value x) (value y))
      where
        by : (same : Bool) → Passes us es (cond same [] (changed_place (place u) (named u) (value y) (carried rows (expected u) (value y)) ∷ []))
        by true = none_passes u us es w
        by false = change_passes u us es x y (carried rows (expected u) (value y)) apart w o n (is_link (value y)) refl

    -- the operations at a number
    abbrev edits_at : ℕ → List Edit
    edits_at u = place_edit (place u) (named u) rows (expected u) (option_map value (find key u old)) (option_map value (find key u new))

    -- the operations at all of some numbers
    numbers_found : (us : List ℕ) (low : ℕ) (es : List E) → RisesFrom (λ n. n) low us → Waiting us es → all_found (flat_map edits_at us) (wrap es) ≡ true
    numbers_found [] low es rises w = refl
    numbers_found (u ∷ us) low es rises w =
        let p = place_passes u us es (find key u old) (find key u new) (is_among_below (suc u) us u rises.1 (omega arith)) w refl refl in
        let rest : all_found (flat_map edits_at us) (wrap p.next) ≡ true = numbers_found us (suc u) p.next rises.1 p.waits in
        all_found-append (edits_at u) (flat_map edits_at us) (wrap es) p.found (ap (all_found (flat_map edits_at us)) p.leads ∙ rest)

    -- the operations at the numbers of old and new find their items, where the items of old are there
    pub places_found : (es : List E) → RisesFrom key 0 old → ((k : ℕ) (x : E) → find key k old ≡ Some x → find key k es ≡ Some x)
        → all_found (flat_map edits_at (either_number (map key old) (map key new))) (wrap es) ≡ true
    places_found es rises there =
        numbers_found (either_number (map key old) (map key new)) 0 es (rises_with (map key old) (map key new) (RisesFrom-keys key 0 old rises)) (λ k x y among o n. there k x o)
