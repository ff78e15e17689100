-- What a row holds, by the places where it stands.
use Rattle.std.proofs.Common.{◌≡◌, ℕ, zero, suc, ◌+◌, ◌<◌, ◌≤◌, Bool, true, false, cond, not, ◌||◌, ◌==◌, List, [], ◌∷◌, length, map, filter, Some, refl, sym, ap, ◌∙◌, true≢false, arith}
use Rattle.std.specs.List.{flat_map, slice_get, range_with_len}
use Rattle.std.specs.Option.{option_map}
use Rattle.std.proofs.lemmas.Bool.Decides.{nat_tests}
use Rattle.std.proofs.lemmas.List.Folds.{list_any-append}
use Rattle.lists.specs.Rising.{RisesFrom, find}
use Rattle.lists.proofs.RisingLaws.{find_below, find_first}
use Rattle.schema_model.specs.declared.value.Value.{Value}
use Rattle.state_model.specs.Values.{held_by, same_value}
use Rattle.state_model.specs.Reached.{is_among}
use Rattle.wire_model.specs.Patch.{stands_in, gone_of}
use Rattle.wire_laws.proofs.PlaceNames.{held_at, same_held}

-- values hold a number
abbrev pub values_hold : ℕ → List Value → Bool
values_hold m vs = is_among m (flat_map held_by vs)

-- the first of some values holds it or the others do
pub values_hold-cons : (m : ℕ) (v : Value) (vs : List Value) → values_hold m (v ∷ vs) ≡ (is_among m (held_by v) || values_hold m vs)
values_hold-cons m v vs = list_any-append _ (held_by v) (flat_map held_by vs)

-- a test that is false where another is
pub contrary : (a b : Bool) → (a ≡ true → b ≡ true) → b ≡ false → a ≡ false
contrary true b h f = absurd (true≢false (sym (h refl) ∙ f))
contrary false b h f = refl

-- ---- places with numbers

module _ {E : Type 0} (key : E → ℕ) (value : E → Value) where
  -- what the place of a number holds is held
  pub found_held : (es : List E) (k m : ℕ) → is_among m (held_at (option_map value (find key k es))) ≡ true → values_hold m (map value es) ≡ true
  found_held [] k m h = absurd (true≢false (sym h))
  found_held (e ∷ es) k m h =
      let parts = values_hold-cons m (value e) (map value es) in
      let go : (b : Bool) → (key e == k) ≡ b → values_hold m (map value (e ∷ es)) ≡ true =
      elim [ true ↦ λ t. let here : is_among m (held_by (value e)) ≡ true = rw t at h in grind (arith, nat_tests, parts) | false ↦ λ t. let there = found_held es k m (rw t at h) in grind (arith, nat_tests, parts) ] in
      go (key e == k) refl

  -- what isn't held no place of a number holds
  pub found_unheld : (es : List E) (k m : ℕ) → values_hold m (map value es) ≡ false → is_among m (held_at (option_map value (find key k es))) ≡ false
  found_unheld es k m h = contrary (is_among m (held_at (option_map value (find key k es)))) (values_hold m (map value es)) (found_held es k m) h

  -- the place of another number, behind the first
  behind : (e : E) (es : List E) (k m : ℕ) → RisesFrom key (suc (key e)) es → is_among m (held_at (option_map value (find key k es))) ≡ true → is_among m (held_at (option_map value (find key k (e ∷ es)))) ≡ true
  behind e es k m r h =
      let go : (b : Bool) → (key e == k) ≡ b → is_among m (held_at (option_map value (cond b (Some e) (find key k es)))) ≡ true =
      elim [ true ↦ λ t. let same : key e ≡ k = grind (arith, nat_tests) in let none = find_below key (suc (key e)) es k r (omega arith) in absurd (true≢false (sym (rw none at h))) | false ↦ λ t. h ] in
      go (key e == k) refl

  -- what is held is held by the place of a number
  pub held_found : (low : ℕ) (es : List E) (m : ℕ) → RisesFrom key low es → values_hold m (map value es) ≡ true → (k : ℕ) × (is_among k (map key es) ≡ true) × (is_among m (held_at (option_map value (find key k es))) ≡ true)
  held_found low [] m r h = absurd (true≢false (sym h))
  held_found low (e ∷ es) m r h =
      let parts = values_hold-cons m (value e) (map value es) in
      let go : (b : Bool) → is_among m (held_by (value e)) ≡ b → (k : ℕ) × (is_among k (map key (e ∷ es)) ≡ true) × (is_among m (held_at (option_map value (find key k (e ∷ es)))) ≡ true) =
      elim [
        | true ↦ λ t. (key e, grind (arith, nat_tests), rw (find_first key e es) t)
        | false ↦ λ t.
            let rest : values_hold m (map value es) ≡ true = grind (arith, nat_tests) in
            let found = held_found (suc (key e)) es m r.1 rest in
            let known = found.1 in
            (found.0, grind (arith, nat_tests), behind e es found.0 m r.1 found.2)
      ] in
      go (is_among m (held_by (value e))) refl

-- ---- places by position

-- what a position holds is held
pub slot_held : (vs : List Value) (i m : ℕ) → is_among m (held_at (slice_get vs i)) ≡ true → values_hold m vs ≡ true
slot_held [] i m h = absurd (true≢false (sym h))
slot_held (v ∷ vs) zero m h = rw (values_hold-cons m v vs, h) refl
slot_held (v ∷ vs) (suc i) m h = let there = slot_held vs i m h in let parts = values_hold-cons m v vs in grind (arith, nat_tests)

-- what isn't held no position holds
pub slot_unheld : (vs : List Value) (i m : ℕ) → values_hold m vs ≡ false → is_among m (held_at (slice_get vs i)) ≡ false
slot_unheld vs i m h = contrary (is_among m (held_at (slice_get vs i))) (values_hold m vs) (slot_held vs i m) h

-- what is held is held by a position
pub held_slot : (vs : List Value) (m : ℕ) → values_hold m vs ≡ true → (i : ℕ) × (i < length vs) × (is_among m (held_at (slice_get vs i)) ≡ true)
held_slot [] m h = absurd (true≢false (sym h))
held_slot (v ∷ vs) m h =
    let parts = values_hold-cons m v vs in
    let go : (b : Bool) → is_among m (held_by v) ≡ b → (i : ℕ) × (i < length (v ∷ vs)) × (is_among m (held_at (slice_get (v ∷ vs) i)) ≡ true) =
    elim [
      | true ↦ λ t. (zero, omega arith, t)
      | false ↦ λ t.
          let rest : values_hold m vs ≡ true = grind (arith, nat_tests) in
          let found = held_slot vs m rest in
          (suc found.0, omega (arith, found.1), found.2)
    ] in
    go (is_among m (held_by v)) refl

-- a number between the ends is in the range
pub among-range : (a n i : ℕ) → a ≤ i → i < a + n → is_among i (range_with_len a n) ≡ true
among-range a zero i h l = absurd (omega arith)
among-range a (suc n) i h l =
    let go : (b : Bool) → (a == i) ≡ b → (b || is_among i (range_with_len (a + 1) n)) ≡ true =
    elim [ true ↦ λ t. refl | false ↦ λ t. let apart : a + 1 ≤ i = grind (arith, nat_tests) in among-range (a + 1) n i apart (omega arith) ] in
    go (a == i) refl

-- ---- values that stand in one list and not in another

-- what a part of the values holds all of them hold
pub filter_held : (p : Value → Bool) (vs : List Value) (m : ℕ) → values_hold m (filter p vs) ≡ true → values_hold m vs ≡ true
filter_held p [] m h = h
filter_held p (v ∷ vs) m h =
    let parts = values_hold-cons m v vs in
    let go : (b : Bool) → p v ≡ b → values_hold m (v ∷ vs) ≡ true =
    elim [
      | true ↦ λ t. let kept : values_hold m (v ∷ filter p vs) ≡ true = rw t at h in let kept_parts = values_hold-cons m v (filter p vs) in grind (arith, nat_tests, filter_held p vs m)
      | false ↦ λ t. let there = filter_held p vs m (rw t at h) in grind (arith, nat_tests)
    ] in
    go (p v) refl

-- what a value holds is held where the value stands
pub stands_held : (vs : List Value) (v : Value) (m : ℕ) → stands_in vs v ≡ true → is_among m (held_by v) ≡ true → values_hold m vs ≡ true
stands_held [] v m h t = absurd (true≢false (sym h))
stands_held (u ∷ us) v m h t =
    let parts = values_hold-cons m u us in
    let go : (b : Bool) → same_value v u ≡ b → values_hold m (u ∷ us) ≡ true =
    elim [
      | true ↦ λ e. let here : is_among m (held_by u) ≡ true = ap (is_among m) (sym (same_held v u e)) ∙ t in grind (arith, nat_tests)
      | false ↦ λ e. let there = stands_held us v m (rw e at h) t in grind (arith, nat_tests)
    ] in
    go (same_value v u) refl

-- what new values hold and old ones don't is held by those that don't stand among the old ones
pub gone_held : (old new : List Value) (m : ℕ) → values_hold m new ≡ true → values_hold m old ≡ false → values_hold m (gone_of old new) ≡ true
gone_held old [] m h g = h
gone_held old (v ∷ vs) m h g =
    let parts = values_hold-cons m v vs in
    let gone_parts = values_hold-cons m v (gone_of old vs) in
    let go : (b : Bool) → stands_in old v ≡ b → values_hold m (cond (not b) (v ∷ gone_of old vs) (gone_of old vs)) ≡ true =
    elim [
      | true ↦ λ e.
          let unheld : is_among m (held_by v) ≡ false = contrary (is_among m (held_by v)) (values_hold m old) (stands_held old v m e) g in
          let rest : values_hold m vs ≡ true = grind (arith, nat_tests) in
          gone_held old vs m rest g
      | false ↦ λ e. grind (arith, nat_tests, gone_held old vs m)
    ] in
    go (stands_in old v) refl
