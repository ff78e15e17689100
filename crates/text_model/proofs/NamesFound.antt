-- Names are found at their own places, and what is found has the name.
use Rattle.std.proofs.Common.{◌≡◌, ℕ, zero, suc, ◌+◌, ◌<◌, Bool, true, false, ◌||◌, cond, List, [], ◌∷◌, length, map, Some, is_some, refl, sym, ap, ◌∙◌, arith, bytes_eq, slice_get}
use Rattle.std.specs.List.{list_any}
use Rattle.std.specs.Option.{option_map_or}
use Rattle.std.proofs.lemmas.Bool.{and_parts, or_parts, not-true, cond-false, cond-true}
use Rattle.lists.proofs.SameBytes.{same_bytes, bytes_eq_self, bytes_eq_sym}
use Rattle.state_model.specs.Sound.{keys_differ}
use Rattle.text_model.specs.declared.draft.DraftClass.{DraftClass}
use Rattle.text_model.specs.SchemaReading.{place_from}

-- ---- the names of classes

abbrev pub names_of : List DraftClass → List (List ℕ)
names_of classes = map (λ (c : DraftClass). c.name) classes

-- the name of a class by its place
abbrev pub draft_name : List DraftClass → ℕ → List ℕ
draft_name classes n = option_map_or (λ (c : DraftClass). c.name) (slice_get classes n) []

-- a name has a place where it is one of the names
pub is_placed : (n : ℕ) (cs : List DraftClass) (name : List ℕ) → is_some (place_from n cs name) ≡ list_any (bytes_eq name) (names_of cs)
is_placed n [] name = refl
is_placed n (c ∷ cs) name = from (bytes_eq c.name name) refl (is_placed (suc n) cs name)
  where
    from : (b : Bool) → bytes_eq c.name name ≡ b → is_some (place_from (suc n) cs name) ≡ list_any (bytes_eq name) (names_of cs)
        → is_some (cond b (Some n) (place_from (suc n) cs name)) ≡ (bytes_eq name c.name || list_any (bytes_eq name) (names_of cs))
    from true e rest = sym (ap (λ b. b || list_any (bytes_eq name) (names_of cs)) (bytes_eq_sym name c.name ∙ e))
    from false e rest = rest ∙ sym (ap (λ b. b || list_any (bytes_eq name) (names_of cs)) (bytes_eq_sym name c.name ∙ e))

-- the class at a name's place has this name
pub placed_name : (n : ℕ) (cs : List DraftClass) (name : List ℕ) (i : ℕ) → place_from n cs name ≡ Some i
    → (k : ℕ) × (i ≡ n + k) × (k < length cs) × (draft_name cs k ≡ name)
placed_name n [] name i h = absurd (cc)
placed_name n (c ∷ cs) name i h = from (bytes_eq c.name name) refl (placed_name (suc n) cs name i) h
  where
    from : (b : Bool) → bytes_eq c.name name ≡ b
        → (place_from (suc n) cs name ≡ Some i → (k : ℕ) × (i ≡ suc n + k) × (k < length cs) × (draft_name cs k ≡ name))
        → cond b (Some n) (place_from (suc n) cs name) ≡ Some i → (k : ℕ) × (i ≡ n + k) × (k < length (c ∷ cs)) × (draft_name (c ∷ cs) k ≡ name)
    from true e rest p =
        let here : n ≡ i = cc in
        (0, omega arith, omega arith, same_bytes c.name name e)
    from false e rest p =
        let r = rest p in
        (suc r.0, omega (arith, r.1), omega (arith, r.2), r.3)

-- the name at a place is one of the names
none_named : (p : List ℕ → Bool) (cs : List DraftClass) (k : ℕ) → list_any p (names_of cs) ≡ false → k < length cs → p (draft_name cs k) ≡ false
none_named p [] k h l = absurd (omega arith)
none_named p (c ∷ cs) zero h l = (or_parts (p c.name) (list_any p (names_of cs)) h).0
none_named p (c ∷ cs) (suc k) h l = none_named p cs k (or_parts (p c.name) (list_any p (names_of cs)) h).1 (omega arith)

-- where names differ, a class's name is found at its own place
pub own_place : (n : ℕ) (cs : List DraftClass) (k : ℕ) → keys_differ (names_of cs) ≡ true → k < length cs
    → place_from n cs (draft_name cs k) ≡ Some (n + k)
own_place n [] k d l = absurd (omega arith)
own_place n (c ∷ cs) zero d l =
    let e : n ≡ n + 0 = omega arith in
    cond-true (bytes_eq c.name c.name) (Some n) (place_from (suc n) cs c.name) (bytes_eq_self c.name) ∙ ap Some e
own_place n (c ∷ cs) (suc k) d l =
    let parts = and_parts _ (keys_differ (names_of cs)) d in
    let other = none_named (bytes_eq c.name) cs k (not-true _ parts.0) (omega arith) in
    let e : suc n + k ≡ n + suc k = omega arith in
    cond-false (bytes_eq c.name (draft_name cs k)) (Some n) (place_from (suc n) cs (draft_name cs k)) other
    ∙ (own_place (suc n) cs k parts.1 (omega arith) ∙ ap Some e)
