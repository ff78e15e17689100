-- A class's line: itself, its parent and so on, for which its number of steps is enough.
use Rattle.std.proofs.Common.{◌≡◌, ℕ, zero, suc, Bool, true, false, ◌<◌, List, [], ◌∷◌, length, Option, Some, None, slice_get, option_and_then, refl, ap, ◌∙◌, arith, ◌==◌}
use Rattle.std.specs.List.{list_any}
use Rattle.std.specs.Option.{option_map_or}
use Rattle.std.proofs.lemmas.Option.{slice_get_within}
use Rattle.schema_model.specs.declared.class.Class.{Class}
use Rattle.schema_model.specs.Classes.{parent_of, line_of, parents_earlier}
use Rattle.schema_model.proofs.FieldTables.{height, height_falls}

-- a parent has the smaller number, and there is a class of the greater one
parent_below : (cs : List Class) (n p : ℕ) → parents_earlier 0 cs ≡ true → parent_of cs n ≡ Some p → (p < n) × (n < length cs)
parent_below cs n p h e =
    let go : (o : Option Class) → slice_get cs n ≡ o → (p < n) × (n < length cs) =
    elim [
      | None ↦ λ f. let no : parent_of cs n ≡ None = ap (option_and_then (λ (c : Class). c.parent)) f in absurd (cc)
      | Some c ↦ λ f.
          let its : parent_of cs n ≡ c.parent = ap (option_and_then (λ (c : Class). c.parent)) f in
          let up : c.parent ≡ Some p = cc in
          let falls : height c.parent < suc n = height_falls cs (Some n) c h f in
          let fell : suc p < suc n = rw up at falls in
          (omega arith, slice_get_within cs n c f)
    ] in
    go (slice_get cs n) refl

-- as many steps as the class's number are enough
line_fuel : (cs : List Class) (n m q : ℕ) → parents_earlier 0 cs ≡ true → q < n → q < m → line_of cs n q ≡ line_of cs m q
line_fuel cs zero m q h a b = absurd (omega arith)
line_fuel cs (suc n) zero q h a b = absurd (omega arith)
line_fuel cs (suc n) (suc m) q h a b =
    let go : (o : Option ℕ) → parent_of cs q ≡ o → option_map_or (line_of cs n) o [] ≡ option_map_or (line_of cs m) o [] =
    elim [
      | None ↦ λ e. refl
      | Some p ↦ λ e.
          let below = parent_below cs q p h e in
          line_fuel cs n m p h (omega arith) (omega arith)
    ] in
    ap (λ (ns : List ℕ). q ∷ ns) (go (parent_of cs q) refl)

-- the line from a class on, where there is one
abbrev pub line_from : List Class → Option ℕ → List ℕ
line_from cs line = option_map_or (line_of cs (suc (length cs))) line []

-- a class, and then the line from its parent on
line_step : (cs : List Class) (q : ℕ) → parents_earlier 0 cs ≡ true → line_from cs (Some q) ≡ q ∷ line_from cs (parent_of cs q)
line_step cs q h =
    let go : (o : Option ℕ) → parent_of cs q ≡ o → option_map_or (line_of cs (length cs)) o [] ≡ option_map_or (line_of cs (suc (length cs))) o [] =
    elim [
      | None ↦ λ e. refl
      | Some p ↦ λ e.
          let below = parent_below cs q p h e in
          line_fuel cs (length cs) (suc (length cs)) p h (omega arith) (omega arith)
    ] in
    ap (λ (ns : List ℕ). q ∷ ns) (go (parent_of cs q) refl)

-- a class is in the line from this one on
abbrev pub is_in : List Class → Option ℕ → ℕ → Bool
is_in cs line sup = list_any (λ n. n == sup) (line_from cs line)

-- it is the first
pub is_here : (cs : List Class) (q sup : ℕ) → parents_earlier 0 cs ≡ true → (q == sup) ≡ true → is_in cs (Some q) sup ≡ true
is_here cs q sup h e =
    let first : list_any (λ n. n == sup) (q ∷ line_from cs (parent_of cs q)) ≡ true = rw e refl in
    ap (list_any (λ n. n == sup)) (line_step cs q h) ∙ first

-- it is another
pub is_above : (cs : List Class) (q sup : ℕ) → parents_earlier 0 cs ≡ true → (q == sup) ≡ false → is_in cs (Some q) sup ≡ is_in cs (parent_of cs q) sup
is_above cs q sup h e =
    let later : list_any (λ n. n == sup) (q ∷ line_from cs (parent_of cs q)) ≡ is_in cs (parent_of cs q) sup = rw e refl in
    ap (list_any (λ n. n == sup)) (line_step cs q h) ∙ later

-- the way up loses height
pub height_up : (cs : List Class) (q : ℕ) → parents_earlier 0 cs ≡ true → height (parent_of cs q) < suc q
height_up cs q h =
    let go : (o : Option ℕ) → parent_of cs q ≡ o → height o < suc q =
    elim [
      | None ↦ λ e. omega arith
      | Some p ↦ λ e. let below = parent_below cs q p h e in omega arith
    ] in
    go (parent_of cs q) refl
