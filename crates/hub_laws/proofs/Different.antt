-- Lists of which no two items have one name, and lists that rise by a number: what is found, where they are filtered, mapped and joined.
use Rattle.std.proofs.Common.{◌≡◌, ℕ, suc, ◌<◌, ◌==◌, Bool, true, false, cond, ◌&&◌, ◌||◌, List, [], ◌∷◌, ◌++◌, map, filter, Option, Some, None, refl, sym, ap, subst, ◌∙◌, append-nil, ◌⊎◌, inl, inr, arith}
use Rattle.std.specs.Prelude.{Contains, nat_lt, slice_get}
use Rattle.std.specs.List.{find, list_any, flat_map}
use Rattle.std.specs.Option.{option_map, option_map_or, option_and_then, option_or}
use Rattle.std.proofs.lemmas.Bool.Decides.{nat_tests}
use Rattle.std.specs.Str.{bytes_eq}
use Rattle.std.proofs.lemmas.List.Elements.{Contains-append_right, Contains-append_cases, Contains-push_cases}
use Rattle.lists.specs.Rising.{RisesFrom, put, find as find_by}
use Rattle.lists.proofs.RisingLaws.{find_below}
use Rattle.lists.proofs.SameBytes.{same_bytes, bytes_eq_self, bytes_eq_sym}
use Rattle.hub_model.specs.HubValues.{HubRoom}
use Rattle.room_laws.proofs.SessionLists.{named, named_more}
use Rattle.std.proofs.lemmas.List.Folds.{list_any_at}
use Rattle.std.proofs.lemmas.Option.{slice_get_within, get_or_from_slice_get}

-- ---- what is found

pub found_in : {X : Type 0} (p : X → Bool) (xs : List X) (x : X) → find p xs ≡ Some x → Contains xs x
found_in p [] x h = cc
found_in {X} p (y ∷ ys) x h =
    let go : (b : Bool) → cond b (Some y) (find p ys) ≡ Some x → Contains (y ∷ ys) x = elim [
      | true ↦ λ h. (let same : y ≡ x = cc in subst (λ z. Contains (y ∷ ys) z) same (0, omega arith, refl))
      | false ↦ λ h. Contains-append_right (y ∷ []) ys x (found_in p ys x h)
    ] in go (p y) h

-- what is taken by its position is in the list
pub taken_in : {X : Type 0} (xs : List X) (i : ℕ) (x : X) → slice_get xs i ≡ Some x → Contains xs x
taken_in xs i x h = (i, slice_get_within xs i x h, get_or_from_slice_get xs i x x h)

-- what an item of the list passes, something passes
pub passes_any : {X : Type 0} (p : X → Bool) (xs : List X) (x : X) → Contains xs x → p x ≡ true → list_any p xs ≡ true
passes_any p xs x there h = list_any_at p xs there.0 x there.1 (ap p there.2 ∙ h)

-- what is found among what items are made into
pub find-map : {X Y : Type 0} (p : Y → Bool) (f : X → Y) (xs : List X) → find p (map f xs) ≡ option_map f (find (λ x. p (f x)) xs)
find-map p f [] = refl
find-map p f (x ∷ xs) =
    let go : (b : Bool) → cond b (Some (f x)) (find p (map f xs)) ≡ option_map f (cond b (Some x) (find (λ x. p (f x)) xs)) = elim [ true ↦ refl | false ↦ find-map p f xs ] in
    go (p (f x))

pub find_agree : {X : Type 0} (p q : X → Bool) (xs : List X) → ((x : X) → p x ≡ q x) → find p xs ≡ find q xs
find_agree p q [] same = refl
find_agree p q (x ∷ xs) same = ap (λ b. cond b (Some x) (find p xs)) (same x) ∙ ap (λ o. cond (q x) (Some x) o) (find_agree p q xs same)

-- an item of a list is its first, or is behind it
pub here_or_behind : {X : Type 0} (y : X) (ys : List X) (x : X) → Contains (y ∷ ys) x → (y ≡ x) ⊎ Contains ys x
here_or_behind y ys x c =
    let by : Contains (y ∷ []) x ⊎ Contains ys x → (y ≡ x) ⊎ Contains ys x = elim [
      | inl h ↦ (let at : Contains [] x ⊎ (y ≡ x) → (y ≡ x) ⊎ Contains ys x = elim [ inl n ↦ absurd (omega (arith, n.1)) | inr s ↦ inl s ] in at (Contains-push_cases [] y x h))
      | inr h ↦ inr h
    ] in by (Contains-append_cases (y ∷ []) ys x c)

-- ---- where names differ

module _ {X : Type 0} (name : X → List ℕ) where
  abbrev pub Differ : List X → Type 0
  Differ [] = Unit {0}
  Differ (x ∷ xs) = (named name (name x) xs ≡ None) × Differ xs

  -- behind the item of a name there is no other
  behind : (x : X) (xs : List X) (q : List ℕ) → named name (name x) xs ≡ None → bytes_eq (name x) q ≡ true → named name q xs ≡ None
  behind x xs q empty is = subst (λ k. named name k xs ≡ None) (same_bytes (name x) q is) empty

  pub named_own : (xs : List X) (x : X) → Differ xs → Contains xs x → named name (name x) xs ≡ Some x
  named_own [] x d there = absurd (omega (arith, there.1))
  named_own (y ∷ ys) x d there =
      let by : (y ≡ x) ⊎ Contains ys x → named name (name x) (y ∷ ys) ≡ Some x = elim [
        | inl e ↦ ap (λ b. cond b (Some y) (named name (name x) ys)) (subst (λ z. bytes_eq (name y) (name z) ≡ true) e (bytes_eq_self (name y))) ∙ ap Some e
        | inr h ↦ other (named_own ys x d.1 h) (bytes_eq (name y) (name x)) refl
      ] in by (here_or_behind y ys x there)
    where
      other : named name (name x) ys ≡ Some x → (b : Bool) → bytes_eq (name y) (name x) ≡ b → cond b (Some y) (named name (name x) ys) ≡ Some x
      other at true e = (let empty = behind y ys (name x) d.0 e in cc)
      other at false e = at

  pub named_kept : (t : X → Bool) (q : List ℕ) (xs : List X) → Differ xs → named name q (filter t xs) ≡ option_and_then (λ x. cond (t x) (Some x) None) (named name q xs)
  named_kept t q [] d = refl
  named_kept t q (x ∷ xs) d = by_test (named_kept t q xs d.1) (t x) refl
    where
      After : Option X → Type 0
      After o = named name q (filter t xs) ≡ option_and_then (λ x. cond (t x) (Some x) None) o

      kept : After (named name q xs) → t x ≡ true → (b : Bool) → cond b (Some x) (named name q (filter t xs)) ≡ option_and_then (λ x. cond (t x) (Some x) None) (cond b (Some x) (named name q xs))
      kept rest e true = ap (λ c. cond c (Some x) None) (sym e)
      kept rest e false = rest

      gone : After (named name q xs) → t x ≡ false → (b : Bool) → bytes_eq (name x) q ≡ b → After (cond b (Some x) (named name q xs))
      gone rest e true is = rest ∙ (ap (option_and_then (λ x. cond (t x) (Some x) None)) (behind x xs q d.0 is) ∙ ap (λ c. cond c (Some x) None) (sym e))
      gone rest e false is = rest

      by_test : After (named name q xs) → (a : Bool) → t x ≡ a → named name q (cond a (x ∷ filter t xs) (filter t xs)) ≡ option_and_then (λ x. cond (t x) (Some x) None) (named name q (x ∷ xs))
      by_test rest true e = kept rest e (bytes_eq (name x) q)
      by_test rest false e = gone rest e (bytes_eq (name x) q) refl

  pub any_of_name : (p : X → Bool) (q : List ℕ) (xs : List X) → Differ xs → list_any (λ x. bytes_eq (name x) q && p x) xs ≡ option_map_or p (named name q xs) false
  any_of_name p q [] d = refl
  any_of_name p q (x ∷ xs) d = by_name (any_of_name p q xs d.1) (bytes_eq (name x) q) refl
    where
      or_false : (b : Bool) → (b || false) ≡ b
      or_false true = refl
      or_false false = refl

      by_name : list_any (λ x. bytes_eq (name x) q && p x) xs ≡ option_map_or p (named name q xs) false → (b : Bool) → bytes_eq (name x) q ≡ b
          → ((b && p x) || list_any (λ x. bytes_eq (name x) q && p x) xs) ≡ option_map_or p (cond b (Some x) (named name q xs)) false
      by_name rest true is = ap (λ r. p x || r) (rest ∙ ap (λ o. option_map_or p o false) (behind x xs q d.0 is)) ∙ or_false (p x)
      by_name rest false is = rest

  pub joined_named : {A : Type 0} (f : X → List A) (q : List ℕ) (xs : List X) → Differ xs → flat_map (λ x. cond (bytes_eq (name x) q) (f x) []) xs ≡ option_map_or f (named name q xs) []
  joined_named f q [] d = refl
  joined_named {A} f q (x ∷ xs) d = by_name (joined_named f q xs d.1) (bytes_eq (name x) q) refl
    where
      by_name : flat_map (λ x. cond (bytes_eq (name x) q) (f x) []) xs ≡ option_map_or f (named name q xs) [] → (b : Bool) → bytes_eq (name x) q ≡ b
          → cond b (f x) [] ++ flat_map (λ x. cond (bytes_eq (name x) q) (f x) []) xs ≡ option_map_or f (cond b (Some x) (named name q xs)) []
      by_name rest true is = ap (λ r. f x ++ r) (rest ∙ ap (λ o. option_map_or f o []) (behind x xs q d.0 is)) ∙ append-nil (f x)
      by_name rest false is = rest

  pub differ_kept : (t : X → Bool) (xs : List X) → Differ xs → Differ (filter t xs)
  differ_kept t [] d = tt
  differ_kept t (x ∷ xs) d =
      let empty : named name (name x) (filter t xs) ≡ None = named_kept t (name x) xs d.1 ∙ ap (option_and_then (λ x. cond (t x) (Some x) None)) d.0 in
      let go : (b : Bool) → Differ (cond b (x ∷ filter t xs) (filter t xs)) = elim [ true ↦ (empty, differ_kept t xs d.1) | false ↦ differ_kept t xs d.1 ] in
      go (t x)

  pub differ_more : (xs : List X) (x : X) → Differ xs → named name (name x) xs ≡ None → Differ (xs ++ x ∷ [])
  differ_more [] x d new = (refl, tt)
  differ_more (y ∷ ys) x d new = by_first (differ_more ys x d.1) (bytes_eq (name y) (name x)) refl new
    where
      by_first : (named name (name x) ys ≡ None → Differ (ys ++ x ∷ [])) → (b : Bool) → bytes_eq (name y) (name x) ≡ b → cond b (Some y) (named name (name x) ys) ≡ None → Differ (y ∷ (ys ++ x ∷ []))
      by_first more true e h = cc
      by_first more false e h =
          (named_more name (name y) ys x ∙ (ap (λ o. option_or o (cond (bytes_eq (name x) (name y)) (Some x) None)) d.0 ∙ ap (λ b. cond b (Some x) None) (bytes_eq_sym (name x) (name y) ∙ e)), more h)

pub differ_mapped : {X Y : Type 0} (name : X → List ℕ) (own : Y → List ℕ) (f : Y → X) → ((y : Y) → name (f y) ≡ own y) → (ys : List Y) → Differ own ys → Differ name (map f ys)
differ_mapped name own f keeps [] d = tt
differ_mapped name own f keeps (y ∷ ys) d = (
  find-map (λ x. bytes_eq (name x) (name (f y))) f ys
      ∙ ap (option_map f) (find_agree (λ z. bytes_eq (name (f z)) (name (f y))) (λ z. bytes_eq (own z) (own y)) ys (λ z. ap (λ k. bytes_eq k (name (f y))) (keeps z) ∙ ap (bytes_eq (own z)) (keeps y)) ∙ d.0),
  differ_mapped name own f keeps ys d.1,
)

-- ---- where numbers rise

module _ {X : Type 0} (number : X → ℕ) where
  pub any_numbered : (p : X → Bool) (n low : ℕ) (xs : List X) → RisesFrom number low xs → list_any (λ x. (number x == n) && p x) xs ≡ option_map_or p (find_by number n xs) false
  any_numbered p n low [] rises = refl
  any_numbered p n low (x ∷ xs) rises = by_number (any_numbered p n (suc (number x)) xs rises.1) (number x == n) refl
    where
      or_false : (b : Bool) → (b || false) ≡ b
      or_false true = refl
      or_false false = refl

      last : (number x == n) ≡ true → n < suc (number x)
      last is = grind (arith, nat_tests)

      by_number : list_any (λ x. (number x == n) && p x) xs ≡ option_map_or p (find_by number n xs) false → (b : Bool) → (number x == n) ≡ b
          → ((b && p x) || list_any (λ x. (number x == n) && p x) xs) ≡ option_map_or p (cond b (Some x) (find_by number n xs)) false
      by_number rest true is = ap (λ r. p x || r) (rest ∙ ap (λ o. option_map_or p o false) (find_below number (suc (number x)) xs n rises.1 (last is))) ∙ or_false (p x)
      by_number rest false is = rest

  -- what passes with an item more, of a new number
  pub any_put : (p : X → Bool) (x : X) (xs : List X) → find_by number (number x) xs ≡ None → list_any p (put number x xs) ≡ (list_any p xs || (p x || false))
  any_put p x [] new = refl
  any_put p x (y ∷ ys) new = by_number (any_put p x ys) (number y == number x) refl new
    where
      first : (a b : Bool) → (a || b) ≡ (b || (a || false))
      first true true = refl
      first true false = refl
      first false true = refl
      first false false = refl

      behind_it : (c a b : Bool) → (c || (b || (a || false))) ≡ ((c || b) || (a || false))
      behind_it true a b = refl
      behind_it false a b = refl

      by_order : list_any p (put number x ys) ≡ (list_any p ys || (p x || false)) → (c : Bool) → list_any p (cond c (x ∷ y ∷ ys) (y ∷ put number x ys)) ≡ ((p y || list_any p ys) || (p x || false))
      by_order rest true = first (p x) (p y || list_any p ys)
      by_order rest false = ap (λ b. p y || b) rest ∙ behind_it (p y) (p x) (list_any p ys)

      by_number : (find_by number (number x) ys ≡ None → list_any p (put number x ys) ≡ (list_any p ys || (p x || false))) → (b : Bool) → (number y == number x) ≡ b → cond b (Some y) (find_by number (number x) ys) ≡ None
          → list_any p (cond (nat_lt (number x) (number y)) (x ∷ y ∷ ys) (cond b (x ∷ ys) (y ∷ put number x ys))) ≡ ((p y || list_any p ys) || (p x || false))
      by_number rest true e h = cc
      by_number rest false e h = by_order (rest h) (nat_lt (number x) (number y))

-- ---- the ids of rooms

abbrev pub RoomsDiffer : List HubRoom → Type 0
RoomsDiffer rs = Differ (λ (r : HubRoom). r.id) rs
