-- Numbers in sets under keys that are compared by their bytes: what a change of the set of one key makes of them.
use Rattle.std.proofs.Common.{◌≡◌, ℕ, ◌==◌, ◌&&◌, ◌||◌, not, Bool, true, false, cond, List, [], ◌∷◌, Option, length, refl, sym, ap, subst, ◌∙◌, arith}
use Rattle.std.specs.BTreeMap.{BTreeMap, UpdatesBy, get_by, is_at}
use Rattle.std.specs.BTreeSet.{BTreeSet, contains}
use Rattle.std.specs.Cmp.{eq_by_cmp_equiv}
use Rattle.std.specs.Cmp.Lexicographic.{nat_list_cmp_total, slice_cmp}
use Rattle.std.specs.List.{list_any}
use Rattle.std.specs.Map.{AreApart, IsKeyTest, KeepsOthers, lookup}
use Rattle.std.specs.Option.{option_map_or}
use Rattle.std.specs.Ordering.{is_eq, nat_cmp}
use Rattle.std.specs.Str.{bytes_eq}
use Rattle.std.proofs.lemmas.Bool.Decides.{nat_tests}
use Rattle.std.proofs.lemmas.Map.Text.{is_eq-slice_cmp}
use Rattle.lists.proofs.SameBytes.{bytes_eq_sym, same_bytes}

-- a number is in a set, where there is one
abbrev pub in_set : Option (BTreeSet ℕ) → ℕ → Bool
in_set o n = option_map_or (λ s. contains nat_cmp s n) o false

-- no two keys are found by one query
apart : (bs cs ks : List ℕ) → bytes_eq bs cs ≡ false → is_eq (slice_cmp nat_cmp bs ks) ≡ true → is_eq (slice_cmp nat_cmp cs ks) ≡ false
apart bs cs ks other here =
    let one : bs ≡ ks = same_bytes bs ks (sym (is_eq-slice_cmp bs ks) ∙ here) in
    is_eq-slice_cmp cs ks ∙ bytes_eq_sym cs ks ∙ subst (λ l. bytes_eq l cs ≡ false) one other

other_entries : {K X : Type 0} (eq : K → K → Bool) (test : K → Bool) (old new : List (K × X)) → KeepsOthers eq test old new → (other : K → Bool) → IsKeyTest eq other → AreApart test other → lookup other new ≡ lookup other old
unfolding KeepsOthers
other_entries eq test old new h = h

module _ {K : Type 0} (bytes : K → List ℕ) where
  -- what stands under a key
  abbrev pub under : {X : Type 0} → List ℕ → BTreeMap K X → Option X
  under key m = get_by (λ k. slice_cmp nat_cmp key (bytes k)) m

  -- one key has this, and others what they had
  abbrev pub Sets : {X : Type 0} → List ℕ → BTreeMap K X → BTreeMap K X → Option X → Type 0
  Sets key m n w = (other : List ℕ) → under other n ≡ cond (bytes_eq key other) w (under other m)

  pub sets : {X : Type 0} (key : List ℕ) (m n : BTreeMap K X) (w : Option X) → UpdatesBy (λ x y. slice_cmp nat_cmp (bytes x) (bytes y)) (λ k. slice_cmp nat_cmp key (bytes k)) m n w → Sets key m n w
  sets key m n w h other = by_key (bytes_eq key other) refl
    where
      by_key : (b : Bool) → bytes_eq key other ≡ b → under other n ≡ cond b w (under other m)
      by_key true here = (let one : key ≡ other = same_bytes key other here in subst (λ l. under l n ≡ w) one h.1)
      by_key false here = other_entries _ _ _ _ h.3 _ (λ x y. (eq_by_cmp_equiv nat_list_cmp_total).congr other (bytes x) (bytes y)) (λ k. apart key other (bytes k) here)

  pub sets_again : {X : Type 0} (key : List ℕ) (m n l : BTreeMap K X) (w v : Option X) → Sets key m n w → Sets key n l v → Sets key m l v
  sets_again key m n l w v first second other = second other ∙ (ap (cond (bytes_eq key other) v) (first other) ∙ twice (bytes_eq key other) v w (under other m))
    where
      twice : {X : Type 0} (b : Bool) (v w o : X) → cond b v (cond b w o) ≡ cond b v o
      twice true v w o = refl
      twice false v w o = refl

  -- a number is there under a key
  abbrev pub is_under : BTreeMap K (BTreeSet ℕ) → List ℕ → ℕ → Bool
  is_under m key n = in_set (under key m) n

  -- the set of one key has a number more or less
  abbrev pub Renews : ℕ → Bool → Option (BTreeSet ℕ) → Option (BTreeSet ℕ) → Type 0
  Renews serial b old new = (n : ℕ) → in_set new n ≡ cond (serial == n) b (in_set old n)

  pub renewed : (key : List ℕ) (m n : BTreeMap K (BTreeSet ℕ)) (old new : Option (BTreeSet ℕ)) (serial : ℕ) (b : Bool) → under key m ≡ old → Sets key m n new → Renews serial b old new
      → (k : List ℕ) (i : ℕ) → is_under n k i ≡ cond (bytes_eq key k && (serial == i)) b (is_under m k i)
  renewed key m n old new serial b was step renews k i = ap (λ o. in_set o i) (step k) ∙ by_key (bytes_eq key k) refl
    where
      by_key : (here : Bool) → bytes_eq key k ≡ here → in_set (cond here new (under k m)) i ≡ cond (here && (serial == i)) b (is_under m k i)
      by_key true here =
          let one : key ≡ k = same_bytes key k here in
          let there : under k m ≡ old = subst (λ l. under l m ≡ old) one was in
          renews i ∙ ap (λ o. cond (serial == i) b (in_set o i)) (sym there)
      by_key false here = refl

pub or_is : (b x : Bool) → cond b true x ≡ (b || x)
or_is true x = refl
or_is false x = refl

pub and_is : (b x : Bool) → cond b false x ≡ (not b && x)
and_is true x = refl
and_is false x = refl

at_number : (serial n : ℕ) → is_at (nat_cmp serial) n ≡ (serial == n)
at_number serial n = grind (arith, nat_tests)

-- a set with one number more or less
pub renews : (serial : ℕ) (b : Bool) (old new : BTreeSet ℕ) → ((n : ℕ) → contains nat_cmp new n ≡ cond (is_at (nat_cmp serial) n) b (contains nat_cmp old n)) → (n : ℕ) → contains nat_cmp new n ≡ cond (serial == n) b (contains nat_cmp old n)
renews serial b old new step n = step n ∙ ap (λ c. cond c b (contains nat_cmp old n)) (at_number serial n)

-- an empty set has none
pub none_in : (s : BTreeSet ℕ) → s.keys ≡ [] → (n : ℕ) → contains nat_cmp s n ≡ false
none_in s empty n = ap (list_any (is_at (nat_cmp n))) empty

no_length : (xs : List ℕ) → length xs ≡ 0 → xs ≡ []
no_length [] h = refl
no_length (x ∷ xs) h = absurd (omega arith)

-- a set of which none is left
pub none_left : (serial : ℕ) (old new : BTreeSet ℕ) → length new.keys ≡ 0 → ((n : ℕ) → contains nat_cmp new n ≡ cond (serial == n) false (contains nat_cmp old n)) → (n : ℕ) → false ≡ cond (serial == n) false (contains nat_cmp old n)
none_left serial old new empty step n = sym (none_in new (no_length new.keys empty) n) ∙ step n
