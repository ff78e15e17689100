-- Which entries stand under a key, and what an index holds of them.
use Rattle.std.specs.Prelude.{◌≡◌, ℕ, zero, suc, ◌+◌, Bool, true, false, List, [], ◌∷◌, Option, length}
use Rattle.seat_ledger.specs.Slots.{IndexState, has_slot, is_key, one_of}

-- the entry at a place has a key
abbrev pub holds : {X : Type 0} → (X → Option ℕ) → List X → ℕ → ℕ → Bool
holds k [] q at = false
holds k (e ∷ es) q zero = is_key q (k e)
holds k (e ∷ es) q (suc at) = holds k es q at

-- how many entries have a key
abbrev pub keyed : {X : Type 0} → (X → Option ℕ) → List X → ℕ
keyed k [] = 0
keyed k (e ∷ es) = one_of (k e) + keyed k es

-- an index knows all entries, and holds the places of those that have a key, and no others
pub record IsIndexed {X : Type 0} (k : X → Option ℕ) (es : List X) (i : IndexState) : Type 0 where
  pub all : i.count ≡ length es
  pub held : (q p : ℕ) → has_slot q p i.slots ≡ holds k es q p
  pub counted : length i.slots ≡ keyed k es

-- no two entries have the same key
abbrev pub IsOnce : {X : Type 0} → (X → Option ℕ) → List X → Type 0
IsOnce k es = (q i j : ℕ) → holds k es q i ≡ true → holds k es q j ≡ true → i ≡ j

-- the entry at a place passes a test
abbrev pub passes : {X : Type 0} → (X → Bool) → List X → ℕ → Bool
passes p [] at = false
passes p (e ∷ es) zero = p e
passes p (e ∷ es) (suc at) = passes p es at
