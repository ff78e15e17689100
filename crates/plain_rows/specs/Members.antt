-- The members of a view as keys of a set.
use Rattle.std.specs.Prelude.{◌≡◌, ℕ, ℤ, List, map}
use Rattle.schema_model.specs.declared.place.Pair.{Pair}
use Rattle.state_model.specs.Shown.{is_member}

-- the pair of a key
abbrev pub pair_of : ℕ × ℤ → Pair
pair_of k = record { who = k.0; tag = k.1 }

-- the pairs of keys
abbrev pub pairs_of : List (ℕ × ℤ) → List Pair
pairs_of ks = map pair_of ks

-- two lists have the same members
abbrev pub SameMembers : List Pair → List Pair → Type 0
SameMembers xs ys = (who : ℕ) (tag : ℤ) → is_member xs who tag ≡ is_member ys who tag
