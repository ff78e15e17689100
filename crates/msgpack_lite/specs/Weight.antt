-- How much a value holds.
use Rattle.std.specs.Prelude.{ℕ, suc, ◌+◌, ◌≤◌, length}
use Rattle.frame_model.specs.PackData.{PackData, text, binary, list, dict, PackItems, no_items, item, PackMembers, no_members, member}
use Rattle.frame_model.specs.Packs.{depth, most_levels}

abbrev mutual
  -- one for each value and for each key, and one for each of their bytes
  pub weight : PackData → ℕ
  weight (text t) = suc (length t)
  weight (binary b) = suc (length b)
  weight (list ds) = suc (items_weight ds)
  weight (dict ms) = suc (members_weight ms)
  weight d = 1

  pub items_weight : PackItems → ℕ
  items_weight no_items = 0
  items_weight (item d ds) = weight d + items_weight ds

  pub members_weight : PackMembers → ℕ
  members_weight no_members = 0
  members_weight (member k d ms) = suc (length k) + (weight d + members_weight ms)

-- no deeper than may be, and no more in it than so many bytes can tell
abbrev pub IsWithin : ℕ → PackData → Type 0
IsWithin bytes d = (depth d ≤ most_levels) × (weight d ≤ bytes)
