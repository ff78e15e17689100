-- Rising lists that are made item by item.
use Rattle.std.proofs.Common.{◌≡◌, ℕ, ◌<◌, Bool, true, false, if◌then◌else◌, List, [], ◌∷◌, ◌++◌, ◌∙◌, arith}
use Rattle.lists.specs.Rising.{RisesFrom, IsAbove}
use Rattle.lists.proofs.RisingLaws.{RisesFrom-push}

-- a list with an item that is above it, or as it was
pub still_rises : {E : Type 0} (key : E → ℕ) (old now : List E) (item : E) (is_put : Bool) →
    RisesFrom key 0 old → IsAbove key (key item) old → now ≡ (if is_put then old ++ item ∷ [] else old) → RisesFrom key 0 now
still_rises key old now item true rises above e = rw e (RisesFrom-push key 0 old item rises above (omega arith))
still_rises key old now item false rises above e = rw e rises
