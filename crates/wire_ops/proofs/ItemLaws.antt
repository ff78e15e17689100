-- Items of maps: a new value under a number, and those that are kept of a list.
use Rattle.std.proofs.Common.{◌≡◌, ℕ, suc, ◌<◌, Bool, List, [], ◌∷◌, filter, take, length, get_or, Some, None, refl, ap, ◌∙◌, arith}
use Rattle.std.proofs.lemmas.Bool.Decides.{nat_tests}
use Rattle.lists.specs.Rising.{RisesFrom, IsAbove, find, put, remove}
use Rattle.lists.proofs.RisingLaws.{find_below, remove_missing, IsAbove-take, IsAbove-filter}
use Rattle.schema_model.specs.declared.value.Value.{Value}
use Rattle.state_model.specs.declared.row.MapItem.{MapItem}
use Rattle.wire_model.specs.Effect.{put_value}

-- the number by which items rise
abbrev pub number_of : MapItem → ℕ
number_of i = i.number

-- nothing changes under a number that isn't there
pub put_value-missing : (n : ℕ) (v : Value) (es : List MapItem) → find number_of n es ≡ None → put_value n v es ≡ es
put_value-missing n v [] h = refl
put_value-missing n v (e ∷ es) h = grind (arith, nat_tests, put_value-missing n v es)

put_first : (low : ℕ) (x : MapItem) (es : List MapItem) → RisesFrom number_of (suc low) es → x.number ≡ low → put number_of x es ≡ x ∷ es
put_first low x [] r h = refl
put_first low x (e ∷ es) r h = grind (arith, nat_tests, r.0)

-- taken out and put back with another value
pub put_value-again : (low n : ℕ) (v : Value) (old : MapItem) (es : List MapItem) → RisesFrom number_of low es → find number_of n es ≡ Some old →
    put number_of (record { number = n; key = old.key; value = v }) (remove number_of n es) ≡ put_value n v es
put_value-again low n v old [] r h = cc
put_value-again low n v old (e ∷ es) r h =
    let first = put_first e.number (record { number = n; key = old.key; value = v }) es r.1 in
    let below = find_below number_of (suc e.number) es n r.1 in
    grind (arith, nat_tests, put_value-again (suc e.number) n v old es r.1, put_value-missing n v es, remove_missing number_of n es, below, first)

-- the next item is above those that were kept
pub next_above_kept : (p : MapItem → Bool) (es xs kept : List MapItem) (i : ℕ) (x y : MapItem) → RisesFrom number_of 0 es → xs ≡ es → kept ≡ filter p (take i xs) →
    i < length xs → x ≡ get_or xs i x → y ≡ x → IsAbove number_of y.number kept
next_above_kept p es xs kept i x y r same made l is copied =
    let number : y.number ≡ (get_or xs i x).number = ap number_of (copied ∙ is) in
    rw (made, number) (IsAbove-filter number_of _ p (take i xs) (IsAbove-take number_of 0 xs i x (rw (← same) at r) l))
