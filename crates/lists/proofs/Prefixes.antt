-- Lists that begin with others.
use Rattle.std.proofs.Common.{◌≡◌, ℕ, List, ◌++◌, length, take, refl, sym, ap, subst, ◌∙◌, arith}
use Rattle.std.specs.Io.{StartsWith}
use Rattle.std.proofs.lemmas.List.{take_at, take-take, take_all, length-append}

-- what begins with a longer list begins with its prefix
pub starts_after : (now old more : List ℕ) → StartsWith now (old ++ more) → StartsWith now old
starts_after now old more h =
    sym (take-take (length old) (length (old ++ more)) now (omega (arith, length-append old more)))
    ∙ (ap (take (length old)) h ∙ take_at old more _ refl)

-- the same of a list that is known to be longer
pub starts_before : (now middle old more : List ℕ) → StartsWith now middle → middle ≡ old ++ more → StartsWith now old
starts_before now middle old more h e = starts_after now old more (subst (StartsWith now) e h)

pub starts_itself : (old : List ℕ) → StartsWith old old
starts_itself old = take_all _ old (omega arith)

pub starts_with_prefix : (now old more : List ℕ) → now ≡ old ++ more → StartsWith now old
starts_with_prefix now old more e = ap (take (length old)) e ∙ take_at old more _ refl
