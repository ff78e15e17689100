-- Steps over a text in quotes. Only the crate's private clauses cite it.
use Rattle.std.specs.Prelude.{◌≡◌, ◌<◌, ℕ, List, length, Option, false, is_some, MatchOption}
use Rattle.std.specs.Borrow.{Bor}
use Rattle.json.specs.Text.{Within, content, plain}
use Rattle.json.specs.Lex.{Mode, in_string, lex}

-- what is passed within a text spells no text, or leaves a shorter rest that spells one as the whole does
abbrev pub Passed : Within → Mode → List ℕ → Option (Bor (List ℕ)) → Type 0
Passed within mode text r = MatchOption r (is_some (content within text) ≡ false)
    (λ rest. (is_some (content within text) ≡ is_some (content plain rest.now)) × (lex mode text ≡ lex in_string rest.now) × (length rest.now < length text))
