-- What a lexeme is, without what it says. Only the crate's private clauses cite it.
use Rattle.std.specs.Prelude.{◌≡◌, ◌⊎◌, ℕ, List, [], ◌∷◌, Bool}
use Rattle.json.specs.Token as spec
use Rattle.json.specs.Lex.{Lexeme, token, comma, colon}
use Rattle.validate.specs.declared.mark.Mark.{Mark}
use Rattle.validate.specs.declared.mark.Mark.TheVariants.{OpenBrace, CloseBrace, OpenBracket, CloseBracket, Comma, Colon, Text, Word, Bad, End}

-- a number, a truth or null
abbrev pub IsPlain : spec.Token → Type 0
IsPlain t = ((s : List ℕ) × (t ≡ spec.number s)) ⊎ (((b : Bool) × (t ≡ spec.boolean b)) ⊎ (t ≡ spec.null))

-- of the lexemes ls the first has this mark, and ms are the rest; any are, where it is bad or none
abbrev pub IsFirst : List Lexeme → Mark → List Lexeme → Type 0
IsFirst ls OpenBrace ms = ls ≡ token spec.begin_object ∷ ms
IsFirst ls CloseBrace ms = ls ≡ token spec.end_object ∷ ms
IsFirst ls OpenBracket ms = ls ≡ token spec.begin_array ∷ ms
IsFirst ls CloseBracket ms = ls ≡ token spec.end_array ∷ ms
IsFirst ls Comma ms = ls ≡ comma ∷ ms
IsFirst ls Colon ms = ls ≡ colon ∷ ms
IsFirst ls Text ms = (s : List ℕ) × (ls ≡ token (spec.string s) ∷ ms)
IsFirst ls Word ms = (t : spec.Token) × IsPlain t × (ls ≡ token t ∷ ms)
IsFirst ls Bad ms = (more : List Lexeme) × (ls ≡ token spec.bad ∷ more)
IsFirst ls End ms = ls ≡ []
