-- What follows a value, by the mark of its first lexeme. Only the crate's private clauses cite it.
use Rattle.std.specs.Prelude.{ℕ, ◌-◌, ◌==◌, List, [], ◌∷◌, Bool, cond, Option, Some, None, is_some, option_and_then, option_map}
use Rattle.std.specs.Borrow.{Bor}
use Rattle.json.specs.Token as spec
use Rattle.json.specs.Lex.{Lexeme, token, comma, colon, after_value, begins_colon, between, fresh, lex, punctuate, tokens}
use Rattle.json.specs.Json.{if_last, skip_value, value}
use Rattle.json.specs.Reads.{skip_items, skip_members}
use Rattle.validate.specs.declared.mark.Mark.{Mark}
use Rattle.validate.specs.declared.mark.Mark.TheVariants.{OpenBrace, CloseBrace, OpenBracket, CloseBracket, Comma, Colon, Text, Word, Bad, End}

-- the tokens of the bytes are those of one value, nested no deeper than the levels, and no token follows
abbrev pub is_document : ℕ → List ℕ → Bool
is_document levels bytes = is_some (option_and_then (λ p. if_last p.0 p.1) (value levels (tokens bytes)))

-- the tokens of what is left behind a value
abbrev pub tokens_after : Option (Bor (List ℕ)) → Option (List spec.Token)
tokens_after r = option_map (λ left. punctuate after_value (lex between left.now)) r

-- the tokens behind a value whose first lexeme has this mark, where ls follow the lexeme
abbrev pub value_from : Mark → ℕ → List Lexeme → Option (List spec.Token)
value_from OpenBrace levels ls = cond (levels == 0) None (skip_members (levels - 1) (punctuate fresh ls))
value_from CloseBrace levels ls = None
value_from OpenBracket levels ls = cond (levels == 0) None (skip_items (levels - 1) (punctuate fresh ls))
value_from CloseBracket levels ls = None
value_from Comma levels ls = None
value_from Colon levels ls = None
value_from Text levels ls = cond (begins_colon ls) None (Some (punctuate after_value ls))
value_from Word levels ls = Some (punctuate after_value ls)
value_from Bad levels ls = None
value_from End levels ls = None

-- the tokens behind the value that a colon leads to
abbrev pub colon_value : ℕ → List Lexeme → Option (List spec.Token)
colon_value levels [] = None
colon_value levels (token t ∷ ls) = None
colon_value levels (comma ∷ ls) = None
colon_value levels (colon ∷ ls) = skip_value levels (punctuate fresh ls)

-- the tokens behind a member whose first lexeme has this mark, where ls follow the lexeme
abbrev pub member_from : Mark → ℕ → List Lexeme → Option (List spec.Token)
member_from OpenBrace levels ls = None
member_from CloseBrace levels ls = None
member_from OpenBracket levels ls = None
member_from CloseBracket levels ls = None
member_from Comma levels ls = None
member_from Colon levels ls = None
member_from Text levels ls = colon_value levels ls
member_from Word levels ls = None
member_from Bad levels ls = None
member_from End levels ls = None
