use Rattle.std.proofs.Common.{refl, sym, ◌∙◌}
use Rattle.json.specs.Json.{value}
use Rattle.json.specs.Lex.{between, fresh, lex, tokens}
use Rattle.validate.proofs.Lexed.{at_end, one_value, stops, tells}
use Rattle.validate.proofs.document.is_document.Goals as goal

pub returns-in-End : goal.returns-in-End
returns-in-End c =
    let found = (tells c.args.levels fresh c.lexeme-mark.result.0 (lex between c.args.text.now) _ refl c.lexeme-mark.ensures).0 ∙ sym c.in-Some.ensures in
    sym (one_value (value c.args.levels (tokens c.args.text.now)) _ found ∙ at_end c.lexeme.result.0 (lex between c.in-Some.left.now) _ c.in-End.is c.lexeme.ensures)

pub returns-in_default : goal.returns-in_default
returns-in_default c =
    let found = (tells c.args.levels fresh c.lexeme-mark.result.0 (lex between c.args.text.now) _ refl c.lexeme-mark.ensures).0 ∙ sym c.in-Some.ensures in
    sym (one_value (value c.args.levels (tokens c.args.text.now)) _ found ∙ (stops 0 c.lexeme.result.0 (lex between c.in-Some.left.now) _ c.lexeme.ensures).2 c.in_default.not-End)

pub returns-in-None : goal.returns-in-None
returns-in-None c =
    let found = (tells c.args.levels fresh c.lexeme-mark.result.0 (lex between c.args.text.now) _ refl c.lexeme-mark.ensures).0 ∙ sym c.in-None.ensures in
    sym (one_value (value c.args.levels (tokens c.args.text.now)) _ found)
