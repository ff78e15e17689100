use Rattle.std.proofs.Common.{◌-◌, length, take, drop, get_or, sym, ap, ◌∙◌}
use Rattle.json.specs.Lex.{between, lex}
use Rattle.validate.proofs.Lexemes.{nothing_solid, past_space}
use Rattle.validate.proofs.QuotedSteps.{uncons}
use Rattle.validate.proofs.lexer.past_spaces.Goals as goal

pub loop-left-preserved : goal.loop-left-preserved
loop-left-preserved c =
    let left = c.loop-left.left.now in
    sym (past_space (get_or left 0 0) (take (length left - 1) (drop 1 left)) (sym c.if-not-is_space.ensures)) ∙ (ap (lex between) (uncons left c.in-len1-up.len_at_least) ∙ c.loop-left.invariant)

pub returns-clause-solid : goal.returns-clause-solid
returns-clause-solid c = nothing_solid c.loop-left.left.now c.in_default.len_below
