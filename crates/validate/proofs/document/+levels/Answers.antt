use Rattle.std.proofs.Common.{refl, sym, ap, ◌∙◌, subst}
use Rattle.json.specs.Lex.{after_value, between, fresh, lex, tokens}
use Rattle.validate.specs.Documents.{colon_value, member_from, tokens_after}
use Rattle.validate.specs.Marks.{IsFirst}
use Rattle.validate.proofs.Lexed.{array_closes, item_first, item_next, item_none, member_first, member_next, member_none, object_closes, tells}
use Rattle.validate.proofs.Lists.{items_all, members_all}
use Rattle.validate.proofs.document.+levels.Goals as goal

pub items-returns-in-CloseBracket : goal.items-returns-in-CloseBracket
items-returns-in-CloseBracket t c = let ts = tokens c.args.text.now in sym (array_closes c.args.levels ts fresh _ (lex between c.args.text.now) _ (items_all c.args.levels ts) refl c.in-CloseBracket.is c.lexeme-mark.ensures)

pub items-returns-in_err-left : goal.items-returns-in_err-left
items-returns-in_err-left t c = ap tokens_after c.from_residual.ensures ∙ sym (item_first c.args.levels _ (lex between c.args.text.now) _ _ c.in_default.not-CloseBracket c.lexeme-mark.ensures c.in_err-left.ensures)

pub items-loop-item-init : goal.items-loop-item-init
items-loop-item-init t c = (item_first c.args.levels _ (lex between c.args.text.now) _ _ c.in_default.not-CloseBracket c.lexeme-mark.ensures c.in_ok-left.ensures).0

pub items-returns-in-CloseBracket-next : goal.items-returns-in-CloseBracket-next
items-returns-in-CloseBracket-next t c = sym (array_closes c.args.levels (tokens c.args.text.now) after_value _ (lex between c.loop-item.left.now) _ c.loop-item.invariant refl c.in-CloseBracket-next.is c.lexeme-next.ensures)

pub items-returns-in_err-left-in-Comma : goal.items-returns-in_err-left-in-Comma
items-returns-in_err-left-in-Comma t c =
    ap tokens_after c.from_residual-in_err-left-in-Comma.ensures
    ∙ sym (item_next c.args.levels (tokens c.args.text.now) _ _ (lex between c.loop-item.left.now) _ _ _ c.loop-item.invariant c.in-Comma.is c.lexeme-next.ensures c.lexeme-item.ensures c.in_err-left-in-Comma.ensures)

pub items-loop-item-smaller : goal.items-loop-item-smaller
items-loop-item-smaller t c =
    (item_next c.args.levels (tokens c.args.text.now) _ _ (lex between c.loop-item.left.now) _ _ _ c.loop-item.invariant c.in-Comma.is c.lexeme-next.ensures c.lexeme-item.ensures c.in_ok-left-in-Comma.ensures).1

pub items-loop-item-preserved : goal.items-loop-item-preserved
items-loop-item-preserved t c =
    (item_next c.args.levels (tokens c.args.text.now) _ _ (lex between c.loop-item.left.now) _ _ _ c.loop-item.invariant c.in-Comma.is c.lexeme-next.ensures c.lexeme-item.ensures c.in_ok-left-in-Comma.ensures).0

pub items-returns-in_default-next : goal.items-returns-in_default-next
items-returns-in_default-next t c =
    sym (item_none c.args.levels (tokens c.args.text.now) _ (lex between c.loop-item.left.now) _ c.loop-item.invariant c.in_default-next.not-CloseBracket c.in_default-next.not-Comma c.lexeme-next.ensures)

pub member-returns : goal.member-returns
member-returns t c =
    let d = c.args.levels in
    let ls = lex between c.args.rest.now in
    let behind = lex between c.lexeme.result.1.now in
    let is_colon = subst (λ m. IsFirst ls m behind) c.in-Colon-default.is-0 c.lexeme.ensures in
    c.value.ensures ∙ (sym (tells d fresh c.lexeme-first.result.0 behind _ refl c.lexeme-first.ensures).0 ∙ (sym (ap (colon_value d) is_colon) ∙ ap (λ m. member_from m d ls) (sym c.in-Text.is)))

pub members-returns-in-CloseBrace : goal.members-returns-in-CloseBrace
members-returns-in-CloseBrace t c = let ts = tokens c.args.text.now in sym (object_closes c.args.levels ts fresh _ (lex between c.args.text.now) _ (members_all c.args.levels ts) refl c.in-CloseBrace.is c.lexeme-mark.ensures)

pub members-returns-in_err-left : goal.members-returns-in_err-left
members-returns-in_err-left t c = ap tokens_after c.from_residual.ensures ∙ sym (member_first c.args.levels _ (lex between c.args.text.now) _ _ c.in_default.not-CloseBrace c.lexeme-mark.ensures c.in_err-left.ensures)

pub members-loop-key-init : goal.members-loop-key-init
members-loop-key-init t c = (member_first c.args.levels _ (lex between c.args.text.now) _ _ c.in_default.not-CloseBrace c.lexeme-mark.ensures c.in_ok-left.ensures).0

pub members-returns-in-CloseBrace-next : goal.members-returns-in-CloseBrace-next
members-returns-in-CloseBrace-next t c = sym (object_closes c.args.levels (tokens c.args.text.now) after_value _ (lex between c.loop-key.left.now) _ c.loop-key.invariant refl c.in-CloseBrace-next.is c.lexeme-next.ensures)

pub members-returns-in_err-left-in-Comma : goal.members-returns-in_err-left-in-Comma
members-returns-in_err-left-in-Comma t c =
    ap tokens_after c.from_residual-in_err-left-in-Comma.ensures
    ∙ sym (member_next c.args.levels (tokens c.args.text.now) _ _ (lex between c.loop-key.left.now) _ _ _ c.loop-key.invariant c.in-Comma.is c.lexeme-next.ensures c.lexeme-key.ensures c.in_err-left-in-Comma.ensures)

pub members-loop-key-smaller : goal.members-loop-key-smaller
members-loop-key-smaller t c =
    (member_next c.args.levels (tokens c.args.text.now) _ _ (lex between c.loop-key.left.now) _ _ _ c.loop-key.invariant c.in-Comma.is c.lexeme-next.ensures c.lexeme-key.ensures c.in_ok-left-in-Comma.ensures).1

pub members-loop-key-preserved : goal.members-loop-key-preserved
members-loop-key-preserved t c =
    (member_next c.args.levels (tokens c.args.text.now) _ _ (lex between c.loop-key.left.now) _ _ _ c.loop-key.invariant c.in-Comma.is c.lexeme-next.ensures c.lexeme-key.ensures c.in_ok-left-in-Comma.ensures).0

pub members-returns-in_default-next : goal.members-returns-in_default-next
members-returns-in_default-next t c =
    sym (member_none c.args.levels (tokens c.args.text.now) _ (lex between c.loop-key.left.now) _ c.loop-key.invariant c.in_default-next.not-CloseBrace c.in_default-next.not-Comma c.lexeme-next.ensures)
