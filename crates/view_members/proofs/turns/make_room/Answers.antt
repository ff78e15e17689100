use Rattle.std.proofs.Common.{◌∙◌, sym, refl, ap, arith, is_some}
use Rattle.std.proofs.lemmas.Result.{err_from_is_err_and}
use Rattle.view_members.proofs.SpareLaws.{spare_new, spare_adds}
use Rattle.view_members.proofs.turns.make_room.Goals as goal

pub returns-then-len-ge-LIMIT-clause-value : goal.returns-then-len-ge-LIMIT-clause-value
returns-then-len-ge-LIMIT-clause-value c =
    let absent = ap is_some (sym c.get.ensures.value) ∙ (sym c.is_some.ensures ∙ c.if-is_some.false) in
    let more = spare_adds c.args.rank c.args.sets.now c.get.ensures.kept.0 absent in
    (refl, omega (arith, more, c.len.ensures, c.if-len-ge-LIMIT.true))

pub returns-clause-value : goal.returns-clause-value
returns-clause-value c =
    let absent = ap is_some (sym c.get.ensures.value) ∙ (sym c.is_some.ensures ∙ c.if-is_some.false) in
    let more = spare_adds c.args.rank c.args.sets.now c.get.ensures.kept.0 absent in
    let new = c.in_ok-add_spare.ensures ∙ sym (spare_new c.args.rank c.args.sets.now absent) in
    (new, rw new (omega (arith, more, c.len.ensures, c.if-len-ge-LIMIT.false)))

pub returns-in_err-add_spare-clause-value : goal.returns-in_err-add_spare-clause-value
returns-in_err-add_spare-clause-value c =
    let absent = ap is_some (sym c.get.ensures.value) ∙ (sym c.is_some.ensures ∙ c.if-is_some.false) in
    let more = spare_adds c.args.rank c.args.sets.now c.get.ensures.kept.0 absent in
    let p = err_from_is_err_and c.from_residual.result c.from_residual.ensures.1 in
    rw (p.1, p.2) (c.in_err-add_spare.ensures, omega (arith, more, c.len.ensures, c.if-len-ge-LIMIT.false))
