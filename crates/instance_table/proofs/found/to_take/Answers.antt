use Rattle.std.proofs.Common.{not, is_some, cond, Some, None, ap, sym, ◌∙◌}
use Rattle.instance_table.proofs.FoundLaws.{value_there}
use Rattle.instance_table.proofs.found.to_take.Goals as goal

pub returns-in-Some-clause-absent : goal.returns-in-Some-clause-absent
returns-in-Some-clause-absent c = ap (λ o. not (is_some o)) (sym c.in-Some.is) ∙ ap not (value_there c.args.items.now.items c.args.value.now c.number_of.result c.number_of.ensures)

pub returns-in-Some-clause-value : goal.returns-in-Some-clause-value
returns-in-Some-clause-value c =
    ap (λ b. cond b (Some c.args.value.now) None) (ap is_some (sym c.in-Some.is) ∙ value_there c.args.items.now.items c.args.value.now c.number_of.result c.number_of.ensures)

pub returns-in-None-clause-absent : goal.returns-in-None-clause-absent
returns-in-None-clause-absent c = ap (λ o. not (is_some o)) (sym c.in-None.is) ∙ ap not (value_there c.args.items.now.items c.args.value.now c.number_of.result c.number_of.ensures)

pub returns-in-None-clause-value : goal.returns-in-None-clause-value
returns-in-None-clause-value c =
    ap (λ b. cond b (Some c.args.value.now) None) (ap is_some (sym c.in-None.is) ∙ value_there c.args.items.now.items c.args.value.now c.number_of.result c.number_of.ensures)
