use Rattle.std.proofs.Common.{not, is_some, ap, ◌∙◌}
use Rattle.instance_table.proofs.FoundLaws.{not_swapped, value_there}
use Rattle.instance_table.proofs.found.to_add.Goals as goal

pub returns-clause-absent : goal.returns-clause-absent
returns-clause-absent c =
    let number = c.number_of-number.result in
    not_swapped (is_some number) c.is_none.result c.is_none.ensures ∙ ap not (value_there c.args.items.now.items c.args.value.now number c.number_of-number.ensures)
