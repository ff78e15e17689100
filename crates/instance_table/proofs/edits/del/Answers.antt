use Rattle.std.proofs.Common.{ap, sym, ◌∙◌}
use Rattle.state_model.specs.declared.row.Row.TheVariants.{Set}
use Rattle.state_model.specs.declared.command.Command.TheVariants as command
use Rattle.instance_table.specs.declared.body.Body.{Body}
use Rattle.instance_table.specs.Bodies.{row_of}
use Rattle.instance_table.specs.Found.{item_number}
use Rattle.instance_table.proofs.EditLaws.{value_unfound}
use Rattle.instance_table.proofs.edits.del.Goals as goal

pub returns-in_default-number-clause-row : goal.returns-in_default-number-clause-row
returns-in_default-number-clause-row c =
    let none = sym c.in_default-number.is ∙ (c.requires ∙ ap (λ (b : Body). item_number (command.Del 0 c.args.value.now) (row_of b)) c.in-Set.is) in
    rw c.in-Set.is (ap (Set c.in-Set.field-0) (sym (value_unfound c.in-Set.items.items c.args.value.now none)))
