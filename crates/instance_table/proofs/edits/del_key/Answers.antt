use Rattle.std.proofs.Common.{ap, sym, ◌∙◌}
use Rattle.state_model.specs.declared.row.Row.TheVariants.{Map}
use Rattle.state_model.specs.declared.command.Command.TheVariants as command
use Rattle.instance_table.specs.declared.body.Body.{Body}
use Rattle.instance_table.specs.Bodies.{row_of}
use Rattle.instance_table.specs.Found.{item_number}
use Rattle.instance_table.proofs.EditLaws.{key_unfound}
use Rattle.instance_table.proofs.edits.del_key.Goals as goal

pub returns-in_default-number-clause-row : goal.returns-in_default-number-clause-row
returns-in_default-number-clause-row c =
    let none = sym c.in_default-number.is ∙ (c.requires ∙ ap (λ (b : Body). item_number (command.DelKey 0 c.args.key.now) (row_of b)) c.in-Map.is) in
    rw c.in-Map.is (ap (Map c.in-Map.field-0) (sym (key_unfound c.in-Map.items.items c.args.key.now none)))
