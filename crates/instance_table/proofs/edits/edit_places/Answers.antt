use Rattle.std.proofs.Common.{ap, ◌∙◌}
use Rattle.schema_model.specs.declared.value.Value.{Value}
use Rattle.state_model.specs.declared.command.Command.TheVariants as command
use Rattle.state_model.specs.Commands.{edited}
use Rattle.instance_table.specs.Bodies.{row_of}
use Rattle.instance_table.proofs.EditLaws.{put_key_any, add_any}
use Rattle.instance_table.proofs.edits.edit_places.Goals as goal

pub returns-in_ok-put_key-in-PutKey-clause-row : goal.returns-in_ok-put_key-in-PutKey-clause-row
returns-in_ok-put_key-in-PutKey-clause-row c = λ n g.
    let made = c.in_ok-put_key-in-PutKey.ensures.row n g in
    let row = row_of c.args.body.now in
    let same = ap (λ (v : Value). edited (command.PutKey 0 c.in-PutKey.key v) n row) c.in_ok-copy-in-PutKey.ensures in
    rw c.in-PutKey.is (made ∙ same ∙ put_key_any 0 c.in-PutKey.field-0 c.in-PutKey.key c.in-PutKey.value n row)

pub returns-in_ok-add-in-Add-clause-row : goal.returns-in_ok-add-in-Add-clause-row
returns-in_ok-add-in-Add-clause-row c = λ n g.
    let made = c.in_ok-add-in-Add.ensures.row n g in
    let row = row_of c.args.body.now in
    let same = ap (λ (v : Value). edited (command.Add 0 v) n row) c.in_ok-copy-in-Add.ensures in
    rw c.in-Add.is (made ∙ same ∙ add_any 0 c.in-Add.field-0 c.in-Add.value n row)
