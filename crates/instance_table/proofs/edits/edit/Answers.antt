use Rattle.lists.proofs.Results.{on_ok_both}
use Rattle.instance_table.specs.Bodies.{next_in}
use Rattle.instance_table.proofs.EditedBodies.{edited_is, next_given}
use Rattle.instance_table.proofs.edits.edit.Goals as goal

pub returns-clause-after : goal.returns-clause-after
returns-clause-after c =
    let b = c.args.body.now in
    on_ok_both c.edit_places.result (c.edit_places.ensures.row (next_in b) (next_given b)) c.edit_places.ensures.given (λ row given. edited_is c.args.command.now b c.edit_places.new.body row given)
