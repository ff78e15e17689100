use Rattle.std.proofs.Common.{◌≡◌, true, Some, ap, subst}
use Rattle.state_model.specs.Commands.{gives_number}
use Rattle.state_model.specs.declared.command.Command.TheVariants as command
use Rattle.instance_table.specs.declared.body.Body.{Body}
use Rattle.instance_table.specs.Bodies.{HasNumber, given_of, row_of}
use Rattle.instance_table.proofs.EditLaws.{put_goes, put_given}
use Rattle.instance_table.proofs.edits.put_key.Goals as goal
use Rattle.instance_table.proofs.edits.put_key.Goals.{in-Ok, in-Err-Memory}

pub unreachable-requires : goal.unreachable-requires
unreachable-requires c =
    let s = c.in-Map.items in
    let left = subst (λ (b : Body). gives_number (command.PutKey 0 c.args.key.now c.args.value) (Some (row_of b)) ≡ true → HasNumber (given_of b)) c.in-Map.is c.requires.left in
    put_goes s c.put_at.new.self c.args.key.now c.args.value c.in-Err-NumbersSpent.field-0 left c.in-Err-NumbersSpent.field-0-is c.in-Err-NumbersSpent.ensures

pub returns-after-put_at-clause-given : goal.returns-after-put_at-clause-given
returns-after-put_at-clause-given c = elim c.match-put_at.branch [
  | in-Ok w ↦ rw (w.result-is, c.in-Map.is) (ap Some (put_given c.in-Map.items c.args.key.now c.args.value c.put_at.new.self _ w.in-Ok.ensures))
  | in-Err-Memory w ↦ rw w.result-is tt
]
