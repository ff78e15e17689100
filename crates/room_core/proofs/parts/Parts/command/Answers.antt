use Rattle.std.proofs.Common.{◌≡◌, ◌≤◌}
use Rattle.room_model.specs.Limits.{longest_time}
use Rattle.state_model.specs.Members.{no_members}
use Rattle.room_core.proofs.Commanded.{command_stands}
use Rattle.room_core.proofs.parts.Parts.command.Goals as goal

pub returns-clause-stands : goal.returns-clause-stands
returns-clause-stands c =
    let p = c.args.self.now in
    let did = c.apply-answer.ensures in
    command_stands p.shared p.clients.items p.live c.apply-answer.new.self c.args.command.now c.apply-answer.result c.answered.result (p.none ≡ no_members) (p.def.keep ≤ longest_time)
    did.answer c.answered.ensures c.know_rows.ensures.kept did.schema did.later c.requires.stands
