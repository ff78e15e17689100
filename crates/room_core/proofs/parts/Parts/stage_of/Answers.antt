use Rattle.std.proofs.Common.{ap, sym}
use Rattle.std.specs.Option.{option_map}
use Rattle.room_model.specs.Sessions.{Session}
use Rattle.room_core.proofs.ClientLists.{as_read, named_there}
use Rattle.room_core.proofs.parts.Parts.stage_of.Goals as goal

pub returns-in-Some : goal.returns-in-Some
returns-in-Some c =
    let cs = c.args.self.now.clients.items in
    let one = c.index.result.now in
    let own = as_read c.args.session cs c.in-Some.at one c.in-Some.ensures c.index.ensures in
    sym (ap (option_map (λ (s : Session). s.stage)) (named_there c.args.session cs c.in-Some.at one c.requires.placed.distinct own.0 own.1))
