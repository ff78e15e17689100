use Rattle.std.proofs.Common.{◌+◌, ◌∙◌, ap}
use Rattle.load_maker.specs.Generated.{acknowledged, reopened}
use Rattle.load_maker.proofs.Pushed.{two_pushed}
use Rattle.load_maker.proofs.rounds.push_return.Goals as goal

pub returns : goal.returns
returns c =
    two_pushed c.push-2.result c.args.events.now c.push.new.self c.push-2.new.self c.in_ok-reopened.field-0 c.in_ok-acknowledged.field-0 (reopened c.args.round) (acknowledged (200 + c.args.round))
    c.in_ok-push.ensures c.push-2.ensures c.in_ok-reopened.ensures (c.in_ok-acknowledged.ensures ∙ ap acknowledged c.from.ensures)
