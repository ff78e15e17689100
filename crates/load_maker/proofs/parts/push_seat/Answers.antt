use Rattle.std.proofs.Common.{◌+◌, ◌∙◌, ap}
use Rattle.load_maker.specs.Generated.{acknowledged, asked, opened}
use Rattle.load_maker.proofs.Pushed.{three_pushed}
use Rattle.load_maker.proofs.parts.push_seat.Goals as goal

pub returns : goal.returns
returns c =
    three_pushed c.push-3.result c.args.events.now c.push.new.self c.push-2.new.self c.push-3.new.self c.in_ok-asked.field-0 c.in_ok-opened.field-0 c.in_ok-acknowledged.field-0
    (asked c.args.client) (opened c.args.client) (acknowledged (100 + c.args.client))
    c.in_ok-push.ensures c.in_ok-push-2.ensures c.push-3.ensures c.in_ok-asked.ensures c.in_ok-opened.ensures (c.in_ok-acknowledged.ensures ∙ ap acknowledged c.from.ensures)
