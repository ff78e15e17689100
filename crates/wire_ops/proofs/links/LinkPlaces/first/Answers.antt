use Rattle.wire_ops.proofs.PlaceLaws.{none_from, first_from, other_from}
use Rattle.wire_ops.proofs.links.LinkPlaces.first.Goals as goal

pub returns-in_err-found : goal.returns-in_err-found
returns-in_err-found c =
    let none = none_from c.self.inside.pairs c.range.result c.args.who (c.range.ensures.in_range tt) c.in_err-found.ensures.steps.0 in
    rw (← c.self.view_is, c.from_residual.ensures) none

pub returns-then-found-who : goal.returns-then-found-who
returns-then-found-who c =
    let key = c.in_ok-found.field-0.now in
    let first = first_from c.self.inside.pairs c.range.result c.args.who (c.range.ensures.in_range tt) key.0 key.1 c.next.new.self c.in_ok-found.ensures.steps in
    rw (← c.self.view_is) (first c.if-found-who.true)

pub returns-else-found-who : goal.returns-else-found-who
returns-else-found-who c =
    let key = c.in_ok-found.field-0.now in
    let first = other_from c.self.inside.pairs c.range.result c.args.who (c.range.ensures.in_range tt) key.0 key.1 c.next.new.self c.in_ok-found.ensures.steps in
    rw (← c.self.view_is) (first c.if-found-who.false)
