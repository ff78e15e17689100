use Rattle.std.proofs.Common.{◌∙◌, sym, ap}
use Rattle.schema_model.specs.declared.value.Value.TheVariants as value
use Rattle.wire_ops.proofs.PlaceLaws.{noted_also}
use Rattle.wire_ops.proofs.links.LinkPlaces.add.Goals as goal

pub returns-in_ok-insert-clause-ok : goal.returns-in_ok-insert-clause-ok
returns-in_ok-insert-clause-ok c =
    let is = c.in-Link.is ∙ ap value.Link (sym c.who.view_is) in
    rw (← c.self.view_is) (noted_also c.self.inside.pairs.keys c.insert.new.self.keys c.args.value.now c.who.inside.0 c.args.place is c.in_ok-insert.ensures.updates.0)
