use Rattle.std.proofs.Common.{◌∙◌, sym, ap}
use Rattle.schema_model.specs.declared.value.Value.TheVariants as value
use Rattle.wire_ops.proofs.PlaceLaws.{noted_no_more}
use Rattle.wire_ops.proofs.links.LinkPlaces.remove.Goals as goal

pub returns-in-Link : goal.returns-in-Link
returns-in-Link c =
    let is = c.in-Link.is ∙ ap value.Link (sym c.who.view_is) in
    rw (← c.self.view_is) (noted_no_more c.self.inside.pairs.keys c.remove.new.self.keys c.args.value.now c.who.inside.0 c.args.place is c.remove.ensures.updates.0)
