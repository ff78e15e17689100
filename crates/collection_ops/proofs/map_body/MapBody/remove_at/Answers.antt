use Rattle.std.proofs.Common.{sym, ◌∙◌}
use Rattle.collection_ops.proofs.MapLaws.{item_held, taken_out}
use Rattle.collection_ops.proofs.map_body.MapBody.remove_at.Goals as goal

pub unwrap-item-requires : goal.unwrap-item-requires
unwrap-item-requires c =
    let led = rw (← c.self.view_is) at c.requires in
    item_held (record { items = c.self.inside.items; given = c.self.inside.given }) c.args.key.now c.args.number c.remove-2.result c.self.invariant.0 led c.remove-2.ensures.found

pub invariant_of-self : goal.invariant_of-self
invariant_of-self c =
    let led = rw (← c.self.view_is) at c.requires in
    let left =
    taken_out (record { items = c.self.inside.items; given = c.self.inside.given }) c.args.key.now c.self.inside.index c.remove.new.self c.args.number c.unwrap-item.result c.remove-2.new.self
    c.self.invariant.0 c.self.invariant.1 led (sym c.unwrap-item.ensures ∙ c.remove-2.ensures.found) c.remove-2.ensures.rest c.remove.ensures in
    (left.0, left.1)

pub returns : goal.returns
returns c =
    let led = rw (← c.self.view_is) at c.requires in
    let left =
    taken_out (record { items = c.self.inside.items; given = c.self.inside.given }) c.args.key.now c.self.inside.index c.remove.new.self c.args.number c.unwrap-item.result c.remove-2.new.self
    c.self.invariant.0 c.self.invariant.1 led (sym c.unwrap-item.ensures ∙ c.remove-2.ensures.found) c.remove-2.ensures.rest c.remove.ensures in
    rw (← c.self.view_is) left.2
