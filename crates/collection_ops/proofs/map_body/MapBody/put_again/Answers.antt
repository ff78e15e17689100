use Rattle.std.proofs.Common.{false, refl, sym, ◌∙◌}
use Rattle.schema_model.specs.declared.value.Value.TheVariants as value
use Rattle.state_model.specs.declared.row.MapItem.{MapItem}
use Rattle.collection_ops.proofs.MapLaws.{AfterAgain, item_held, put_again}
use Rattle.collection_ops.proofs.map_body.MapBody.put_again.Goals as goal

pub unwrap-old-requires : goal.unwrap-old-requires
unwrap-old-requires c =
    let led = rw (← c.self.view_is) at c.requires.1 in
    item_held (record { items = c.self.inside.items; given = c.self.inside.given }) c.requires.0 c.args.number c.replace.result c.self.invariant.0 led c.replace.ensures.replaced

-- what the new value leaves
done : (c : goal.Joined-replace) →
    AfterAgain (record { items = c.self.inside.items; given = c.self.inside.given }) c.args.number c.args.value c.replace-2.new.self c.self.inside.index c.unwrap-old.result.value
done c =
    let blank : MapItem = record { number = c.args.number; key = c.from_string.result; value = value.Truth false } in
    put_again (record { items = c.self.inside.items; given = c.self.inside.given }) c.args.number c.args.value c.self.inside.index blank c.unwrap-old.result c.replace.new.self c.replace-2.new.self
    c.self.invariant.0 c.self.invariant.1 refl (sym c.replace.ensures.replaced ∙ c.unwrap-old.ensures) c.replace.ensures.items c.replace-2.ensures.items

pub invariant_of-self : goal.invariant_of-self
invariant_of-self c = ((done c).0, (done c).1)

pub returns : goal.returns
returns c = rw (← c.self.view_is) (done c).2
