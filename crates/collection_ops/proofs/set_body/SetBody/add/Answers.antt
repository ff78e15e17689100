use Rattle.std.proofs.Common.{true, refl, sym, ◌∙◌}
use Rattle.collection_ops.proofs.SetLaws.{value_there, none_holds, add_present}
use Rattle.collection_ops.proofs.set_body.SetBody.add.Goals as goal

pub returns-then-is_some : goal.returns-then-is_some
returns-then-is_some c =
    (add_present c.args.self.now c.args.value (value_there c.args.self.now.items c.args.value c.number_of.result true c.number_of.ensures (sym c.is_some.ensures ∙ c.if-is_some.true)), refl)

pub add_new-requires : goal.add_new-requires
add_new-requires c = none_holds c.args.self.now.items c.args.value c.number_of.result c.number_of.ensures (sym c.is_some.ensures ∙ c.if-is_some.false)
