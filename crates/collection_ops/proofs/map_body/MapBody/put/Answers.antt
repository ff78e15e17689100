use Rattle.std.proofs.Common.{option_map, sym, ap, ◌∙◌}
use Rattle.collection_ops.specs.Bodies.{map_number, key_item}
use Rattle.collection_ops.proofs.map_body.MapBody.put.Goals as goal

pub put_again-requires : goal.put_again-requires
put_again-requires c =
    (c.args.key, ap (λ k. option_map map_number (key_item c.args.self.now.items k)) (sym c.as_str.ensures) ∙ (sym c.number_of.ensures ∙ c.in-Some.is))
