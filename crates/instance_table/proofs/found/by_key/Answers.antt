use Rattle.std.proofs.Common.{not, is_some, ap, sym, ◌∙◌}
use Rattle.std.specs.Option.{option_map}
use Rattle.collection_ops.specs.Bodies.{key_item, map_number}
use Rattle.instance_table.proofs.AmountLaws.{value_by_number}
use Rattle.instance_table.proofs.FoundLaws.{key_there}
use Rattle.instance_table.proofs.found.by_key.Goals as goal

pub returns-in-Some-clause-absent : goal.returns-in-Some-clause-absent
returns-in-Some-clause-absent c =
    let items = c.args.items.now.items in
    let told = c.number_of.ensures ∙ ap (λ k. option_map map_number (key_item items k)) c.as_str.ensures in
    ap (λ o. not (is_some o)) (sym c.in-Some.is) ∙ ap not (key_there items c.args.key.now c.number_of.result told)

pub returns-in-Some-clause-value : goal.returns-in-Some-clause-value
returns-in-Some-clause-value c =
    let items = c.args.items.now.items in
    let told = c.number_of.ensures ∙ ap (λ k. option_map map_number (key_item items k)) c.as_str.ensures in
    c.get.ensures ∙ value_by_number items c.args.key.now c.in-Some.number c.know_kept.ensures.rises (sym c.in-Some.is ∙ told)

pub returns-in-None-clause-absent : goal.returns-in-None-clause-absent
returns-in-None-clause-absent c =
    let items = c.args.items.now.items in
    let told = c.number_of.ensures ∙ ap (λ k. option_map map_number (key_item items k)) c.as_str.ensures in
    ap (λ o. not (is_some o)) (sym c.in-None.is) ∙ ap not (key_there items c.args.key.now c.number_of.result told)
