use Rattle.std.proofs.Common.{◌∙◌, ap, rules}
use Rattle.frame_model.specs.PackData.{data_of, items_more, items_view}
use Rattle.frame_model.specs.declared.pack.Pack.{the_lemmas}
use Rattle.frame_model.proofs.PackLists.{items_view-more, items_data-is}
use Rattle.frame_model.proofs.pack.Packs.push.Goals as goal

pub returns : goal.returns
returns c = items_data-is c.push.new.self ∙ (ap items_view c.in_ok-push.ensures.items ∙ (items_view-more _ c.args.item ∙ ap (λ ds. items_more ds (data_of c.args.item)) (search (rules, the_lemmas))))
