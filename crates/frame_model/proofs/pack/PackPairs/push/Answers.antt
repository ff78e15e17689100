use Rattle.std.proofs.Common.{◌∙◌, ap, rules}
use Rattle.frame_model.specs.PackData.{data_of, members_more, members_view}
use Rattle.frame_model.specs.declared.pack.Pack.{the_lemmas}
use Rattle.frame_model.proofs.PackLists.{members_view-more, members_data-is}
use Rattle.frame_model.proofs.pack.PackPairs.push.Goals as goal

pub returns : goal.returns
returns c = members_data-is c.push.new.self ∙ (ap members_view c.in_ok-push.ensures.items ∙ (members_view-more _ c.args.item ∙ ap (λ ds. members_more ds c.args.item.0 (data_of c.args.item.1)) (search (rules, the_lemmas))))
