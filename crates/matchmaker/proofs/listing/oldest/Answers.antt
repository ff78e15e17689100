use Rattle.std.proofs.Common.{◌∙◌, sym, rules, tests}
use Rattle.std.proofs.lemmas.Iterator.{YieldsList-from_slice}
use Rattle.std.proofs.lemmas.Iterator.Search.{position_from_yields_List}
use Rattle.hub_model.specs.Decisions.{meets}
use Rattle.matchmaker.proofs.listing.oldest.Goals as goal

pub returns-in-Some : goal.returns-in-Some
returns-in-Some c =
    sym c.in-Some.is ∙ position_from_yields_List (meets c.args.def c.args.criteria.now) _ _ c.position.result c.position.ensures.ran (YieldsList-from_slice c.args.rooms.now c.iter.ensures.rest) (λ x b q k. search (rules, tests))

pub returns-in-None : goal.returns-in-None
returns-in-None c =
    sym c.in-None.is ∙ position_from_yields_List (meets c.args.def c.args.criteria.now) _ _ c.position.result c.position.ensures.ran (YieldsList-from_slice c.args.rooms.now c.iter.ensures.rest) (λ x b q k. search (rules, tests))
