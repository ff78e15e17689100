use Rattle.std.proofs.Common.{◌==◌, ◌∙◌, ap, rules, tests, unwrap_or, length}
use Rattle.std.proofs.lemmas.Iterator.{YieldsList-from_slice}
use Rattle.std.proofs.lemmas.Iterator.Search.{position_from_yields_List}
use Rattle.matchmaker.proofs.Texts.{place_is}
use Rattle.matchmaker.proofs.text.place_of.Goals as goal

pub returns-clause-place : goal.returns-clause-place
returns-clause-place c =
    let found = position_from_yields_List (λ b. b == c.args.byte) _ _ c.position.result c.position.ensures.ran (YieldsList-from_slice _ c.iter.ensures.rest) (λ x b q k. search (rules, tests)) in
    c.unwrap_or.ensures ∙ (ap (λ r. unwrap_or r (length c.args.text.now)) found ∙ place_is (λ b. b == c.args.byte) c.args.text.now)
