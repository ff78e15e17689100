use Rattle.std.proofs.Common.{rules, tests}
use Rattle.std.specs.Str.{bytes_eq}
use Rattle.hub_model.specs.Requests.{up_to}
use Rattle.std.proofs.lemmas.Iterator.Splits.{YieldsList-from_slice_split}
use Rattle.std.proofs.lemmas.Iterator.Search.{find_from_yields_List}
use Rattle.matchmaker.proofs.Texts.{pieces_are}
use Rattle.matchmaker.proofs.opening.piece_of.Goals as goal

pub returns : goal.returns
returns c =
    rw (pieces_are 38 c.args.query.now) (find_from_yields_List (λ p. bytes_eq (up_to 61 p) c.args.key.now) _ _ c.find.result c.find.ensures.ran
    (YieldsList-from_slice_split _ _ c.args.query.now c.split.ensures.rest c.split.ensures.done c.split.ensures.closure (λ x r q k. search (rules, tests)))
    (λ x b q k. search (rules, tests)))
