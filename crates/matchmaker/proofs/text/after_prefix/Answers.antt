use Rattle.std.proofs.lemmas.Slice.Eq.{strip_prefix_is}
use Rattle.std.proofs.lemmas.Bool.Decides.{Decides-eqb}
use Rattle.matchmaker.proofs.Texts.{after_prefix_is}
use Rattle.matchmaker.proofs.text.after_prefix.Goals as goal

pub returns : goal.returns
returns c = after_prefix_is c.args.prefix.now c.args.text.now _ (strip_prefix_is Decides-eqb c.args.text.now c.args.prefix.now _ c.strip_prefix.ensures.cases)
