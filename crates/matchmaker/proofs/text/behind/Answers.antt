use Rattle.matchmaker.proofs.Texts.{behind_none, behind_there}
use Rattle.matchmaker.proofs.text.behind.Goals as goal

pub returns-then-place-text : goal.returns-then-place-text
returns-then-place-text c = behind_there c.args.byte c.place_of-place.result c.args.text.now c.place_of-place.ensures.place

pub returns-else-place-text : goal.returns-else-place-text
returns-else-place-text c = behind_none c.args.byte c.place_of-place.result c.args.text.now c.place_of-place.ensures.place c.if-place-text.false
