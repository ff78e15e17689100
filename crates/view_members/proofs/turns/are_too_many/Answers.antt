use Rattle.view_members.proofs.MissingLaws.{too_many}
use Rattle.view_members.proofs.turns.are_too_many.Goals as goal

pub returns : goal.returns
returns c = rw (c.len.ensures, c.missing.ensures) (too_many c.args.pairs.now c.args.sets.now c.keeps.ensures.0 c.requires)
