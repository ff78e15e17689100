use Rattle.std.proofs.Common.{zero-le}
use Rattle.lists.proofs.RisingLaws.{RisesFrom-push}
use Rattle.lists.proofs.rising.Rising.push.Goals as goal

pub invariant_of-self-2 : goal.invariant_of-self-2
invariant_of-self-2 g c =
    let above = rw (← c.self.view_is) at c.requires in
    rw c.in_ok-push.ensures.items (RisesFrom-push g.T.Keyed.key 0 c.self.inside.items.items c.args.item c.self.invariant above zero-le)
