use Rattle.std.proofs.Common.{sym}
use Rattle.view_members.proofs.EntryLaws.{write_nothing}
use Rattle.view_members.proofs.sets.write.Goals as goal

pub returns-in_default : goal.returns-in_default
returns-in_default c = rw c.get_mut.follows.holds-at-none (sym (write_nothing c.args.rank c.args.standing c.args.entries.now.entries (sym c.in_default.ensures.value)))
