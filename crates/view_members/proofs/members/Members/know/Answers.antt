use Rattle.std.proofs.Common.{subst}
use Rattle.view_members.specs.Sets.{AreKept}
use Rattle.view_members.proofs.KeptLaws.{are_kept}
use Rattle.view_members.proofs.members.Members.know.Goals as goal

pub returns : goal.returns
returns c = subst AreKept c.self.view_is (are_kept c.self.inside.sets c.keeps.ensures.0)
