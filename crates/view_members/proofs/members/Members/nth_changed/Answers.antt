use Rattle.view_members.proofs.MemberLaws.{changed_ranks}
use Rattle.view_members.proofs.members.Members.nth_changed.Goals as goal

pub returns-clause-value : goal.returns-clause-value
returns-clause-value g c =
    let told = changed_ranks c.self.inside.sets c.changed_at.ensures.kept.0 in
    rw (← c.self.view_is, told) c.changed_at.ensures.value
