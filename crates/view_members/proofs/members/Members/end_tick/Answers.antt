use Rattle.std.proofs.Common.{◌∙◌}
use Rattle.view_members.proofs.TickLaws.{quiet}
use Rattle.view_members.proofs.members.Members.end_tick.Goals as goal

pub returns : goal.returns
returns c =
    let es = c.forget_passed.new.sets in
    rw (← c.self.view_is)
    (quiet c.self.inside.sets es c.forget_passed.ensures.kept.0 (c.forget_passed.ensures.now ∙ c.settle_changed.ensures.now) (c.forget_passed.ensures.changed ∙ c.settle_changed.ensures.changed) c.forget_passed.ensures.passed)
