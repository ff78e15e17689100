use Rattle.std.proofs.Common.{◌+◌, [], length, nat_le, sym, ap, ◌∙◌}
use Rattle.state_model.specs.Members.{Members}
use Rattle.view_members.proofs.AddLaws.{kept_count}
use Rattle.view_members.proofs.members.Members.has_room.Goals as goal

pub returns : goal.returns
returns c =
    let es = c.self.inside.sets in
    let count = kept_count [] es tt c.keeps.ensures.0 c.self.invariant.spare in
    c.has_room.ensures ∙ (ap (λ n. nat_le (n + c.args.more) 65536) (sym count) ∙ ap (λ (m : Members). nat_le (length m.kept + c.args.more) 65536) c.self.view_is)
