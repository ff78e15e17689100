use Rattle.std.proofs.Common.{◌∙◌, ap, arith}
use Rattle.view_members.specs.Standings.{remove_at}
use Rattle.view_members.proofs.MemberLaws.{remove_members, remove_spare, remove_length}
use Rattle.view_members.proofs.members.Members.remove.Goals as goal

pub invariant_of-self : goal.invariant_of-self
invariant_of-self c =
    let es = c.self.inside.sets in
    let rises = c.remove.ensures.kept.0 in
    rw c.remove.ensures.entries
    record {
      spare = remove_spare es c.rank_of.result rises ∙ c.self.invariant.spare;
      few = omega (arith, remove_length es c.rank_of.result rises, c.self.invariant.few);
    }

pub returns : goal.returns
returns c =
    let es = c.self.inside.sets in
    let new = c.remove.ensures.entries ∙ ap (λ r. remove_at r es) c.rank_of.ensures.value in
    rw (← c.self.view_is, new) (remove_members es c.args.pair c.rank_of.ensures.fits c.remove.ensures.kept.0)
