use Rattle.std.proofs.Common.{◌∙◌, sym, ap}
use Rattle.state_model.specs.Members.{pair_rank}
use Rattle.view_members.specs.Standings.{is_last, standing_of}
use Rattle.view_members.proofs.RankLists.{has_some, has_none}
use Rattle.view_members.proofs.MemberLaws.{member_has}
use Rattle.view_members.proofs.members.Members.had_at_tick.Goals as goal

pub returns-in-Some-clause-value : goal.returns-in-Some-clause-value
returns-in-Some-clause-value g c =
    let es = c.self.inside.sets in
    let here = ap (λ r. standing_of r es) (sym c.rank_of.ensures.value) ∙ (sym c.get.ensures.value ∙ c.in-Some.is) in
    rw (← c.self.view_is)
    (c.was_member.ensures ∙ (sym (has_some is_last es (pair_rank c.args.pair) c.in-Some.standing here) ∙ sym (member_has is_last es c.args.pair c.rank_of.ensures.fits c.get.ensures.kept.0)))

pub returns-in-None-clause-value : goal.returns-in-None-clause-value
returns-in-None-clause-value g c =
    let es = c.self.inside.sets in
    let here = ap (λ r. standing_of r es) (sym c.rank_of.ensures.value) ∙ (sym c.get.ensures.value ∙ c.in-None.is) in
    rw (← c.self.view_is)
    (sym (has_none is_last es (pair_rank c.args.pair) here) ∙ sym (member_has is_last es c.args.pair c.rank_of.ensures.fits c.get.ensures.kept.0))
