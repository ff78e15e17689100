use Rattle.std.proofs.Common.{◌∙◌, sym, arith}
use Rattle.view_members.specs.Standings.{is_now, is_spare, is_changed, is_passed, ranks_of}
use Rattle.view_members.proofs.RankLists.{remove_ranks}
use Rattle.view_members.proofs.StandingLaws.{passed_not_now, passed_not_changed, passed_not_spare}
use Rattle.view_members.proofs.TickLaws.{rank_there, none_there, fewer, forget_same, remove_shorter}
use Rattle.view_members.proofs.turns.forget_passed.Goals as goal

pub loop-rank-smaller : goal.loop-rank-smaller
loop-rank-smaller c =
    let es = c.loop-rank.sets in
    let rises = c.last_passed.ensures.kept.0 in
    let there = rank_there is_passed es _ c.in-Some.rank rises (sym c.last_passed.ensures.value ∙ c.in-Some.is) in
    let less = fewer is_passed es c.in-Some.rank rises there in
    rw (c.take_out.ensures, remove_ranks is_passed c.in-Some.rank es rises) less

pub loop-rank-preserved : goal.loop-rank-preserved
loop-rank-preserved c =
    let es = c.loop-rank.sets in
    let r = c.in-Some.rank in
    let rises = c.last_passed.ensures.kept.0 in
    let there = rank_there is_passed es _ r rises (sym c.last_passed.ensures.value ∙ c.in-Some.is) in
    rw c.take_out.ensures
    record {
      now = forget_same is_now passed_not_now es r rises there ∙ c.loop-rank.invariant.now;
      changed = forget_same is_changed passed_not_changed es r rises there ∙ c.loop-rank.invariant.changed;
      spare = forget_same is_spare passed_not_spare es r rises there ∙ c.loop-rank.invariant.spare;
      len = omega (arith, remove_shorter es r rises, c.loop-rank.invariant.len);
    }

pub returns-clause-passed : goal.returns-clause-passed
returns-clause-passed c = none_there (ranks_of is_passed c.loop-rank.sets) (sym c.last_passed.ensures.value ∙ c.in_default.is)
