use Rattle.std.proofs.Common.{◌∙◌, sym, refl, arith}
use Rattle.view_members.specs.Standings.{is_now, is_spare, is_changed, ranks_of}
use Rattle.view_members.proofs.TickLaws.{rank_there, none_there, fewer, settle_same, settle_changed, settle_length}
use Rattle.view_members.proofs.turns.settle_changed.Goals as goal

pub loop-rank-smaller : goal.loop-rank-smaller
loop-rank-smaller c =
    let es = c.loop-rank.sets in
    let rises = c.last_changed.ensures.kept.0 in
    let there = rank_there is_changed es _ c.in-Some.rank rises (sym c.last_changed.ensures.value ∙ c.in-Some.is) in
    let less = fewer is_changed es c.in-Some.rank rises there in
    rw (c.settle.ensures, settle_changed es c.in-Some.rank rises) less

pub loop-rank-preserved : goal.loop-rank-preserved
loop-rank-preserved c =
    let es = c.loop-rank.sets in
    let r = c.in-Some.rank in
    let rises = c.last_changed.ensures.kept.0 in
    let there = rank_there is_changed es _ r rises (sym c.last_changed.ensures.value ∙ c.in-Some.is) in
    rw c.settle.ensures
    record {
      now = settle_same is_now refl refl es r rises there ∙ c.loop-rank.invariant.now;
      spare = settle_same is_spare refl refl es r rises there ∙ c.loop-rank.invariant.spare;
      len = omega (arith, settle_length es r rises, c.loop-rank.invariant.len);
    }

pub returns-clause-changed : goal.returns-clause-changed
returns-clause-changed c = none_there (ranks_of is_changed c.loop-rank.sets) (sym c.last_changed.ensures.value ∙ c.in_default.is)
