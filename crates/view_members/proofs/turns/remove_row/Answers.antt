use Rattle.std.proofs.Common.{◌∙◌, sym, arith, ◌*◌, ◌+◌}
use Rattle.view_members.specs.Standings.{is_now}
use Rattle.view_members.proofs.MemberLaws.{remove_spare, remove_length}
use Rattle.view_members.proofs.RowLaws.{first_none, first_low, first_gap, row_step, row_gone, gone_all, left_behind}
use Rattle.view_members.proofs.turns.remove_row.Goals as goal

pub returns-then-rank-end-clause-members : goal.returns-then-rank-end-clause-members
returns-then-rank-end-clause-members c =
    let es = c.loop-rank.sets in
    let who = c.args.who in
    let from = c.loop-rank.from in
    let rises = c.first_from.ensures.kept.0 in
    let first = sym c.first_from.ensures.value ∙ c.in-Some.is in
    let gone = gone_all (65536 * who) from (65536 * who + 65536) es c.loop-rank.invariant.behind (λ k l m. first_gap is_now from c.in-Some.rank 0 es rises first k l (omega (arith, c.loop-rank.invariant.end, c.if-rank-end.true, m))) in
    sym (c.loop-rank.invariant.row ∙ row_gone who es rises gone)

pub loop-rank-smaller : goal.loop-rank-smaller
loop-rank-smaller c =
    let first = first_low c.loop-rank.from c.in-Some.rank c.loop-rank.sets (sym c.first_from.ensures.value ∙ c.in-Some.is) in
    omega (arith, first, c.if-rank-end.false)

pub loop-rank-preserved : goal.loop-rank-preserved
loop-rank-preserved c =
    let es = c.loop-rank.sets in
    let who = c.args.who in
    let from = c.loop-rank.from in
    let r = c.in-Some.rank in
    let inv = c.loop-rank.invariant in
    let rises = c.first_from.ensures.kept.0 in
    let first = sym c.first_from.ensures.value ∙ c.in-Some.is in
    let low = first_low from r es first in
    rw c.remove.ensures.entries
    record {
      from = omega (arith, low, inv.from);
      end = inv.end;
      row = inv.row ∙ sym (row_step who r es rises (omega (arith, low, inv.from)) (omega (arith, inv.end, c.if-rank-end.false)));
      behind = left_behind (65536 * who) from r es inv.behind (λ k l m. first_gap is_now from r 0 es rises first k l m);
      spare = remove_spare es r rises ∙ inv.spare;
      len = remove_length es r rises ∙ inv.len;
    }

pub returns-clause-members : goal.returns-clause-members
returns-clause-members c =
    let es = c.loop-rank.sets in
    let who = c.args.who in
    let from = c.loop-rank.from in
    let first = sym c.first_from.ensures.value ∙ c.in_default.is in
    let gone = gone_all (65536 * who) from (65536 * who + 65536) es c.loop-rank.invariant.behind (λ k l m. first_none is_now from es first k l) in
    sym (c.loop-rank.invariant.row ∙ row_gone who es c.first_from.ensures.kept.0 gone)
