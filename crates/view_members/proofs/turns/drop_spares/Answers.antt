use Rattle.std.proofs.Common.{◌∙◌, sym, ap, drop, arith, ◌+◌}
use Rattle.std.proofs.lemmas.List.{drop_all}
use Rattle.view_members.specs.Standings.{without_spare, without_spares}
use Rattle.view_members.proofs.SpareLaws.{next_pair, back_one, back_nothing}
use Rattle.view_members.proofs.turns.drop_spares.Goals as goal

pub loop-pair-preserved : goal.loop-pair-preserved
loop-pair-preserved c =
    let es = c.loop-pair.sets in
    let p = c.pair-item.result in
    let rest = drop (c.loop-pair.pair-index + 1) c.args.pairs.now in
    let next = next_pair c.args.pairs.now c.loop-pair.pair-index p c.loop-pair-test.true c.pair-item.is in
    let gone = ap (λ r. without_spare r es) (sym c.rank_of.ensures.value) ∙ sym c.drop_spare.ensures in
    record {
      left = c.loop-pair.invariant.left ∙ (ap (λ ps. without_spares ps es) next ∙ (back_one p rest es ∙ ap (without_spares rest) gone));
      fit = λ f. c.loop-pair.invariant.fit (rw next (c.rank_of.ensures.fits, f));
    }

pub returns-clause-entries : goal.returns-clause-entries
returns-clause-entries c =
    let es = c.loop-pair.sets in
    let done = drop_all c.loop-pair.pair-index c.args.pairs.now (omega arith) in
    sym (c.loop-pair.invariant.left ∙ (ap (λ ps. without_spares ps es) done ∙ back_nothing es))

pub returns-clause-fit : goal.returns-clause-fit
returns-clause-fit c =
    let done = drop_all c.loop-pair.pair-index c.args.pairs.now (omega arith) in
    c.loop-pair.invariant.fit (rw done tt)
