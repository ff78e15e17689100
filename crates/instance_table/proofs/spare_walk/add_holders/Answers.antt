use Rattle.std.proofs.Common.{◌∙◌, None, Some, true, false, sym, ap, arith}
use Rattle.std.proofs.lemmas.List.{at_drop_all}
use Rattle.instance_table.specs.declared.way.Way.TheVariants.{Holders}
use Rattle.instance_table.specs.Ways.{with_each}
use Rattle.instance_table.proofs.SpareWalks.{each_more, holder_fits}
use Rattle.instance_table.proofs.WayLaws.{along_held}
use Rattle.instance_table.proofs.spare_walk.add_holders.Goals as goal
use Rattle.instance_table.proofs.spare_walk.add_holders.Goals.{then-not-has, else-not-has}

pub returns-in_default-clause-numbers : goal.returns-in_default-clause-numbers
returns-in_default-clause-numbers c = ap (with_each c.args.seen.now.numbers) (sym (along_held Holders c.args.nodes.now c.args.who None c.in_default.ensures))

pub add-requires : goal.add-requires
add-requires c =
    let l = c.loop-holder in
    let fits = holder_fits c.args.nodes.now c.args.who l.holder-index c.holder-item.result c.in-Some.node.now c.as_slice-holder-items.result.now l.seen.numbers c.requires.exact c.in-Some.ensures
    c.as_slice-holder-items.ensures c.loop-holder-test.true c.holder-item.is l.invariant.few (sym c.has.ensures ∙ c.if-not-has.true) in
    omega (arith, fits.1, l.invariant.kept, c.requires.room)

pub loop-holder-preserved : goal.loop-holder-preserved
loop-holder-preserved c =
    let l = c.loop-holder in
    let hs = c.as_slice-holder-items.result.now in
    let h = c.holder-item.result in
    elim c.if-not-has.branch [
      | then-not-has w ↦
          let new = sym c.has.ensures ∙ w.if-not-has.true in
          let fits = holder_fits c.args.nodes.now c.args.who l.holder-index h c.in-Some.node.now hs l.seen.numbers c.requires.exact c.in-Some.ensures
          c.as_slice-holder-items.ensures c.loop-holder-test.true c.holder-item.is l.invariant.few new in
          rw (w.seen-is, w.add.ensures.numbers) (record {
            rest = each_more l.seen.numbers hs l.holder-index h false c.loop-holder-test.true c.holder-item.is new ∙ l.invariant.rest;
            few = fits.0;
            kept = omega (arith, w.add.ensures.kept, l.invariant.kept);
          })
      | else-not-has w ↦
          rw w.seen-is (record {
            rest = each_more l.seen.numbers hs l.holder-index h true c.loop-holder-test.true c.holder-item.is (sym c.has.ensures ∙ w.if-not-has.false) ∙ l.invariant.rest;
            few = l.invariant.few;
            kept = l.invariant.kept;
          })
    ]

pub returns-clause-numbers : goal.returns-clause-numbers
returns-clause-numbers c =
    let l = c.loop-holder in
    sym (at_drop_all (with_each l.seen.numbers) c.as_slice-holder-items.result.now l.holder-index c.loop-holder-test.false)
    ∙ (l.invariant.rest ∙ ap (with_each c.args.seen.now.numbers) (c.as_slice-holder-items.ensures ∙ sym (along_held Holders c.args.nodes.now c.args.who (Some c.in-Some.node.now) c.in-Some.ensures)))
