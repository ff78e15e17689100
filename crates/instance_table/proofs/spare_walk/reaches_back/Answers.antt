use Rattle.std.proofs.Common.{◌∙◌, ◌≤◌, length, map, sym, arith}
use Rattle.instance_table.specs.Ways.{back_row}
use Rattle.instance_table.proofs.SpareWalks.{few_one, walked_all, walked_none, walked_on, walked_past}
use Rattle.instance_table.proofs.WayLaws.{back_rise, reached_back}
use Rattle.instance_table.proofs.spare_walk.reaches_back.Goals as goal
use Rattle.instance_table.proofs.spare_walk.reaches_back.Goals.{in-Some, in_default}

pub loop-at-init : goal.loop-at-init
loop-at-init c =
    rw (c.add.ensures.numbers, c.clear.ensures.numbers) (record {
      walked = walked_none (map back_row c.args.nodes.now) c.args.to;
      few = (few_one c.args.nodes.now c.args.to c.requires.live).0;
      kept = omega (arith, c.add.ensures.kept, c.clear.ensures.kept);
    })

pub loop-at-preserved : goal.loop-at-preserved
loop-at-preserved c =
    let rows = map back_row c.args.nodes.now in
    let l = c.loop-at in
    elim c.match-get.branch [
      | in-Some w ↦
          rw (w.seen-is, w.add_holders.ensures.numbers) (record {
            walked = walked_on rows c.args.to l.seen.numbers l.at w.in-Some.who (back_rise 0 c.args.nodes.now c.know_rising.ensures) (sym c.get.ensures ∙ w.in-Some.is) l.invariant.walked;
            few = rw w.add_holders.ensures.numbers at w.add_holders.ensures.few;
            kept = omega (arith, w.add_holders.ensures.kept, l.invariant.kept);
          })
      | in_default w ↦
          rw w.seen-is (record {
            walked = walked_past rows c.args.to l.seen.numbers l.at (sym c.get.ensures ∙ w.in_default.is) l.invariant.walked;
            few = l.invariant.few;
            kept = l.invariant.kept;
          })
    ]

pub returns-clause-value : goal.returns-clause-value
returns-clause-value c =
    let es = c.args.nodes.now in
    let l = c.loop-at in
    let sound = c.requires.sound in
    let all : length l.seen.numbers ≤ l.at = omega (arith, l.invariant.few, c.loop-at-test.false, c.len-at-end.ensures.value) in
    c.has.ensures
    ∙ (walked_all (map back_row es) c.args.to c.args.from l.seen.numbers l.at (back_rise 0 es c.know_rising.ensures) all l.invariant.walked
    ∙ reached_back sound.0 es c.args.from c.args.to c.know_rising.ensures sound.1 c.requires.exact)
