use Rattle.std.proofs.Common.{rules, map}
use Rattle.wire_model.specs.Patch.{either_number}
use Rattle.canon_patch.proofs.MergeLaws.{merge_kept}
use Rattle.canon_patch.proofs.numbers.merged.Goals as goal

pub loop-number-preserved : goal.loop-number-preserved
loop-number-preserved g c =
    merge_kept g.T.Keyed.key c.loop-number.numbers.items c.push.new.self.items c.loop-number.left.now c.loop-number.right.now
    c.behind-left.result.now c.behind-right.result.now
    c.in-Some.number (either_number (map g.T.Keyed.key c.args.old.now) (map g.T.Keyed.key c.args.new.now))
    c.loop-number.invariant.0 c.loop-number.invariant.1 c.loop-number.invariant.2 (search rules) (search rules) c.behind-left.ensures c.behind-right.ensures
