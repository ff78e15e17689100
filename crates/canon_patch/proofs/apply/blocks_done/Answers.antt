use Rattle.canon_patch.proofs.Applying.{applied_turn}
use Rattle.canon_patch.proofs.apply.blocks_done.Goals as goal

pub loop-block-preserved : goal.loop-block-preserved
loop-block-preserved c =
    let kept = c.loop-block.invariant in
    applied_turn c.args.schema.now c.args.rows.now c.loop-block.tree c.do_block.new.rows c.args.blocks.now c.as_slice-block-items.result.now c.loop-block.block-index c.block-item.result
    kept.1 c.loop-block-test.true c.block-item.is kept.0 c.in_ok-do_block.ensures
