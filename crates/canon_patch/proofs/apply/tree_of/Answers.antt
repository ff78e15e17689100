use Rattle.std.proofs.Common.{sym, subst, ◌∙◌}
use Rattle.lists.specs.Rising.{RisesFrom}
use Rattle.state_model.specs.Rows.{number_of}
use Rattle.canon_patch.proofs.Applying.{put_next}
use Rattle.canon_patch.proofs.apply.tree_of.Goals as goal

pub loop-entry-preserved : goal.loop-entry-preserved
loop-entry-preserved c =
    let kept = c.loop-entry.invariant in (
      c.in_ok-put.ensures.ok ∙ put_next c.as_slice-entry-items.result.now c.loop-entry.tree c.loop-entry.entry-index c.entry-item.result c.in_ok-copy.field-0
          (subst (RisesFrom number_of 0) (sym c.as_slice-entry-items.ensures.value) c.as_slice-entry-items.ensures.rises) kept.0 c.loop-entry-test.true c.entry-item.is c.in_ok-copy.ensures,
      kept.1,
    )
