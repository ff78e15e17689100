use Rattle.std.proofs.Common.{sym, subst}
use Rattle.lists.specs.Rising.{RisesFrom}
use Rattle.state_model.specs.Rows.{number_of}
use Rattle.patch_decoder.specs.declared.draft.Draft.TheVariants.{Kept}
use Rattle.patch_decoder.proofs.DraftLaws.{draft_next}
use Rattle.patch_decoder.proofs.drafts.Drafts.of.Goals as goal

pub loop-entry-preserved : goal.loop-entry-preserved
loop-entry-preserved c =
    let kept = c.loop-entry.invariant in
    let rises = subst (RisesFrom number_of 0) (sym c.as_slice-entry-items.ensures.value) c.as_slice-entry-items.ensures.rises in (
      draft_next c.as_slice-entry-items.result.now c.loop-entry.drafts.entries c.insert.new.self.entries c.loop-entry.entry-index c.who.inside.0 c.entry-item.result (Kept c.in_ok-copy.field-0)
          rises kept.0 c.loop-entry-test.true c.entry-item.is c.in_ok-copy.ensures
          c.who.view_is c.in_ok-insert.ensures.entries,
      kept.1,
    )
