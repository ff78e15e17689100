use Rattle.std.proofs.Common.{ap, ◌∙◌}
use Rattle.state_model.specs.Rows.{put_row}
use Rattle.patch_decoder.specs.declared.draft.Draft.TheVariants.{Kept}
use Rattle.patch_decoder.proofs.DraftLaws.{draft_put, draft_old, drafts_rise}
use Rattle.patch_decoder.proofs.drafts.Drafts.take.Goals as goal

pub invariant_of-self-2 : goal.invariant_of-self-2
invariant_of-self-2 c = drafts_rise c.self.inside.drafts.entries c.insert.new.self.entries c.who.inside.0 (Kept c.emptied.result) c.self.invariant c.in_ok-old.ensures.entries

pub returns-clause-rows : goal.returns-clause-rows
returns-clause-rows c =
    draft_put c.args.self.now c.self.inside.drafts.entries c.insert.new.self.entries c.args.who c.who.inside.0 (Kept c.emptied.result) c.self.view_is c.who.view_is c.in_ok-old.ensures.entries
    ∙ ap (λ r. put_row c.args.who r c.args.self.now) c.emptied.ensures

pub returns-clause-row : goal.returns-clause-row
returns-clause-row c =
    c.old_draft.ensures ∙ draft_old c.args.self.now c.self.inside.drafts.entries c.args.who c.who.inside.0 c.in_ok-old.old c.self.view_is c.who.view_is c.in_ok-old.ensures.old
