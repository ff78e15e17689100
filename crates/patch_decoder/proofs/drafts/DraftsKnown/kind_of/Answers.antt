use Rattle.std.proofs.Common.{Some, ap, sym, ◌∙◌}
use Rattle.patch_decoder.proofs.DraftLaws.{draft_known, draft_unknown}
use Rattle.patch_decoder.proofs.drafts.DraftsKnown.kind_of.Goals as goal

pub returns-in_err-draft : goal.returns-in_err-draft
returns-in_err-draft c = c.from_residual.ensures ∙ sym (draft_unknown c.args.self.now c.self.inside.drafts.entries c.args.who c.who.inside.0 c.self.view_is c.who.view_is (sym c.in_err-draft.ensures.value))

pub returns : goal.returns
returns c = ap Some c.kind.ensures ∙ sym (draft_known c.args.self.now c.self.inside.drafts.entries c.args.who c.who.inside.0 c.in_ok-draft.draft.now c.self.view_is c.who.view_is (sym c.in_ok-draft.ensures.value))
