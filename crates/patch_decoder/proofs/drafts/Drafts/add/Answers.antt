use Rattle.std.proofs.Common.{sym, ◌∙◌}
use Rattle.std.proofs.lemmas.Result.{on_ok_weaker}
use Rattle.patch_decoder.proofs.DraftLaws.{draft_kept, draft_added}
use Rattle.patch_decoder.proofs.drafts.Drafts.add.Goals as goal

pub returns-in-Some : goal.returns-in-Some
returns-in-Some c = draft_kept c.args.self.now c.self.inside.drafts.entries c.args.entry c.who.inside.0 c.in-Some.field-0.now c.self.view_is c.who.view_is (sym c.in-Some.ensures.value)

pub returns-in-None : goal.returns-in-None
returns-in-None c =
    on_ok_weaker c.put.result (λ done. done ∙ draft_added c.args.self.now c.self.inside.drafts.entries c.args.entry c.who.inside.0 c.self.view_is c.who.view_is (sym c.in-None.ensures.value)) c.put.ensures
