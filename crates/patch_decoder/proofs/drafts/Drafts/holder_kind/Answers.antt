use Rattle.std.proofs.Common.{ap, sym, ◌∙◌}
use Rattle.state_model.specs.declared.row.Row.TheVariants.{Struct}
use Rattle.patch_decoder.proofs.DraftLaws.{draft_kind, draft_kind_missing}
use Rattle.patch_decoder.proofs.drafts.Drafts.holder_kind.Goals as goal

pub returns-in-Some : goal.returns-in-Some
returns-in-Some c = c.bare.ensures ∙ sym (draft_kind c.args.self.now c.self.inside.drafts.entries c.args.who c.who.inside.0 c.in-Some.draft.now c.self.view_is c.who.view_is (sym c.in-Some.ensures.value))

pub returns-in-None : goal.returns-in-None
returns-in-None c = ap (Struct 0) c.new.ensures ∙ sym (draft_kind_missing c.args.self.now c.self.inside.drafts.entries c.args.who c.who.inside.0 c.self.view_is c.who.view_is (sym c.in-None.ensures.value))
