use Rattle.patch_decoder.proofs.DraftLaws.{draft_put, drafts_rise}
use Rattle.patch_decoder.proofs.drafts.Drafts.put.Goals as goal

pub invariant_of-self-2 : goal.invariant_of-self-2
invariant_of-self-2 c = drafts_rise c.self.inside.drafts.entries c.insert.new.self.entries c.who.inside.0 c.args.draft c.self.invariant c.in_ok-insert.ensures.entries

pub returns : goal.returns
returns c = draft_put c.args.self.now c.self.inside.drafts.entries c.insert.new.self.entries c.args.who c.who.inside.0 c.args.draft c.self.view_is c.who.view_is c.in_ok-insert.ensures.entries
