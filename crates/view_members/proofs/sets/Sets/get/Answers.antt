use Rattle.std.proofs.Common.{◌∙◌, ap}
use Rattle.view_members.specs.Standings.{standing_of}
use Rattle.view_members.proofs.EntryLaws.{lookup_standing}
use Rattle.view_members.proofs.sets.Sets.get.Goals as goal

pub returns-clause-value : goal.returns-clause-value
returns-clause-value c = c.copied.ensures ∙ (c.get.ensures.value ∙ (lookup_standing c.args.rank c.self.inside.entries.entries ∙ ap (standing_of c.args.rank) c.self.view_is))
