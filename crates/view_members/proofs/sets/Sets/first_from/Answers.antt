use Rattle.std.proofs.Common.{◌∙◌, sym, ap}
use Rattle.std.specs.List.{slice_get}
use Rattle.std.specs.Option.{option_map}
use Rattle.view_members.specs.Standings.{entry_rank}
use Rattle.view_members.proofs.EntryLaws.{first_is}
use Rattle.view_members.proofs.sets.Sets.first_from.Goals as goal

pub returns-in_err-first-clause-value : goal.returns-in_err-first-clause-value
returns-in_err-first-clause-value c =
    let first = first_is c.args.rank c.self.inside.entries.entries c.range.result (c.range.ensures.between tt) in
    rw (← c.self.view_is, c.from_residual.ensures) (sym (first ∙ ap (λ l. option_map entry_rank (slice_get l 0)) c.in_err-first.ensures.steps.0))

pub returns-clause-value : goal.returns-clause-value
returns-clause-value c =
    let first = first_is c.args.rank c.self.inside.entries.entries c.range.result (c.range.ensures.between tt) in
    rw (← c.self.view_is) (sym (first ∙ ap (λ l. option_map entry_rank (slice_get l 0)) c.in_ok-first.ensures.steps))
