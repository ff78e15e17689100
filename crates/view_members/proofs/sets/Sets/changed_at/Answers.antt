use Rattle.std.proofs.Common.{◌∙◌, sym, ap, ◌^◌}
use Rattle.std.specs.List.{slice_get}
use Rattle.std.specs.Option.{option_map}
use Rattle.std.proofs.lemmas.Option.{slice_get-map}
use Rattle.view_members.specs.Standings.{is_changed, ranks_of, pair_of_rank}
use Rattle.view_members.proofs.RankLists.{ranks_above, below_at}
use Rattle.view_members.proofs.sets.Sets.changed_at.Goals as goal

pub pair_at-requires : goal.pair_at-requires
pair_at-requires c =
    let es = c.self.inside.entries.entries in
    let inv = c.self.invariant in
    let here = ap (λ rs. slice_get rs c.args.n) (sym inv.changed) ∙ (sym c.at.ensures ∙ c.in_ok-rank.was) in
    below_at (2 ^ 48) (ranks_of is_changed es) c.args.n c.in_ok-rank.rank (ranks_above is_changed (2 ^ 48) es inv.kept.1) here

pub returns-clause-value : goal.returns-clause-value
returns-clause-value c =
    let es = c.self.inside.entries.entries in
    let inv = c.self.invariant in
    let here = ap (λ rs. slice_get rs c.args.n) (sym inv.changed) ∙ (sym c.at.ensures ∙ c.in_ok-rank.was) in
    rw (c.pair_at.ensures, ← c.self.view_is) (sym (slice_get-map pair_of_rank (ranks_of is_changed es) c.args.n ∙ ap (option_map pair_of_rank) here))
