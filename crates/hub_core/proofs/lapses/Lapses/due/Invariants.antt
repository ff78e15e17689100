use Rattle.std.proofs.Common.{◌≡◌, ℕ, ◌||◌, ◌==◌}
use Rattle.std.specs.List.{list_any}
use Rattle.std.specs.List.Sorted.{IsStrictlySortedBy}
use Rattle.lists.specs.Rising.{RisesFrom}
use Rattle.hub_core.specs.Lapses.{is_past, itself}
use Rattle.hub_core.proofs.LapseLaws.{by_pair}
use Rattle.hub_core.proofs.lapses.Lapses.due.Given as goal

abbrev pub invariant-lapses : goal.invariant-lapses
invariant-lapses l =
    RisesFrom itself 0 l.due.keys
    × ((n : ℕ) → list_any (λ k. k == n) l.due.keys || is_past l.now n l.lapse-iterator ≡ is_past l.now n l.fn.self)
    × IsStrictlySortedBy by_pair l.lapse-iterator
