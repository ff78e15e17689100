use Rattle.std.proofs.Common.{◌≡◌, ◌≤◌, ◌∷◌, rules, ap, false}
use Rattle.std.specs.List.Sorted.{IsStrictlySortedBy}
use Rattle.hub_core.specs.Lapses.{is_past}
use Rattle.hub_core.proofs.LapseLaws.{all_noted, by_pair, none_past, noted, rises, sorted_rest}
use Rattle.hub_core.proofs.lapses.Lapses.due.Goals.{in-None, in-Some+then-lapse-now}
use Rattle.hub_core.proofs.lapses.Lapses.due.Goals as goal

pub lapses-preserved : goal.lapses-preserved
lapses-preserved c =
    let x = c.in-Some.field-0.now in
    let is : c.lapses.lapse-iterator ≡ x ∷ c.next.new.self = c.in-Some.ensures.steps in
    let low : x.0 ≤ c.args.now = search rules in (
      rises c.insert.new.self.keys c.insert.ensures.ordered,
      λ n. noted c.args.now n x.0 x.1 c.next.new.self c.lapses.due.keys c.insert.new.self.keys (is_past c.args.now n c.args.self.now) low c.in_ok-insert.ensures.updates.0
          (rw is at (c.lapses.invariant.1 n)),
      sorted_rest x c.next.new.self (rw is at c.lapses.invariant.2),
    )

pub returns-clause-due : goal.returns-clause-due
returns-clause-due c = λ n.
    elim c.match-next.branch [
      | in-None w ↦ all_noted _ (is_past c.args.now n c.lapses.lapse-iterator) _ (ap (is_past c.args.now n) w.in-None.ensures.steps.0) (c.lapses.invariant.1 n)
      | in-Some+then-lapse-now w ↦
          let x = w.in-Some.field-0.now in
          let is : c.lapses.lapse-iterator ≡ x ∷ c.next.new.self = w.in-Some.ensures.steps in
          let sorted : IsStrictlySortedBy by_pair (x ∷ c.next.new.self) = rw is at c.lapses.invariant.2 in
          let none : is_past c.args.now n c.lapses.lapse-iterator ≡ false = rw is (none_past c.args.now n x c.next.new.self w.if-lapse-now.true sorted) in
          all_noted _ (is_past c.args.now n c.lapses.lapse-iterator) _ none (c.lapses.invariant.1 n)
    ]
