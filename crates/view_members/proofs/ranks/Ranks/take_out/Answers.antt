use Rattle.std.proofs.Common.{◌≡◌, ◌∙◌, ap}
use Rattle.lists.specs.Rising.{remove}
use Rattle.lists.proofs.RisingLaws.{RisesFrom-remove}
use Rattle.view_members.specs.Standings.{itself}
use Rattle.view_members.proofs.PlaceLaws.{taken_at, missing_at, left_at}
use Rattle.view_members.proofs.ranks.Ranks.take_out.Goals as goal

pub invariant_of-self : goal.invariant_of-self
invariant_of-self c =
    let ns = c.self.inside.numbers.items in
    let bound = rw c.deref.ensures.value at c.in-Ok.ensures.bound in
    let here = rw c.deref.ensures.value at c.in-Ok.ensures.ok in
    let new : c.remove.new.self.items ≡ remove itself c.args.rank ns = c.remove.ensures.items ∙ taken_at c.args.rank ns c.in-Ok.at c.self.invariant bound here in
    rw new (RisesFrom-remove itself 0 c.args.rank ns c.self.invariant)

pub returns-in-Ok-clause-numbers : goal.returns-in-Ok-clause-numbers
returns-in-Ok-clause-numbers c =
    let ns = c.self.inside.numbers.items in
    let bound = rw c.deref.ensures.value at c.in-Ok.ensures.bound in
    let here = rw c.deref.ensures.value at c.in-Ok.ensures.ok in
    c.remove.ensures.items ∙ taken_at c.args.rank ns c.in-Ok.at c.self.invariant bound here ∙ ap (λ s. remove itself c.args.rank s.numbers) c.self.view_is

pub returns-in_default-clause-numbers : goal.returns-in_default-clause-numbers
returns-in_default-clause-numbers c =
    let ns = c.self.inside.numbers.items in
    let bound = rw c.deref.ensures.value at c.binary_search.ensures.bound in
    let position = rw c.deref.ensures.value at c.binary_search.ensures.position in
    let missing = missing_at c.args.rank ns c.binary_search.result c.in_default.field-0 c.in_default.is c.self.invariant bound position in
    rw (← c.self.view_is) (left_at c.args.rank ns c.in_default.field-0 missing)
