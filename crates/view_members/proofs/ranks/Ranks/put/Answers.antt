use Rattle.std.proofs.Common.{◌≡◌, ◌∙◌, sym, arith, zero-le}
use Rattle.lists.specs.Rising.{put}
use Rattle.lists.proofs.RisingLaws.{RisesFrom-put}
use Rattle.view_members.specs.Standings.{itself}
use Rattle.view_members.proofs.PlaceLaws.{there_at, missing_at, none_at, put_at}
use Rattle.view_members.proofs.ranks.Ranks.put.Goals as goal

pub unwrap-requires : goal.unwrap-requires
unwrap-requires c =
    let ns = c.self.inside.numbers.items in
    let bound = rw c.deref.ensures.value at c.binary_search.ensures.bound in
    let position = rw c.deref.ensures.value at c.binary_search.ensures.position in
    let missing = missing_at c.args.rank ns c.binary_search.result c.in-Err.at c.in-Err.is c.self.invariant bound position in
    let less = (rw (← c.self.view_is) at c.requires) (none_at c.args.rank ns c.in-Err.at missing) in
    c.insert.ensures.succeeds (omega (arith, less, c.self.inside.numbers.ok.0))

pub invariant_of-self : goal.invariant_of-self
invariant_of-self c =
    let ns = c.self.inside.numbers.items in
    let bound = rw c.deref.ensures.value at c.binary_search.ensures.bound in
    let position = rw c.deref.ensures.value at c.binary_search.ensures.position in
    let missing = missing_at c.args.rank ns c.binary_search.result c.in-Err.at c.in-Err.is c.self.invariant bound position in
    let new : c.insert.new.self.items ≡ put itself c.args.rank ns = (rw c.unwrap.ensures at c.insert.ensures.items) ∙ put_at c.args.rank ns c.in-Err.at missing in
    rw new (RisesFrom-put itself 0 c.args.rank ns c.self.invariant zero-le)

pub returns-in-Err-clause-numbers : goal.returns-in-Err-clause-numbers
returns-in-Err-clause-numbers c =
    let ns = c.self.inside.numbers.items in
    let bound = rw c.deref.ensures.value at c.binary_search.ensures.bound in
    let position = rw c.deref.ensures.value at c.binary_search.ensures.position in
    let missing = missing_at c.args.rank ns c.binary_search.result c.in-Err.at c.in-Err.is c.self.invariant bound position in
    let new : c.insert.new.self.items ≡ put itself c.args.rank ns = (rw c.unwrap.ensures at c.insert.ensures.items) ∙ put_at c.args.rank ns c.in-Err.at missing in
    rw (← c.self.view_is) new

pub returns-in_default-clause-numbers : goal.returns-in_default-clause-numbers
returns-in_default-clause-numbers c =
    let ns = c.self.inside.numbers.items in
    let bound = rw c.deref.ensures.value at c.in_default.ensures.bound in
    let here = rw c.deref.ensures.value at c.in_default.ensures.ok in
    rw (← c.self.view_is) (sym (there_at c.args.rank ns c.in_default.field-0 c.self.invariant bound here))
