use Rattle.std.proofs.Common.{◌≡◌, ◌∙◌, ◌==◌, ◌&&◌, false, Some, None, length, sym, rules}
use Rattle.std.specs.Str.{bytes_eq}
use Rattle.hub_core.proofs.KeyLaws.{and_is, is_under, none_left, renewed, renews, sets, sets_again}
use Rattle.hub_core.proofs.open_rooms.OpenRooms.take.Goals as goal

pub returns-then-is_empty : goal.returns-then-is_empty
returns-then-is_empty c = λ k n.
    let key = c.args.key.now in
    let m = c.args.self.now.by_criteria in
    let set = c.remove.new.self in
    let mid = c.get_mut.follows.lender set in
    let last = c.remove-then-is_empty.new.self in
    let old = c.in-Some.numbers.now in
    let serial = c.args.serial in
    let empty : length set.keys ≡ 0 = search rules in
    renewed (λ v. v.items) key m last (Some old) None serial false (sym c.in-Some.ensures.value)
    (sets_again (λ v. v.items) key m mid last (Some set) None (sets (λ v. v.items) key m mid (Some set) ((c.get_mut.follows.holds set).3 (search rules))) (sets (λ v. v.items) key mid last None c.remove-then-is_empty.ensures.updates))
    (none_left serial old set empty (renews serial false old set c.remove.ensures.updates.0)) k n
    ∙ and_is (bytes_eq key k && (serial == n)) (is_under (λ v. v.items) m k n)

pub returns-else-is_empty : goal.returns-else-is_empty
returns-else-is_empty c = λ k n.
    let key = c.args.key.now in
    let m = c.args.self.now.by_criteria in
    let set = c.remove.new.self in
    let new = c.get_mut.follows.lender set in
    let old = c.in-Some.numbers.now in
    let serial = c.args.serial in
    renewed (λ v. v.items) key m new (Some old) (Some set) serial false (sym c.in-Some.ensures.value)
    (sets (λ v. v.items) key m new (Some set) ((c.get_mut.follows.holds set).3 (search rules)))
    (renews serial false old set c.remove.ensures.updates.0) k n
    ∙ and_is (bytes_eq key k && (serial == n)) (is_under (λ v. v.items) m k n)
