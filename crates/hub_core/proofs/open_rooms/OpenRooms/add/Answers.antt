use Rattle.std.proofs.Common.{◌≡◌, ◌∙◌, ◌==◌, ◌&&◌, cond, ℕ, true, false, Some, None, sym, ap, subst, rules}
use Rattle.std.specs.BTreeSet.{contains}
use Rattle.std.specs.Ordering.{nat_cmp}
use Rattle.std.specs.Str.{bytes_eq}
use Rattle.hub_core.proofs.KeyLaws.{is_under, none_in, or_is, renewed, renews, sets, under}
use Rattle.hub_core.proofs.open_rooms.OpenRooms.add.Goals as goal

pub returns-in-Some : goal.returns-in-Some
returns-in-Some c = λ k n.
    let key = c.as_slice.result.now in
    let m = c.args.self.now.by_criteria in
    let new = c.get_mut.follows.lender c.insert.new.self in
    let old = c.in-Some.numbers.now in
    let set = c.insert.new.self in
    let serial = c.args.serial in
    renewed (λ v. v.items) key m new (Some old) (Some set) serial true (sym c.in-Some.ensures.value)
    (sets (λ v. v.items) key m new (Some set) ((c.get_mut.follows.holds set).3 (search rules)))
    (renews serial true old set c.in_ok-insert.ensures.updates.0) k n
    ∙ (ap (λ l. cond (bytes_eq l k && (serial == n)) true (is_under (λ v. v.items) m k n)) c.as_slice.ensures.value
    ∙ or_is (bytes_eq c.args.key.items k && (serial == n)) (is_under (λ v. v.items) m k n))

pub returns : goal.returns
returns c = λ k n.
    let key = c.args.key.items in
    let m = c.args.self.now.by_criteria in
    let mid = c.get_mut.follows.lender-at-none in
    let same : mid ≡ m = c.get_mut.follows.holds-at-none in
    let new = c.insert-3.new.self in
    let set = c.insert-2.new.self in
    let empty = c.new-numbers.result in
    let serial = c.args.serial in
    let none : under (λ v. v.items) key m ≡ None = subst (λ l. under (λ v. v.items) l m ≡ None) c.as_slice.ensures.value (sym c.in_default.ensures.value) in
    let first : (i : ℕ) → contains nat_cmp set i ≡ cond (serial == i) true false = λ i. renews serial true empty set c.in_ok-insert-2.ensures.updates.0 i ∙ ap (cond (serial == i) true) (none_in empty c.new-numbers.ensures.empty i) in
    renewed (λ v. v.items) key m new None (Some set) serial true none
    (λ other. sets (λ v. v.items) key mid new (Some set) c.in_ok-insert-3.ensures.updates other ∙ ap (λ x. cond (bytes_eq key other) (Some set) (under (λ v. v.items) other x)) same) first k n
    ∙ or_is (bytes_eq key k && (serial == n)) (is_under (λ v. v.items) m k n)
