use Rattle.std.proofs.Common.{◌≡◌, ◌∙◌, ◌+◌, ◌==◌, true, not, cond, length, is_some, sym, ap, subst, arith}
use Rattle.std.proofs.lemmas.Bool.Decides.{nat_tests}
use Rattle.lists.specs.Rising.{RisesFrom}
use Rattle.lists.proofs.RisingLaws.{RisesFrom-put, length-put}
use Rattle.lists.proofs.Passing.{any_found}
use Rattle.state_model.specs.Reached.{is_among, with_number}
use Rattle.plain_rows.proofs.Walks.{with_same}
use Rattle.instance_table.specs.Lists.{WalkState}
use Rattle.instance_table.proofs.WalkRooms.{IsMissing, among_at, missing_at}
use Rattle.instance_table.proofs.fixed_room.FixedRoomWalkRoom.see.Goals as goal

among : (c : goal.In_default) → is_among c.who.inside.0 c.self.inside.seen.items ≡ true
among c =
    let bound = rw c.as_slice.ensures.value at c.in_default.ensures.bound in
    let here = rw c.as_slice.ensures.value at c.in_default.ensures.ok in
    among_at c.who.inside.0 c.self.inside.seen.items c.in_default.field-0 c.self.invariant bound here

pub returns-in_default-clause-new : goal.returns-in_default-clause-new
returns-in_default-clause-new c = rw (← c.self.view_is, ← c.who.view_is) (sym (ap not (among c)))

pub returns-in_default-clause-seen : goal.returns-in_default-clause-seen
returns-in_default-clause-seen c =
    let same = with_same c.self.inside.seen.items c.who.inside.0 c.self.invariant (among c) in
    subst (λ (s : WalkState). s.seen ≡ with_number s.seen c.args.who) c.self.view_is (rw (← c.who.view_is) (sym same))

pub returns-then-is_full-clause-lacks : goal.returns-then-is_full-clause-lacks
returns-then-is_full-clause-lacks c =
    let ns = c.self.inside.seen.items in
    let k = c.who.inside.0 in
    let full : (length ns == 16384) ≡ true = sym c.is_full.ensures.value ∙ c.if-is_full.true in
    let bound = rw c.as_slice.ensures.value at c.in-Err.ensures.bound in
    let position = rw c.as_slice.ensures.value at c.in-Err.ensures.position in
    let missing = missing_at k ns c.in-Err.at c.self.invariant bound position in
    let more : length (with_number ns k) ≡ length ns + 1 = length-put (λ m. m) 0 k ns c.self.invariant ∙ ap (λ o. length ns + cond (is_some o) 0 1) missing.none in
    rw (← c.self.view_is, ← c.who.view_is) (grind (arith, nat_tests, full, more))

missing : (c : goal.After-insert) → IsMissing c.who.inside.0 c.self.inside.seen.items c.in-Err.at
missing c =
    let bound = rw c.as_slice.ensures.value at c.in-Err.ensures.bound in
    let position = rw c.as_slice.ensures.value at c.in-Err.ensures.position in
    missing_at c.who.inside.0 c.self.inside.seen.items c.in-Err.at c.self.invariant bound position

placed : (c : goal.After-insert) → c.insert.new.self.items ≡ with_number c.self.inside.seen.items c.who.inside.0
placed c = c.insert.ensures.items ∙ (missing c).put

pub invariant_of-self : goal.invariant_of-self
invariant_of-self c = subst (RisesFrom (λ m. m) 0) (sym (placed c)) (RisesFrom-put (λ m. m) 0 c.who.inside.0 c.self.inside.seen.items c.self.invariant (omega arith))

pub returns-clause-new : goal.returns-clause-new
returns-clause-new c =
    let none = any_found (λ m. m) c.who.inside.0 c.self.inside.seen.items ∙ ap is_some (missing c).none in
    rw (← c.self.view_is, ← c.who.view_is) (sym (ap not none))

pub returns-clause-seen : goal.returns-clause-seen
returns-clause-seen c = rw (← c.self.view_is, ← c.who.view_is) (placed c)
