use Rattle.std.proofs.Common.{◌≡◌, Bool, true, false, not, refl, rules}
use Rattle.state_model.specs.Reached.{is_among}
use Rattle.plain_rows.proofs.Lists.{nothing_left}
use Rattle.plain_rows.proofs.Walks.{walk_start, walk_on, walk_again, walk_end, less_on, less_again}
use Rattle.plain_rows.proofs.reached_rows.reached_set.Goals as goal

from_not : (b c : Bool) → b ≡ not c → b ≡ true → c ≡ false
from_not b true e t = cc
from_not b false e t = refl

from_is : (b c : Bool) → b ≡ not c → b ≡ false → c ≡ true
from_is b true e f = refl
from_is b false e f = cc

pub loop-number-init : goal.loop-number-init
loop-number-init c = rw (c.in_ok-push.ensures.items, c.new-waiting.ensures.items, c.new-seen.ensures) (walk_start c.args.rows.now c.args.from)

pub loop-number-smaller-in-Continue-branch-3 : goal.loop-number-smaller-in-Continue-branch-3
loop-number-smaller-in-Continue-branch-3 c =
    let new : is_among c.in-Some.number c.loop-number.seen ≡ false = from_not c.in_ok-insert.field-0 (is_among c.in-Some.number c.loop-number.seen) c.in_ok-insert.ensures.added c.if-branch.true in
    rw (c.in_ok-add_links.ensures, c.in_ok-insert.ensures.numbers) (less_on c.args.rows.now c.loop-number.seen c.loop-number.waiting.items c.pop.new.self.items c.in-Some.number c.in-Some.ensures.items new)

pub loop-number-preserved-in-Continue-branch-3 : goal.loop-number-preserved-in-Continue-branch-3
loop-number-preserved-in-Continue-branch-3 c =
    rw (c.in_ok-add_links.ensures, c.in_ok-insert.ensures.numbers)
    (walk_on c.args.rows.now c.args.from c.loop-number.seen c.loop-number.waiting.items c.pop.new.self.items c.in-Some.number c.know_rising.ensures c.loop-number.invariant c.in-Some.ensures.items)

pub loop-number-smaller : goal.loop-number-smaller
loop-number-smaller c =
    let old : is_among c.in-Some.number c.loop-number.seen ≡ true = from_is c.in_ok-insert.field-0 (is_among c.in-Some.number c.loop-number.seen) c.in_ok-insert.ensures.added c.if-branch.false in
    rw (c.in_ok-insert.ensures.numbers) (less_again c.args.rows.now c.loop-number.seen c.loop-number.waiting.items c.pop.new.self.items c.in-Some.number c.loop-number.invariant.rises c.in-Some.ensures.items old)

pub loop-number-preserved : goal.loop-number-preserved
loop-number-preserved c =
    let old : is_among c.in-Some.number c.loop-number.seen ≡ true = from_is c.in_ok-insert.field-0 (is_among c.in-Some.number c.loop-number.seen) c.in_ok-insert.ensures.added c.if-branch.false in
    rw (c.in_ok-insert.ensures.numbers) (walk_again c.args.rows.now c.args.from c.loop-number.seen c.loop-number.waiting.items c.pop.new.self.items c.in-Some.number c.loop-number.invariant c.in-Some.ensures.items old)

pub returns : goal.returns
returns c =
    walk_end c.args.rows.now c.args.from c.loop-number.seen c.loop-number.waiting.items c.know_rising.ensures c.loop-number.invariant (search (rules, nothing_left, c.in_default.ensures.items))
