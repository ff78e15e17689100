use Rattle.std.proofs.Common.{◌≡◌, ◌∙◌, ◌+◌, ◌≤◌, true, false, not, [], ◌∷◌, ◌++◌, length, inl, inr, ap, arith}
use Rattle.std.proofs.lemmas.List.{length-append}
use Rattle.lists.proofs.Results.{on_err}
use Rattle.lists.proofs.Tests.{from_is, from_not}
use Rattle.state_model.specs.Members.{rows_through}
use Rattle.state_model.specs.Reached.{is_among, with_number}
use Rattle.state_model.specs.Rows.{place_count, rows_of}
use Rattle.plain_rows.specs.Links.{held_at}
use Rattle.plain_rows.proofs.Walks.{walk_start, walk_on, walk_again, walk_end, with_same, less_on, less_again}
use Rattle.instance_table.specs.Nodes.{rows_in}
use Rattle.instance_table.proofs.BehindLaws.{through_rise, places_more, places_none, places_walked}
use Rattle.instance_table.proofs.StateLaws.{rows_rise}
use Rattle.instance_table.proofs.WalkRooms.{walked_few}
use Rattle.instance_table.proofs.behind.walk_behind.Goals as goal

pub loop-who-init : goal.loop-who-init
loop-who-init g c =
    let rows = rows_in c.args.nodes.now in
    let thru = rows_through c.args.schema.now c.args.tag rows in
    let seen : g.R.WalkRoom.seen_in c.wait.new.self ≡ [] = c.wait.ensures.seen ∙ c.requires.unseen in
    let waiting : g.R.WalkRoom.waiting_in c.wait.new.self ≡ c.args.from ∷ [] = c.in_ok-wait.ensures.waiting ∙ ap (λ ns. ns ++ c.args.from ∷ []) c.requires.idle in
    record {
      walked = rw (seen, waiting) (walk_start thru c.args.from);
      cost = omega (arith, places_none rows, ap (λ ns. place_count (rows_of ns rows)) seen);
      left = rw (seen, waiting) (omega arith);
    }

pub returns-in_err-wait-clause-lacks : goal.returns-in_err-wait-clause-lacks
returns-in_err-wait-clause-lacks g c = on_err c.from_residual.result (inr (omega (arith, c.in_err-wait.ensures.lacks, ap length c.requires.idle)))

pub returns-in_err-see-clause-lacks : goal.returns-in_err-see-clause-lacks
returns-in_err-see-clause-lacks g c =
    let rows = rows_in c.args.nodes.now in
    let thru = rows_through c.args.schema.now c.args.tag rows in
    let rise = rows_rise 0 c.args.nodes.now c.know_rising.ensures in
    let through = through_rise c.args.schema.now c.args.tag 0 rows rise in
    let who = c.in-Some.who in
    let seen = g.R.WalkRoom.seen_in c.loop-who.room in
    let old = g.R.WalkRoom.waiting_in c.loop-who.room in
    let rest = g.R.WalkRoom.waiting_in c.next.new.self in
    let was : g.R.WalkRoom.seen_in c.next.new.self ≡ seen = c.next.ensures.seen in
    let on = walk_on thru c.args.from seen old rest who through c.loop-who.invariant.walked c.in-Some.ensures.waiting in
    let some = walked_few thru c.args.from (with_number seen who) (rest ++ held_at thru who) on in
    let full = ap (λ ns. length (with_number ns who)) was in
    on_err c.from_residual-in_err-see.result (inl (omega (arith, c.in_err-see.ensures.lacks, some, full)))

pub returns-in_err-see-clause-most : goal.returns-in_err-see-clause-most
returns-in_err-see-clause-most g c =
    let rows = rows_in c.args.nodes.now in
    let thru = rows_through c.args.schema.now c.args.tag rows in
    let some = places_walked thru rows c.args.from (g.R.WalkRoom.seen_in c.loop-who.room) (g.R.WalkRoom.waiting_in c.loop-who.room) c.loop-who.invariant.walked in
    omega (arith, c.loop-who.invariant.cost, some)

pub loop-who-smaller-in-Continue-branch-3 : goal.loop-who-smaller-in-Continue-branch-3
loop-who-smaller-in-Continue-branch-3 g c =
    let rows = rows_in c.args.nodes.now in
    let thru = rows_through c.args.schema.now c.args.tag rows in
    let who = c.in-Some.who in
    let seen = g.R.WalkRoom.seen_in c.loop-who.room in
    let old = g.R.WalkRoom.waiting_in c.loop-who.room in
    let rest = g.R.WalkRoom.waiting_in c.next.new.self in
    let was : g.R.WalkRoom.seen_in c.next.new.self ≡ seen = c.next.ensures.seen in
    let new : is_among who seen ≡ false = from_not c.in_ok-see.field-0 (is_among who seen) (c.in_ok-see.ensures.new ∙ ap (λ ns. not (is_among who ns)) was) c.if-branch.true in
    let now : g.R.WalkRoom.seen_in c.add_links_of.new.room ≡ with_number seen who = c.add_links_of.ensures.seen ∙ c.in_ok-see.ensures.seen ∙ ap (λ ns. with_number ns who) was in
    let waiting : g.R.WalkRoom.waiting_in c.add_links_of.new.room ≡ rest ++ held_at thru who = c.in_ok-add_links_of.ensures.links ∙ ap (λ ns. ns ++ held_at thru who) c.in_ok-see.ensures.waiting in
    rw (waiting, now) (less_on thru seen old rest who c.in-Some.ensures.waiting new)

pub loop-who-preserved-in-Continue-branch-3 : goal.loop-who-preserved-in-Continue-branch-3
loop-who-preserved-in-Continue-branch-3 g c =
    let rows = rows_in c.args.nodes.now in
    let thru = rows_through c.args.schema.now c.args.tag rows in
    let rise = rows_rise 0 c.args.nodes.now c.know_rising.ensures in
    let through = through_rise c.args.schema.now c.args.tag 0 rows rise in
    let who = c.in-Some.who in
    let seen = g.R.WalkRoom.seen_in c.loop-who.room in
    let old = g.R.WalkRoom.waiting_in c.loop-who.room in
    let rest = g.R.WalkRoom.waiting_in c.next.new.self in
    let was : g.R.WalkRoom.seen_in c.next.new.self ≡ seen = c.next.ensures.seen in
    let new : is_among who seen ≡ false = from_not c.in_ok-see.field-0 (is_among who seen) (c.in_ok-see.ensures.new ∙ ap (λ ns. not (is_among who ns)) was) c.if-branch.true in
    let now : g.R.WalkRoom.seen_in c.add_links_of.new.room ≡ with_number seen who = c.add_links_of.ensures.seen ∙ c.in_ok-see.ensures.seen ∙ ap (λ ns. with_number ns who) was in
    let waiting : g.R.WalkRoom.waiting_in c.add_links_of.new.room ≡ rest ++ held_at thru who = c.in_ok-add_links_of.ensures.links ∙ ap (λ ns. ns ++ held_at thru who) c.in_ok-see.ensures.waiting in
    let less = less_on thru seen old rest who c.in-Some.ensures.waiting new in
    let more = places_more rows seen who rise new in
    record {
      walked = rw (waiting, now) (walk_on thru c.args.from seen old rest who through c.loop-who.invariant.walked c.in-Some.ensures.waiting);
      cost = omega (arith, c.loop-who.invariant.cost, c.in_ok-add_links_of.ensures.cost, more, ap (λ ns. place_count (rows_of ns rows)) now);
      left = rw (waiting, now) (omega (arith, c.loop-who.invariant.left, less));
    }

pub returns-in_err-add_links_of-clause-lacks : goal.returns-in_err-add_links_of-clause-lacks
returns-in_err-add_links_of-clause-lacks g c =
    let rows = rows_in c.args.nodes.now in
    let thru = rows_through c.args.schema.now c.args.tag rows in
    let who = c.in-Some.who in
    let seen = g.R.WalkRoom.seen_in c.loop-who.room in
    let old = g.R.WalkRoom.waiting_in c.loop-who.room in
    let rest = g.R.WalkRoom.waiting_in c.next.new.self in
    let was : g.R.WalkRoom.seen_in c.next.new.self ≡ seen = c.next.ensures.seen in
    let new : is_among who seen ≡ false = from_not c.in_ok-see.field-0 (is_among who seen) (c.in_ok-see.ensures.new ∙ ap (λ ns. not (is_among who ns)) was) c.if-branch.true in
    let less = less_on thru seen old rest who c.in-Some.ensures.waiting new in
    let waiting = ap length c.see.ensures.waiting in
    on_err c.from_residual-in_err-add_links_of.result (inr (omega (arith, c.in_err-add_links_of.ensures.lacks, c.loop-who.invariant.left, less, waiting, length-append rest (held_at thru who))))

pub returns-in_err-add_links_of-clause-most : goal.returns-in_err-add_links_of-clause-most
returns-in_err-add_links_of-clause-most g c =
    let rows = rows_in c.args.nodes.now in
    let thru = rows_through c.args.schema.now c.args.tag rows in
    let rise = rows_rise 0 c.args.nodes.now c.know_rising.ensures in
    let through = through_rise c.args.schema.now c.args.tag 0 rows rise in
    let who = c.in-Some.who in
    let seen = g.R.WalkRoom.seen_in c.loop-who.room in
    let old = g.R.WalkRoom.waiting_in c.loop-who.room in
    let rest = g.R.WalkRoom.waiting_in c.next.new.self in
    let was : g.R.WalkRoom.seen_in c.next.new.self ≡ seen = c.next.ensures.seen in
    let new : is_among who seen ≡ false = from_not c.in_ok-see.field-0 (is_among who seen) (c.in_ok-see.ensures.new ∙ ap (λ ns. not (is_among who ns)) was) c.if-branch.true in
    let on = walk_on thru c.args.from seen old rest who through c.loop-who.invariant.walked c.in-Some.ensures.waiting in
    let more = places_more rows seen who rise new in
    let some = places_walked thru rows c.args.from (with_number seen who) (rest ++ held_at thru who) on in
    omega (arith, c.loop-who.invariant.cost, c.in_err-add_links_of.ensures.most, more, some)

pub loop-who-smaller : goal.loop-who-smaller
loop-who-smaller g c =
    let rows = rows_in c.args.nodes.now in
    let thru = rows_through c.args.schema.now c.args.tag rows in
    let who = c.in-Some.who in
    let seen = g.R.WalkRoom.seen_in c.loop-who.room in
    let old = g.R.WalkRoom.waiting_in c.loop-who.room in
    let rest = g.R.WalkRoom.waiting_in c.next.new.self in
    let was : g.R.WalkRoom.seen_in c.next.new.self ≡ seen = c.next.ensures.seen in
    let again : is_among who seen ≡ true = from_is c.in_ok-see.field-0 (is_among who seen) (c.in_ok-see.ensures.new ∙ ap (λ ns. not (is_among who ns)) was) c.if-branch.false in
    let now : g.R.WalkRoom.seen_in c.see.new.self ≡ with_number seen who = c.in_ok-see.ensures.seen ∙ ap (λ ns. with_number ns who) was in
    rw (c.see.ensures.waiting, now) (less_again thru seen old rest who c.loop-who.invariant.walked.rises c.in-Some.ensures.waiting again)

pub loop-who-preserved : goal.loop-who-preserved
loop-who-preserved g c =
    let rows = rows_in c.args.nodes.now in
    let thru = rows_through c.args.schema.now c.args.tag rows in
    let who = c.in-Some.who in
    let seen = g.R.WalkRoom.seen_in c.loop-who.room in
    let old = g.R.WalkRoom.waiting_in c.loop-who.room in
    let rest = g.R.WalkRoom.waiting_in c.next.new.self in
    let was : g.R.WalkRoom.seen_in c.next.new.self ≡ seen = c.next.ensures.seen in
    let again : is_among who seen ≡ true = from_is c.in_ok-see.field-0 (is_among who seen) (c.in_ok-see.ensures.new ∙ ap (λ ns. not (is_among who ns)) was) c.if-branch.false in
    let now : g.R.WalkRoom.seen_in c.see.new.self ≡ with_number seen who = c.in_ok-see.ensures.seen ∙ ap (λ ns. with_number ns who) was in
    let same = now ∙ with_same seen who c.loop-who.invariant.walked.rises again in
    let less = less_again thru seen old rest who c.loop-who.invariant.walked.rises c.in-Some.ensures.waiting again in
    record {
      walked = rw (c.see.ensures.waiting, now) (walk_again thru c.args.from seen old rest who c.loop-who.invariant.walked c.in-Some.ensures.waiting again);
      cost = omega (arith, c.loop-who.invariant.cost, ap (λ ns. place_count (rows_of ns rows)) same);
      left = rw (c.see.ensures.waiting, now) (omega (arith, c.loop-who.invariant.left, less));
    }

pub returns-clause-seen : goal.returns-clause-seen
returns-clause-seen g c =
    let rows = rows_in c.args.nodes.now in
    let thru = rows_through c.args.schema.now c.args.tag rows in
    let rise = rows_rise 0 c.args.nodes.now c.know_rising.ensures in
    let through = through_rise c.args.schema.now c.args.tag 0 rows rise in
    let none = c.next.ensures.none c.in_default.is in
    let end = walk_end thru c.args.from (g.R.WalkRoom.seen_in c.loop-who.room) (g.R.WalkRoom.waiting_in c.loop-who.room) through c.loop-who.invariant.walked none in
    c.next.ensures.seen ∙ end

pub returns-clause-cost : goal.returns-clause-cost
returns-clause-cost g c =
    let rows = rows_in c.args.nodes.now in
    let thru = rows_through c.args.schema.now c.args.tag rows in
    let rise = rows_rise 0 c.args.nodes.now c.know_rising.ensures in
    let through = through_rise c.args.schema.now c.args.tag 0 rows rise in
    let none = c.next.ensures.none c.in_default.is in
    let end = walk_end thru c.args.from (g.R.WalkRoom.seen_in c.loop-who.room) (g.R.WalkRoom.waiting_in c.loop-who.room) through c.loop-who.invariant.walked none in
    omega (arith, c.loop-who.invariant.cost, ap (λ ns. place_count (rows_of ns rows)) end)

pub returns-clause-most : goal.returns-clause-most
returns-clause-most g c =
    omega (arith, returns-clause-cost g c)
