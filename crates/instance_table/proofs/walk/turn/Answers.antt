use Rattle.std.proofs.Common.{◌≡◌, true, false, sym, ap, rules, ◌∙◌}
use Rattle.lists.proofs.Tests.{from_is, from_not}
use Rattle.state_model.specs.Reached.{is_among}
use Rattle.plain_rows.proofs.Lists.{nothing_left}
use Rattle.plain_rows.proofs.Walks.{walk_on, walk_again, walk_end, less_on, less_again}
use Rattle.instance_table.specs.Ways.{rows_along}
use Rattle.instance_table.proofs.WayLaws.{along_rise, still_unseen}
use Rattle.instance_table.proofs.walk.turn.Goals as goal

pub returns-in_default : goal.returns-in_default
returns-in_default c = λ start walked unseen.
    let rows = rows_along c.args.way c.args.nodes.now in
    let end = walk_end rows start c.args.seen.now c.args.waiting.now.items (along_rise c.args.way c.args.nodes.now c.know_rising.ensures) walked (search (rules, nothing_left, c.in_default.ensures.items)) in
    sym (ap (is_among c.args.end) (sym end) ∙ unseen)

pub returns-in_ok-add_next : goal.returns-in_ok-add_next
returns-in_ok-add_next c = λ start walked unseen.
    let rows = rows_along c.args.way c.args.nodes.now in
    let who = c.in-Some.who in
    let new : is_among who c.args.seen.now ≡ false = from_not c.in_ok-insert.field-0 (is_among who c.args.seen.now) c.in_ok-insert.ensures.added c.if-branch.true in (
      rw (c.in_ok-add_next.ensures, c.in_ok-insert.ensures.numbers) (walk_on rows start c.args.seen.now c.args.waiting.now.items c.pop.new.self.items who (along_rise c.args.way c.args.nodes.now c.know_rising.ensures) walked c.in-Some.ensures.items),
      rw c.in_ok-insert.ensures.numbers (still_unseen c.args.end who c.args.seen.now unseen (sym c.if-eq.ensures)),
      rw (c.in_ok-add_next.ensures, c.in_ok-insert.ensures.numbers) (less_on rows c.args.seen.now c.args.waiting.now.items c.pop.new.self.items who c.in-Some.ensures.items new),
    )

pub returns-else-branch : goal.returns-else-branch
returns-else-branch c = λ start walked unseen.
    let rows = rows_along c.args.way c.args.nodes.now in
    let who = c.in-Some.who in
    let old : is_among who c.args.seen.now ≡ true = from_is c.in_ok-insert.field-0 (is_among who c.args.seen.now) c.in_ok-insert.ensures.added c.if-branch.false in (
      rw c.in_ok-insert.ensures.numbers (walk_again rows start c.args.seen.now c.args.waiting.now.items c.pop.new.self.items who walked c.in-Some.ensures.items old),
      rw c.in_ok-insert.ensures.numbers (still_unseen c.args.end who c.args.seen.now unseen (sym c.if-eq.ensures)),
      rw c.in_ok-insert.ensures.numbers (less_again rows c.args.seen.now c.args.waiting.now.items c.pop.new.self.items who walked.rises c.in-Some.ensures.items old),
    )
