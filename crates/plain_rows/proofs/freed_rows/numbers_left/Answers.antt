use Rattle.std.proofs.Common.{◌≡◌, ◌-◌, ◌++◌, sym, ap, ◌∙◌, rules}
use Rattle.state_laws.specs.Counts.{count_of}
use Rattle.plain_rows.specs.Counts.{counted}
use Rattle.plain_rows.specs.Links.{held_at}
use Rattle.plain_rows.proofs.Lists.{nothing_left}
use Rattle.plain_rows.proofs.Freeing.{freeing_start, freeing_on, freeing_past, freeing_end, less_taken, taken_was_left}
use Rattle.plain_rows.proofs.freed_rows.numbers_left.Goals as goal

pub loop-number-init : goal.loop-number-init
loop-number-init c =
    rw c.in_ok-waiting.ensures.numbers (freeing_start c.args.rows.now c.in_ok-left.left c.in_ok-counts.counts c.numbers_of.ensures.rises c.in_ok-left.ensures.numbers
    (λ k. c.in_ok-counts.ensures k ∙ ap (count_of k) (c.deref.ensures.value ∙ c.in_ok-links.ensures)))

pub loop-number-smaller-then-take_unheld : goal.loop-number-smaller-then-take_unheld
loop-number-smaller-then-take_unheld c =
    let held : c.add_links.new.links.items ≡ held_at c.args.rows.now c.in-Some.number = c.in_ok-add_links.ensures ∙ ap (λ ns. ns ++ held_at c.args.rows.now c.in-Some.number) c.new-held.ensures.items in
    let waits : c.extend_from_slice.new.self.items ≡ c.pop.new.self.items ++ held_at c.args.rows.now c.in-Some.number = c.in_ok-extend_from_slice.ensures.items
    ∙ ap (λ ns. c.pop.new.self.items ++ ns) (c.deref-then-take_unheld-2.ensures.value ∙ held) in
    let was_left = taken_was_left c.loop-number.counts c.loop-number.left c.in-Some.number (sym c.if-take_unheld.ensures.taken) in
    rw (waits, c.if-take_unheld.ensures.rest) (less_taken c.args.rows.now c.loop-number.left c.loop-number.waiting.items c.pop.new.self.items c.in-Some.number c.in-Some.ensures.items was_left)

pub loop-number-preserved-then-take_unheld : goal.loop-number-preserved-then-take_unheld
loop-number-preserved-then-take_unheld c =
    let held : c.add_links.new.links.items ≡ held_at c.args.rows.now c.in-Some.number = c.in_ok-add_links.ensures ∙ ap (λ ns. ns ++ held_at c.args.rows.now c.in-Some.number) c.new-held.ensures.items in
    let waits : c.extend_from_slice.new.self.items ≡ c.pop.new.self.items ++ held_at c.args.rows.now c.in-Some.number = c.in_ok-extend_from_slice.ensures.items
    ∙ ap (λ ns. c.pop.new.self.items ++ ns) (c.deref-then-take_unheld-2.ensures.value ∙ held) in
    rw (waits, c.if-take_unheld.ensures.rest) (freeing_on c.args.rows.now c.loop-number.left c.loop-number.waiting.items c.pop.new.self.items c.loop-number.counts c.lower.new.self
    c.in-Some.number c.numbers_of.ensures.rises c.loop-number.invariant c.in-Some.ensures.items (sym c.if-take_unheld.ensures.taken)
    (λ k. c.lower.ensures k ∙ ap (λ ns. counted c.loop-number.counts k - count_of k ns) (c.deref-then-take_unheld.ensures.value ∙ held)))

pub loop-number-preserved : goal.loop-number-preserved
loop-number-preserved c =
    rw c.if-take_unheld.ensures.rest (freeing_past c.args.rows.now c.loop-number.left c.loop-number.waiting.items c.pop.new.self.items c.loop-number.counts c.in-Some.number c.loop-number.invariant c.in-Some.ensures.items
    (sym c.if-take_unheld.ensures.taken))

pub returns : goal.returns
returns c = freeing_end c.args.rows.now c.loop-number.left c.loop-number.waiting.items c.loop-number.counts c.numbers_of.ensures.rises c.loop-number.invariant (search (rules, nothing_left, c.in_default.ensures.items))
