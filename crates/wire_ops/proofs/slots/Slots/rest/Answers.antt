use Rattle.std.proofs.Common.{map, Some, sym, ap, ◌∙◌, ◌-◌}
use Rattle.wire_ops.proofs.RestLaws.{place_within, kept_closed, same_values, no_holes}
use Rattle.wire_ops.proofs.slots.Slots.rest.Goals as goal

pub close_hole-requires-clause-within : goal.close_hole-requires-clause-within
close_hole-requires-clause-within c =
    let kept = rw c.in-Some.ensures.steps.0 at c.loop-place.invariant.kept in
    place_within c.loop-place.slots.items c.self.inside.first c.self.inside.links c.loop-place.closed.items c.in-Some.place c.next.new.self.rest.items kept

pub loop-place-preserved : goal.loop-place-preserved
loop-place-preserved c =
    let kept = rw c.in-Some.ensures.steps.0 at c.loop-place.invariant.kept in
    record {
      values = rw c.in_ok-close_hole.ensures.slots (same_values (c.in-Some.place - c.self.inside.first) c.loop-place.slots.items ∙ c.loop-place.invariant.values);
      kept = rw (c.in_ok-close_hole.ensures.closed, c.in_ok-close_hole.ensures.slots) (kept_closed c.loop-place.slots.items c.self.inside.first c.self.inside.links c.loop-place.closed.items c.in-Some.place c.next.new.self.rest.items kept);
    }

pub returns : goal.returns
returns c =
    let l = c.loop-place in
    let none = sym l.place-iterator.rest.ok.0 ∙ c.in-None.ensures.steps.0 in
    sym (no_holes l.slots.items c.self.inside.first c.self.inside.links l.closed.items l.place-iterator.rest.items l.invariant.kept none) ∙ ap (map Some) l.invariant.values
