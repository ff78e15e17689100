use Rattle.std.proofs.Common.{◌≡◌, ◌∙◌, sym, arith, ◌^◌}
use Rattle.lists.specs.Rising.{put}
use Rattle.view_members.specs.Standings.{entry_rank, is_changed, is_passed}
use Rattle.view_members.proofs.EntryLaws.{write_put, kept-put, found_below}
use Rattle.view_members.proofs.RankLists.{room_left, marked, length-put_same}
use Rattle.view_members.proofs.SpareLaws.{standing_found}
use Rattle.view_members.proofs.sets.Sets.set.Goals as goal

pub mark-requires : goal.mark-requires
mark-requires c = λ on none.
    let there = rw (← c.self.view_is) at c.requires in
    let es = c.self.inside.entries.entries in
    let inv = c.self.invariant in
    let less = room_left is_changed es c.args.rank inv.kept.0 there (rw inv.changed at none) in
    rw inv.changed (omega (arith, less, inv.room))

pub mark-requires-2 : goal.mark-requires-2
mark-requires-2 c = λ on none.
    let there = rw (← c.self.view_is) at c.requires in
    let es = c.self.inside.entries.entries in
    let inv = c.self.invariant in
    let less = room_left is_passed es c.args.rank inv.kept.0 there (rw inv.passed at none) in
    rw inv.passed (omega (arith, less, inv.also_room))

pub invariant_of-self : goal.invariant_of-self
invariant_of-self c =
    let es = c.self.inside.entries.entries in
    let r = c.args.rank in
    let s = c.args.standing in
    let inv = c.self.invariant in
    let there = rw (← c.self.view_is) at c.requires in
    let new : c.write.new.entries.entries ≡ put entry_rank (r, s) es = c.write.ensures ∙ write_put r 0 s es inv.kept.0 there in
    let same = length-put_same r s es inv.kept.0 (sym (standing_found r es) ∙ there) in
    let changed = rw (c.changed.ensures, inv.changed) at c.mark.ensures.numbers in
    let passed = rw (c.passed.ensures, inv.passed) at c.mark-2.ensures.numbers in
    rw new
    record {
      kept = kept-put r s es (found_below (2 ^ 48) r es inv.kept.1 there) inv.kept;
      changed = changed ∙ sym (marked is_changed r s es inv.kept.0);
      passed = passed ∙ sym (marked is_passed r s es inv.kept.0);
      room = omega (arith, same, inv.room, c.mark.ensures.kept);
      also_room = omega (arith, same, inv.also_room, c.mark-2.ensures.kept);
    }

pub returns : goal.returns
returns c =
    let there = rw (← c.self.view_is) at c.requires in
    rw (← c.self.view_is) (c.write.ensures ∙ write_put c.args.rank 0 c.args.standing c.self.inside.entries.entries c.self.invariant.kept.0 there)
