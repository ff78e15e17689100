use Rattle.std.proofs.Common.{◌≡◌, ◌∙◌, sym, ap, arith}
use Rattle.lists.specs.Rising.{remove}
use Rattle.view_members.specs.Standings.{itself, entry_rank, is_changed, is_passed}
use Rattle.view_members.proofs.EntryLaws.{removed, kept-remove}
use Rattle.view_members.proofs.RankLists.{remove_ranks}
use Rattle.view_members.proofs.TickLaws.{remove_shorter}
use Rattle.view_members.proofs.sets.Sets.take_out.Goals as goal

pub invariant_of-self : goal.invariant_of-self
invariant_of-self c =
    let es = c.self.inside.entries.entries in
    let r = c.args.rank in
    let inv = c.self.invariant in
    let new : c.remove.new.self.entries ≡ remove entry_rank r es = c.remove.ensures.entries ∙ removed r 0 es inv.kept.0 in
    let shorter = remove_shorter es r inv.kept.0 in
    rw new
    record {
      kept = kept-remove r es inv.kept;
      changed = c.take_out.ensures.numbers ∙ (ap (remove itself r) inv.changed ∙ sym (remove_ranks is_changed r es inv.kept.0));
      passed = c.take_out-2.ensures.numbers ∙ (ap (remove itself r) inv.passed ∙ sym (remove_ranks is_passed r es inv.kept.0));
      room = omega (arith, shorter, inv.room, c.take_out.ensures.kept);
      also_room = omega (arith, shorter, inv.also_room, c.take_out-2.ensures.kept);
    }

pub returns : goal.returns
returns c = rw (← c.self.view_is) (c.remove.ensures.entries ∙ removed c.args.rank 0 c.self.inside.entries.entries c.self.invariant.kept.0)
