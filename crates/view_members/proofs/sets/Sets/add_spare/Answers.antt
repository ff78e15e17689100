use Rattle.std.proofs.Common.{◌≡◌, ◌∙◌, sym, arith}
use Rattle.lists.specs.Rising.{put}
use Rattle.view_members.specs.declared.standing.Standing.TheVariants.{Spare}
use Rattle.view_members.specs.Standings.{entry_rank, is_changed, is_passed}
use Rattle.view_members.proofs.EntryLaws.{insert_put, kept-put}
use Rattle.view_members.proofs.RankLists.{has_none, put_same, put_longer}
use Rattle.view_members.proofs.sets.Sets.add_spare.Goals as goal

pub invariant_of-self-2 : goal.invariant_of-self-2
invariant_of-self-2 c =
    let es = c.self.inside.entries.entries in
    let r = c.args.rank in
    let inv = c.self.invariant in
    let absent = rw (← c.self.view_is) at c.requires.absent in
    let new : c.insert.new.self.entries ≡ put entry_rank (r, Spare) es = c.in_ok-insert.ensures.entries ∙ insert_put r Spare es in
    let longer = put_longer r Spare es inv.kept.0 in
    rw new
    record {
      kept = kept-put r Spare es c.requires.below inv.kept;
      changed = c.reserve.ensures.numbers ∙ (inv.changed ∙ sym (put_same is_changed r Spare es inv.kept.0 (has_none is_changed es r absent)));
      passed = c.reserve-2.ensures.numbers ∙ (inv.passed ∙ sym (put_same is_passed r Spare es inv.kept.0 (has_none is_passed es r absent)));
      room = omega (arith, longer, c.in_ok-reserve.ensures.ok, c.len-len.ensures.len);
      also_room = omega (arith, longer, c.in_ok-reserve-2.ensures.ok, c.len-len.ensures.len);
    }

pub returns : goal.returns
returns c = rw (← c.self.view_is) (c.in_ok-insert.ensures.entries ∙ insert_put c.args.rank Spare c.self.inside.entries.entries)
