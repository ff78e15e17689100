use Rattle.std.proofs.Common.{◌≡◌, ◌-◌, ◌≤◌, ◌∙◌, suc, true, length, sym, ap, arith}
use Rattle.lists.proofs.RisingLaws.{RisesFrom-take}
use Rattle.trees.specs.Slots.{ends_with_hole, entry_of, item_of, slot_number}
use Rattle.trees.proofs.SlotLaws.{entry_agrees, item_agrees, items-shorter, not_empty, own-take}
use Rattle.trees.proofs.holes.drop_last_holes.Goals as goal

pub loop-slots-preserved : goal.loop-slots-preserved
loop-slots-preserved g c =
    let ss = c.loop-slots.slots.items in
    let kept = c.loop-slots.invariant in
    let hole : ends_with_hole ss ≡ true = ap ends_with_hole (sym c.as_slice.ensures.value) ∙ (sym c.ends_with_hole.ensures ∙ c.loop-slots-test.true) in
    let some : 1 ≤ length ss = not_empty ss hole in
    let n : suc (c.len-left.result - 1) ≡ length ss = omega (arith, some, c.len-left.ensures, c.loop-slots.slots.ok.0) in
    let items = c.truncate.ensures.items in
    rw items (record {
      items = items-shorter item_of item_agrees ss (c.len-left.result - 1) n hole ∙ kept.items;
      entries = items-shorter entry_of entry_agrees ss (c.len-left.result - 1) n hole ∙ kept.entries;
      rises = RisesFrom-take slot_number 0 ss (c.len-left.result - 1) kept.rises;
      own = λ key o. own-take item_of item_agrees key ss (c.len-left.result - 1) (kept.own key o);
    })
