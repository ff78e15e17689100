use Rattle.std.proofs.Common.{◌≡◌, filter, take}
use Rattle.state_model.specs.declared.row.SetItem.{SetItem}
use Rattle.plain_rows.specs.Views.{view_shows_item}
use Rattle.plain_rows.proofs.shown_rows.shown_set_items.Given as goal

abbrev pub invariant-loop-item : goal.invariant-loop-item
invariant-loop-item l = l.out ≡ filter (λ (i : SetItem). view_shows_item l.members l.who l.home i.value) (take l.item-index l.item-items)
