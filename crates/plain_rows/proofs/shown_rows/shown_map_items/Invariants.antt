use Rattle.std.proofs.Common.{◌≡◌, filter, take}
use Rattle.state_model.specs.declared.row.MapItem.{MapItem}
use Rattle.plain_rows.specs.Views.{view_shows_item}
use Rattle.plain_rows.proofs.shown_rows.shown_map_items.Given as goal

abbrev pub invariant-loop-item : goal.invariant-loop-item
invariant-loop-item l = l.out ≡ filter (λ (i : MapItem). view_shows_item l.members l.who l.home i.value) (take l.item-index l.item-items)
