use Rattle.std.proofs.Common.{arith}
use Rattle.state_model.specs.declared.row.MapItem.{MapItem}
use Rattle.plain_rows.specs.Views.{view_shows_item}
use Rattle.plain_rows.proofs.KeptItems.{kept_is_above}
use Rattle.plain_rows.proofs.shown_rows.shown_map_items.Goals as goal

pub push-requires : goal.push-requires
push-requires c =
    kept_is_above (λ (i : MapItem). i.number) (λ (i : MapItem). view_shows_item c.args.members.now c.args.who c.args.home i.value) c.args.items.now c.as_slice-item-items.result.now _ c.loop-item.item-index c.item-item.result _
    c.is_empty.ensures.rises c.as_slice-item-items.ensures c.loop-item.invariant (omega arith) c.item-item.is c.in_ok-copy.ensures
