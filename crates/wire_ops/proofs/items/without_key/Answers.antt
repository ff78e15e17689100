use Rattle.std.proofs.Common.{◌==◌, ◌||◌, not, arith}
use Rattle.std.specs.Str.{bytes_eq}
use Rattle.state_model.specs.declared.row.MapItem.{MapItem}
use Rattle.wire_ops.proofs.ItemLaws.{next_above_kept}
use Rattle.wire_ops.proofs.items.without_key.Goals as goal

pub push-requires : goal.push-requires
push-requires c =
    next_above_kept (λ (i : MapItem). (i.number == c.args.number) || not (bytes_eq i.key c.args.key.now)) c.args.items
    c.as_slice-item-items.result.now c.loop-item.kept c.loop-item.item-index c.item-item.result c.in_ok-copy.field-0
    c.is_empty.ensures.rises c.as_slice-item-items.ensures c.loop-item.invariant (omega arith) c.item-item.is c.in_ok-copy.ensures
