use Rattle.std.proofs.Common.{◌≡◌, ◌+◌, length, sum_by}
use Rattle.lists.specs.Rising.{after_key}
use Rattle.collection_ops.specs.Bodies.{map_number}
use Rattle.state_model.specs.declared.row.MapItem.{MapItem}
use Rattle.instance_table.proofs.amounts.keys_size.Given as goal

-- the sizes of the keys so far, and of those that are left
abbrev pub invariant-loop-item : goal.invariant-loop-item
invariant-loop-item l = l.size + sum_by (λ (i : MapItem). length i.key) (after_key map_number l.behind l.items.items) ≡ sum_by (λ (i : MapItem). length i.key) l.items.items

-- fewer are left
abbrev pub decreases-loop-item : goal.decreases-loop-item
decreases-loop-item l = length (after_key map_number l.behind l.items.items)
