use Rattle.std.proofs.Common.{◌≡◌, ◌++◌, length}
use Rattle.lists.specs.Rising.{after_key}
use Rattle.collection_ops.specs.Bodies.{map_number}
use Rattle.collection_ops.proofs.map_body.MapBody.copy_items.Given as goal

-- what was copied so far
abbrev pub invariant-loop-item : goal.invariant-loop-item
invariant-loop-item l = l.out ++ after_key map_number l.last l.self.items ≡ l.self.items

-- fewer are left
abbrev pub decreases-loop-item : goal.decreases-loop-item
decreases-loop-item l = length (after_key map_number l.last l.self.items)
