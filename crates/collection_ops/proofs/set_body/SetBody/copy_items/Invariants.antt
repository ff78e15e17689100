use Rattle.std.proofs.Common.{◌≡◌, ◌++◌, length}
use Rattle.lists.specs.Rising.{after_key}
use Rattle.collection_ops.specs.Bodies.{set_number}
use Rattle.collection_ops.proofs.set_body.SetBody.copy_items.Given as goal

-- what was copied so far
abbrev pub invariant-loop-item : goal.invariant-loop-item
invariant-loop-item l = l.out ++ after_key set_number l.last l.self.items ≡ l.self.items

-- fewer are left
abbrev pub decreases-loop-item : goal.decreases-loop-item
decreases-loop-item l = length (after_key set_number l.last l.self.items)
