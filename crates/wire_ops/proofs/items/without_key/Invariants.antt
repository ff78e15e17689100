use Rattle.std.proofs.Common.{◌≡◌, take}
use Rattle.wire_model.specs.Effect.{without_key}
use Rattle.wire_ops.proofs.items.without_key.Given as goal

-- what was kept so far
abbrev pub invariant-loop-item : goal.invariant-loop-item
invariant-loop-item l = l.kept ≡ without_key l.number l.key (take l.item-index l.item-items)
