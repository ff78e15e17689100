use Rattle.std.proofs.Common.{◌≡◌, map, take}
use Rattle.std.specs.List.{fold}
use Rattle.wire_model.specs.Effect.{effect, opened}
use Rattle.wire_ops.specs.PlainEdits.{plain_edit}
use Rattle.wire_ops.specs.Bodies.{body_of}
use Rattle.canon_patch.proofs.apply.edited.Given as goal

-- what the operations so far made of the holder
abbrev pub invariant-loop-op : goal.invariant-loop-op
invariant-loop-op l = body_of l.holder ≡ fold (λ b e. effect e b) (opened l.fn.row) (map plain_edit (take l.op-index l.op-items))
