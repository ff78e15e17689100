use Rattle.std.proofs.Common.{◌≡◌, take}
use Rattle.std.specs.List.{flat_map}
use Rattle.text_model.specs.Outputs.{out_line}
use Rattle.room_server.proofs.output.out_lines.Given as goal

abbrev pub invariant-loop-out : goal.invariant-loop-out
invariant-loop-out l = l.text.items ≡ flat_map out_line (take l.out-index l.out-items)
