use Rattle.std.proofs.Common.{◌≡◌, ◌++◌, length}
use Rattle.std.specs.Io.{StartsWith}
use Rattle.std.specs.List.{flat_map}
use Rattle.text_model.specs.Marks.{hex_byte}
use Rattle.schedule_text.proofs.hex.append_pairs.Given as goal

abbrev pub invariant-loop-rest : goal.invariant-loop-rest
invariant-loop-rest l = record {
  all : l.out.items ++ flat_map hex_byte l.rest ≡ l.fn.out.items ++ flat_map hex_byte l.bytes;
  starts : StartsWith l.out.items l.fn.out.items;
}

abbrev pub decreases-loop-rest : goal.decreases-loop-rest
decreases-loop-rest l = length l.rest
