use Rattle.std.proofs.Common.{◌≡◌, length}
use Rattle.schedule_text.specs.Hex.{pairs_of}
use Rattle.schedule_text.proofs.HexLaws.{behind_bytes}
use Rattle.schedule_text.proofs.hex.read_pairs.Given as goal

abbrev pub invariant-loop-rest : goal.invariant-loop-rest
invariant-loop-rest l = behind_bytes l.bytes.items (pairs_of l.rest) ≡ pairs_of l.digits

abbrev pub decreases-loop-rest : goal.decreases-loop-rest
decreases-loop-rest l = length l.rest
