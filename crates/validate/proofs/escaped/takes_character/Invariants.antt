use Rattle.std.proofs.Common.{◌≡◌, ◌∷◌, ◌++◌, length, take}
use Rattle.percent_encoding.specs.Iter.{decoded_bytes}
use Rattle.validate.proofs.escaped.takes_character.Given as goal

-- the bytes of the piece and those that are left are all
abbrev pub invariant-loop-at : goal.invariant-loop-at
invariant-loop-at l = (l.first ∷ decoded_bytes l.initial.bytes ≡ take l.at l.piece ++ decoded_bytes l.bytes) × (length l.piece ≡ 4)
