use Rattle.std.proofs.Common.{◌≡◌, take}
use Rattle.trees.specs.Texts.{text_hash}
use Rattle.trees.proofs.text_index.text_hash.Given as goal

-- the bytes so far
abbrev pub invariant-loop-byte : goal.invariant-loop-byte
invariant-loop-byte l = l.hash ≡ text_hash (take l.byte-index l.byte-items)
