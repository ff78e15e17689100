use Rattle.std.proofs.Common.{◌≡◌, length}
use Rattle.std.specs.Str.{is_utf8}
use Rattle.percent_encoding.specs.Iter.{decoded_bytes}
use Rattle.percent_encoding.specs.Percent.{percent_decode}
use Rattle.validate.proofs.escaped.is_escaped_text.Given as goal

-- what is left is text where all is
abbrev pub invariant-loop-first : goal.invariant-loop-first
invariant-loop-first l = is_utf8 (percent_decode l.raw) ≡ is_utf8 (decoded_bytes l.bytes)

abbrev pub decreases-loop-first : goal.decreases-loop-first
decreases-loop-first l = length (decoded_bytes l.bytes)
