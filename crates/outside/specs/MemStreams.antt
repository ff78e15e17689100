-- What a source and a sink in memory are.
use Rattle.std.specs.Prelude.{ℕ, List, length, min}
use Rattle.outside.specs.Calls.{Calls}

-- a source: the bytes that it has left, and how many it gives a call at most
pub record SourceState : Type 0 where
  pub left : List ℕ
  pub piece : ℕ
  pub calls : Calls

-- how many bytes it gives into a buffer of this length
abbrev pub given_count : SourceState → ℕ → ℕ
given_count source room = min source.piece (min room (length source.left))

-- a sink: the bytes that it has taken, and how many it takes a call at most
pub record SinkState : Type 0 where
  pub taken : List ℕ
  pub piece : ℕ
  pub calls : Calls

-- how many bytes it takes of a piece of this length
abbrev pub taken_count : SinkState → ℕ → ℕ
taken_count sink offered = min sink.piece offered
