-- What an adapter over std is.
use Rattle.std.specs.Prelude.{ℕ}

-- the reader or writer that it holds, and how often it has failed
pub record Adapter (X : Type 0) : Type 0 where
  pub inside : X
  pub faults : ℕ
