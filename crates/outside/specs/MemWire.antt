-- What a wire in memory is.
use Rattle.std.specs.Prelude.{List}
use Rattle.outside.specs.declared.wire.Happening.{Happening}
use Rattle.outside.specs.declared.wire.WireOut.{WireOut}
use Rattle.outside.specs.Calls.{Calls}

-- what is still to happen, what it was given to carry, and its calls
pub record WireState : Type 0 where
  pub coming : List Happening
  pub carried : List WireOut
  pub calls : Calls
