-- What a list of happenings has to tell: its items in order, then nothing more.
use Rattle.std.specs.Prelude.{List, [], ◌∷◌}
use Rattle.outside.specs.declared.wire.Happening.{Happening}
use Rattle.outside.specs.declared.wire.Happening.TheVariants.{Idle}

-- the first happening, or nothing where the list is spent
abbrev pub next_of : List Happening → Happening
next_of [] = Idle
next_of (h ∷ hs) = h

-- what is left after it
abbrev pub rest_of : List Happening → List Happening
rest_of [] = []
rest_of (h ∷ hs) = hs
