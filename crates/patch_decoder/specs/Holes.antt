-- Open rows without holes.
use Rattle.std.specs.Prelude.{◌≡◌}
use Rattle.wire_model.specs.Effect.{Body, opened, closed}

-- an open row has no holes: it is as it is where it is closed and opened again
abbrev pub IsWhole : Body → Type 0
IsWhole body = opened (closed body) ≡ body
