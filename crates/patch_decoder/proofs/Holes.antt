-- Open rows without holes.
use Rattle.std.proofs.Common.{◌≡◌, map, Some, refl, sym, ap, subst, ◌∙◌}
use Rattle.state_model.specs.declared.row.Row.{Row}
use Rattle.wire_model.specs.Effect.{Body, opened, closed}
use Rattle.wire_laws.proofs.EditSteps.{closed_opened}
use Rattle.patch_decoder.specs.Holes.{IsWhole}

-- a row that rests has no holes
pub whole_rest : (body rest : Body) → rest ≡ opened (closed body) → IsWhole rest
whole_rest body rest e = ap opened (ap closed e ∙ closed_opened (closed body)) ∙ sym e

-- and it is the same row
pub same_rest : (body rest : Body) → rest ≡ opened (closed body) → closed rest ≡ closed body
same_rest body rest e = ap closed e ∙ closed_opened (closed body)
