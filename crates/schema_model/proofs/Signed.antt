-- The numbers of 32 bits.
use Rattle.std.proofs.Common.{◌≡◌, ◌^◌, ◌<◌, true, pos, negsuc, ℤ, FitsSigned, arith}
use Rattle.std.specs.Int.{w32}
use Rattle.std.proofs.lemmas.Bool.Decides.{nat_tests}
use Rattle.schema_model.specs.Fits.{in_signed}

-- an `i32` has 32 bits
pub in_signed_w32 : (z : ℤ) → FitsSigned w32 z → in_signed (2 ^ 31) z ≡ true
in_signed_w32 (pos n) h = let below : n < 2 ^ 31 = h.sfits in grind (arith, nat_tests)
in_signed_w32 (negsuc n) h = let below : n < 2 ^ 31 = h.sfits in grind (arith, nat_tests)
