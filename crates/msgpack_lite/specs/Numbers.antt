-- Signed numbers at a place.
use Rattle.std.specs.Prelude.{ℕ, ℤ, List, Result, Ok, Err}
use Rattle.std.specs.Int.{Width, cast_signed}
use Rattle.frame_model.specs.declared.fault.PackFault.{PackFault}
use Rattle.frame_model.specs.declared.form.Size.{Size}
use Rattle.frame_model.specs.Packs.{width_at, width_of}

abbrev pub as_signed : Width → Result (ℕ × ℕ) PackFault → Result (ℤ × ℕ) PackFault
as_signed w (Ok r) = Ok (cast_signed w r.0, r.1)
as_signed w (Err f) = Err f

-- a number of a size, taken as a signed one, and the place after it
abbrev pub signed_at : Size → List ℕ → ℕ → Result (ℤ × ℕ) PackFault
signed_at size bytes at = as_signed (width_of size) (width_at (width_of size) bytes at)
