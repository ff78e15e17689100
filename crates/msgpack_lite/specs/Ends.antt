-- Where values end.
use Rattle.std.specs.Prelude.{ℕ, zero, suc, List, Option, Some, None, Result, Ok, Err}
use Rattle.frame_model.specs.declared.fault.PackFault.{PackFault}
use Rattle.frame_model.specs.PackData.{PackData}
use Rattle.frame_model.specs.Packs.{pack_at}

-- the place after what was read
abbrev pub end_of : {A : Type 0} → Result (A × ℕ) PackFault → Result ℕ PackFault
end_of (Ok r) = Ok r.1
end_of (Err f) = Err f

-- how what a list or a map holds is read, with so many levels left
abbrev pub inside : ℕ → List ℕ → Option (ℕ → Result (PackData × ℕ) PackFault)
inside zero bytes = None
inside (suc levels) bytes = Some (pack_at levels bytes)

-- whether a value was read
abbrev pub is_read : Result PackData PackFault → Result (Unit {0}) PackFault
is_read (Ok d) = Ok tt
is_read (Err f) = Err f
