-- The fixed widths by their count of bytes.
use Rattle.std.specs.Prelude.{ℕ, Bool, List, ◌==◌, ◌||◌, if◌then◌else◌, Result, Ok, Err}
use Rattle.std.specs.Int.{Width, w8, w16, w32, w64}
use Rattle.schema_model.specs.declared.fault.ReadFault.{ReadFault}
use Rattle.schema_model.specs.Reading.{fixed_at}

-- numbers have 1, 2, 4 or 8 bytes
abbrev pub is_width : ℕ → Bool
is_width count = count == 1 || count == 2 || count == 4 || count == 8

-- the width of so many bytes
abbrev pub width_of : ℕ → Width
width_of count =
    if count == 1 then w8
    else if count == 2 then w16
    else if count == 4 then w32
    else w64

-- what was read, without the place after it
abbrev pub read_alone : Result (ℕ × ℕ) ReadFault → Result ℕ ReadFault
read_alone (Ok read) = Ok read.0
read_alone (Err fault) = Err fault

-- the number of so many bytes at a place
abbrev pub low_at : ℕ → List ℕ → ℕ → Result ℕ ReadFault
low_at count bytes at = read_alone (fixed_at (width_of count) bytes at)
