-- What a reading call gives of what the bytes are.
use Rattle.std.specs.Prelude.{◌≡◌, ℕ, Result, Ok, Err, IsOk}
use Rattle.frame_model.specs.declared.fault.PackFault.{PackFault}
use Rattle.frame_model.specs.declared.fault.PackFault.TheVariants.{Memory}
use Rattle.frame_model.specs.declared.pack.Pack.{Pack}
use Rattle.frame_model.specs.PackData.{PackData, data_of}

-- exactly what is there, seen by `view`, or its fault; or out of memory
abbrev pub Gives : {A B : Type 0} → (A → B) → Result (A × ℕ) PackFault → Result (B × ℕ) PackFault → Type 0
Gives view (Ok read) there = there ≡ Ok (view read.0, read.1)
Gives view (Err Memory) there = Unit {0}
Gives view (Err f) there = there ≡ Err f

-- exactly the value that bytes are, or their fault; or out of memory where they are a value
abbrev pub GivesPack : Result Pack PackFault → Result PackData PackFault → Type 0
GivesPack (Ok pack) there = there ≡ Ok (data_of pack)
GivesPack (Err Memory) there = IsOk there
GivesPack (Err f) there = there ≡ Err f
