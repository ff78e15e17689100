-- Counts of faults: they never fall, one rises where a call answers that the outside failed, and under every other answer
-- it is as it was.
use Rattle.std.specs.Prelude.{◌≡◌, ℕ, ◌+◌, ◌-◌, ◌^◌, ◌≤◌, min, Result, IsErrOf, IsErr, IsOk}
use Rattle.outside.specs.declared.fault.Failed.{Failed}
use Rattle.outside.specs.declared.fault.WireFault.{WireFault}
use Rattle.outside.specs.declared.fault.WireFault.TheVariants as wire

-- the count rose; at the last value of a 64-bit counter it counts as risen
abbrev pub Rose : ℕ → ℕ → Type 0
Rose before now = min (before + 1) (2 ^ 64 - 1) ≤ now

-- the count didn't fall, rose where the call failed, and is as it was where it didn't
pub record HasCause {T : Type 0} (before now : ℕ) (result : Result T Failed) : Type 0 where
  pub later : before ≤ now
  pub failed : IsErr result → Rose before now
  pub quiet : IsOk result → now ≡ before

-- the same of a wire, which may be out of memory besides
pub record HasWireCause {T : Type 0} (before now : ℕ) (result : Result T WireFault) : Type 0 where
  pub later : before ≤ now
  pub failed : IsErrOf result wire.Failed → Rose before now
  pub quiet : (IsErrOf result wire.Failed → ⊥) → now ≡ before
