-- The calls of an object in memory: which of them are to fail, by their numbers from 1, and how it has counted them.
use Rattle.std.specs.Prelude.{◌≡◌, ◌==◌, ℕ, ◌+◌, ◌-◌, ◌^◌, min, List, Bool, true, false, if◌then◌else◌, Result, Ok, Err}
use Rattle.std.specs.List.{list_any}
use Rattle.outside.specs.declared.fault.WireFault.{WireFault}
use Rattle.outside.specs.declared.fault.WireFault.TheVariants as wire

-- the numbers of the calls that are to fail, how many calls were made, and how many failed
pub record Calls : Type 0 where
  pub failing : List ℕ
  pub made : ℕ
  pub faults : ℕ

-- no call yet
abbrev pub no_calls : List ℕ → Calls
no_calls failing = record { failing = failing; made = 0; faults = 0 }

-- one more, in a 64-bit counter that stays at its last value
abbrev pub one_more : ℕ → ℕ
one_more n = min (n + 1) (2 ^ 64 - 1)

-- the next call is one of those that are to fail
abbrev pub next_fails : Calls → Bool
next_fails calls = list_any (λ number. number == one_more calls.made) calls.failing

-- the calls after one more, which failed or didn't
abbrev pub after_call : Calls → Bool → Calls
after_call calls failed =
    record { failing = calls.failing; made = one_more calls.made; faults = if failed then one_more calls.faults else calls.faults }

-- a call was counted, and failed exactly where it was to
pub record GoesAsPlanned (old new : Calls) (failed : Bool) : Type 0 where
  pub fails : failed ≡ next_fails old
  pub counted : new ≡ after_call old failed

-- a wire's answer is that it failed, and not that it is out of memory
abbrev pub wire_failed : {T : Type 0} → Result T WireFault → Bool
wire_failed (Ok x) = false
wire_failed (Err wire.Failed) = true
wire_failed (Err wire.Memory) = false
