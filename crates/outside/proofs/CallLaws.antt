-- A call that is counted with its failure gives its answer a cause.
use Rattle.std.proofs.Common.{◌≡◌, ◌≤◌, arith, ap, Result, Ok, Err, is_err}
use Rattle.outside.specs.declared.fault.Failed.{Failed}
use Rattle.outside.specs.Calls.{Calls, after_call}
use Rattle.outside.specs.Faults.{HasCause}

pub counted_has_cause :
    {T : Type 0} (old new : Calls) (result : Result T Failed) → new ≡ after_call old (is_err result) →
    old.faults ≤ new.faults → HasCause old.faults new.faults result
counted_has_cause old new (Ok x) counted later =
    record { later = later; failed = λ h. cc; quiet = λ h. ap (λ (calls : Calls). calls.faults) counted }
counted_has_cause old new (Err x) counted later =
    let risen = ap (λ (calls : Calls). calls.faults) counted in
    record { later = later; failed = λ h. omega (arith, risen); quiet = λ h. cc }
