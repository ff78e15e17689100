-- What calls that write leave at the sink, and its count of faults.
use Rattle.std.proofs.Common.{◌≡◌, ◌∙◌, ℕ, List, ◌++◌, Option, refl, sym}
use Rattle.std.specs.Prelude.{Result, Ok, Err, IsErrAnd}
use Rattle.outside.specs.Streams.{Takes, TakesPrefix}
use Rattle.outside.proofs.TakeLaws.{takes_both, prefix_behind}
use Rattle.outside.specs.Faults.{Rose}
use Rattle.room_server.specs.declared.ending.Ending.{Ending}
use Rattle.room_server.specs.declared.ending.Ending.TheVariants.{Memory, WriteFailed}
use Rattle.room_server.specs.declared.output.WriteFault.{WriteFault}
use Rattle.room_server.specs.declared.output.WriteFault.TheVariants as fault
use Rattle.room_server.specs.Endings.{Writes, HasWriteCause, ended_as}

-- a call that failed has written a prefix
pub writes_err : {T E : Type 0} (Q : E → Type 0) (r : Result T E) (before after : Option (List ℕ)) (output : List ℕ) → IsErrAnd r Q → TakesPrefix before after output → Writes before after output r
writes_err Q (Ok x) before after output failed prefix = absurd failed
writes_err Q (Err e) before after output failed prefix = prefix

-- one piece was written, and then another or a prefix of it
pub writes_behind : {T E : Type 0} (r : Result T E) (before now after : Option (List ℕ)) (a b : List ℕ) → Takes before now a → Writes now after b r → Writes before after (a ++ b) r
writes_behind (Ok x) before now after a b first second = takes_both before now after a b first second
writes_behind (Err e) before now after a b first second = prefix_behind before now after a b first second

-- a call that wrote all leaves the count as it was
pub quiet_ok : {T : Type 0} (before now : ℕ) (x : T) → HasWriteCause before now (Ok x) → now ≡ before
quiet_ok before now x cause = cause.quiet (λ failed. cc)

-- ---- how a command ends that writes last

-- it ends so that the sink failed only where the sink did
pub cause_of : {T : Type 0} (before now : ℕ) (r : Result T WriteFault) (whole e : Ending) → HasWriteCause before now r → e ≡ ended_as r whole → (whole ≡ WriteFailed → ⊥) → e ≡ WriteFailed → Rose before now
cause_of before now (Ok x) whole e cause is other failed = absurd (other (sym is ∙ failed))
cause_of before now (Err fault.Failed) whole e cause is other failed = cause.failed refl
cause_of before now (Err fault.Memory) whole e cause is other failed = absurd (let same : Memory ≡ WriteFailed = sym is ∙ failed in cc)

pub quiet_of : {T : Type 0} (before now : ℕ) (r : Result T WriteFault) (whole e : Ending) → HasWriteCause before now r → e ≡ ended_as r whole → (e ≡ WriteFailed → ⊥) → now ≡ before
quiet_of before now (Ok x) whole e cause is other = cause.quiet (λ failed. cc)
quiet_of before now (Err fault.Failed) whole e cause is other = absurd (other is)
quiet_of before now (Err fault.Memory) whole e cause is other = cause.quiet (λ failed. cc)
