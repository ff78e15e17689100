use Rattle.std.proofs.Common.{◌≡◌, Result, Ok, Err, subst, arith}
use Rattle.frame_model.specs.declared.fault.PackFault.{PackFault}
use Rattle.frame_model.specs.declared.fault.PackFault.TheVariants.{Short, Float, Extension, BadText, KeyNotText, TooDeep, Trailing, Reserved, Memory}
use Rattle.frame_model.specs.PackData.{PackData}
use Rattle.frame_model.specs.Packs.{read_pack}
use Rattle.frame_model.proofs.NoMemory.{Reads, read_pack-reads}
use Rattle.msgpack_lite.specs.Ends.{is_read}
use Rattle.msgpack_lite.specs.Gives.{GivesPack}
use Rattle.msgpack_lite.proofs.Weighed.{is_within}
use Rattle.msgpack_lite.proofs.reading.read.Goals as goal

-- the fault of bytes that are no value
faulty : (r : Result PackData PackFault) (e : PackFault) → Err e ≡ is_read r → r ≡ Err e
faulty (Ok d) e h = cc
faulty (Err f) e h = cc

given : (r : Result PackData PackFault) (e : PackFault) → Reads r → r ≡ Err e → GivesPack (Err e) r
given r (Short n) h k = k
given r (Float n) h k = k
given r (Extension n) h k = k
given r (BadText n) h k = k
given r (KeyNotText n) h k = k
given r (TooDeep n) h k = k
given r (Trailing n) h k = k
given r (Reserved n) h k = k
given r Memory h k = absurd (subst Reads k h)

pub returns-in_err-check-clause-value : goal.returns-in_err-check-clause-value
returns-in_err-check-clause-value c =
    let e = c.in_err-check.field-0.0 in
    let is : c.from_residual.result ≡ Err e = grind arith in
    let r = read_pack c.args.bytes.now in
    rw is (given r e (read_pack-reads c.args.bytes.now) (faulty r e c.in_err-check.ensures))

pub returns-clause-within : goal.returns-clause-within
returns-clause-within c =
    let e = c.in_ok-pack.ensures in
    is_within c.args.bytes.now _ c.in_ok-pack.field-0-1 e.value e.within
