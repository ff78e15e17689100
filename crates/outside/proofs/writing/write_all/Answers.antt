use Rattle.std.proofs.Common.{ℕ, ◌+◌, refl, ◌∙◌, arith, length-take, length-drop}
use Rattle.outside.proofs.TakeLaws.{takes_more}
use Rattle.outside.proofs.writing.write_all.Goals as goal

pub loop-written-preserved : goal.loop-written-preserved
loop-written-preserved g c = record {
  within = omega (arith, length-take {A = ℕ}, length-drop {A = ℕ}, c.in_ok-written.ensures.within);
  took = takes_more _ _ _ c.args.bytes.now _ _ c.loop-written.invariant.took c.in_ok-written.ensures.taken;
  quiet = c.in_ok-written.ensures.cause.quiet refl ∙ c.loop-written.invariant.quiet;
}

pub returns-in_err-written-clause-part : goal.returns-in_err-written-clause-part
returns-in_err-written-clause-part g c =
    let part = c.in_err-written.ensures.part in
    (c.loop-written.written + part.0, takes_more _ _ _ c.args.bytes.now _ _ c.loop-written.invariant.took part.1)
