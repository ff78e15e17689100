-- The fault of a step that misses its item.
use Rattle.std.proofs.Common.{◌≡◌, ℕ, ◌+◌, List, Ok, Err, ap, ◌∙◌, inr}
use Rattle.schema_model.specs.Classes.{Schema}
use Rattle.wire_model.specs.declared.op.Step.{Step}
use Rattle.wire_model.specs.declared.op.Step.TheVariants.{Do}
use Rattle.wire_model.specs.declared.op.Op.{Op}
use Rattle.wire_model.specs.declared.fault.OpFault.{OpFault}
use Rattle.wire_model.specs.declared.fault.OpFault.TheVariants.{Scalar, UnknownRef, UnknownField, UnknownType, UnknownOp, Unsupported, NoItem, WrongClass, Memory}
use Rattle.wire_model.specs.Grammar.{step_at}
use Rattle.patch_decoder.specs.declared.run.Run.{Run}
use Rattle.patch_decoder.specs.Runs.{TakesStep, Steps}

-- a step that was read as an operation
read_as : (schema : Schema) (run : Run) (bytes : List ℕ) (at : ℕ) (s : Step) (o : Op) (next : ℕ) → step_at schema run.rows run.who bytes at ≡ Ok (s, next) → s ≡ Do o → step_at schema run.rows run.who bytes at ≡ Ok (Do o, next)
read_as schema run bytes at s o next read is = read ∙ ap (λ s. Ok (s, next)) is

-- a step that was read and not done fails as its operation does
pub step_missed : (schema : Schema) (bytes : List ℕ) (run new : Run) (at : ℕ) (s : Step) (next : ℕ) (f : OpFault) → step_at schema run.rows run.who bytes at ≡ Ok (s, next)
    → TakesStep schema s (at + 1) run new (Err f) → Steps schema bytes at run new (Err f)
step_missed schema bytes run new at s next Memory read t = tt
step_missed schema bytes run new at s next (Scalar x) read t = inr (t.0, next, read_as schema run bytes at s t.0 next read t.1, t.2, t.3)
step_missed schema bytes run new at s next (UnknownRef x) read t = inr (t.0, next, read_as schema run bytes at s t.0 next read t.1, t.2, t.3)
step_missed schema bytes run new at s next (UnknownField x) read t = inr (t.0, next, read_as schema run bytes at s t.0 next read t.1, t.2, t.3)
step_missed schema bytes run new at s next (UnknownType x) read t = inr (t.0, next, read_as schema run bytes at s t.0 next read t.1, t.2, t.3)
step_missed schema bytes run new at s next (UnknownOp x y) read t = inr (t.0, next, read_as schema run bytes at s t.0 next read t.1, t.2, t.3)
step_missed schema bytes run new at s next (Unsupported x y) read t = inr (t.0, next, read_as schema run bytes at s t.0 next read t.1, t.2, t.3)
step_missed schema bytes run new at s next (NoItem x) read t = inr (t.0, next, read_as schema run bytes at s t.0 next read t.1, t.2, t.3)
step_missed schema bytes run new at s next (WrongClass x) read t = inr (t.0, next, read_as schema run bytes at s t.0 next read t.1, t.2, t.3)
