-- The words of a frame that a client refuses. Ours.
use Rattle.std.specs.Prelude.{ℕ, List, ◌∷◌, ◌++◌, codes}
use Rattle.std.specs.Fmt.{decimal}
use Rattle.schema_model.specs.declared.fault.ReadFault.{ReadFault}
use Rattle.schema_model.specs.declared.fault.ReadFault.TheVariants.{Short, Fractional, TooWide, BadText, BadForm}
use Rattle.wire_model.specs.declared.fault.OpFault.{OpFault}
use Rattle.wire_model.specs.declared.fault.OpFault.TheVariants as op
use Rattle.frame_model.specs.declared.fault.FrameFault.{FrameFault}
use Rattle.frame_model.specs.declared.fault.FrameFault.TheVariants as frame
use Rattle.life_model.specs.declared.client.ClientFault.{ClientFault}
use Rattle.life_model.specs.declared.client.ClientFault.TheVariants as fault

-- a word behind `frame`, alone, with a number, and with two
abbrev pub refused : List ℕ → List ℕ
refused word = codes "frame " ++ word

abbrev pub refused_at : List ℕ → ℕ → List ℕ
refused_at word place = refused word ++ 32 ∷ decimal place

abbrev pub refused_by : List ℕ → ℕ → ℕ → List ℕ
refused_by word place byte = refused_at word place ++ 32 ∷ decimal byte

abbrev pub scalar_words : ReadFault → List ℕ
scalar_words (Short place) = refused_at (codes "short") place
scalar_words (Fractional place) = refused_at (codes "fractional") place
scalar_words (TooWide place) = refused_at (codes "too-wide") place
scalar_words (BadText place) = refused_at (codes "bad-text") place
scalar_words (BadForm place) = refused_at (codes "bad-form") place

abbrev pub state_words : OpFault → List ℕ
state_words (op.Scalar f) = scalar_words f
state_words (op.UnknownRef place) = refused_at (codes "unknown-ref") place
state_words (op.UnknownField place) = refused_at (codes "unknown-field") place
state_words (op.UnknownType place) = refused_at (codes "unknown-type") place
state_words (op.UnknownOp place byte) = refused_by (codes "unknown-op") place byte
state_words (op.Unsupported place byte) = refused_by (codes "unsupported") place byte
state_words (op.NoItem place) = refused_at (codes "no-item") place
state_words (op.WrongClass place) = refused_at (codes "wrong-class") place
state_words op.Memory = refused (codes "memory")

-- a server's frames may have any length, so the fourth doesn't come, and out of memory is no refusal
abbrev pub form_words : FrameFault → List ℕ
form_words frame.Empty = refused (codes "empty")
form_words (frame.UnknownCode byte) = refused_at (codes "unknown-code") byte
form_words (frame.Bad place) = refused_at (codes "bad") place
form_words frame.TooLong = refused (codes "too-long")
form_words frame.Memory = refused (codes "memory")

abbrev pub frame_words : ClientFault → List ℕ
frame_words (fault.Frame f) = form_words f
frame_words (fault.State f) = state_words f
frame_words fault.BeforeFull = refused (codes "before-full")
frame_words fault.Closed = refused (codes "closed")
frame_words fault.Memory = refused (codes "memory")
