-- Texts behind their length.
use Rattle.std.proofs.Common.{◌≡◌, ℕ, ◌+◌, List, Ok, Err, refl}
use Rattle.std.specs.Str.{IsUtf8}
use Rattle.std.proofs.lemmas.Str.{is_utf8-from_IsUtf8}
use Rattle.lists.proofs.Utf8Laws.{is_utf8-no}
use Rattle.frame_model.specs.declared.form.Length.{Length}
use Rattle.frame_model.specs.declared.fault.PackFault.TheVariants.{BadText}
use Rattle.frame_model.specs.Packs.{run_at, text_at}

pub text_at-good : (len : Length) (bytes : List ℕ) (at end : ℕ) (run text : List ℕ) → run_at len bytes (at + 1) ≡ Ok (run, end) → text ≡ run → IsUtf8 run → text_at len bytes at ≡ Ok (text, end)
unfolding text_at
text_at-good len bytes at end run text h same good = rw (h, is_utf8-from_IsUtf8 run good, same) refl

pub text_at-bad : (len : Length) (bytes : List ℕ) (at end : ℕ) (run : List ℕ) → run_at len bytes (at + 1) ≡ Ok (run, end) → (IsUtf8 run → ⊥) → text_at len bytes at ≡ Err (BadText at)
unfolding text_at
text_at-bad len bytes at end run h bad = rw (h, is_utf8-no run bad) refl
