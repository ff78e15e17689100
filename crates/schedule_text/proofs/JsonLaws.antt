-- Texts of one line.
use Rattle.std.proofs.Common.{◌≡◌, ℕ, ◌==◌, Bool, true, false, not, ◌&&◌, List, Some, None, refl, sym, ap}
use Rattle.std.specs.List.{list_all}
use Rattle.text_model.specs.Lines.{passing, some_if}
use Rattle.text_model.specs.OutLines.{is_one_line}
use Rattle.text_model.specs.WordForms.{is_text}

pub one_line_kept : (bs : List ℕ) → list_all (λ b. not (b == 10)) bs ≡ true → passing is_text (Some bs) ≡ passing is_one_line (Some bs)
one_line_kept bs none = by_text (is_text bs)
  where
    by_text : (t : Bool) → some_if t bs ≡ some_if (t && list_all (λ b. not (b == 10)) bs) bs
    by_text true = ap (λ t. some_if t bs) (sym none)
    by_text false = refl

pub one_line_refused : (bs : List ℕ) → list_all (λ b. not (b == 10)) bs ≡ false → passing is_one_line (Some bs) ≡ None
one_line_refused bs some = by_text (is_text bs)
  where
    by_text : (t : Bool) → some_if (t && list_all (λ b. not (b == 10)) bs) bs ≡ None
    by_text true = ap (λ t. some_if t bs) some
    by_text false = refl
