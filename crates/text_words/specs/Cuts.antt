-- A text by its first line, and a line by its first word. Ours.
use Rattle.std.specs.Prelude.{◌≡◌, ℕ, ◌<◌, ◌==◌, true, not, List, [], ◌∷◌, ◌++◌, length, Option, Some, None}
use Rattle.std.specs.List.{list_all}
use Rattle.std.specs.Borrow.{Bor}
use Rattle.text_model.specs.Lines.{behind_lines, lines_in, pieces_of, words_of}

-- a text is this line, and what stands behind it
pub record IsCut (text line behind : List ℕ) : Type 0 where
  pub joined : text ≡ line ++ 10 ∷ behind
  pub lacks : list_all (λ b. not (b == 10)) line ≡ true
  pub pieces : pieces_of text ≡ line ∷ pieces_of behind
  pub lines : lines_in text ≡ line ∷ lines_in behind
  pub rest : behind_lines text ≡ behind_lines behind
  pub shorter : length behind < length text

-- a text has no line
pub record IsUncut (text : List ℕ) : Type 0 where
  pub pieces : pieces_of text ≡ text ∷ []
  pub lines : lines_in text ≡ []
  pub rest : behind_lines text ≡ text

-- what the first line is, where there is one
abbrev pub IsFirstLine : List ℕ → Option (Bor (List ℕ) × Bor (List ℕ)) → Type 0
IsFirstLine text (Some p) = IsCut text p.0.now p.1.now
IsFirstLine text None = IsUncut text

-- the same of the first word of a line, where a space stands behind it
abbrev pub IsFirstWord : List ℕ → Option (Bor (List ℕ) × Bor (List ℕ)) → Type 0
IsFirstWord line (Some p) = words_of line ≡ p.0.now ∷ words_of p.1.now
IsFirstWord line None = words_of line ≡ line ∷ []
