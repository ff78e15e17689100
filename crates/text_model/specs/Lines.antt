-- Lines of a text and words of a line, and what is made of values that may be missing. Ours.
use Rattle.std.specs.Prelude.{ℕ, ◌-◌, ◌==◌, Bool, List, [], length, take, Option, Some, None, if◌then◌else◌, slice_index_or}
use Rattle.std.specs.List.{slice_split}
use Rattle.std.specs.Str.{bytes_eq}

-- the words of a line
abbrev pub words_of : List ℕ → List (List ℕ)
words_of l = slice_split (λ b. b == 32) l

-- a word is this one
abbrev pub is_word : List ℕ → List ℕ → Bool
is_word word w = bytes_eq w word

-- the pieces of a text between its LFs; the last one is behind the last LF
abbrev pub pieces_of : List ℕ → List (List ℕ)
pieces_of text = slice_split (λ b. b == 10) text

-- the lines of a text, each ended by LF, and what stands behind the last one
abbrev pub lines_in : List ℕ → List (List ℕ)
lines_in text = take (length (pieces_of text) - 1) (pieces_of text)

abbrev pub behind_lines : List ℕ → List ℕ
behind_lines text = slice_index_or (pieces_of text) (length (pieces_of text) - 1) []

-- ---- values that may be missing

-- a value, where a test holds
abbrev pub some_if : {A : Type 0} → Bool → A → Option A
some_if test x = if test then Some x else None

-- a value, where it passes
abbrev pub passing : {A : Type 0} → (A → Bool) → Option A → Option A
passing test None = None
passing test (Some x) = some_if (test x) x

-- what is made of two or three values, where all are there
abbrev pub both : {A B C : Type 0} → (A → B → C) → Option A → Option B → Option C
both f (Some a) (Some b) = Some (f a b)
both f a b = None

abbrev pub three : {A B C D : Type 0} → (A → B → C → D) → Option A → Option B → Option C → Option D
three f (Some a) (Some b) (Some c) = Some (f a b c)
three f a b c = None
