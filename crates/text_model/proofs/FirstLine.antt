-- The pieces of a text by the first byte at which it is cut, as by its first LF.
use Rattle.std.proofs.Common.{◌≡◌, ℕ, suc, ◌+◌, ◌<◌, ◌==◌, Bool, true, false, not, cond, ltb, List, [], ◌∷◌, length, take, drop, Some, None, refl, ap, ◌∙◌, arith}
use Rattle.std.specs.Prelude.{position}
use Rattle.std.specs.List.{onto_first, position_or_len, slice_split}
use Rattle.std.proofs.lemmas.Bool.{ltb-true, ltb-false}
use Rattle.std.proofs.lemmas.List.Sums.{prefix_len-le-length}
use Rattle.std.proofs.lemmas.List.Splits.{slice_split_first, slice_split-cons_no}
use Rattle.text_model.specs.Lines.{pieces_of}

abbrev pub is_lf : ℕ → Bool
is_lf b = b == 10

-- where it is
pub position_some : (p : ℕ → Bool) (xs : List ℕ) (i : ℕ) → Some i ≡ position p xs → (position_or_len p xs ≡ i) × (i < length xs)
position_some p xs i e =
    let m = position_or_len p xs in
    let go : (b : Bool) → ltb m (length xs) ≡ b → Some i ≡ cond b (Some m) None → (m ≡ i) × (m < length xs)
    = elim [ true ↦ λ h k. (cc, ltb-true m (length xs) h) | false ↦ λ h k. absurd (cc) ] in
    let q = go (ltb m (length xs)) refl e in
    (q.0, omega (arith, q.0, q.1))

-- what stands before it, and the pieces behind it
pub cut_at : (p : ℕ → Bool) (xs : List ℕ) (i : ℕ) → Some i ≡ position p xs → slice_split p xs ≡ take i xs ∷ slice_split p (drop (i + 1) xs)
cut_at p xs i e =
    let q = position_some p xs i e in
    slice_split_first p xs 0 (omega (arith, q.0, q.1)) ∙ ap (λ k. take k xs ∷ slice_split p (drop (k + 1) xs)) q.0

one_piece : (p : ℕ → Bool) (xs : List ℕ) → position_or_len p xs ≡ length xs → slice_split p xs ≡ xs ∷ []
one_piece p [] h = refl
one_piece p (x ∷ xs) h =
    let go : (b : Bool) → p x ≡ b → cond (not b) (1 + position_or_len p xs) 0 ≡ suc (length xs) → slice_split p (x ∷ xs) ≡ (x ∷ xs) ∷ []
    = elim [
      | true ↦ λ e k. absurd (omega (arith, k))
      | false ↦ λ e k. slice_split-cons_no p x xs e ∙ ap (onto_first x) (one_piece p xs (omega (arith, k)))
    ] in
    go (p x) refl h

position_none : (p : ℕ → Bool) (xs : List ℕ) → None ≡ position p xs → position_or_len p xs ≡ length xs
position_none p xs e =
    let m = position_or_len p xs in
    let go : (b : Bool) → ltb m (length xs) ≡ b → None ≡ cond b (Some m) None → m ≡ length xs
    = elim [
      | true ↦ λ h k. absurd (cc)
      | false ↦ λ h k. omega (arith, ltb-false m (length xs) h, prefix_len-le-length (λ b. not (p b)) xs)
    ] in
    go (ltb m (length xs)) refl e

-- without it there is one piece
pub cut_none : (p : ℕ → Bool) (xs : List ℕ) → None ≡ position p xs → slice_split p xs ≡ xs ∷ []
cut_none p xs e = one_piece p xs (position_none p xs e)

-- the lines of a text by its first LF
pub pieces_at : (xs : List ℕ) (i : ℕ) → Some i ≡ position is_lf xs → pieces_of xs ≡ take i xs ∷ pieces_of (drop (i + 1) xs)
pieces_at xs i e = cut_at is_lf xs i e

pub pieces_without : (xs : List ℕ) → None ≡ position is_lf xs → pieces_of xs ≡ xs ∷ []
pieces_without xs e = cut_none is_lf xs e
