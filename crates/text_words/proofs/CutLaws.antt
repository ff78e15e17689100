-- A text by its first line, and a line by its first word.
use Rattle.std.proofs.Common.{◌≡◌, ℕ, suc, ◌+◌, ◌-◌, ◌<◌, ◌==◌, Bool, true, false, not, cond, eqb-true, ◌++◌, List, [], ◌∷◌, length, take, drop, get_or, Some, None, refl, sym, ap, ap₂, ◌∙◌, arith}
use Rattle.std.specs.Prelude.{position}
use Rattle.std.specs.List.{list_all, position_or_len}
use Rattle.std.proofs.lemmas.Bool.{and_from}
use Rattle.std.proofs.lemmas.List.Splits.{length-slice_split}
use Rattle.std.proofs.lemmas.List.{length-drop}
use Rattle.text_model.proofs.FirstLine.{is_lf, pieces_at, pieces_without, position_some}
use Rattle.text_model.specs.Lines.{pieces_of}
use Rattle.text_words.specs.Cuts.{IsCut, IsUncut}

pub prefix_more : (l : List ℕ) (ps : List (List ℕ)) → 0 < length ps → take (length (l ∷ ps) - 1) (l ∷ ps) ≡ l ∷ take (length ps - 1) ps
prefix_more l [] some = absurd (omega arith)
prefix_more l (p ∷ ps) some =
    let a : length (l ∷ p ∷ ps) - 1 ≡ suc (length ps) = omega arith in
    let b : length (p ∷ ps) - 1 ≡ length ps = omega arith in
    ap (λ k. take k (l ∷ p ∷ ps)) a ∙ ap (λ k. l ∷ take k (p ∷ ps)) (sym b)

pub last_more : (l : List ℕ) (ps : List (List ℕ)) → 0 < length ps → get_or (l ∷ ps) (length (l ∷ ps) - 1) [] ≡ get_or ps (length ps - 1) []
last_more l [] some = absurd (omega arith)
last_more l (p ∷ ps) some =
    let a : length (l ∷ p ∷ ps) - 1 ≡ suc (length ps) = omega arith in
    let b : length (p ∷ ps) - 1 ≡ length ps = omega arith in
    ap (λ k. get_or (l ∷ p ∷ ps) k []) a ∙ ap (λ k. get_or (p ∷ ps) k []) (sym b)

-- what stands before the first LF has none, and it stands there
lacks_prefix : (xs : List ℕ) → list_all (λ b. not (b == 10)) (take (position_or_len is_lf xs) xs) ≡ true
lacks_prefix [] = refl
lacks_prefix (x ∷ xs) = by_first (is_lf x) refl (lacks_prefix xs)
  where
    by_first : (b : Bool) → is_lf x ≡ b → list_all (λ b. not (b == 10)) (take (position_or_len is_lf xs) xs) ≡ true → list_all (λ b. not (b == 10)) (take (cond (not b) (1 + position_or_len is_lf xs) 0) (x ∷ xs)) ≡ true
    by_first true is rest = refl
    by_first false other rest =
        let more : 1 + position_or_len is_lf xs ≡ suc (position_or_len is_lf xs) = omega arith in
        ap (λ k. list_all (λ b. not (b == 10)) (take k (x ∷ xs))) more ∙ and_from (not (is_lf x)) (list_all (λ b. not (b == 10)) (take (position_or_len is_lf xs) xs)) (ap not other) rest

joined_at : (xs : List ℕ) → position_or_len is_lf xs < length xs → xs ≡ take (position_or_len is_lf xs) xs ++ 10 ∷ drop (position_or_len is_lf xs + 1) xs
joined_at [] h = absurd (omega arith)
joined_at (x ∷ xs) h = by_first (is_lf x) refl h (λ k. joined_at xs k)
  where
    by_first : (b : Bool) → is_lf x ≡ b → cond (not b) (1 + position_or_len is_lf xs) 0 < suc (length xs)
        → (position_or_len is_lf xs < length xs → xs ≡ take (position_or_len is_lf xs) xs ++ 10 ∷ drop (position_or_len is_lf xs + 1) xs)
        → x ∷ xs ≡ take (cond (not b) (1 + position_or_len is_lf xs) 0) (x ∷ xs) ++ 10 ∷ drop (cond (not b) (1 + position_or_len is_lf xs) 0 + 1) (x ∷ xs)
    by_first true is k rest = ap (λ y. y ∷ xs) (eqb-true x 10 is)
    by_first false other k rest =
        let n = position_or_len is_lf xs in
        let prefix : suc n ≡ 1 + n = omega arith in
        let back : suc (n + 1) ≡ 1 + n + 1 = omega arith in
        ap (λ ys. x ∷ ys) (rest (omega (arith, k))) ∙ ap₂ (λ a b. take a (x ∷ xs) ++ 10 ∷ drop b (x ∷ xs)) prefix back

pub first_line : (text : List ℕ) (i : ℕ) → Some i ≡ position is_lf text → IsCut text (take i text) (drop (i + 1) text)
first_line text i is =
    let pieces = pieces_at text i is in
    let behind = drop (i + 1) text in
    let some : 0 < length (pieces_of behind) = omega (arith, length-slice_split is_lf behind) in
    let at = position_some is_lf text i is in
    record {
      joined = joined_at text (omega (arith, at.0, at.1)) ∙ ap (λ k. take k text ++ 10 ∷ drop (k + 1) text) at.0;
      lacks = ap (λ k. list_all (λ b. not (b == 10)) (take k text)) (sym at.0) ∙ lacks_prefix text;
      pieces = pieces;
      lines = ap (λ ps. take (length ps - 1) ps) pieces ∙ prefix_more (take i text) (pieces_of behind) some;
      rest = ap (λ ps. get_or ps (length ps - 1) []) pieces ∙ last_more (take i text) (pieces_of behind) some;
      shorter = omega (arith, length-drop (i + 1) text, (position_some is_lf text i is).1);
    }

pub no_line : (text : List ℕ) → None ≡ position is_lf text → IsUncut text
no_line text is =
    let pieces = pieces_without text is in
    record {
      pieces = pieces;
      lines = ap (λ ps. take (length ps - 1) ps) pieces;
      rest = ap (λ ps. get_or ps (length ps - 1) []) pieces;
    }

abbrev pub is_space : ℕ → Bool
is_space b = b == 32
