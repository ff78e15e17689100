-- Words joined by spaces and lines ended by LF are cut into the same words and lines again.
use Rattle.std.proofs.Common.{◌≡◌, ℕ, ◌-◌, ◌<◌, Bool, true, false, not, List, [], ◌∷◌, ◌++◌, length, take, get_or, map, All, refl, sym, ap, ap₂, ◌∙◌, arith, eqb, leb, eqb-true, eq-eqb, append_assoc, append-nil}
use Rattle.std.specs.List.{list_all, slice_split, join_with_byte, flat_map}
use Rattle.std.proofs.lemmas.List.Splits.{slice_split_none, slice_split_at, join_with_byte-slice_split, length-slice_split}
use Rattle.std.proofs.lemmas.List.Elements.{All-nil, All-cons}
use Rattle.std.proofs.lemmas.List.{take_at, get_or_at, length_push}
use Rattle.std.proofs.lemmas.Bool.{and_parts, and_from, not-true, false_from_ne_true, true≢false}
use Rattle.lists.proofs.Passing.{all_append}
use Rattle.text_model.specs.Marks.{spaced, lines}
use Rattle.text_model.specs.Lines.{words_of, pieces_of}

-- ---- lists without a byte

-- no element is c
abbrev pub lacks : ℕ → List ℕ → Bool
lacks c w = list_all (λ b. not (eqb b c)) w

-- neither a space nor a control byte
abbrev pub is_plain : List ℕ → Bool
is_plain w = list_all (leb 33) w

-- words that can stand on a line
abbrev pub is_line : List (List ℕ) → Bool
is_line [] = false
is_line (w ∷ ws) = list_all is_plain (w ∷ ws)

-- each element of a class passes a test that the whole class passes
pub all_pass : {A : Type 0} (p q : A → Bool) (w : List A) → ((b : A) → p b ≡ true → q b ≡ true) → list_all p w ≡ true → list_all q w ≡ true
all_pass p q [] each h = refl
all_pass p q (b ∷ bs) each h =
    let parts = and_parts (p b) (list_all p bs) h in
    and_from (q b) (list_all q bs) (each b parts.0) (all_pass p q bs each parts.1)

-- bytes of a class that c isn't of aren't c
pub lacks_from : (p : ℕ → Bool) (c : ℕ) (w : List ℕ) → p c ≡ false → list_all p w ≡ true → lacks c w ≡ true
lacks_from p c w out h = all_pass p (λ b. not (eqb b c)) w (λ b h. ap not (false_from_ne_true (eqb b c) (λ e. true≢false (sym h ∙ (ap p (eqb-true b c e) ∙ out))))) h

-- ---- cutting at c

all_apart : (c : ℕ) (w : List ℕ) → lacks c w ≡ true → All (λ b. eqb b c ≡ false) w
all_apart c [] h = All-nil (λ b. eqb b c ≡ false)
all_apart c (b ∷ bs) h =
    let parts = and_parts (not (eqb b c)) (lacks c bs) h in
    All-cons (λ x. eqb x c ≡ false) b bs (not-true (eqb b c) parts.0) (all_apart c bs parts.1)

-- a word behind which nothing is cut
pub cut_last : (c : ℕ) (w : List ℕ) → lacks c w ≡ true → slice_split (λ b. eqb b c) w ≡ w ∷ []
cut_last c w h = slice_split_none (λ b. eqb b c) w (all_apart c w h)

-- a word is cut off at the first c
pub cut_first : (c : ℕ) (w rest : List ℕ) → lacks c w ≡ true → slice_split (λ b. eqb b c) (w ++ c ∷ rest) ≡ w ∷ slice_split (λ b. eqb b c) rest
cut_first c w rest h = slice_split_at (λ b. eqb b c) w c rest (all_apart c w h) (eq-eqb c c refl)

-- ---- words

spaced_is : (ws : List (List ℕ)) → spaced ws ≡ join_with_byte 32 ws
spaced_is [] = refl
spaced_is (w ∷ []) = refl
spaced_is (w ∷ v ∷ ws) = ap (λ l. w ++ 32 ∷ l) (spaced_is (v ∷ ws))

-- the words of a line, joined again
pub spaced-words_of : (l : List ℕ) → spaced (words_of l) ≡ l
spaced-words_of l = spaced_is (words_of l) ∙ join_with_byte-slice_split 32 l

-- words that were joined, cut again
pub words_of-spaced : (w : List ℕ) (ws : List (List ℕ)) → list_all is_plain (w ∷ ws) ≡ true → words_of (spaced (w ∷ ws)) ≡ w ∷ ws
words_of-spaced w [] h = cut_last 32 w (lacks_from (leb 33) 32 w refl (and_parts (is_plain w) true h).0)
words_of-spaced w (v ∷ ws) h =
    let parts = and_parts (is_plain w) (list_all is_plain (v ∷ ws)) h in
    cut_first 32 w (spaced (v ∷ ws)) (lacks_from (leb 33) 32 w refl parts.0) ∙ ap (λ l. w ∷ l) (words_of-spaced v ws parts.1)

lacks-spaced : (ws : List (List ℕ)) → list_all is_plain ws ≡ true → lacks 10 (spaced ws) ≡ true
lacks-spaced [] h = refl
lacks-spaced (w ∷ []) h = lacks_from (leb 33) 10 w refl (and_parts (is_plain w) true h).0
lacks-spaced (w ∷ v ∷ ws) h =
    let parts = and_parts (is_plain w) (list_all is_plain (v ∷ ws)) h in
    all_append (λ b. not (eqb b 10)) w (32 ∷ spaced (v ∷ ws)) (lacks_from (leb 33) 10 w refl parts.0) (lacks-spaced (v ∷ ws) parts.1)

-- ---- lines

pub words_of_line : (ws : List (List ℕ)) → is_line ws ≡ true → words_of (spaced ws) ≡ ws
words_of_line [] h = absurd (true≢false (sym h))
words_of_line (w ∷ ws) h = words_of-spaced w ws h

pub lacks_line : (ws : List (List ℕ)) → is_line ws ≡ true → lacks 10 (spaced ws) ≡ true
lacks_line [] h = absurd (true≢false (sym h))
lacks_line (w ∷ ws) h = lacks-spaced (w ∷ ws) h

-- a text of lines is cut into them, with nothing behind the last LF
pub pieces_of-lines : (ls : List (List (List ℕ))) → list_all is_line ls ≡ true → pieces_of (lines ls) ≡ map spaced ls ++ [] ∷ []
pieces_of-lines [] h = refl
pieces_of-lines (ws ∷ ls) h =
    let parts = and_parts (is_line ws) (list_all is_line ls) h in
    ap pieces_of (append_assoc (spaced ws) (10 ∷ []) (lines ls))
    ∙ (cut_first 10 (spaced ws) (lines ls) (lacks_line ws parts.0) ∙ ap (λ l. spaced ws ∷ l) (pieces_of-lines ls parts.1))

-- the same where words may have spaces
pub pieces_of_texts : (ls : List (List (List ℕ))) → list_all (λ ws. lacks 10 (spaced ws)) ls ≡ true → pieces_of (lines ls) ≡ map spaced ls ++ [] ∷ []
pieces_of_texts [] h = refl
pieces_of_texts (ws ∷ ls) h =
    let parts = and_parts (lacks 10 (spaced ws)) (list_all (λ ws. lacks 10 (spaced ws)) ls) h in
    ap pieces_of (append_assoc (spaced ws) (10 ∷ []) (lines ls)) ∙ (cut_first 10 (spaced ws) (lines ls) parts.0 ∙ ap (λ l. spaced ws ∷ l) (pieces_of_texts ls parts.1))

-- lines of plain words are such
pub texts_from_lines : (ls : List (List (List ℕ))) → list_all is_line ls ≡ true → list_all (λ ws. lacks 10 (spaced ws)) ls ≡ true
texts_from_lines [] h = refl
texts_from_lines (ws ∷ ls) h =
    let parts = and_parts (is_line ws) (list_all is_line ls) h in
    and_from (lacks 10 (spaced ws)) _ (lacks_line ws parts.0) (texts_from_lines ls parts.1)

pub words_of-lines : (ls : List (List (List ℕ))) → list_all is_line ls ≡ true → map words_of (map spaced ls) ≡ ls
words_of-lines [] h = refl
words_of-lines (ws ∷ ls) h =
    let parts = and_parts (is_line ws) (list_all is_line ls) h in
    ap₂ (λ a b. a ∷ b) (words_of_line ws parts.0) (words_of-lines ls parts.1)

-- ---- a text of its pieces

-- the pieces but the last
abbrev pub prefix_of : {A : Type 0} → List A → List A
prefix_of ps = take (length ps - 1) ps

-- the last piece
abbrev pub last_of : {A : Type 0} → List (List A) → List A
last_of ps = get_or ps (length ps - 1) []

pub prefix_of_push : {A : Type 0} (ps : List A) (p : A) → prefix_of (ps ++ p ∷ []) ≡ ps
prefix_of_push ps p = take_at ps (p ∷ []) (length (ps ++ p ∷ []) - 1) (omega (arith, length_push ps p))

pub last_of_push : {A : Type 0} (ps : List (List A)) (p : List A) → last_of (ps ++ p ∷ []) ≡ p
last_of_push ps p = get_or_at ps p [] [] (length (ps ++ p ∷ []) - 1) (omega (arith, length_push ps p))

joined : (p : List ℕ) (ps : List (List ℕ)) → join_with_byte 10 (p ∷ ps) ≡ flat_map (λ l. l ++ 10 ∷ []) (take (length ps) (p ∷ ps)) ++ get_or (p ∷ ps) (length ps) []
joined p [] = refl
joined p (q ∷ ps) =
    ap (λ l. p ++ 10 ∷ l) (joined q ps)
    ∙ (sym (append_assoc p (10 ∷ []) _) ∙ sym (append_assoc (p ++ 10 ∷ []) (flat_map (λ l. l ++ 10 ∷ []) (take (length ps) (q ∷ ps))) (get_or (q ∷ ps) (length ps) [])))

joined_any : (ps : List (List ℕ)) → 0 < length ps → join_with_byte 10 ps ≡ flat_map (λ l. l ++ 10 ∷ []) (prefix_of ps) ++ last_of ps
joined_any [] h = absurd (omega arith)
joined_any (p ∷ ps) h =
    let n : length (p ∷ ps) - 1 ≡ length ps = omega arith in
    joined p ps ∙ sym (ap (λ k. flat_map (λ l. l ++ 10 ∷ []) (take k (p ∷ ps)) ++ get_or (p ∷ ps) k []) n)

lines_of_words : (ps : List (List ℕ)) → flat_map (λ l. l ++ 10 ∷ []) ps ≡ lines (map words_of ps)
lines_of_words [] = refl
lines_of_words (p ∷ ps) = ap₂ (λ a b. (a ++ 10 ∷ []) ++ b) (sym (spaced-words_of p)) (lines_of_words ps)

-- a text whose last piece is empty is the lines of the words of its other pieces
pub text_of_lines : (text : List ℕ) → last_of (pieces_of text) ≡ [] → text ≡ lines (map words_of (prefix_of (pieces_of text)))
text_of_lines text e =
    sym (join_with_byte-slice_split 10 text)
    ∙ (joined_any (pieces_of text) (omega (arith, length-slice_split (λ b. eqb b 10) text))
    ∙ (ap₂ (λ a b. a ++ b) (lines_of_words (prefix_of (pieces_of text))) e ∙ append-nil (lines (map words_of (prefix_of (pieces_of text))))))
