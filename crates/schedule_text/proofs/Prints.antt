-- What is appended, part by part.
use Rattle.std.proofs.Common.{◌≡◌, ℕ, ◌+◌, ◌<◌, List, [], ◌∷◌, ◌++◌, length, take, get_or, map, refl, sym, ap, ◌∙◌, arith}
use Rattle.std.proofs.lemmas.List.{append_assoc, take_more, append-nil, map-append, length-map, length-take-le}
use Rattle.text_words.specs.Words.{behind}
use Rattle.text_model.specs.Marks.{spaced}
use Rattle.std.proofs.lemmas.List.Concat.{flat_map-append}

-- one word more, behind others
spaced_push : (w v : List ℕ) (ws : List (List ℕ)) → spaced ((w ∷ ws) ++ v ∷ []) ≡ spaced (w ∷ ws) ++ 32 ∷ v
spaced_push w v [] = refl
spaced_push w v (x ∷ ws) = ap (λ t. w ++ 32 ∷ t) (spaced_push x v ws) ∙ sym (append_assoc w (32 ∷ spaced (x ∷ ws)) (32 ∷ v))

spaced_push_behind : (ws : List (List ℕ)) (v : List ℕ) → 0 < length ws → spaced (ws ++ v ∷ []) ≡ spaced ws ++ 32 ∷ v
spaced_push_behind [] v h = absurd (omega arith)
spaced_push_behind (w ∷ ws) v h = spaced_push w v ws

map_take_more : {W : Type 0} (f : W → List ℕ) (ws : List W) (i : ℕ) (d : W) → i < length ws → map f (take (i + 1) ws) ≡ map f (take i ws) ++ f (get_or ws i d) ∷ []
map_take_more f ws i d h = ap (map f) (take_more ws i d h) ∙ map-append f (take i ws) (get_or ws i d ∷ [])

-- a word that is appended: the first, or one behind a space
pub word_first : {W : Type 0} (f : W → List ℕ) (ws : List W) (i : ℕ) (d : W) (old mid now : List ℕ) → i < length ws → i ≡ 0 → mid ≡ old ++ spaced (map f (take i ws)) → now ≡ mid ++ f (get_or ws i d) → now ≡ old ++ spaced (map f (take (i + 1) ws))
word_first f ws i d old mid now h e m n =
    let none : spaced (map f (take i ws)) ≡ [] = ap (λ k. spaced (map f (take k ws))) e in
    let one : spaced (map f (take (i + 1) ws)) ≡ f (get_or ws i d) =
    ap spaced (map_take_more f ws i d h) ∙ ap (λ k. spaced (map f (take k ws) ++ f (get_or ws i d) ∷ [])) e in
    n ∙ (ap (λ t. t ++ f (get_or ws i d)) (m ∙ (ap (λ t. old ++ t) none ∙ append-nil old)) ∙ ap (λ t. old ++ t) (sym one))

pub word_more : {W : Type 0} (f : W → List ℕ) (ws : List W) (i : ℕ) (d : W) (old mid now : List ℕ) → i < length ws → 0 < i → mid ≡ (old ++ spaced (map f (take i ws))) ++ 32 ∷ []
    → now ≡ mid ++ f (get_or ws i d) → now ≡ old ++ spaced (map f (take (i + 1) ws))
word_more f ws i d old mid now h more m n =
    let prefix = map f (take i ws) in
    let word = f (get_or ws i d) in
    let one : spaced (map f (take (i + 1) ws)) ≡ spaced prefix ++ 32 ∷ word =
    ap spaced (map_take_more f ws i d h)
    ∙ spaced_push_behind prefix word (omega (arith, length-map (take i ws) f, length-take-le i ws (omega arith))) in
    n ∙ (ap (λ t. t ++ word) m ∙ (append_assoc (old ++ spaced prefix) (32 ∷ []) word ∙ (append_assoc old (spaced prefix) (32 ∷ word) ∙ ap (λ t. old ++ t) (sym one))))

-- ---- rows

pub spaced_behind : (w : List ℕ) (ws : List (List ℕ)) → spaced (w ∷ ws) ≡ w ++ behind ws
spaced_behind w [] = sym (append-nil w)
spaced_behind w (v ∷ ws) = ap (λ t. w ++ 32 ∷ t) (spaced_behind v ws)

-- the words of a row: its own, two numbers, and its items
pub row_done : (old first second now w a b : List ℕ) (ws : List (List ℕ)) → first ≡ old ++ w → second ≡ first ++ behind (a ∷ b ∷ []) → now ≡ second ++ behind ws → now ≡ old ++ spaced (w ∷ a ∷ b ∷ ws)
row_done old first second now w a b ws f s n =
    let items : behind (a ∷ b ∷ []) ++ behind ws ≡ behind (a ∷ b ∷ ws) = sym (flat_map-append (λ w. 32 ∷ w) (a ∷ b ∷ []) ws) in
    n ∙ (ap (λ t. t ++ behind ws) (s ∙ ap (λ t. t ++ behind (a ∷ b ∷ [])) f)
    ∙ (append_assoc (old ++ w) (behind (a ∷ b ∷ [])) (behind ws)
    ∙ (append_assoc old w (behind (a ∷ b ∷ []) ++ behind ws) ∙ ap (λ t. old ++ t) (ap (λ t. w ++ t) items ∙ sym (spaced_behind w (a ∷ b ∷ ws))))))
