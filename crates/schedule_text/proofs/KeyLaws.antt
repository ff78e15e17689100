-- The keys of a filter, one behind another.
use Rattle.std.proofs.Common.{◌≡◌, ℕ, zero, suc, ◌+◌, ◌<◌, true, false, not, List, [], ◌∷◌, ◌++◌, length, take, drop, get_or, None, refl, sym, ap, ◌∙◌, true≢false, arith}
use Rattle.std.specs.Borrow.{Bor}
use Rattle.std.specs.List.{list_all, list_any}
use Rattle.std.specs.Str.{bytes_eq}
use Rattle.std.proofs.Math.ListN.{get_or-map}
use Rattle.std.proofs.lemmas.List.{at_drop_more, length-map, take-append-drop, take_more}
use Rattle.std.proofs.lemmas.Bool.{and_from, and_parts, false_from_ne_true}
use Rattle.lists.proofs.Passing.{all_append}
use Rattle.state_model.specs.Sound.{keys_differ}
use Rattle.text_model.specs.DefLines.{are_keys}
use Rattle.text_model.specs.Lines.{some_if}
use Rattle.text_model.specs.Marks.{is_room_name}
use Rattle.text_model.proofs.Keys.{keys_apart, keys_push}
use Rattle.text_words.specs.Words.{bytes_of}

-- a word at a place
pub bytes_at : (ws : List (Bor (List ℕ))) (i : ℕ) (d : Bor (List ℕ)) → get_or (bytes_of ws) i d.now ≡ (get_or ws i d).now
bytes_at ws i d = get_or-map (λ w. w.now) ws i d

-- words around a place
around : (ws : List (List ℕ)) (i : ℕ) (d : List ℕ) → i < length ws → ws ≡ take i ws ++ get_or ws i d ∷ drop (i + 1) ws
around ws i d within = sym (take-append-drop i ws) ∙ ap (λ t. take i ws ++ t) (at_drop_more (λ t. t) ws i d within)

named_at : (ws : List (List ℕ)) (i : ℕ) (d : List ℕ) → i < length ws → list_all is_room_name ws ≡ true → is_room_name (get_or ws i d) ≡ true
named_at [] i d within named = absurd (omega arith)
named_at (w ∷ ws) zero d within named = (and_parts (is_room_name w) (list_all is_room_name ws) named).0
named_at (w ∷ ws) (suc i) d within named = named_at ws i d (omega arith) (and_parts (is_room_name w) (list_all is_room_name ws) named).1

-- a key that is no name, and one that stands before
pub key_refused : (ws : List (Bor (List ℕ))) (i : ℕ) (d : Bor (List ℕ)) → i < length ws → is_room_name (get_or ws i d).now ≡ false → some_if (are_keys (bytes_of ws)) (bytes_of ws) ≡ None
key_refused ws i d within other = ap (λ b. some_if b (bytes_of ws)) (false_from_ne_true (are_keys (bytes_of ws)) no_keys)
  where
    no_keys : are_keys (bytes_of ws) ≡ true → ⊥
    no_keys are =
        let named = (and_parts (list_all is_room_name (bytes_of ws)) _ are).0 in
        true≢false (sym (named_at (bytes_of ws) i d.now (omega (arith, within, length-map ws (λ w. w.now))) named) ∙ (ap is_room_name (bytes_at ws i d) ∙ other))

pub key_again : (ws : List (Bor (List ℕ))) (i : ℕ) (d : Bor (List ℕ)) (names seen : List (List ℕ)) → i < length ws → names ≡ take i (bytes_of ws) → seen ≡ names → list_any (bytes_eq (get_or ws i d).now) seen ≡ true
    → some_if (are_keys (bytes_of ws)) (bytes_of ws) ≡ None
key_again ws i d names seen within read same there = ap (λ b. some_if b (bytes_of ws)) (false_from_ne_true (are_keys (bytes_of ws)) no_keys)
  where
    no_keys : are_keys (bytes_of ws) ≡ true → ⊥
    no_keys are =
        let bs = bytes_of ws in
        let differ = (and_parts _ (keys_differ bs) (and_parts (list_all is_room_name bs) _ are).1).1 in
        let apart = keys_apart (take i bs) (get_or bs i d.now) (drop (i + 1) bs) (ap keys_differ (sym (around bs i d.now (omega (arith, within, length-map ws (λ w. w.now))))) ∙ differ) in
        let here : list_any (bytes_eq (get_or bs i d.now)) (take i bs) ≡ true = ap (λ k. list_any (bytes_eq k) (take i bs)) (bytes_at ws i d) ∙ (ap (list_any (bytes_eq (get_or ws i d).now)) (sym (same ∙ read)) ∙ there) in
        true≢false (sym apart ∙ ap not here)

-- one key more
pub key_read : (ws : List (Bor (List ℕ))) (i : ℕ) (d : Bor (List ℕ)) (names now : List (List ℕ)) → i < length ws → names ≡ take i (bytes_of ws) → now ≡ names ++ (get_or ws i d).now ∷ [] → now ≡ take (i + 1) (bytes_of ws)
key_read ws i d names now within read is =
    is ∙ (ap (λ ns. ns ++ (get_or ws i d).now ∷ []) read ∙ (ap (λ k. take i (bytes_of ws) ++ k ∷ []) (sym (bytes_at ws i d)) ∙ sym (take_more (bytes_of ws) i d.now (omega (arith, within, length-map ws (λ w. w.now))))))

pub key_named : (names now : List (List ℕ)) (k : List ℕ) → now ≡ names ++ k ∷ [] → list_all is_room_name names ≡ true → is_room_name k ≡ true → list_all is_room_name now ≡ true
key_named names now k is named here = ap (list_all is_room_name) is ∙ all_append is_room_name names (k ∷ []) named (and_from (is_room_name k) true here refl)

pub key_apart : (names now : List (List ℕ)) (k : List ℕ) (seen : List (List ℕ)) → now ≡ names ++ k ∷ [] → keys_differ names ≡ true → seen ≡ names → list_any (bytes_eq k) seen ≡ false → keys_differ now ≡ true
key_apart names now k seen is differ same other = ap keys_differ is ∙ keys_push names k differ (ap not (ap (list_any (bytes_eq k)) (sym same) ∙ other))
