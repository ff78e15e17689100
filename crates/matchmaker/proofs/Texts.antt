-- Prefixes and parts of texts.
use Rattle.std.proofs.Common.{◌≡◌, ℕ, ◌+◌, ◌-◌, ◌==◌, List, [], ◌∷◌, ◌++◌, Option, Some, None, take, drop, length, refl, arith, true, false, Bool, cond, ◌<◌, ◌≤◌, ◌≢◌, Bor, unwrap_or, option_map, nat_lt, inl, inr, sym, length-drop}
use Rattle.std.specs.Option.{MatchOption}
use Rattle.std.proofs.lemmas.List.{take_all, drop_all}
use Rattle.std.proofs.lemmas.Bool.{cases_Bool, eqb-true}
use Rattle.std.proofs.lemmas.Bool.Decides.{nat_tests}
use Rattle.std.specs.List.{onto_first, position_or_len, slice_split}
use Rattle.std.proofs.lemmas.Grind.{common_steps}
use Rattle.hub_model.specs.Requests.{after_prefix, up_to}
use Rattle.hub_model.specs.Openings.{behind, grown, id_first, pieces}

same : (x : ℕ) → x == x ≡ true
same x = grind (arith, nat_tests)

pub up_to_is : (b : ℕ) (xs : List ℕ) → up_to b xs ≡ take (position_or_len (λ x. x == b) xs) xs
up_to_is b [] = refl
up_to_is b (x ∷ xs) = let go : (t : Bool) → x == b ≡ t → up_to b (x ∷ xs) ≡ take (position_or_len (λ x. x == b) (x ∷ xs)) (x ∷ xs) = elim [ true ↦ λ h. rw h refl | false ↦ λ h. rw h (grind (arith, common_steps, up_to_is b xs)) ] in go (x == b) refl

pub behind_is : (b : ℕ) (xs : List ℕ) → behind b xs ≡ drop (position_or_len (λ x. x == b) xs + 1) xs
behind_is b [] = grind (arith, common_steps)
behind_is b (x ∷ xs) = let go : (t : Bool) → x == b ≡ t → behind b (x ∷ xs) ≡ drop (position_or_len (λ x. x == b) (x ∷ xs) + 1) (x ∷ xs) =
    elim [ true ↦ λ h. rw h (grind (arith, common_steps)) | false ↦ λ h. rw h (grind (arith, common_steps, behind_is b xs)) ] in go (x == b) refl

grown_is : (x : ℕ) (ps : List (List ℕ)) → grown x ps ≡ onto_first x ps
grown_is x [] = refl
grown_is x (p ∷ ps) = refl

pub pieces_are : (b : ℕ) (xs : List ℕ) → pieces b xs ≡ slice_split (λ x. x == b) xs
pieces_are b [] = refl
pieces_are b (x ∷ xs) = let go : (t : Bool) → x == b ≡ t → pieces b (x ∷ xs) ≡ slice_split (λ x. x == b) (x ∷ xs) = elim [ true ↦ λ h. rw h (rw (pieces_are b xs) refl) | false ↦ λ h. rw h (rw (pieces_are b xs) (grown_is x _)) ] in go (x == b) refl

pub behind_there : (b n : ℕ) (xs : List ℕ) → n ≡ position_or_len (λ x. x == b) xs → take (length xs - (n + 1)) (drop (n + 1) xs) ≡ behind b xs
behind_there b n xs h = let is : behind b xs ≡ drop (n + 1) xs = rw h (behind_is b xs) in rw is (take_all (length xs - (n + 1)) (drop (n + 1) xs) (omega (arith, length-drop (n + 1) xs)))

pub behind_none : (b n : ℕ) (xs : List ℕ) → n ≡ position_or_len (λ x. x == b) xs → length xs ≤ n → [] ≡ behind b xs
behind_none b n xs h short = let is : behind b xs ≡ drop (n + 1) xs = rw h (behind_is b xs) in rw is (sym (drop_all (n + 1) xs (omega arith)))

found_from : (p : ℕ → Bool) (xs : List ℕ) → position_or_len p xs ≤ length xs
found_from p [] = omega arith
found_from p (x ∷ xs) = grind (arith, common_steps, found_from p xs)

pub place_is : (p : ℕ → Bool) (xs : List ℕ) → unwrap_or (cond (nat_lt (position_or_len p xs) (length xs)) (Some (position_or_len p xs)) None) (length xs) ≡ position_or_len p xs
place_is p xs = let within : position_or_len p xs ≤ length xs = found_from p xs in grind (arith, nat_tests)

pub after_prefix_all : (prefix rest : List ℕ) → after_prefix prefix (prefix ++ rest) ≡ Some rest
after_prefix_all [] rest = refl
after_prefix_all (x ∷ xs) rest = rw (same x) (after_prefix_all xs rest)

pub after_prefix_none : (prefix text : List ℕ) → ((rest : List ℕ) → text ≡ prefix ++ rest → ⊥) → after_prefix prefix text ≡ None
after_prefix_none [] text h = absurd (h text refl)
after_prefix_none (x ∷ xs) [] h = refl
after_prefix_none (x ∷ xs) (y ∷ ys) h = elim (cases_Bool (x == y)) [
  | inl same_byte ↦ rw same_byte (after_prefix_none xs ys (λ rest is. h rest (cc (is, eqb-true _ _ same_byte))))
  | inr other ↦ rw other refl
]

pub after_prefix_is : (prefix text : List ℕ) (r : Option (Bor (List ℕ))) → MatchOption r ((rest : List ℕ) → text ≢ prefix ++ rest) (λ x. text ≡ prefix ++ x.now) → option_map (λ x. x.now) r ≡ after_prefix prefix text
after_prefix_is prefix text None none = sym (after_prefix_none prefix text none)
after_prefix_is prefix text (Some x) is = rw is (sym (after_prefix_all prefix x.now))

pub short_is_no_id : (text : List ℕ) → length text < 9 → id_first text ≡ None
short_is_no_id text h = let short : length (take 9 text) == 9 ≡ false = grind (arith, nat_tests, common_steps) in rw short refl
