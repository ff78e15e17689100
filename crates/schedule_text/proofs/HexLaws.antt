-- A word in hex is read pair by pair.
use Rattle.std.proofs.Common.{◌≡◌, ◌&&◌, ℕ, ◌+◌, ◌-◌, ◌*◌, ◌/◌, ◌%◌, ◌<◌, ◌==◌, Bool, true, false, List, [], ◌∷◌, ◌++◌, Option, Some, None, Err, cond, leb, ltb, option_map, refl, sym, ap, ap₂, ◌∙◌, true≢false, codes, append_assoc, length, take, drop, get_or, ◌≤◌, arith}
use Rattle.std.specs.List.{flat_map}
use Rattle.std.proofs.lemmas.Bool.{agree_below_at, and_from, and_parts, eqb-true, leb-true, lt-ltb, ltb-true}
use Rattle.std.proofs.lemmas.Bool.Decides.{nat_tests}
use Rattle.std.proofs.lemmas.List.{take_all}
use Rattle.text_model.specs.Lines.{both, is_word}
use Rattle.text_model.specs.Marks.{hex_byte, hex_digit, hex_word}
use Rattle.text_model.specs.WordForms.{are_bytes, hex_of}
use Rattle.text_model.proofs.Choices.{both_is, both_of}
use Rattle.text_model.proofs.WordLaws.{hex_read, read_hex}
use Rattle.schedule_text.specs.Reads.{Reads, ReadsAs}
use Rattle.schedule_text.specs.declared.fault.LineFault.{LineFault}
use Rattle.schedule_text.specs.declared.fault.LineFault.TheVariants.{Memory, NotOfForm}
use Rattle.schedule_text.specs.Hex.{byte_of, digit_of, pairs_of}

-- ---- a digit and its number

record IsDigit (d h : ℕ) : Type 0 where
  small : h < 16
  spelled : d ≡ hex_digit h

digit_spelled : (d h : ℕ) → digit_of d ≡ Some h → IsDigit d h
digit_spelled d h is = by_number (leb 48 d && leb d 57) refl is
  where
    by_letter : (b : Bool) → leb 97 d && leb d 102 ≡ b → cond b (Some (d - 87)) None ≡ Some h → IsDigit d h
    by_letter true within e =
        let low : 97 ≤ d = leb-true 97 d (and_parts (leb 97 d) (leb d 102) within).0 in
        let high : d ≤ 102 = leb-true d 102 (and_parts (leb 97 d) (leb d 102) within).1 in
        let here : d - 87 ≡ h = cc in
        record { small = omega (arith, low, high, here); spelled = grind (arith, nat_tests, low, high, here) }
    by_letter false other e = absurd cc

    by_number : (b : Bool) → leb 48 d && leb d 57 ≡ b → cond b (Some (d - 48)) (cond (leb 97 d && leb d 102) (Some (d - 87)) None) ≡ Some h → IsDigit d h
    by_number true within e =
        let low : 48 ≤ d = leb-true 48 d (and_parts (leb 48 d) (leb d 57) within).0 in
        let high : d ≤ 57 = leb-true d 57 (and_parts (leb 48 d) (leb d 57) within).1 in
        let here : d - 48 ≡ h = cc in
        record { small = omega (arith, low, high, here); spelled = grind (arith, nat_tests, low, high, here) }
    by_number false other e = by_letter (leb 97 d && leb d 102) refl e

-- what a number is spelled as stands for it
abbrev stands_for : Option ℕ → ℕ → Bool
stands_for (Some k) h = k == h
stands_for None h = false

stands : (o : Option ℕ) (h : ℕ) → stands_for o h ≡ true → o ≡ Some h
stands (Some k) h is = ap Some (eqb-true k h is)
stands None h is = absurd cc

digit_back : (h : ℕ) → h < 16 → digit_of (hex_digit h) ≡ Some h
digit_back h small = stands (digit_of (hex_digit h)) h (agree_below_at (λ k. stands_for (digit_of (hex_digit k)) k) (λ _. true) 16 h refl small)

-- ---- pairs of digits and their bytes

byte_spelled : (d e b : ℕ) → byte_of d e ≡ Some b → (d ∷ e ∷ [] ≡ hex_byte b) × (b < 256)
byte_spelled d e b is =
    let m = both_of (λ h l. 16 * h + l) (digit_of d) (digit_of e) b is in
    let high = digit_spelled d m.0 m.2 in
    let low = digit_spelled e m.1 m.3 in
    let up : b / 16 ≡ m.0 = omega (arith, m.4, high.small, low.small) in
    let down : b % 16 ≡ m.1 = omega (arith, m.4, high.small, low.small) in
    (ap₂ (λ x y. x ∷ y ∷ []) (high.spelled ∙ ap hex_digit (sym up)) (low.spelled ∙ ap hex_digit (sym down)), omega (arith, m.4, high.small, low.small))

pairs_spelled : (w bs : List ℕ) → pairs_of w ≡ Some bs → (w ≡ flat_map hex_byte bs) × (are_bytes bs ≡ true)
pairs_spelled [] bs is = let none : [] ≡ bs = cc in (ap (flat_map hex_byte) none, ap are_bytes (sym none))
pairs_spelled (d ∷ []) bs is = absurd cc
pairs_spelled (d ∷ e ∷ w) bs is =
    let m = both_of (λ b bs. b ∷ bs) (byte_of d e) (pairs_of w) bs is in
    let here = byte_spelled d e m.0 m.2 in
    let rest = pairs_spelled w m.1 m.3 in (
      ap₂ (λ p r. p ++ r) here.0 rest.0 ∙ ap (flat_map hex_byte) m.4,
      ap are_bytes (sym m.4) ∙ and_from (ltb m.0 256) (are_bytes m.1) (lt-ltb m.0 256 here.1) rest.1,
    )

pairs_back : (bs : List ℕ) → are_bytes bs ≡ true → pairs_of (flat_map hex_byte bs) ≡ Some bs
pairs_back [] h = refl
pairs_back (b ∷ bs) h =
    let parts = and_parts (ltb b 256) (are_bytes bs) h in
    let small = ltb-true b 256 parts.0 in
    let high = digit_back (b / 16) (omega (arith, small)) in
    let low = digit_back (b % 16) (omega arith) in
    let whole : 16 * (b / 16) + b % 16 ≡ b = omega arith in
    let here : byte_of (hex_digit (b / 16)) (hex_digit (b % 16)) ≡ Some b = both_is (λ h l. 16 * h + l) _ _ (b / 16) (b % 16) high low ∙ ap Some whole in
    both_is (λ b bs. b ∷ bs) _ _ b bs here (pairs_back bs parts.1)

-- ---- a word that isn't `-`

none_unless : {A : Type 0} (o : Option A) → ((x : A) → o ≡ Some x → ⊥) → o ≡ None
none_unless None never = refl
none_unless (Some x) never = absurd (never x refl)

pub hex_by_pairs : (w : List ℕ) → is_word (codes "-") w ≡ false → 0 < length w → hex_of w ≡ pairs_of w
hex_by_pairs w other some = by_pairs (pairs_of w) refl
  where
    by_bytes : (bs : List ℕ) → w ≡ flat_map hex_byte bs → are_bytes bs ≡ true → hex_of w ≡ Some bs
    by_bytes [] e h = absurd (omega (arith, some, ap length e))
    by_bytes (b ∷ bs) e h = ap hex_of e ∙ read_hex (b ∷ bs) h

    never : (x : List ℕ) → pairs_of w ≡ None → w ≡ hex_word x → are_bytes x ≡ true → ⊥
    never [] none e h = true≢false (sym (ap (is_word (codes "-")) e) ∙ other)
    never (b ∷ bs) none e h = let both : None ≡ Some (b ∷ bs) = sym none ∙ (ap pairs_of e ∙ pairs_back (b ∷ bs) h) in absurd cc

    by_pairs : (o : Option (List ℕ)) → pairs_of w ≡ o → hex_of w ≡ o
    by_pairs (Some bs) is = let p = pairs_spelled w bs is in by_bytes bs p.0 p.1
    by_pairs None is = none_unless (hex_of w) (λ x found. let p = hex_read w x found in never x is p.0 p.1)

pub hex_refused : {A : Type 0} (f : A → List ℕ) (fault : LineFault) (w : List ℕ) → hex_of w ≡ pairs_of w → ReadsAs f (Err fault) (pairs_of w) → Reads (Err fault) (hex_of w)
hex_refused f NotOfForm w same none = same ∙ none
hex_refused f Memory w same none = tt

-- ---- one byte after another

-- bytes before those that are read
abbrev pub behind_bytes : List ℕ → Option (List ℕ) → Option (List ℕ)
behind_bytes bs o = option_map (λ cs. bs ++ cs) o

one_more : (bs : List ℕ) (b : ℕ) (o : Option (List ℕ)) → behind_bytes bs (both (λ c cs. c ∷ cs) (Some b) o) ≡ behind_bytes (bs ++ b ∷ []) o
one_more bs b (Some cs) = ap Some (sym (append_assoc bs (b ∷ []) cs))
one_more bs b None = refl

pairs_more : (bs w : List ℕ) (d e b : ℕ) → byte_of d e ≡ Some b → behind_bytes bs (pairs_of (d ∷ e ∷ w)) ≡ behind_bytes (bs ++ b ∷ []) (pairs_of w)
pairs_more bs w d e b is = ap (λ x. behind_bytes bs (both (λ c cs. c ∷ cs) x (pairs_of w))) is ∙ one_more bs b (pairs_of w)

-- the same of a list by its length and its first two elements
two_first : (w : List ℕ) (x y : ℕ) → 2 ≤ length w → w ≡ get_or w 0 x ∷ get_or w 1 y ∷ take (length w - 2) (drop 2 w)
two_first [] x y two' = absurd (omega (arith, two'))
two_first (d ∷ []) x y two' = absurd (omega (arith, two'))
two_first (d ∷ e ∷ w) x y two' = let same : length (d ∷ e ∷ w) - 2 ≡ length w = omega arith in sym (ap (λ n. d ∷ e ∷ take n w) same ∙ ap (λ v. d ∷ e ∷ v) (take_all (length w) w (omega arith)))

pub pairs_next : (bs w all : List ℕ) (x y b : ℕ) → 2 ≤ length w → Some b ≡ byte_of (get_or w 0 x) (get_or w 1 y) → behind_bytes bs (pairs_of w) ≡ pairs_of all
    → behind_bytes (bs ++ b ∷ []) (pairs_of (take (length w - 2) (drop 2 w))) ≡ pairs_of all
pairs_next bs w all x y b two' is before =
    sym (ap (λ v. behind_bytes bs (pairs_of v)) (two_first w x y two') ∙ pairs_more bs (take (length w - 2) (drop 2 w)) (get_or w 0 x) (get_or w 1 y) b (sym is)) ∙ before
