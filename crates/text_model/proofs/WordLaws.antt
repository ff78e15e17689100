-- Words for texts, bytes, values, kinds and tags are read as what they were written of, and nothing else is.
use Rattle.std.proofs.Common.{◌≡◌, ◌≢◌, ℕ, zero, suc, ◌+◌, ◌*◌, ◌/◌, ◌%◌, ◌^◌, ◌<◌, ◌≤◌, ◌==◌, Bool, true, false, not, ◌&&◌, ◌||◌, cond, length, List, [], ◌∷◌, ◌++◌, Some, ℤ, pos, negsuc, refl, sym, ap, ◌∙◌, arith, eqb-true, eq-eqb, leb, leb-true, ltb, lt-ltb, ltb-true, option_map, codes, bytes_eq}
use Rattle.std.specs.List.{flat_map}
use Rattle.std.specs.Char.{digit_value}
use Rattle.std.specs.Fmt.{decimal, digits}
use Rattle.std.specs.Str.{all_ascii_digits, is_utf8}
use Rattle.std.proofs.lemmas.Bool.{agree_below_at, and_parts, and_from, not-true, false_from_ne_true, true≢false, ne_eqb}
use Rattle.lists.proofs.SameBytes.{same_bytes, bytes_eq_self}
use Rattle.percent_encoding.specs.Percent.{percent_decode}
use Rattle.percent_encoding.proofs.PercentLemmas.{percent_decode-nil, percent_decode_escape, percent_decode_not_percent}
use Rattle.lists.proofs.Options.{mapped_some}
use Rattle.schema_model.specs.declared.value.Value.{Value}
use Rattle.schema_model.specs.declared.value.Value.TheVariants.{Whole, Str, Truth, Link}
use Rattle.frame_model.specs.declared.frame.MsgKind.{MsgKind}
use Rattle.frame_model.specs.declared.frame.MsgKind.TheVariants.{Name, Num}
use Rattle.room_model.specs.Acts.{is_short_kind}
use Rattle.text_model.specs.Acts.{code_of, is_kick_code, is_kind, is_value, is_view_tag}
use Rattle.text_model.specs.Decimals.{decimal_below, signed_text, signed_within}
use Rattle.text_model.specs.Lines.{is_word, passing, some_if}
use Rattle.text_model.specs.Marks.{escape_digit, escaped, hex_byte, hex_digit, hex_word, is_id, quoted}
use Rattle.text_model.specs.Outputs.{kind_word}
use Rattle.text_model.specs.WordForms.{are_bytes, hex_of, hex_pairs, hex_value, id_of, is_text, kind_of, plain, plain_bytes, plain_of, plain_text_of, quoted_of, tag_of_word, truth_of, value_of, value_word, whole_of}
use Rattle.text_model.proofs.Choices.{choose_if, chosen_if, pass, passed}
use Rattle.text_model.proofs.DecimalLaw.{decimal_digits, decimal_read, decimal_some, read_decimal, read_signed, signed_read}

-- a word that is this one
pub word_is : (word w : List ℕ) → is_word word w ≡ true → w ≡ word
word_is word w h = same_bytes w word h

-- ---- escapes

-- a byte that stands for itself
abbrev is_bare : ℕ → Bool
is_bare b = leb 33 b && leb b 126 && not (b == 37)

digit_escaped : (d : ℕ) → d < 16 → digit_value (escape_digit d) ≡ d
digit_escaped d l = eqb-true (digit_value (escape_digit d)) d (agree_below_at (λ d. digit_value (escape_digit d) == d) (λ d. true) 16 d refl l)

escaped_decoded : (b : ℕ) (rest : List ℕ) → b < 256 → percent_decode (escaped b ++ rest) ≡ b ∷ percent_decode rest
escaped_decoded b rest small = by_test (is_bare b) refl
  where
    no_percent : is_bare b ≡ true → b ≢ 37
    no_percent bare same = true≢false (sym (eq-eqb b 37 same) ∙ not-true (b == 37) (and_parts (leb 33 b && leb b 126) (not (b == 37)) bare).1)

    by_test : (t : Bool) → is_bare b ≡ t → percent_decode (cond t (b ∷ []) (37 ∷ escape_digit (b / 16) ∷ escape_digit (b % 16) ∷ []) ++ rest) ≡ b ∷ percent_decode rest
    by_test true bare = percent_decode_not_percent b rest (no_percent bare)
    by_test false other =
        let high = digit_escaped (b / 16) (omega arith) in
        let low = digit_escaped (b % 16) (omega arith) in
        percent_decode_escape 37 (escape_digit (b / 16)) (escape_digit (b % 16)) rest refl (omega (arith, high)) (omega (arith, low)) ∙ ap (λ n. n ∷ percent_decode rest) (omega (arith, high, low))

pub escapes_decoded : (t : List ℕ) → are_bytes t ≡ true → percent_decode (flat_map escaped t) ≡ t
escapes_decoded [] h = percent_decode-nil
escapes_decoded (b ∷ bs) h =
    let parts = and_parts (ltb b 256) (are_bytes bs) h in
    escaped_decoded b (flat_map escaped bs) (ltb-true b 256 parts.0) ∙ ap (λ t. b ∷ t) (escapes_decoded bs parts.1)

-- ---- plain words

hyphen_decoded : percent_decode (codes "-") ≡ codes "-"
unfolding percent_decode
hyphen_decoded = refl

escape_decoded : percent_decode (codes "%2D") ≡ codes "-"
unfolding percent_decode
escape_decoded = refl

plain_back : (t : List ℕ) → are_bytes t ≡ true → plain_bytes (plain t) ≡ t
plain_back [] h = refl
plain_back (b ∷ bs) h = by_hyphen (is_word (codes "-") (b ∷ bs)) refl
  where
    spelled : List ℕ
    spelled = flat_map escaped (b ∷ bs)

    back : percent_decode (flat_map escaped (b ∷ bs)) ≡ b ∷ bs
    back = escapes_decoded (b ∷ bs) h

    by_spelled : is_word (codes "-") (b ∷ bs) ≡ false → (t : Bool) → is_word (codes "-") (flat_map escaped (b ∷ bs)) ≡ t → cond t [] (percent_decode (flat_map escaped (b ∷ bs))) ≡ b ∷ bs
    by_spelled other true same =
        let is : b ∷ bs ≡ codes "-" = sym back ∙ (ap percent_decode (word_is (codes "-") (flat_map escaped (b ∷ bs)) same) ∙ hyphen_decoded) in
        absurd (true≢false (sym (ap (is_word (codes "-")) is) ∙ other))
    by_spelled other false same = back

    by_hyphen : (t : Bool) → is_word (codes "-") (b ∷ bs) ≡ t → plain_bytes (cond t (codes "%2D") (flat_map escaped (b ∷ bs))) ≡ b ∷ bs
    by_hyphen true same = escape_decoded ∙ sym (word_is (codes "-") (b ∷ bs) same)
    by_hyphen false other = by_spelled other (is_word (codes "-") (flat_map escaped (b ∷ bs))) refl

pub plain_read : (w t : List ℕ) → plain_of w ≡ Some t → (w ≡ plain t) × (are_bytes t ≡ true)
plain_read w t h =
    let c = chosen_if (are_bytes (plain_bytes w) && bytes_eq (plain (plain_bytes w)) w) (plain_bytes w) t h in
    let parts = and_parts (are_bytes (plain_bytes w)) (bytes_eq (plain (plain_bytes w)) w) c.0 in
    (sym (same_bytes (plain (plain_bytes w)) w parts.1) ∙ ap plain c.1, ap are_bytes (sym c.1) ∙ parts.0)

pub read_plain : (t : List ℕ) → are_bytes t ≡ true → plain_of (plain t) ≡ Some t
read_plain t h =
    ap (λ s. some_if (are_bytes s && bytes_eq (plain s) (plain t)) s) (plain_back t h)
    ∙ choose_if (are_bytes t && bytes_eq (plain t) (plain t)) t (and_from (are_bytes t) (bytes_eq (plain t) (plain t)) h (bytes_eq_self (plain t)))

pub plain_text_read : (w t : List ℕ) → plain_text_of w ≡ Some t → (w ≡ plain t) × (is_text t ≡ true)
plain_text_read w t h =
    let p = passed is_text (plain_of w) t h in
    ((plain_read w t p.0).0, p.1)

pub read_plain_text : (t : List ℕ) → is_text t ≡ true → plain_text_of (plain t) ≡ Some t
read_plain_text t h = pass is_text (plain_of (plain t)) t (read_plain t (and_parts (are_bytes t) (is_utf8 t) h).0) h

-- ---- quoted words

pub quoted_read : (w t : List ℕ) → quoted_of w ≡ Some t → (w ≡ quoted t) × (is_text t ≡ true)
quoted_read [] t h = absurd (cc)
quoted_read (c ∷ w) t h =
    let p = passed is_text (some_if (bytes_eq (quoted (percent_decode w)) (c ∷ w)) (percent_decode w)) t h in
    let q = chosen_if (bytes_eq (quoted (percent_decode w)) (c ∷ w)) (percent_decode w) t p.0 in
    (sym (same_bytes (quoted (percent_decode w)) (c ∷ w) q.0) ∙ ap quoted q.1, p.1)

pub read_quoted : (t : List ℕ) → is_text t ≡ true → quoted_of (quoted t) ≡ Some t
read_quoted t h =
    let back = escapes_decoded t (and_parts (are_bytes t) (is_utf8 t) h).0 in
    pass is_text (some_if (bytes_eq (quoted (percent_decode (flat_map escaped t))) (quoted t)) (percent_decode (flat_map escaped t))) t
    (ap (λ s. some_if (bytes_eq (quoted s) (quoted t)) s) back ∙ choose_if (bytes_eq (quoted t) (quoted t)) t (bytes_eq_self (quoted t))) h

-- ---- bytes in hex

digit_in_hex : (d : ℕ) → d < 16 → hex_value (hex_digit d) ≡ d
digit_in_hex d l = eqb-true (hex_value (hex_digit d)) d (agree_below_at (λ d. hex_value (hex_digit d) == d) (λ d. true) 16 d refl l)

pairs_back : (bs : List ℕ) → are_bytes bs ≡ true → hex_pairs (flat_map hex_byte bs) ≡ bs
pairs_back [] h = refl
pairs_back (b ∷ bs) h =
    let parts = and_parts (ltb b 256) (are_bytes bs) h in
    let small = ltb-true b 256 parts.0 in
    let high = digit_in_hex (b / 16) (omega arith) in
    let low = digit_in_hex (b % 16) (omega arith) in
    let byte : 16 * hex_value (hex_digit (b / 16)) + hex_value (hex_digit (b % 16)) ≡ b = omega (arith, high, low) in
    (λ i. byte i ∷ pairs_back bs parts.1 i)

hex_back : (bs : List ℕ) → are_bytes bs ≡ true → hex_pairs (hex_word bs) ≡ bs
hex_back [] h = refl
hex_back (b ∷ bs) h = pairs_back (b ∷ bs) h

pub hex_read : (w bs : List ℕ) → hex_of w ≡ Some bs → (w ≡ hex_word bs) × (are_bytes bs ≡ true)
hex_read w bs h =
    let c = chosen_if (are_bytes (hex_pairs w) && bytes_eq (hex_word (hex_pairs w)) w) (hex_pairs w) bs h in
    let parts = and_parts (are_bytes (hex_pairs w)) (bytes_eq (hex_word (hex_pairs w)) w) c.0 in
    (sym (same_bytes (hex_word (hex_pairs w)) w parts.1) ∙ ap hex_word c.1, ap are_bytes (sym c.1) ∙ parts.0)

pub read_hex : (bs : List ℕ) → are_bytes bs ≡ true → hex_of (hex_word bs) ≡ Some bs
read_hex bs h =
    ap (λ s. some_if (are_bytes s && bytes_eq (hex_word s) (hex_word bs)) s) (hex_back bs h)
    ∙ choose_if (are_bytes bs && bytes_eq (hex_word bs) (hex_word bs)) bs (and_from (are_bytes bs) (bytes_eq (hex_word bs) (hex_word bs)) h (bytes_eq_self (hex_word bs)))

-- ---- ids

pub id_read : (w id : List ℕ) → id_of w ≡ Some id → (w ≡ id) × (is_id id ≡ true)
id_read w id h =
    let c = chosen_if (is_id w) w id h in
    (c.1, ap is_id (sym c.1) ∙ c.0)

pub read_id : (id : List ℕ) → is_id id ≡ true → id_of id ≡ Some id
read_id id h = choose_if (is_id id) id h

-- ---- values

truth_read : (w : List ℕ) (v : Value) → truth_of w ≡ Some v → (w ≡ value_word v) × (is_value v ≡ true)
truth_read w v h = by_true (is_word (codes "true") w) refl h
  where
    by_true : (t : Bool) → is_word (codes "true") w ≡ t → cond t (Some (Truth true)) (some_if (is_word (codes "false") w) (Truth false)) ≡ Some v → (w ≡ value_word v) × (is_value v ≡ true)
    by_true true same k =
        let is : Truth true ≡ v = cc in
        (word_is (codes "true") w same ∙ ap value_word is, ap is_value (sym is))
    by_true false other k =
        let c = chosen_if (is_word (codes "false") w) (Truth false) v k in
        (word_is (codes "false") w c.0 ∙ ap value_word c.1, ap is_value (sym c.1))

whole_read : (w : List ℕ) (v : Value) → whole_of w ≡ Some v → (w ≡ value_word v) × (is_value v ≡ true)
whole_read w v h =
    let m = mapped_some Whole (signed_within (2 ^ 127) w) v h in
    let z = signed_read (2 ^ 127) w m.0 (omega arith) m.1 in
    (z.0 ∙ ap value_word m.2, ap is_value (sym m.2) ∙ z.1)

pub value_read : (w : List ℕ) (v : Value) → value_of w ≡ Some v → (w ≡ value_word v) × (is_value v ≡ true)
value_read [] v h = absurd (cc)
value_read (c ∷ w) v h = by_quote (c == 39) h
  where
    by_false : (t : Bool) → cond t (truth_of (c ∷ w)) (whole_of (c ∷ w)) ≡ Some v → (c ∷ w ≡ value_word v) × (is_value v ≡ true)
    by_false true k = truth_read (c ∷ w) v k
    by_false false k = whole_read (c ∷ w) v k

    by_true : (t : Bool) → cond t (truth_of (c ∷ w)) (cond (c == 102) (truth_of (c ∷ w)) (whole_of (c ∷ w))) ≡ Some v → (c ∷ w ≡ value_word v) × (is_value v ≡ true)
    by_true true k = truth_read (c ∷ w) v k
    by_true false k = by_false (c == 102) k

    by_link : (t : Bool) → (c == 35) ≡ t → cond t (option_map Link (decimal_below (2 ^ 32) w)) (cond (c == 116) (truth_of (c ∷ w)) (cond (c == 102) (truth_of (c ∷ w)) (whole_of (c ∷ w)))) ≡ Some v → (c ∷ w ≡ value_word v) × (is_value v ≡ true)
    by_link true is k =
        let m = mapped_some Link (decimal_below (2 ^ 32) w) v k in
        let n = decimal_read (2 ^ 32) w m.0 (omega arith) m.1 in
        ((λ i. eqb-true c 35 is i ∷ n.0 i) ∙ ap value_word m.2, ap is_value (sym m.2) ∙ lt-ltb m.0 (2 ^ 32) n.1)
    by_link false is k = by_true (c == 116) k

    by_quote : (t : Bool) → cond t (option_map Str (quoted_of (c ∷ w))) (cond (c == 35) (option_map Link (decimal_below (2 ^ 32) w)) (cond (c == 116) (truth_of (c ∷ w)) (cond (c == 102) (truth_of (c ∷ w)) (whole_of (c ∷ w))))) ≡ Some v
        → (c ∷ w ≡ value_word v) × (is_value v ≡ true)
    by_quote true k =
        let m = mapped_some Str (quoted_of (c ∷ w)) v k in
        let q = quoted_read (c ∷ w) m.0 m.1 in
        (q.0 ∙ ap value_word m.2, ap is_value (sym m.2) ∙ q.1)
    by_quote false k = by_link (c == 35) refl k

-- the first byte of a whole number is `-` or a digit
plainly : (c : ℕ) (w : List ℕ) → (c == 39) ≡ false → (c == 35) ≡ false → (c == 116) ≡ false → (c == 102) ≡ false → value_of (c ∷ w) ≡ whole_of (c ∷ w)
plainly c w a b d e = rw (a, b, d, e) refl

digit_apart : (c : ℕ) → 45 ≤ c → c ≤ 57 → ((c == 39) ≡ false) × ((c == 35) ≡ false) × ((c == 116) ≡ false) × ((c == 102) ≡ false)
digit_apart c low high = (ne_eqb c 39 (λ e. omega (arith, e)), ne_eqb c 35 (λ e. omega (arith, e)), ne_eqb c 116 (λ e. omega (arith, e)), ne_eqb c 102 (λ e. omega (arith, e)))

whole_first : (w : List ℕ) → all_ascii_digits w ≡ true → value_of w ≡ whole_of w
whole_first [] h = refl
whole_first (c ∷ w) h =
    let parts = and_parts (leb 48 c) (leb c 57) (and_parts (leb 48 c && leb c 57) (all_ascii_digits w) h).0 in
    let apart = digit_apart c (omega (arith, leb-true 48 c parts.0)) (leb-true c 57 parts.1) in
    plainly c w apart.0 apart.1 apart.2 apart.3

pub read_value : (v : Value) → is_value v ≡ true → value_of (value_word v) ≡ Some v
read_value (Str t) h = ap (option_map Str) (read_quoted t h)
read_value (Truth true) h = refl
read_value (Truth false) h = refl
read_value (Link n) h = ap (option_map Link) (read_decimal (2 ^ 32) n (omega arith) (ltb-true n (2 ^ 32) h))
read_value (Whole (negsuc n)) h = ap (option_map Whole) (read_signed (2 ^ 127) (negsuc n) (omega arith) h)
read_value (Whole (pos n)) h = whole_first (decimal n) (decimal_digits n (omega (arith, ltb-true n (2 ^ 127) h))) ∙ ap (option_map Whole) (read_signed (2 ^ 127) (pos n) (omega arith) h)

-- ---- kinds and tags

one_is : codes "-1" ≡ signed_text (negsuc 0)
unfolding digits
one_is = refl

-- digits aren't `-1`
no_minus : (w : List ℕ) → all_ascii_digits w ≡ true → is_word (codes "-1") w ≡ false
no_minus w h = false_from_ne_true (is_word (codes "-1") w) (λ e. true≢false (sym h ∙ ap all_ascii_digits (word_is (codes "-1") w e)))

-- a code of a kick is one of a connection
pub code_low : (n : ℕ) → is_kick_code n ≡ true → n < 65536
code_low n h = by_one (n == 1000) refl h
  where
    by_one : (t : Bool) → (n == 1000) ≡ t → (t || (leb 4000 n && leb n 4999)) ≡ true → n < 65536
    by_one true is k = omega (arith, eqb-true n 1000 is)
    by_one false is k = omega (arith, leb-true n 4999 (and_parts (leb 4000 n) (leb n 4999) k).1)

pub kind_read : (w : List ℕ) (k : MsgKind) → kind_of w ≡ Some k → (w ≡ kind_word k) × (is_kind k ≡ true)
kind_read [] k h = absurd (cc)
kind_read (c ∷ w) k h = by_quote (c == 39) h
  where
    by_quote : (t : Bool) → cond t (passing is_short_kind (option_map Name (quoted_of (c ∷ w)))) (option_map Num (signed_within (2 ^ 31) (c ∷ w))) ≡ Some k → (c ∷ w ≡ kind_word k) × (is_kind k ≡ true)
    by_quote true h =
        let p = passed is_short_kind (option_map Name (quoted_of (c ∷ w))) k h in
        let m = mapped_some Name (quoted_of (c ∷ w)) k p.0 in
        let q = quoted_read (c ∷ w) m.0 m.1 in
        (q.0 ∙ ap kind_word m.2, ap is_kind (sym m.2) ∙ and_from (is_text m.0) _ q.1 (ap is_short_kind m.2 ∙ p.1))
    by_quote false h =
        let m = mapped_some Num (signed_within (2 ^ 31) (c ∷ w)) k h in
        let z = signed_read (2 ^ 31) (c ∷ w) m.0 (omega arith) m.1 in
        (z.0 ∙ ap kind_word m.2, ap is_kind (sym m.2) ∙ z.1)

number_kind : (w : List ℕ) → all_ascii_digits w ≡ true → 0 < length w → kind_of w ≡ option_map Num (signed_within (2 ^ 31) w)
number_kind [] h some = absurd (omega arith)
number_kind (c ∷ w) h some =
    let parts = and_parts (leb 48 c) (leb c 57) (and_parts (leb 48 c && leb c 57) (all_ascii_digits w) h).0 in
    let apart = digit_apart c (omega (arith, leb-true 48 c parts.0)) (leb-true c 57 parts.1) in
    rw (apart.0) refl

pub read_kind : (k : MsgKind) → is_kind k ≡ true → kind_of (kind_word k) ≡ Some k
read_kind (Name t) h = (let p = and_parts (is_text t) (is_short_kind (Name t)) h in pass is_short_kind _ (Name t) (ap (option_map Name) (read_quoted t p.0)) p.1)
read_kind (Num (negsuc n)) h = ap (option_map Num) (read_signed (2 ^ 31) (negsuc n) (omega arith) h)
read_kind (Num (pos n)) h =
    let small : n < 10 ^ 64 = omega (arith, ltb-true n (2 ^ 31) h) in
    number_kind (decimal n) (decimal_digits n small) (decimal_some n small) ∙ ap (option_map Num) (read_signed (2 ^ 31) (pos n) (omega arith) h)

pub tag_read : (w : List ℕ) (z : ℤ) → tag_of_word w ≡ Some z → (w ≡ signed_text z) × (is_view_tag z ≡ true)
tag_read w z h = by_default (is_word (codes "-1") w) refl h
  where
    by_default : (t : Bool) → is_word (codes "-1") w ≡ t → cond t (Some (negsuc 0)) (option_map pos (decimal_below 256 w)) ≡ Some z → (w ≡ signed_text z) × (is_view_tag z ≡ true)
    by_default true same k =
        let is : negsuc 0 ≡ z = cc in
        (word_is (codes "-1") w same ∙ (one_is ∙ ap signed_text is), ap is_view_tag (sym is))
    by_default false other k =
        let m = mapped_some pos (decimal_below 256 w) z k in
        let n = decimal_read 256 w m.0 (omega arith) m.1 in
        (n.0 ∙ ap signed_text m.2, ap is_view_tag (sym m.2) ∙ lt-ltb m.0 256 n.1)

pub read_tag : (z : ℤ) → is_view_tag z ≡ true → tag_of_word (signed_text z) ≡ Some z
read_tag (negsuc zero) h = ap tag_of_word (sym one_is)
read_tag (negsuc (suc n)) h = absurd (omega (arith, eqb-true (suc n) 0 h))
read_tag (pos n) h =
    let low = ltb-true n 256 h in
    let small : n < 10 ^ 64 = omega (arith, low) in
    ap (λ b. cond b (Some (negsuc 0)) (option_map pos (decimal_below 256 (decimal n)))) (no_minus (decimal n) (decimal_digits n small)) ∙ ap (option_map pos) (read_decimal 256 n (omega arith) low)

-- ---- codes and times

pub code_read : (w : List ℕ) (n : ℕ) → code_of w ≡ Some n → (w ≡ decimal n) × (is_kick_code n ≡ true)
code_read w n h =
    let p = passed is_kick_code (decimal_below 65536 w) n h in
    ((decimal_read 65536 w n (omega arith) p.0).0, p.1)

pub read_code : (n : ℕ) → is_kick_code n ≡ true → code_of (decimal n) ≡ Some n
read_code n h = pass is_kick_code (decimal_below 65536 (decimal n)) n (read_decimal 65536 n (omega arith) (code_low n h)) h
