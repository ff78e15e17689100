-- Where texts lead while items with texts are put in and taken out.
use Rattle.std.proofs.Common.{◌≡◌, ℕ, Bool, true, false, cond, not, ◌&&◌, ◌==◌, List, [], ◌∷◌, ◌++◌, Option, Some, None, refl, sym, ap, subst, ◌∙◌, arith}
use Rattle.std.specs.Map.{update}
use Rattle.std.specs.Option.{option_and_then, option_map}
use Rattle.std.specs.Str.{bytes_eq}
use Rattle.std.proofs.lemmas.Bool.{and_parts}
use Rattle.std.proofs.lemmas.Bool.Decides.{nat_tests}
use Rattle.lists.specs.Rising.{IsAbove, find, put, remove}
use Rattle.lists.proofs.RisingLaws.{find_above, find-append, find-put, find-remove}
use Rattle.lists.proofs.SameBytes.{same_bytes, bytes_eq_self}
use Rattle.trees.specs.declared.text_index.TextIndex.{TextIndex}
use Rattle.trees.specs.Texts.{text_hash, under, by_itself, text_of, is_text, has_text, leads, IsEmpty, IsSame, is_free, is_found, IsWith, IsWithout, IsLean, IsIndexOf}

-- ---- the texts of items

-- what is tested for a text is it
pub text-is : (text : List ℕ) (o : Option (List ℕ)) → is_text text o ≡ true → o ≡ Some text
text-is text None h = cc
text-is text (Some t) h = ap Some (same_bytes t text h)

module _ {E : Type 0} (number : E → ℕ) (text : E → Option (List ℕ)) where
  pub text-push : (es : List E) (x : E) (k : ℕ) → IsAbove number (number x) es → text_of number text (es ++ x ∷ []) k ≡ cond (number x == k) (text x) (text_of number text es k)
  text-push es x k above = grind (arith, nat_tests, find-append number es (x ∷ []) k, find_above number (number x) es k)

  pub text-put : (es : List E) (x : E) (k : ℕ) → text_of number text (put number x es) k ≡ cond (number x == k) (text x) (text_of number text es k)
  text-put es x k = grind (arith, nat_tests, find-put number x es k)

  pub text-remove : (es : List E) (n k : ℕ) → text_of number text (remove number n es) k ≡ cond (n == k) None (text_of number text es k)
  text-remove es n k = grind (arith, nat_tests, find-remove number n es k)

  -- no item has a number that is above theirs
  pub text-above : (es : List E) (n : ℕ) → IsAbove number n es → text_of number text es n ≡ None
  text-above es n above = ap (option_and_then text) (find_above number n es n above (omega arith))

  -- an item in the place of one with its text
  pub text-again : (es : List E) (x y : E) (n : ℕ) → number x ≡ n → find number n es ≡ Some y → text x ≡ text y → (k : ℕ) → text_of number text (put number x es) k ≡ text_of number text es k
  text-again es x y n is at same k =
      let here : text_of number text es n ≡ text x = ap (option_and_then text) at ∙ sym same in
      let go : (b : Bool) → (number x == k) ≡ b → cond b (text x) (text_of number text es k) ≡ text_of number text es k = elim [
        | true ↦ λ h. (let at_k : n ≡ k = grind (arith, nat_tests, is, h) in sym here ∙ ap (text_of number text es) at_k)
        | false ↦ λ h. refl
      ] in text-put es x k ∙ go (number x == k) refl

-- ---- nothing leads anywhere, or all leads where it led

module _ (texts : ℕ → Option (List ℕ)) (index : TextIndex) (is : IsEmpty index) where
  pub leads-empty : (q : List ℕ) → leads texts index q ≡ None
  leads-empty q = grind (arith, is.hashes (text_hash q), is.others q)

  pub IsLean-empty : IsLean texts index
  IsLean-empty = record { hashes = λ h n at. absurd (clash (is.hashes h) at); others = λ q n at. absurd (clash (is.others q) at) }
    where
      clash : {n : ℕ} {o : Option ℕ} → o ≡ None → o ≡ Some n → ⊥
      clash none some = cc

module _ (texts now : ℕ → Option (List ℕ)) (same : (k : ℕ) → now k ≡ texts k) (old new : TextIndex) (is : IsSame old new) where
  has-same : (q : List ℕ) (u : Option ℕ) → has_text now q u ≡ has_text texts q u
  has-same q None = refl
  has-same q (Some m) = ap (is_text q) (same m)

  has-kept : (q : List ℕ) → has_text now q (under new (text_hash q)) ≡ has_text texts q (under old (text_hash q))
  has-kept q = has-same q (under new (text_hash q)) ∙ ap (has_text texts q) (is.hashes (text_hash q))

  pub leads-same : (q : List ℕ) → leads now new q ≡ leads texts old q
  leads-same q = grind (arith, has-kept q, is.hashes (text_hash q), is.others q)

  pub IsLean-same : IsLean texts old → IsLean now new
  IsLean-same lean = record {
    hashes = λ h n at. ap (option_map text_hash) (same n) ∙ lean.hashes h n (sym (is.hashes h) ∙ at);
    others = λ q n at. (let was = lean.others q n (sym (is.others q) ∙ at) in (same n ∙ was.0, has-kept q ∙ was.1));
  }

-- ---- a text more

module _ (texts now : ℕ → Option (List ℕ)) (old new : TextIndex) (text : List ℕ) (n : ℕ) (more : (k : ℕ) → now k ≡ cond (n == k) (Some text) (texts k)) (none : texts n ≡ None) (is : IsWith old new text n)
    (absent : leads texts old text ≡ None) where
  here : now n ≡ Some text
  here = grind (arith, nat_tests, more n)

  stays : (k : ℕ) (t : List ℕ) → texts k ≡ Some t → now k ≡ Some t
  stays k t at = grind (arith, nat_tests, more k, none)

  -- the text has no number of its own yet
  alone : by_itself old text ≡ None
  alone = grind (arith, absent)

  -- the item under a hash has another text than this one
  has-more : (q : List ℕ) (u : Option ℕ) → bytes_eq text q ≡ false → has_text now q u ≡ has_text texts q u
  has-more q None apart = refl
  has-more q (Some m) apart = grind (arith, nat_tests, more m, none)

  -- a free hash has no item with a text
  free-none : (q : List ℕ) (u : Option ℕ) → is_free n u ≡ true → has_text texts q u ≡ false
  free-none q None h = refl
  free-none q (Some m) h = grind (arith, nat_tests, none, h)

  own : (u : Option ℕ) → under old (text_hash text) ≡ u → leads now new text ≡ Some n
  own None at = grind (arith, nat_tests, is.hashes (text_hash text), at, here, bytes_eq_self text)
  own (Some m) at = grind (arith, nat_tests, is.hashes (text_hash text), is.others text, at, here, bytes_eq_self text, more m, absent)

  other : (q : List ℕ) → bytes_eq text q ≡ false → (turned : Bool) → (is_free n (under old (text_hash text)) && (text_hash text == text_hash q)) ≡ turned →
      (has_text now q (under new (text_hash q)) ≡ has_text texts q (under old (text_hash q))) × (leads now new q ≡ leads texts old q)
  other q apart turned at = (has turned at, grind (arith, has turned at, is.hashes (text_hash q), at, is.others q, apart))
    where
      has : (turned : Bool) → (is_free n (under old (text_hash text)) && (text_hash text == text_hash q)) ≡ turned → has_text now q (under new (text_hash q)) ≡ has_text texts q (under old (text_hash q))
      has true at =
          let turned_to : under new (text_hash q) ≡ Some n = is.hashes (text_hash q) ∙ ap (λ b. cond b (Some n) (under old (text_hash q))) at in
          let same : text_hash text ≡ text_hash q = grind (arith, nat_tests, at) in
          let free : is_free n (under old (text_hash q)) ≡ true = grind (arith, nat_tests, at, same) in
          ap (has_text now q) turned_to ∙ (ap (is_text q) here ∙ (apart ∙ sym (free-none q (under old (text_hash q)) free)))
      has false at = ap (has_text now q) (is.hashes (text_hash q) ∙ ap (λ b. cond b (Some n) (under old (text_hash q))) at) ∙ has-more q (under old (text_hash q)) apart

  pub leads-with : (q : List ℕ) → leads now new q ≡ update bytes_eq (leads texts old) text (Some n) q
  leads-with q = by_test (bytes_eq text q) refl
    where
      by_test : (b : Bool) → bytes_eq text q ≡ b → leads now new q ≡ cond b (Some n) (leads texts old q)
      by_test true same = subst (λ t. leads now new t ≡ Some n) (same_bytes text q same) (own (under old (text_hash text)) refl)
      by_test false apart = (other q apart (is_free n (under old (text_hash text)) && (text_hash text == text_hash q)) refl).1

  -- the item under a hash that is taken has another text
  taken-other : (u : Option ℕ) → under old (text_hash text) ≡ u → is_free n u ≡ false → has_text now text (under new (text_hash text)) ≡ false
  taken-other None at h = cc
  taken-other (Some m) at h = grind (arith, nat_tests, is.hashes (text_hash text), at, h, absent, more m)

  pub IsLean-with : IsLean texts old → IsLean now new
  IsLean-with lean = record { hashes = λ h k. by_hash h k (free && (text_hash text == h)) refl; others = λ q k. by_text q k (not free && bytes_eq text q) refl }
    where
      free : Bool
      free = is_free n (under old (text_hash text))

      by_hash : (h k : ℕ) (turned : Bool) → (free && (text_hash text == h)) ≡ turned → under new h ≡ Some k → option_map text_hash (now k) ≡ Some h
      by_hash h k true turned at = grind (arith, nat_tests, is.hashes h, turned, at, here)
      by_hash h k false turned at =
          let was = lean.hashes h k (sym (is.hashes h ∙ ap (λ b. cond b (Some n) (under old h)) turned) ∙ at) in
          grind (arith, nat_tests, more k, none, was)

      by_text : (q : List ℕ) (k : ℕ) (turned : Bool) → (not free && bytes_eq text q) ≡ turned → by_itself new q ≡ Some k → (now k ≡ Some q) × (has_text now q (under new (text_hash q)) ≡ false)
      by_text q k true turned at =
          let parts = and_parts (not free) (bytes_eq text q) turned in
          let taken : free ≡ false = grind (arith, parts.0) in
          let is_q : text ≡ q = same_bytes text q parts.1 in
          let number : n ≡ k = grind (arith, is.others q, turned, at) in
          rw (← is_q, ← number) (here, taken-other (under old (text_hash text)) refl taken)
      by_text q k false turned at = by_test (bytes_eq text q) refl
        where
          before : by_itself old q ≡ Some k
          before = sym (is.others q ∙ ap (λ b. cond b (Some n) (by_itself old q)) turned) ∙ at

          by_test : (b : Bool) → bytes_eq text q ≡ b → (now k ≡ Some q) × (has_text now q (under new (text_hash q)) ≡ false)
          by_test true same = absurd (let none_here : by_itself old q ≡ None = subst (λ t. by_itself old t ≡ None) (same_bytes text q same) alone in cc (before))
          by_test false apart =
              let was = lean.others q k before in
              (stays k q was.0, (other q apart (free && (text_hash text == text_hash q)) refl).0 ∙ was.1)

-- ---- a text less

module _ (texts now : ℕ → Option (List ℕ)) (old new : TextIndex) (text : List ℕ) (n : ℕ) (less : (k : ℕ) → now k ≡ cond (n == k) None (texts k)) (is : IsWithout old new text n) (lean : IsLean texts old)
    (led : leads texts old text ≡ Some n) where
  -- the number is that of the item with the text
  there : texts n ≡ Some text
  there = by_first (under old (text_hash text)) refl
    where
      by_first : (u : Option ℕ) → under old (text_hash text) ≡ u → texts n ≡ Some text
      by_first None at = (lean.others text n (grind (arith, led, at))).0
      by_first (Some m) at = by_test (is_text text (texts m)) refl
        where
          by_test : (b : Bool) → is_text text (texts m) ≡ b → texts n ≡ Some text
          by_test true has = (let same : m ≡ n = grind (arith, led, at, has) in subst (λ k. texts k ≡ Some text) same (text-is text (texts m) has))
          by_test false has = (lean.others text n (grind (arith, led, at, has))).0

  gone : now n ≡ None
  gone = grind (arith, nat_tests, less n)

  none-has : (q : List ℕ) (u : Option ℕ) → bytes_eq text q ≡ false → has_text now q u ≡ has_text texts q u
  none-has q None apart = refl
  none-has q (Some m) apart = grind (arith, nat_tests, less m, there, apart)

  own-out : (u : Option ℕ) → under old (text_hash text) ≡ u → leads now new text ≡ None
  own-out None at = grind (arith, is.hashes (text_hash text), is.others text, bytes_eq_self text, at)
  own-out (Some m) at = by_test (m == n) refl
    where
      -- no other number besides, where the number stands under the hash
      none_besides : (o : Option ℕ) → by_itself old text ≡ o → (m == n) ≡ true → o ≡ None
      none_besides None b same = refl
      none_besides (Some k) b same = (let was = (lean.others text k b).1 in grind (arith, nat_tests, was, at, same, there, bytes_eq_self text))

      by_test : (b : Bool) → (m == n) ≡ b → leads now new text ≡ None
      by_test true same =
          let free : under new (text_hash text) ≡ None = grind (arith, nat_tests, is.hashes (text_hash text), at, same) in
          let kept : by_itself new text ≡ by_itself old text = grind (arith, nat_tests, is.others text, at, same) in
          ap (λ v. cond (has_text now text v) v (by_itself new text)) free ∙ (kept ∙ none_besides (by_itself old text) refl same)
      by_test false apart = grind (arith, nat_tests, is.hashes (text_hash text), is.others text, bytes_eq_self text, at, apart, less m, led)

  -- which number a hash has then
  abbrev found : Bool
  found = is_found n (under old (text_hash text))

  found-is : (u : Option ℕ) → is_found n u ≡ true → u ≡ Some n
  found-is None h = cc
  found-is (Some m) h = grind (arith, nat_tests, h)

  hash-out : (h : ℕ) (turned : Bool) → (found && (text_hash text == h)) ≡ turned → under new h ≡ cond turned None (under old h)
  hash-out h turned at = is.hashes h ∙ ap (λ b. cond b None (under old h)) at

  other-out : (q : List ℕ) → bytes_eq text q ≡ false → leads now new q ≡ leads texts old q
  other-out q apart = by_turn (found && (text_hash text == text_hash q)) refl
    where
      kept : by_itself new q ≡ by_itself old q
      kept = grind (arith, is.others q, apart)

      by_turn : (turned : Bool) → (found && (text_hash text == text_hash q)) ≡ turned → leads now new q ≡ leads texts old q
      by_turn true at =
          let same : text_hash text ≡ text_hash q = grind (arith, nat_tests, at) in
          let was : under old (text_hash q) ≡ Some n = found-is (under old (text_hash q)) (grind (arith, nat_tests, at, same)) in
          grind (arith, hash-out (text_hash q) true at, kept, was, there, apart)
      by_turn false at = grind (arith, hash-out (text_hash q) false at, kept, none-has q (under old (text_hash q)) apart)

  pub leads-without : (q : List ℕ) → leads now new q ≡ update bytes_eq (leads texts old) text None q
  leads-without q = by_test (bytes_eq text q) refl
    where
      by_test : (b : Bool) → bytes_eq text q ≡ b → leads now new q ≡ cond b None (leads texts old q)
      by_test true same = subst (λ t. leads now new t ≡ None) (same_bytes text q same) (own-out (under old (text_hash text)) refl)
      by_test false apart = other-out q apart

  -- another number has the text that it had
  stays-out : (k : ℕ) → (n == k) ≡ false → now k ≡ texts k
  stays-out k apart = grind (arith, nat_tests, less k, apart)

  none-out : (q : List ℕ) (u : Option ℕ) → has_text texts q u ≡ false → has_text now q u ≡ false
  none-out q None h = refl
  none-out q (Some m) h = grind (arith, nat_tests, less m, h)

  pub IsLean-without : IsLean now new
  IsLean-without = record { hashes = λ h k. by_hash h k (found && (text_hash text == h)) refl; others = λ q k. by_text q k (not found && bytes_eq text q) refl }
    where
      by_hash : (h k : ℕ) (turned : Bool) → (found && (text_hash text == h)) ≡ turned → under new h ≡ Some k → option_map text_hash (now k) ≡ Some h
      by_hash h k true turned at = absurd (let none = hash-out h true turned in cc)
      by_hash h k false turned at = by_test (n == k) refl
        where
          before : under old h ≡ Some k
          before = sym (hash-out h false turned) ∙ at

          -- the number that is taken out had that hash
          clash : (n == k) ≡ true → ⊥
          clash same =
              let number : n ≡ k = grind (arith, nat_tests, same) in
              let hash : text_hash text ≡ h = grind (arith, nat_tests, lean.hashes h k before, there, number) in
              let has : found ≡ true = grind (arith, nat_tests, before, hash, number) in
              let both : (found && (text_hash text == h)) ≡ true = grind (arith, nat_tests, has, hash) in
              cc

          by_test : (b : Bool) → (n == k) ≡ b → option_map text_hash (now k) ≡ Some h
          by_test true same = absurd (clash same)
          by_test false apart = ap (option_map text_hash) (stays-out k apart) ∙ lean.hashes h k before

      by_text : (q : List ℕ) (k : ℕ) (turned : Bool) → (not found && bytes_eq text q) ≡ turned → by_itself new q ≡ Some k → (now k ≡ Some q) × (has_text now q (under new (text_hash q)) ≡ false)
      by_text q k true turned at = absurd (let none : by_itself new q ≡ None = is.others q ∙ ap (λ b. cond b None (by_itself old q)) turned in cc)
      by_text q k false turned at = by_test (n == k) refl
        where
          was : (texts k ≡ Some q) × (has_text texts q (under old (text_hash q)) ≡ false)
          was = lean.others q k (sym (is.others q ∙ ap (λ b. cond b None (by_itself old q)) turned) ∙ at)

          by_turn : (out : Bool) → (found && (text_hash text == text_hash q)) ≡ out → has_text now q (under new (text_hash q)) ≡ false
          by_turn true out = ap (has_text now q) (hash-out (text_hash q) true out)
          by_turn false out = ap (has_text now q) (hash-out (text_hash q) false out) ∙ none-out q (under old (text_hash q)) was.1

          -- the text itself has no number besides, if its number stands under the hash
          clash : (n == k) ≡ true → ⊥
          clash same =
              let number : n ≡ k = grind (arith, nat_tests, same) in
              let is_q : text ≡ q = grind (arith, was.0, there, number) in
              let has : found ≡ true = grind (arith, turned, is_q, bytes_eq_self text) in
              let stands : under old (text_hash q) ≡ Some n = ap (λ t. under old (text_hash t)) (sym is_q) ∙ found-is (under old (text_hash text)) has in
              let without : has_text texts q (Some n) ≡ false = sym (ap (has_text texts q) stands) ∙ was.1 in
              let with : has_text texts q (Some n) ≡ true = ap (is_text q) there ∙ (ap (λ t. bytes_eq t q) is_q ∙ bytes_eq_self q) in
              cc

          by_test : (b : Bool) → (n == k) ≡ b → (now k ≡ Some q) × (has_text now q (under new (text_hash q)) ≡ false)
          by_test true same = absurd (clash same)
          by_test false apart = (stays-out k apart ∙ was.0, by_turn (found && (text_hash text == text_hash q)) refl)

-- ---- a text more and less again

module _ (texts : ℕ → Option (List ℕ)) (old between new : TextIndex) (text : List ℕ) (n : ℕ) (none : texts n ≡ None) (absent : leads texts old text ≡ None) (more : IsWith old between text n) (less : IsWithout between new text n)
    (lean : IsLean texts old) where
  -- the texts in between
  abbrev with_text : ℕ → Option (List ℕ)
  with_text k = cond (n == k) (Some text) (texts k)

  back : (k : ℕ) → texts k ≡ cond (n == k) None (with_text k)
  back k = grind (arith, nat_tests, none)

  leads-between : (q : List ℕ) → leads with_text between q ≡ update bytes_eq (leads texts old) text (Some n) q
  leads-between = leads-with texts with_text old between text n (λ k. refl) none more absent

  lean-between : IsLean with_text between
  lean-between = IsLean-with texts with_text old between text n (λ k. refl) none more absent lean

  led : leads with_text between text ≡ Some n
  led = leads-between text ∙ ap (λ b. cond b (Some n) (leads texts old text)) (bytes_eq_self text)

  pub leads-undone : (q : List ℕ) → leads texts new q ≡ leads texts old q
  leads-undone q = by_test (bytes_eq text q) refl
    where
      out : leads texts new q ≡ update bytes_eq (leads with_text between) text None q
      out = leads-without with_text texts between new text n back less lean-between led q

      by_test : (b : Bool) → bytes_eq text q ≡ b → leads texts new q ≡ leads texts old q
      by_test true same = out ∙ (ap (λ b. cond b None (leads with_text between q)) same ∙ subst (λ t. None ≡ leads texts old t) (same_bytes text q same) (sym absent))
      by_test false apart = out ∙ (ap (λ b. cond b None (leads with_text between q)) apart ∙ (leads-between q ∙ ap (λ b. cond b (Some n) (leads texts old q)) apart))

  pub IsLean-undone : IsLean texts new
  IsLean-undone = IsLean-without with_text texts between new text n back less lean-between led

-- ---- the index of items no two of which have one text

-- the texts stay
pub index-same : (texts now : ℕ → Option (List ℕ)) (index : TextIndex) → ((k : ℕ) → now k ≡ texts k) → IsIndexOf texts index → IsIndexOf now index
index-same texts now index same is = record {
  numbers = λ q n. ap (is_found n) (leads-same texts now same index index unchanged q) ∙ (is.numbers q n ∙ sym (ap (is_text q) (same n)));
  lean = IsLean-same texts now same index index unchanged is.lean;
}
  where
    unchanged : IsSame index index
    unchanged = record { hashes = λ h. refl; others = λ q. refl }

-- where a text leads that is there, and one that isn't
leads-there : (texts : ℕ → Option (List ℕ)) (index : TextIndex) (text : List ℕ) (n : ℕ) → IsIndexOf texts index → texts n ≡ Some text → leads texts index text ≡ Some n
leads-there texts index text n is at = found-number (leads texts index text) (is.numbers text n ∙ (ap (is_text text) at ∙ bytes_eq_self text))
  where
    found-number : (o : Option ℕ) → is_found n o ≡ true → o ≡ Some n
    found-number None h = cc
    found-number (Some m) h = grind (arith, nat_tests, h)

pub leads-nowhere : (texts : ℕ → Option (List ℕ)) (index : TextIndex) (text : List ℕ) → IsIndexOf texts index → ((n : ℕ) → is_text text (texts n) ≡ false) → leads texts index text ≡ None
leads-nowhere texts index text is none = go (leads texts index text) refl
  where
    go : (o : Option ℕ) → leads texts index text ≡ o → o ≡ None
    go None at = refl
    go (Some m) at = absurd (let clash : (m == m) ≡ false = ap (is_found m) (sym at) ∙ (is.numbers text m ∙ none m) in grind (arith, nat_tests, clash))

-- an item more
pub index-with : (texts now : ℕ → Option (List ℕ)) (old new : TextIndex) (text : List ℕ) (n : ℕ) → ((k : ℕ) → now k ≡ cond (n == k) (Some text) (texts k)) → texts n ≡ None → leads texts old text ≡ None →
    IsIndexOf texts old → IsWith old new text n → IsIndexOf now new
index-with texts now old new text n more none absent is with = record {
  numbers = λ q k. ap (is_found k) (leads-with texts now old new text n more none with absent q) ∙ (at q k (leads texts old q) (is.numbers q k) (bytes_eq text q) refl (n == k) refl ∙ sym (ap (is_text q) (more k)));
  lean = IsLean-with texts now old new text n more none with absent is.lean;
}
  where
    at : (q : List ℕ) (k : ℕ) (was : Option ℕ) → is_found k was ≡ is_text q (texts k) → (b : Bool) → bytes_eq text q ≡ b → (c : Bool) → (n == k) ≡ c →
        is_found k (cond b (Some n) was) ≡ is_text q (cond c (Some text) (texts k))
    at q k was found true same true here = here ∙ sym same
    at q k was found true same false other = other ∙ sym (subst (λ t. is_text t (texts k) ≡ false) (same_bytes text q same) (sym (is.numbers text k) ∙ ap (is_found k) absent))
    at q k was found false apart true here = found ∙ (let number : n ≡ k = grind (arith, nat_tests, here) in ap (λ j. is_text q (texts j)) (sym number) ∙ (ap (is_text q) none ∙ sym apart))
    at q k was found false apart false other = found

-- an item less
pub index-without : (texts now : ℕ → Option (List ℕ)) (old new : TextIndex) (text : List ℕ) (n : ℕ) → ((k : ℕ) → now k ≡ cond (n == k) None (texts k)) → texts n ≡ Some text →
    IsIndexOf texts old → IsWithout old new text n → IsIndexOf now new
index-without texts now old new text n less there is without = record {
  numbers = λ q k. ap (is_found k) (leads-without texts now old new text n less without is.lean led q) ∙ (at q k (leads texts old q) (is.numbers q k) (bytes_eq text q) refl (n == k) refl ∙ sym (ap (is_text q) (less k)));
  lean = IsLean-without texts now old new text n less without is.lean led;
}
  where
    led : leads texts old text ≡ Some n
    led = leads-there texts old text n is there

    at : (q : List ℕ) (k : ℕ) (was : Option ℕ) → is_found k was ≡ is_text q (texts k) → (b : Bool) → bytes_eq text q ≡ b → (c : Bool) → (n == k) ≡ c →
        is_found k (cond b None was) ≡ is_text q (cond c None (texts k))
    at q k was found true same true here = refl
    at q k was found true same false other = sym (subst (λ t. is_text t (texts k) ≡ false) (same_bytes text q same) (sym (is.numbers text k) ∙ (ap (is_found k) led ∙ other)))
    at q k was found false apart true here = found ∙ (let number : n ≡ k = grind (arith, nat_tests, here) in ap (λ j. is_text q (texts j)) (sym number) ∙ (ap (is_text q) there ∙ apart))
    at q k was found false apart false other = found
