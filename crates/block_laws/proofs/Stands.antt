-- Bytes that stand at a place, and how a reader finds them there.
use Rattle.std.proofs.Common.{◌≡◌, ℕ, ◌+◌, ◌≤◌, List, [], ◌∷◌, ◌++◌, length, get_or, append-nil, Some, Result, Ok, refl, sym, ap, ◌∙◌, arith, append_assoc, length-append}
use Rattle.std.specs.List.{slice_get}
use Rattle.std.specs.Int.{w8}
use Rattle.std.proofs.lemmas.List.{get_or_at}
use Rattle.std.proofs.lemmas.Option.{slice_get-get_or}
use Rattle.schema_model.specs.Reading.{fixed_at}
use Rattle.schema_model.proofs.NumberAgain.{fixed_part}

-- a part stands at a place of bytes
pub record Stands (bytes : List ℕ) (at : ℕ) (part : List ℕ) : Type 0 where
  pub prefix : List ℕ
  pub more : List ℕ
  pub is : bytes ≡ prefix ++ (part ++ more)
  pub place : length prefix ≡ at

-- all bytes stand at their begin
pub stands_whole : (bytes : List ℕ) → Stands bytes 0 bytes
stands_whole bytes = record { prefix = []; more = []; is = simp append-nil; place = refl }

-- of two parts the first stands there
pub stands_first : (bytes : List ℕ) (at : ℕ) (a b : List ℕ) → Stands bytes at (a ++ b) → Stands bytes at a
stands_first bytes at a b s = record { prefix = s.prefix; more = b ++ s.more; is = s.is ∙ ap (λ x. s.prefix ++ x) (append_assoc a b s.more); place = s.place }

-- and the second behind it
pub stands_behind : (bytes : List ℕ) (at : ℕ) (a b : List ℕ) → Stands bytes at (a ++ b) → Stands bytes (at + length a) b
stands_behind bytes at a b s = record {
  prefix = s.prefix ++ a;
  more = s.more;
  is = s.is ∙ (ap (λ x. s.prefix ++ x) (append_assoc a b s.more) ∙ sym (append_assoc s.prefix a (b ++ s.more)));
  place = length-append s.prefix a ∙ ap (λ n. n + length a) s.place;
}

-- a part ends within the bytes
pub stands_within : (bytes : List ℕ) (at : ℕ) (part : List ℕ) → Stands bytes at part → at + length part ≤ length bytes
stands_within bytes at part s = omega (arith, ap length s.is, length-append s.prefix (part ++ s.more), length-append part s.more, s.place)

-- what is read again between any two lists is read where it stands
pub read_there : {A E : Type 0} (f : List ℕ → ℕ → Result (A × ℕ) E) (part : List ℕ) (x : A)
    → ((prefix more : List ℕ) → f (prefix ++ (part ++ more)) (length prefix) ≡ Ok (x, length prefix + length part))
    → (bytes : List ℕ) (at : ℕ) → Stands bytes at part → f bytes at ≡ Ok (x, at + length part)
read_there f part x again bytes at s =
    ap (λ b. f b at) s.is
    ∙ (ap (f (s.prefix ++ (part ++ s.more))) (sym s.place)
    ∙ (again s.prefix s.more ∙ ap (λ n. Ok (x, n + length part)) s.place))

-- the first byte of a part is read there
pub byte_there : (bytes : List ℕ) (at b : ℕ) (part : List ℕ) → Stands bytes at (b ∷ part) → fixed_at w8 bytes at ≡ Ok (b, at + 1)
byte_there bytes at b part s =
    read_there (fixed_at w8) (b ∷ []) b (λ prefix more. fixed_part w8 prefix (b ∷ []) more refl) bytes at (stands_first bytes at (b ∷ []) part s)

-- and is found there
pub byte_found : (bytes : List ℕ) (at b : ℕ) (part : List ℕ) → Stands bytes at (b ∷ part) → slice_get bytes at ≡ Some b
byte_found bytes at b part s =
    let within = stands_within bytes at (b ∷ part) s in
    slice_get-get_or bytes at 0 (omega arith) ∙ ap Some (ap (λ x. get_or x at 0) s.is ∙ get_or_at s.prefix b (part ++ s.more) 0 at s.place)
