-- What std's reader of UTF-8 answers is the definition's test.
use Rattle.std.proofs.Common.{◌≡◌, ◌≤◌, ◌+◌, ◌-◌, ℕ, List, length, take, drop, Bool, true, false, Ok, Err, refl, arith, nat_lt}
use Rattle.std.specs.Str.{IsUtf8, is_utf8}
use Rattle.std.proofs.lemmas.Str.{IsUtf8-from_is_utf8, is_utf8-from_IsUtf8}
use Rattle.std.proofs.lemmas.Bool.Decides.{nat_tests}
use Rattle.schema_model.specs.Reading.{text_of}
use Rattle.schema_model.specs.declared.fault.ReadFault.TheVariants.{BadText}
use Rattle.lists.proofs.Utf8Laws.{is_utf8-no}
use Rattle.scalar_codec.proofs.text.get_bytes_as_text.Goals as goal

-- the bytes are there
there : (bytes : List ℕ) (start len : ℕ) → start ≤ length bytes → len ≤ length bytes - start → nat_lt (length bytes) (start + len) ≡ false
there bytes start len a b = grind (arith, nat_tests)

-- the length of what was cut out
cut : (start len : ℕ) → start + len - start ≡ len
cut start len = omega arith

text_of-good : (bytes : List ℕ) (value_at start len : ℕ) (text : List ℕ) → start ≤ length bytes → len ≤ length bytes - start →
    text ≡ take (start + len - start) (drop start bytes) → IsUtf8 (take (start + len - start) (drop start bytes)) →
    text_of bytes value_at start len ≡ Ok (text, start + len)
unfolding text_of
text_of-good bytes value_at start len text a b same good =
    rw (there bytes start len a b, same, cut start len)
    (rw (is_utf8-from_IsUtf8 _ (rw (cut start len) at good)) refl)

text_of-bad : (bytes : List ℕ) (value_at start len : ℕ) → start ≤ length bytes → len ≤ length bytes - start →
    (IsUtf8 (take (start + len - start) (drop start bytes)) → ⊥) → text_of bytes value_at start len ≡ Err (BadText value_at)
unfolding text_of
text_of-bad bytes value_at start len a b bad =
    rw (there bytes start len a b) (rw (is_utf8-no _ (rw (cut start len) at bad)) refl)

pub returns-in-Ok : goal.returns-in-Ok
returns-in-Ok c = text_of-good _ _ _ _ _ c.requires c.if-bytes-start.false c.in-Ok.ensures.cases.0 c.in-Ok.ensures.cases.1

pub returns-in-Err : goal.returns-in-Err
returns-in-Err c = text_of-bad _ _ _ _ c.requires c.if-bytes-start.false c.in-Err.ensures.cases.0
