-- The words of items: those of kinds, and the names of classes.
use Rattle.std.proofs.Common.{◌≡◌, ℕ, Bool, true, false, ◌||◌, List, [], ◌∷◌, Option, Some, None, is_some, refl, sym, ap, ◌∙◌, bytes_eq}
use Rattle.std.proofs.lemmas.Bool.{and_parts, not-true}
use Rattle.lists.proofs.SameBytes.{same_bytes}
use Rattle.lists.proofs.Passing.{found_passes}
use Rattle.schema_model.specs.declared.scalar.ScalarKind.{ScalarKind}
use Rattle.schema_model.specs.declared.scalar.ScalarKind.TheVariants as kind
use Rattle.text_model.specs.Marks.{all_kinds, scalar_word, is_class_name, is_field_name, is_one_of, shape_words}
use Rattle.text_model.proofs.Spaced.{is_plain}
use Rattle.text_model.proofs.NamesPlain.{class_name_plain}
use Rattle.text_model.specs.SchemaLines.{kind_of_word, is_item_word}

-- ---- the words of kinds

-- only a kind's word stands for it
pub kind_named : (w : List ℕ) (k : ScalarKind) → kind_of_word w ≡ Some k → w ≡ scalar_word k
kind_named w k h = sym (same_bytes (scalar_word k) w (found_passes (λ k. bytes_eq (scalar_word k) w) all_kinds k h))

pub kind_known : (k : ScalarKind) → kind_of_word (scalar_word k) ≡ Some k
kind_known kind.Number = refl
kind_known kind.Str = refl
kind_known kind.Bool = refl
kind_known kind.I8 = refl
kind_known kind.U8 = refl
kind_known kind.I16 = refl
kind_known kind.U16 = refl
kind_known kind.I32 = refl
kind_known kind.U32 = refl

kind_no_shape : (k : ScalarKind) → is_one_of shape_words (scalar_word k) ≡ false
kind_no_shape kind.Number = refl
kind_no_shape kind.Str = refl
kind_no_shape kind.Bool = refl
kind_no_shape kind.I8 = refl
kind_no_shape kind.U8 = refl
kind_no_shape kind.I16 = refl
kind_no_shape kind.U16 = refl
kind_no_shape kind.I32 = refl
kind_no_shape kind.U32 = refl

kind_plain : (k : ScalarKind) → is_plain (scalar_word k) ≡ true
kind_plain kind.Number = refl
kind_plain kind.Str = refl
kind_plain kind.Bool = refl
kind_plain kind.I8 = refl
kind_plain kind.U8 = refl
kind_plain kind.I16 = refl
kind_plain kind.U16 = refl
kind_plain kind.I32 = refl
kind_plain kind.U32 = refl

-- the words of items are those of kinds and the names of classes
by_item : (w : List ℕ) (p : List ℕ → Bool) (b : Bool) → ((k : ScalarKind) → p (scalar_word k) ≡ b) → (is_class_name w ≡ true → p w ≡ b)
    → is_item_word w ≡ true → p w ≡ b
by_item w p b kinds names h = from (kind_of_word w) refl h
  where
    from : (o : Option ScalarKind) → kind_of_word w ≡ o → (is_some o || is_class_name w) ≡ true → p w ≡ b
    from (Some k) e t = ap p (kind_named w k e) ∙ kinds k
    from None e t = names t

-- no word of an item stands for a shape
pub item_no_shape : (w : List ℕ) → is_item_word w ≡ true → is_one_of shape_words w ≡ false
item_no_shape w h = by_item w (is_one_of shape_words) false kind_no_shape (λ n. not-true _ (and_parts (is_field_name w) _ n).1) h

pub item_plain : (w : List ℕ) → is_item_word w ≡ true → is_plain w ≡ true
item_plain w h = by_item w is_plain true kind_plain (class_name_plain w) h
