-- Words of items are ASCII.
use Rattle.std.proofs.Common.{◌≡◌, ℕ, Bool, true, false, cond, Some, List, [], ◌∷◌, ◌||◌, refl, subst}
use Rattle.std.specs.Prelude.{is_some}
use Rattle.std.specs.List.{find, list_all}
use Rattle.std.specs.Str.{bytes_eq}
use Rattle.lists.proofs.SameBytes.{same_bytes}
use Rattle.schema_model.specs.declared.scalar.ScalarKind.{ScalarKind}
use Rattle.schema_model.specs.declared.scalar.ScalarKind.TheVariants as kind
use Rattle.text_model.specs.Marks.{all_kinds, is_class_name, is_id_byte, scalar_word}
use Rattle.text_model.proofs.Ascii.{class_name_bytes}
use Rattle.text_model.specs.SchemaLines.{is_item_word, kind_of_word}

kind_word_bytes : (k : ScalarKind) → list_all is_id_byte (scalar_word k) ≡ true
kind_word_bytes kind.Number = refl
kind_word_bytes kind.Str = refl
kind_word_bytes kind.Bool = refl
kind_word_bytes kind.I8 = refl
kind_word_bytes kind.U8 = refl
kind_word_bytes kind.I16 = refl
kind_word_bytes kind.U16 = refl
kind_word_bytes kind.I32 = refl
kind_word_bytes kind.U32 = refl

found_bytes : (w : List ℕ) (ks : List ScalarKind) → is_some (find (λ k. bytes_eq (scalar_word k) w) ks) ≡ true → list_all is_id_byte w ≡ true
found_bytes w [] h = absurd (cc)
found_bytes w (k ∷ ks) h =
    let go : (b : Bool) → bytes_eq (scalar_word k) w ≡ b → is_some (cond b (Some k) (find (λ k. bytes_eq (scalar_word k) w) ks)) ≡ true → list_all is_id_byte w ≡ true
    = elim [
      | true ↦ λ e g. subst (λ (x : List ℕ). list_all is_id_byte x ≡ true) (same_bytes (scalar_word k) w e) (kind_word_bytes k)
      | false ↦ λ e g. found_bytes w ks g
    ] in
    go (bytes_eq (scalar_word k) w) refl h

-- the word of an item is made of letters, digits and `_`
pub item_word_bytes : (w : List ℕ) → is_item_word w ≡ true → list_all is_id_byte w ≡ true
item_word_bytes w h =
    let go : (b : Bool) → is_some (kind_of_word w) ≡ b → (b || is_class_name w) ≡ true → list_all is_id_byte w ≡ true
    = elim [ true ↦ λ e g. found_bytes w all_kinds e | false ↦ λ e g. class_name_bytes w g ] in
    go (is_some (kind_of_word w)) refl h
