-- The forms of lines: only their first words are looked at, and their names and items are such.
use Rattle.std.proofs.Common.{◌≡◌, ℕ, Bool, true, false, cond, ◌&&◌, List, [], ◌∷◌, take, Option, Some, None, refl, ap, ◌∙◌, codes, subst}
use Rattle.std.specs.Prelude.{Err, is_some}
use Rattle.std.specs.Option.{option_map}
use Rattle.std.proofs.lemmas.Bool.{and_parts}
use Rattle.text_model.specs.Marks.{is_class_name, is_field_name}
use Rattle.text_model.specs.Lines.{is_word, some_if}
use Rattle.text_model.specs.declared.draft.Grouping.{Grouping}
use Rattle.text_model.specs.declared.draft.Grouping.TheVariants.{Alone, Mapped, Listed, Gathered}
use Rattle.text_model.specs.SchemaLines.{SchemaLine, ClassLine, FieldLine, RootLine, Tagging, is_item_word}
use Rattle.text_model.specs.SchemaReading.{Draft, class_form, field_form, form_taken, line_taken, item_form, line_form, root_form, shape_form, tagging_form}
use Rattle.text_model.specs.declared.fault.SchemaFault.TheVariants.{UnknownWord}
use Rattle.text_model.proofs.Choices.{chosen_if}
use Rattle.schema_reader.specs.Forms.{IsFormed}

-- no form has seven words
pub line_form_take : (ws : List (List ℕ)) → line_form (take 7 ws) ≡ line_form ws
line_form_take [] = refl
line_form_take (a ∷ []) = refl
line_form_take (a ∷ b ∷ []) = refl
line_form_take (a ∷ b ∷ c ∷ []) = refl
line_form_take (a ∷ b ∷ c ∷ d ∷ []) = refl
line_form_take (a ∷ b ∷ c ∷ d ∷ e ∷ []) = refl
line_form_take (a ∷ b ∷ c ∷ d ∷ e ∷ f ∷ []) = refl
line_form_take (a ∷ b ∷ c ∷ d ∷ e ∷ f ∷ g ∷ ws) = refl

formed_if : (test : Bool) (x l : SchemaLine) → some_if test x ≡ Some l → (test ≡ true → IsFormed x) → IsFormed l
formed_if test x l e h = let p = chosen_if test x l e in subst (λ (y : SchemaLine). IsFormed y) p.1 (h p.0)

class_formed : (ws : List (List ℕ)) (l : SchemaLine) → class_form ws ≡ Some l → IsFormed l
class_formed [] l e = absurd (cc)
class_formed (name ∷ []) l e = formed_if (is_class_name name) (ClassLine name None) l e (λ h. h)
class_formed (name ∷ colon ∷ []) l e = absurd (cc)
class_formed (name ∷ colon ∷ parent ∷ []) l e =
    formed_if (is_class_name name && is_word (codes ":") colon && is_class_name parent) (ClassLine name (Some parent)) l e
    (λ h. (and_parts (is_class_name name) (is_word (codes ":") colon) (and_parts (is_class_name name && is_word (codes ":") colon) (is_class_name parent) h).0).0)
class_formed (name ∷ colon ∷ parent ∷ w ∷ ws) l e = absurd (cc)

item_formed : (name : List ℕ) (grouping : Grouping) (ws : List (List ℕ)) (l : SchemaLine) → is_field_name name ≡ true → item_form name grouping ws ≡ Some l → IsFormed l
item_formed name grouping [] l h e = absurd (cc)
item_formed name grouping (w ∷ ws) l h e =
    let go : (b : Bool) → is_item_word w ≡ b → (t : Option Tagging) → cond b (option_map (FieldLine name grouping w) t) None ≡ Some l → IsFormed l
    = elim [
      | true ↦ λ k. elim [
        | Some t ↦ λ g. let same : FieldLine name grouping w t ≡ l = cc in subst (λ (y : SchemaLine). IsFormed y) same (h, k)
        | None ↦ λ g. absurd (cc)
      ]
      | false ↦ λ k t g. absurd (cc)
    ] in
    go (is_item_word w) refl (tagging_form ws) e

shape_formed : (name : List ℕ) (ws : List (List ℕ)) (l : SchemaLine) → is_field_name name ≡ true → shape_form name ws ≡ Some l → IsFormed l
shape_formed name [] l h e = absurd (cc)
shape_formed name (w ∷ ws) l h e =
    let go : (a b c : Bool) → cond a (item_form name Mapped ws) (cond b (item_form name Listed ws) (cond c (item_form name Gathered ws) (item_form name Alone (w ∷ ws)))) ≡ Some l → IsFormed l
    = elim [
      | true ↦ λ b c g. item_formed name Mapped ws l h g
      | false ↦ elim [
        | true ↦ λ c g. item_formed name Listed ws l h g
        | false ↦ elim [ true ↦ λ g. item_formed name Gathered ws l h g | false ↦ λ g. item_formed name Alone (w ∷ ws) l h g ]
      ]
    ] in
    go (is_word (codes "map") w) (is_word (codes "array") w) (is_word (codes "set") w) e

field_formed : (ws : List (List ℕ)) (l : SchemaLine) → field_form ws ≡ Some l → IsFormed l
field_formed [] l e = absurd (cc)
field_formed (name ∷ ws) l e =
    let go : (b : Bool) → is_field_name name ≡ b → cond b (shape_form name ws) None ≡ Some l → IsFormed l
    = elim [ true ↦ λ h g. shape_formed name ws l h g | false ↦ λ h g. absurd (cc) ] in
    go (is_field_name name) refl e

root_formed : (ws : List (List ℕ)) (l : SchemaLine) → root_form ws ≡ Some l → IsFormed l
root_formed [] l e = absurd (cc)
root_formed (name ∷ []) l e = formed_if (is_class_name name) (RootLine name) l e (λ h. h)
root_formed (name ∷ w ∷ ws) l e = absurd (cc)

-- the names and the item of a form are such
pub line_formed : (ws : List (List ℕ)) (l : SchemaLine) → line_form ws ≡ Some l → IsFormed l
line_formed [] l e = absurd (cc)
line_formed (w ∷ ws) l e =
    let go : (a b c : Bool) → cond a (class_form ws) (cond b (field_form ws) (cond c (root_form ws) None)) ≡ Some l → IsFormed l
    = elim [
      | true ↦ λ b c g. class_formed ws l g
      | false ↦ elim [ true ↦ λ c g. field_formed ws l g | false ↦ elim [ true ↦ λ g. root_formed ws l g | false ↦ λ g. absurd (cc) ] ]
    ] in
    go (is_word (codes "class") w) (is_word (codes "field") w) (is_word (codes "root") w) e

-- the form of the first words is that of the line
pub first_words_form : (ws words : List (List ℕ)) (form : Option SchemaLine) → words ≡ take 7 ws → form ≡ line_form words → form ≡ line_form ws
first_words_form ws words form e h = h ∙ (ap line_form e ∙ line_form_take ws)

-- a line before the root, by its form
pub line_taken_form : (line : ℕ) (d : Draft) (ws : List (List ℕ)) (form : Option SchemaLine) → is_some d.root ≡ false → line_form ws ≡ form → line_taken line d ws ≡ form_taken line d form
line_taken_form line d ws form e h = ap (λ b. cond b (Err (UnknownWord line)) (form_taken line d (line_form ws))) e ∙ ap (form_taken line d) h
