-- The words of a line that is well formed can stand on it.
use Rattle.std.proofs.Common.{◌≡◌, ℕ, Bool, true, false, not, ◌&&◌, cond, List, [], ◌∷◌, Some, None, refl, sym, ap, ◌∙◌, bytes_eq, eqb, eqb-true, leb, codes}
use Rattle.std.specs.List.{list_all}
use Rattle.std.specs.Str.{all_ascii_digits}
use Rattle.std.specs.Char.{is_ascii_digit}
use Rattle.std.proofs.lemmas.Bool.{and_parts, and_from, true≢false, false_from_ne_true}
use Rattle.text_model.specs.Marks.{is_class_name, is_field_name}
use Rattle.text_model.specs.Decimals.{is_decimal}
use Rattle.text_model.proofs.Spaced.{is_plain, is_line}
use Rattle.text_model.proofs.DecimalLaw.{digits_plain}
use Rattle.text_model.proofs.NamesPlain.{class_name_plain, field_name_plain}
use Rattle.text_model.specs.declared.draft.Grouping.{Grouping}
use Rattle.text_model.specs.declared.draft.Grouping.TheVariants.{Alone, Mapped, Listed, Gathered}
use Rattle.text_model.specs.SchemaLines.{is_item_word, is_tag_word, Tagging, Untagged, Default, Given, SchemaLine, ClassLine, FieldLine, RootLine, grouped, tagging_words, line_words}
use Rattle.text_model.proofs.ItemWords.{item_plain}
use Rattle.text_model.proofs.LineForms.{is_tagging, is_line_form}

is_digits : (w : List ℕ) → is_decimal w ≡ true → all_ascii_digits w ≡ true
is_digits [] h = absurd (true≢false (sym h))
is_digits (c ∷ []) h = h
is_digits (c ∷ e ∷ ds) h = (and_parts (not (eqb c 48)) (all_ascii_digits (c ∷ e ∷ ds)) h).1

tag_plain : (w : List ℕ) → is_tag_word w ≡ true → is_plain w ≡ true
tag_plain [] h = absurd (true≢false (sym h))
tag_plain (c ∷ cs) h = from (eqb c 45) refl h
  where
    from : (b : Bool) → eqb c 45 ≡ b → cond b (is_decimal cs && not (bytes_eq cs (codes "0"))) (is_decimal (c ∷ cs)) ≡ true → is_plain (c ∷ cs) ≡ true
    from true e k =
        and_from (leb 33 c) (is_plain cs) (ap (leb 33) (eqb-true c 45 e)) (digits_plain cs (is_digits cs (and_parts (is_decimal cs) _ k).0))
    from false e k = digits_plain (c ∷ cs) (is_digits (c ∷ cs) k)

-- a decimal is the word of a tag
pub decimal_tag : (w : List ℕ) → is_decimal w ≡ true → is_tag_word w ≡ true
decimal_tag [] h = h
decimal_tag (c ∷ cs) h =
    let digit = (and_parts (is_ascii_digit c) (all_ascii_digits cs) (is_digits (c ∷ cs) h)).0 in
    let other : eqb c 45 ≡ false = false_from_ne_true (eqb c 45) (λ e. true≢false (sym digit ∙ ap is_ascii_digit (eqb-true c 45 e))) in
    ap (λ b. cond b (is_decimal cs && not (bytes_eq cs (codes "0"))) (is_decimal (c ∷ cs))) other ∙ h

tagging_plain : (t : Tagging) → is_tagging t ≡ true → list_all is_plain (tagging_words t) ≡ true
tagging_plain Untagged h = refl
tagging_plain Default h = refl
tagging_plain (Given w) h = and_from (is_plain w) true (tag_plain w h) refl

grouped_plain : (g : Grouping) (ws : List (List ℕ)) → list_all is_plain ws ≡ true → list_all is_plain (grouped g ws) ≡ true
grouped_plain Alone ws h = h
grouped_plain Mapped ws h = h
grouped_plain Listed ws h = h
grouped_plain Gathered ws h = h

pub form_plain : (f : SchemaLine) → is_line_form f ≡ true → is_line (line_words f) ≡ true
form_plain (ClassLine name None) h = and_from (is_plain name) true (class_name_plain name h) refl
form_plain (ClassLine name (Some parent)) h =
    let two = and_parts (is_class_name name) (is_class_name parent) h in
    and_from _ _ (class_name_plain name two.0) (and_from (is_plain parent) true (class_name_plain parent two.1) refl)
form_plain (FieldLine name g w t) h =
    let two = and_parts (is_field_name name && is_item_word w) (is_tagging t) h in
    let one = and_parts (is_field_name name) (is_item_word w) two.0 in
    and_from (is_plain name) _ (field_name_plain name one.0) (grouped_plain g (w ∷ tagging_words t) (and_from (is_plain w) _ (item_plain w one.1) (tagging_plain t two.1)))
form_plain (RootLine name) h = and_from (is_plain name) true (class_name_plain name h) refl
