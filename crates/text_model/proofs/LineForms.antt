-- A line has a form exactly where its words are those of a line that is well formed.
use Rattle.std.proofs.Common.{◌≡◌, ℕ, Bool, true, false, ◌&&◌, cond, List, [], ◌∷◌, Some, None, refl, sym, ap, ◌∙◌, bytes_eq, codes}
use Rattle.std.specs.Option.{option_map}
use Rattle.std.proofs.lemmas.Bool.{and_parts, and_from, or_parts, cond-true, cond-false}
use Rattle.lists.proofs.SameBytes.{same_bytes}
use Rattle.lists.proofs.Options.{taken_if, mapped_some}
use Rattle.text_model.specs.Marks.{is_class_name, is_field_name}
use Rattle.text_model.specs.Lines.{is_word}
use Rattle.text_model.proofs.DecimalLaw.{chosen}
use Rattle.text_model.specs.declared.draft.Grouping.{Grouping}
use Rattle.text_model.specs.declared.draft.Grouping.TheVariants.{Alone, Mapped, Listed, Gathered}
use Rattle.text_model.specs.SchemaLines.{is_item_word, is_tag_word, Tagging, Untagged, Default, Given, SchemaLine, ClassLine, FieldLine, RootLine, grouped, tagging_words, line_words}
use Rattle.text_model.specs.SchemaReading.{class_form, tagging_form, item_form, shape_form, field_form, root_form, line_form}
use Rattle.text_model.proofs.ItemWords.{item_no_shape}

-- ---- lines that are well formed

abbrev pub is_tagging : Tagging → Bool
is_tagging (Given w) = is_tag_word w
is_tagging t = true

abbrev pub is_line_form : SchemaLine → Bool
is_line_form (ClassLine name None) = is_class_name name
is_line_form (ClassLine name (Some parent)) = is_class_name name && is_class_name parent
is_line_form (FieldLine name grouping w tagging) = is_field_name name && is_item_word w && is_tagging tagging
is_line_form (RootLine name) = is_class_name name

-- ---- the form of words is a line with these words

-- words are those of a line, and the line is well formed
pub record IsFormed (ws : List (List ℕ)) (f : SchemaLine) : Type 0 where
  pub words : ws ≡ line_words f
  pub form : is_line_form f ≡ true

class_formed : (ws : List (List ℕ)) (f : SchemaLine) → class_form ws ≡ Some f → IsFormed (codes "class" ∷ ws) f
class_formed [] f h = absurd (cc)
class_formed (name ∷ []) f h =
    let c = chosen (is_class_name name) (ClassLine name None) f h in
    record { words = ap line_words c.1; form = ap is_line_form (sym c.1) ∙ c.0 }
class_formed (name ∷ colon ∷ []) f h = absurd (cc)
class_formed (name ∷ colon ∷ parent ∷ []) f h =
    let c = chosen (is_class_name name && is_word (codes ":") colon && is_class_name parent) (ClassLine name (Some parent)) f h in
    let two = and_parts (is_class_name name && is_word (codes ":") colon) (is_class_name parent) c.0 in
    let one = and_parts (is_class_name name) (is_word (codes ":") colon) two.0 in
    record {
      words = ap (λ w. codes "class" ∷ name ∷ w ∷ parent ∷ []) (same_bytes colon (codes ":") one.1) ∙ ap line_words c.1;
      form = ap is_line_form (sym c.1) ∙ and_from (is_class_name name) (is_class_name parent) one.0 two.1;
    }
class_formed (name ∷ colon ∷ parent ∷ w ∷ ws) f h = absurd (cc)

root_formed : (ws : List (List ℕ)) (f : SchemaLine) → root_form ws ≡ Some f → IsFormed (codes "root" ∷ ws) f
root_formed [] f h = absurd (cc)
root_formed (name ∷ []) f h =
    let c = chosen (is_class_name name) (RootLine name) f h in
    record { words = ap line_words c.1; form = ap is_line_form (sym c.1) ∙ c.0 }
root_formed (name ∷ w ∷ ws) f h = absurd (cc)

tagging_formed : (ws : List (List ℕ)) (t : Tagging) → tagging_form ws ≡ Some t → (ws ≡ tagging_words t) × (is_tagging t ≡ true)
tagging_formed [] t h =
    let e : Untagged ≡ t = cc in
    (ap tagging_words e, ap is_tagging (sym e))
tagging_formed (view ∷ []) t h =
    let c = chosen (is_word (codes "view") view) Default t h in
    (ap (λ w. w ∷ []) (same_bytes view (codes "view") c.0) ∙ ap tagging_words c.1, ap is_tagging (sym c.1))
tagging_formed (view ∷ tag ∷ []) t h =
    let c = chosen (is_word (codes "view") view && is_tag_word tag) (Given tag) t h in
    let two = and_parts (is_word (codes "view") view) (is_tag_word tag) c.0 in
    (ap (λ w. w ∷ tag ∷ []) (same_bytes view (codes "view") two.0) ∙ ap tagging_words c.1, ap is_tagging (sym c.1) ∙ two.1)
tagging_formed (view ∷ tag ∷ w ∷ ws) t h = absurd (cc)

item_formed : (name : List ℕ) (g : Grouping) (ws : List (List ℕ)) (f : SchemaLine) → is_field_name name ≡ true → item_form name g ws ≡ Some f
    → IsFormed (codes "field" ∷ name ∷ grouped g ws) f
item_formed name g [] f n h = absurd (cc)
item_formed name g (w ∷ ws) f n h =
    let c = taken_if (is_item_word w) (option_map (FieldLine name g w) (tagging_form ws)) f h in
    let m = mapped_some (FieldLine name g w) (tagging_form ws) f c.1 in
    let t = tagging_formed ws m.0 m.1 in
    record {
      words = ap (λ l. codes "field" ∷ name ∷ grouped g (w ∷ l)) t.0 ∙ ap line_words m.2;
      form = ap is_line_form (sym m.2) ∙ and_from (is_field_name name && is_item_word w) (is_tagging m.0) (and_from (is_field_name name) (is_item_word w) n c.0) t.1;
    }

shape_formed : (name : List ℕ) (ws : List (List ℕ)) (f : SchemaLine) → is_field_name name ≡ true → shape_form name ws ≡ Some f
    → IsFormed (codes "field" ∷ name ∷ ws) f
shape_formed name [] f n h = absurd (cc)
shape_formed name (w ∷ ws) f n h = from (is_word (codes "map") w) (is_word (codes "array") w) (is_word (codes "set") w) refl refl refl h
  where
    at_word : (v : List ℕ) → bytes_eq w v ≡ true → IsFormed (codes "field" ∷ name ∷ v ∷ ws) f → IsFormed (codes "field" ∷ name ∷ w ∷ ws) f
    at_word v e r = record { words = ap (λ x. codes "field" ∷ name ∷ x ∷ ws) (same_bytes w v e) ∙ r.words; form = r.form }

    from : (m a s : Bool) → is_word (codes "map") w ≡ m → is_word (codes "array") w ≡ a → is_word (codes "set") w ≡ s
        → cond m (item_form name Mapped ws) (cond a (item_form name Listed ws) (cond s (item_form name Gathered ws) (item_form name Alone (w ∷ ws)))) ≡ Some f
        → IsFormed (codes "field" ∷ name ∷ w ∷ ws) f
    from true a s em ea es k = at_word (codes "map") em (item_formed name Mapped ws f n k)
    from false true s em ea es k = at_word (codes "array") ea (item_formed name Listed ws f n k)
    from false false true em ea es k = at_word (codes "set") es (item_formed name Gathered ws f n k)
    from false false false em ea es k = item_formed name Alone (w ∷ ws) f n k

field_formed : (ws : List (List ℕ)) (f : SchemaLine) → field_form ws ≡ Some f → IsFormed (codes "field" ∷ ws) f
field_formed [] f h = absurd (cc)
field_formed (name ∷ ws) f h =
    let c = taken_if (is_field_name name) (shape_form name ws) f h in
    shape_formed name ws f c.0 c.1

-- the form of a line's words has these words
pub line_formed : (ws : List (List ℕ)) (f : SchemaLine) → line_form ws ≡ Some f → IsFormed ws f
line_formed [] f h = absurd (cc)
line_formed (w ∷ ws) f h = from (is_word (codes "class") w) (is_word (codes "field") w) (is_word (codes "root") w) refl refl refl h
  where
    at_word : (v : List ℕ) → bytes_eq w v ≡ true → IsFormed (v ∷ ws) f → IsFormed (w ∷ ws) f
    at_word v e r = record { words = ap (λ x. x ∷ ws) (same_bytes w v e) ∙ r.words; form = r.form }

    from : (c d r : Bool) → is_word (codes "class") w ≡ c → is_word (codes "field") w ≡ d → is_word (codes "root") w ≡ r
        → cond c (class_form ws) (cond d (field_form ws) (cond r (root_form ws) None)) ≡ Some f → IsFormed (w ∷ ws) f
    from true d r ec ed er k = at_word (codes "class") ec (class_formed ws f k)
    from false true r ec ed er k = at_word (codes "field") ed (field_formed ws f k)
    from false false true ec ed er k = at_word (codes "root") er (root_formed ws f k)
    from false false false ec ed er k = absurd (cc)

-- ---- the words of a line have its form

tagging_read : (t : Tagging) → is_tagging t ≡ true → tagging_form (tagging_words t) ≡ Some t
tagging_read Untagged h = refl
tagging_read Default h = refl
tagging_read (Given w) h = cond-true (is_tag_word w) (Some (Given w)) None h

item_read : (name : List ℕ) (g : Grouping) (w : List ℕ) (t : Tagging) → is_item_word w ≡ true → is_tagging t ≡ true
    → item_form name g (w ∷ tagging_words t) ≡ Some (FieldLine name g w t)
item_read name g w t h k =
    cond-true (is_item_word w) (option_map (FieldLine name g w) (tagging_form (tagging_words t))) None h
    ∙ ap (option_map (FieldLine name g w)) (tagging_read t k)

shape_read : (name : List ℕ) (g : Grouping) (w : List ℕ) (t : Tagging) → is_item_word w ≡ true → is_tagging t ≡ true
    → shape_form name (grouped g (w ∷ tagging_words t)) ≡ Some (FieldLine name g w t)
shape_read name Mapped w t h k = item_read name Mapped w t h k
shape_read name Listed w t h k = item_read name Listed w t h k
shape_read name Gathered w t h k = item_read name Gathered w t h k
shape_read name Alone w t h k =
    let maps = or_parts (bytes_eq w (codes "map")) _ (item_no_shape w h) in
    let arrays = or_parts (bytes_eq w (codes "array")) _ maps.1 in
    let sets = or_parts (bytes_eq w (codes "set")) false arrays.1 in
    cond-false (bytes_eq w (codes "map")) (item_form name Mapped (tagging_words t)) _ maps.0
    ∙ (cond-false (bytes_eq w (codes "array")) (item_form name Listed (tagging_words t)) _ arrays.0
    ∙ (cond-false (bytes_eq w (codes "set")) (item_form name Gathered (tagging_words t)) _ sets.0 ∙ item_read name Alone w t h k))

pub form_read : (f : SchemaLine) → is_line_form f ≡ true → line_form (line_words f) ≡ Some f
form_read (ClassLine name None) h = cond-true (is_class_name name) (Some (ClassLine name None)) None h
form_read (ClassLine name (Some parent)) h =
    let two = and_parts (is_class_name name) (is_class_name parent) h in
    let test : (is_class_name name && true && is_class_name parent) ≡ true = and_from _ _ (and_from _ _ two.0 refl) two.1 in
    cond-true (is_class_name name && true && is_class_name parent) (Some (ClassLine name (Some parent))) None test
form_read (FieldLine name g w t) h =
    let two = and_parts (is_field_name name && is_item_word w) (is_tagging t) h in
    let one = and_parts (is_field_name name) (is_item_word w) two.0 in
    cond-true (is_field_name name) (shape_form name (grouped g (w ∷ tagging_words t))) None one.0 ∙ shape_read name g w t one.1 two.1
form_read (RootLine name) h = cond-true (is_class_name name) (Some (RootLine name)) None h
