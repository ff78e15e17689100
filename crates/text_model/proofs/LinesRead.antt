-- The lines of classes that keep to the form are read as these classes.
use Rattle.std.proofs.Common.{◌≡◌, ℕ, zero, suc, true, false, ◌&&◌, List, [], ◌∷◌, ◌++◌, length, map, ℤ, pos, negsuc, Option, Some, None, is_some, is_none, Ok, Err, refl, sym, ap, ◌∙◌, subst, arith, append_assoc, append-nil, eqb, ne_eqb, leb, leb-true, ltb, ltb-true, bytes_eq}
use Rattle.std.specs.List.{list_any, list_all}
use Rattle.std.specs.Option.{option_map}
use Rattle.std.specs.Fmt.{decimal}
use Rattle.std.proofs.lemmas.Bool.{and_parts, and_from, or_from, not-true, true≢false, cond-false, lt-leb}
use Rattle.std.proofs.lemmas.List.{map-append, length_push, length-append}
use Rattle.std.proofs.lemmas.List.Folds.{list_all-append}
use Rattle.lists.proofs.Passing.{all_append}
use Rattle.schema_model.specs.Classes.{is_earlier}
use Rattle.schema_model.specs.Reading.{◌>>=◌}
use Rattle.schema_model.specs.declared.class.Class.{Class}
use Rattle.schema_model.specs.declared.class.FieldDecl.{FieldDecl}
use Rattle.state_model.specs.Sound.{keys_differ}
use Rattle.text_model.specs.Decimals.{is_decimal, digits_number}
use Rattle.text_model.specs.Marks.{is_class_name, is_field_name, is_one_of}
use Rattle.text_model.proofs.Spaced.{all_pass}
use Rattle.text_model.proofs.DecimalLaw.{read_decimal, chosen}
use Rattle.text_model.proofs.Keys.{keys_apart}
use Rattle.text_model.specs.declared.fault.SchemaFault.TheVariants.{UnknownWord, TwiceClass, ParentLater, TooManyClasses, FractionalKind, BadTag, TwiceField, TooManyFields}
use Rattle.text_model.specs.declared.draft.DraftField.{DraftField}
use Rattle.text_model.specs.declared.draft.DraftClass.{DraftClass}
use Rattle.text_model.specs.SchemaLines.{fractional_words, is_item_word, is_tag, ClassLine, tagging_of, line_words}
use Rattle.text_model.specs.SchemaReading.{class_place, names_from, last_names, parent_place, is_later, with_class, tag_of, is_bad_tag, with_field, field_taken, form_taken, line_taken, lines_taken}
use Rattle.text_model.proofs.NamesFound.{names_of, is_placed, draft_name, own_place}
use Rattle.text_model.proofs.LineForms.{is_tagging, is_line_form, form_read}
use Rattle.text_model.proofs.LinePlain.{decimal_tag}
use Rattle.text_model.proofs.DraftTable.{names_next, field_names, last_names-push, more_fields, with_field-push, names_more}
use Rattle.text_model.proofs.DraftKept.{is_draft_field, are_field_names, IsClassBehind, AreClassesBehind, behind_push}
use Rattle.text_model.proofs.DraftLines.{draft_field_line, draft_parent, draft_class_lines, lines_behind}
use Rattle.text_model.proofs.DraftWhole.{is_draft_class, behind_classes, behind_differ}
use Rattle.text_model.proofs.LineTaken.{unrooted, pass_none}
use Rattle.text_model.proofs.Known.{named_at}
use Rattle.text_model.proofs.DraftOf.{field_draft, fields_draft, class_draft, behind_fields, classes_draft, behind_lines}

-- ---- tags

-- the tagging of a tag is well formed, and read as the tag
record IsTagging (tag : Option ℤ) : Type 0 where
  form : is_tagging (tagging_of tag) ≡ true
  good : is_bad_tag (tagging_of tag) ≡ false
  again : tag_of (tagging_of tag) ≡ tag

tagging_is : (tag : Option ℤ) → is_tag tag ≡ true → IsTagging tag
tagging_is None h = record { form = refl; good = refl; again = refl }
tagging_is (Some (negsuc zero)) h = record { form = refl; good = refl; again = refl }
tagging_is (Some (negsuc (suc n))) h = absurd (true≢false (sym h))
tagging_is (Some (pos n)) h =
    let e = read_decimal 256 n (omega arith) (ltb-true n 256 h) in
    let c = chosen (is_decimal (decimal n) && ltb (digits_number (decimal n)) 256) (digits_number (decimal n)) n e in
    record { form = decimal_tag (decimal n) (and_parts (is_decimal (decimal n)) _ c.0).0; good = ap is_none e; again = ap (option_map pos) e }

-- ---- one line

field_form : (f : DraftField) → is_draft_field f ≡ true → is_line_form (draft_field_line f) ≡ true
field_form f h =
    let word = and_parts _ (is_item_word f.word) h in
    let tag = and_parts _ (is_tag f.tag) word.0 in
    let name = and_parts (is_field_name f.name) _ tag.0 in
    and_from _ _ (and_from _ _ name.0 word.1) (tagging_is f.tag tag.1).form

-- a field's line behind the class with the fields before it
field_read : (cs : List DraftClass) (c : DraftClass) (f : DraftField) (more : List DraftField) → IsClassBehind cs (more_fields c (f ∷ more))
    → line_taken f.line (unrooted (cs ++ c ∷ [])) (line_words (draft_field_line f)) ≡ Ok (unrooted (cs ++ more_fields c (f ∷ []) ∷ []))
field_read cs c f more k =
    let all = cs ++ c ∷ [] in
    let names = names_next (names_from [] cs) c in
    let t = tagging_of f.tag in
    let fields = and_parts (list_all is_draft_field c.own) _ (sym (list_all-append is_draft_field c.own (f ∷ more)) ∙ k.fields) in
    let fit = (and_parts (is_draft_field f) (list_all is_draft_field more) fields.1).0 in
    let word = and_parts _ (is_item_word f.word) fit in
    let tag = and_parts _ (is_tag f.tag) word.0 in
    let whole : is_one_of fractional_words f.word ≡ false = not-true _ (and_parts (is_field_name f.name) _ tag.0).1 in
    let tagging = tagging_is f.tag tag.1 in
    let both =
    and_parts (keys_differ (names ++ f.name ∷ field_names more)) _ (ap are_field_names (sym (names_more (names_from [] cs) c (f ∷ more))) ∙ k.names) in
    let last = last_names-push cs c in
    let fresh : list_any (bytes_eq f.name) (last_names all) ≡ false =
    ap (list_any (bytes_eq f.name)) last ∙ not-true _ (keys_apart names f.name (field_names more) both.0) in
    let short = leb-true (length (names ++ f.name ∷ field_names more)) 63 both.1 in
    let few : leb 63 (length (last_names all)) ≡ false =
    lt-leb 63 (length (last_names all)) (omega (arith, ap length last, length-append names (f.name ∷ field_names more))) in
    let places = or_from (list_any (bytes_eq f.name) (last_names all)) _ fresh (or_from (leb 63 (length (last_names all))) false few refl) in
    let tests = or_from (is_one_of fractional_words f.word) _ whole (or_from (is_bad_tag t) _ tagging.good places) in
    let some : eqb (length all) 0 ≡ false = ne_eqb (length all) 0 (λ z. omega (arith, length_push cs c)) in
    ap (form_taken f.line (unrooted all)) (form_read (draft_field_line f) (field_form f fit))
    ∙ (cond-false (eqb (length all) 0) (Err (UnknownWord f.line)) (field_taken f.line (unrooted all) f.name f.grouping f.word t) some
    ∙ (pass_none
    ((is_one_of fractional_words f.word, FractionalKind f.line) ∷ (is_bad_tag t, BadTag f.line) ∷ (list_any (bytes_eq f.name) (last_names all), TwiceField f.line)
    ∷ (leb 63 (length (last_names all)), TooManyFields f.line) ∷ [])
    (unrooted (with_field all (record { name = f.name; grouping = f.grouping; word = f.word; tag = tag_of t; line = f.line }))) tests
    ∙ (ap (λ g. Ok (unrooted (with_field all (record { name = f.name; grouping = f.grouping; word = f.word; tag = g; line = f.line })))) tagging.again
    ∙ ap (λ l. Ok (unrooted l)) (with_field-push cs c f))))

-- the names of classes
pub class_names : (cs : List DraftClass) → AreClassesBehind [] cs → list_all (λ (c : DraftClass). is_class_name c.name) cs ≡ true
class_names cs k =
    all_pass is_draft_class (λ (c : DraftClass). is_class_name c.name) cs (λ c h. (and_parts (is_class_name c.name) _ h).0) (behind_classes [] cs k)

class_form : (cs : List DraftClass) (name : List ℕ) (parent : Option ℕ) → AreClassesBehind [] cs → is_class_name name ≡ true
    → is_earlier (length cs) parent ≡ true → is_line_form (ClassLine name (draft_parent cs parent)) ≡ true
class_form cs name None k h e = h
class_form cs name (Some n) k h e = and_from _ _ h (named_at cs n (class_names cs k) (ltb-true n (length cs) e))

-- a parent is found at its place
parent_read : (cs : List DraftClass) (parent : Option ℕ) → keys_differ (names_of cs) ≡ true → is_earlier (length cs) parent ≡ true
    → (is_later cs (draft_parent cs parent) ≡ false) × (parent_place cs (draft_parent cs parent) ≡ parent)
parent_read cs None d e = (refl, refl)
parent_read cs (Some n) d e =
    let found : class_place cs (draft_name cs n) ≡ Some n = own_place 0 cs n d (ltb-true n (length cs) e) ∙ ap Some (omega arith) in
    (ap is_none found, found)

-- a class without its fields
abbrev bare : DraftClass → DraftClass
bare c = record { name = c.name; parent = c.parent; own = [] }

-- a class's line behind the earlier classes
class_read : (line : ℕ) (cs : List DraftClass) (c : DraftClass) → AreClassesBehind [] cs → IsClassBehind cs c
    → line_taken line (unrooted cs) (line_words (ClassLine c.name (draft_parent cs c.parent))) ≡ Ok (unrooted (cs ++ bare c ∷ []))
class_read line cs c k h =
    let parent = draft_parent cs c.parent in
    let found = parent_read cs c.parent (behind_differ [] cs refl k) h.earlier_parent in
    let fresh : is_some (class_place cs c.name) ≡ false = is_placed 0 cs c.name ∙ not-true _ h.fresh in
    let few = or_from (leb 256 (length cs)) false (lt-leb 256 (length cs) h.few) refl in
    let tests = or_from (is_some (class_place cs c.name)) _ fresh (or_from (is_later cs parent) _ found.0 few) in
    ap (form_taken line (unrooted cs)) (form_read (ClassLine c.name parent) (class_form cs c.name c.parent k h.named h.earlier_parent))
    ∙ (pass_none
    ((is_some (class_place cs c.name), TwiceClass line) ∷ (is_later cs parent, ParentLater line) ∷ (leb 256 (length cs), TooManyClasses line) ∷ [])
    (with_class (unrooted cs) c.name (parent_place cs parent)) tests
    ∙ ap (λ p. Ok (with_class (unrooted cs) c.name p)) found.1)

-- ---- the lines of classes are well formed

fields_formed : (fs : List DraftField) → list_all is_draft_field fs ≡ true → list_all is_line_form (map draft_field_line fs) ≡ true
fields_formed [] h = refl
fields_formed (f ∷ fs) h =
    let two = and_parts (is_draft_field f) (list_all is_draft_field fs) h in
    and_from _ _ (field_form f two.0) (fields_formed fs two.1)

pub lines_formed : (earlier cs : List DraftClass) → AreClassesBehind [] earlier → AreClassesBehind earlier cs
    → list_all is_line_form (lines_behind earlier cs) ≡ true
lines_formed earlier [] k h = refl
lines_formed earlier (c ∷ cs) k h =
    let head = class_form earlier c.name c.parent k h.0.named h.0.earlier_parent in
    all_append is_line_form (draft_class_lines earlier c) (lines_behind (earlier ++ c ∷ []) cs) (and_from _ _ head (fields_formed c.own h.0.fields))
    (lines_formed (earlier ++ c ∷ []) cs (behind_push [] earlier c k h.0) h.1)

-- ---- all lines of a class, and of classes

read_fields : (classes : List Class) (fs : List FieldDecl) (line : ℕ) (cs : List DraftClass) (c : DraftClass) (rest : List (List (List ℕ)))
    → IsClassBehind cs (more_fields c (fields_draft classes line fs))
    → lines_taken line (unrooted (cs ++ c ∷ [])) (map line_words (map draft_field_line (fields_draft classes line fs)) ++ rest)
    ≡ lines_taken (behind_fields line fs) (unrooted (cs ++ more_fields c (fields_draft classes line fs) ∷ [])) rest
read_fields classes [] line cs c rest k =
    ap (λ o. lines_taken line (unrooted (cs ++ record { name = c.name; parent = c.parent; own = o } ∷ [])) rest) (sym (append-nil c.own))
read_fields classes (f ∷ fs) line cs c rest k =
    let more = fields_draft classes (suc line) fs in
    let own = append_assoc c.own (field_draft classes line f ∷ []) more in
    let class : List DraftField → DraftClass = λ o. record { name = c.name; parent = c.parent; own = o } in
    ap (λ r. r >>= (λ next. lines_taken (suc line) next (map line_words (map draft_field_line more) ++ rest))) (field_read cs c (field_draft classes line f) more k)
    ∙ (read_fields classes fs (suc line) cs (more_fields c (field_draft classes line f ∷ [])) rest (subst (λ o. IsClassBehind cs (class o)) (sym own) k)
    ∙ ap (λ o. lines_taken (behind_fields (suc line) fs) (unrooted (cs ++ class o ∷ [])) rest) own)

pub read_classes : (classes todo : List Class) (line : ℕ) (cs : List DraftClass) (rest : List (List (List ℕ))) → AreClassesBehind [] cs
    → AreClassesBehind cs (classes_draft classes line todo)
    → lines_taken line (unrooted cs) (map line_words (lines_behind cs (classes_draft classes line todo)) ++ rest)
    ≡ lines_taken (behind_lines line todo) (unrooted (cs ++ classes_draft classes line todo)) rest
read_classes classes [] line cs rest k h = ap (λ l. lines_taken line (unrooted l) rest) (sym (append-nil cs))
read_classes classes (c ∷ todo) line cs rest k h =
    let d = class_draft classes line c in
    let next = behind_fields (suc line) c.own in
    let fields = map draft_field_line d.own in
    let later = lines_behind (cs ++ d ∷ []) (classes_draft classes next todo) in
    let apart : map line_words (fields ++ later) ++ rest ≡ map line_words fields ++ (map line_words later ++ rest) =
    ap (λ l. l ++ rest) (map-append line_words fields later) ∙ append_assoc (map line_words fields) (map line_words later) rest in
    ap (λ r. r >>= (λ next. lines_taken (suc line) next (map line_words (fields ++ later) ++ rest))) (class_read line cs d k h.0)
    ∙ (ap (lines_taken (suc line) (unrooted (cs ++ bare d ∷ []))) apart
    ∙ (read_fields classes c.own (suc line) cs (bare d) (map line_words later ++ rest) h.0
    ∙ (read_classes classes todo next (cs ++ d ∷ []) rest (behind_push [] cs d k h.0) h.1
    ∙ ap (λ l. lines_taken (behind_lines next todo) (unrooted l) rest) (append_assoc cs (d ∷ []) (classes_draft classes next todo)))))
