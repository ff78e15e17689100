-- The schema of what was read, where all is declared: it has the same lines, and is spelled where what was read is whole.
use Rattle.std.proofs.Common.{◌≡◌, ℕ, suc, ◌<◌, true, not, ◌&&◌, List, [], ◌∷◌, ◌++◌, length, map, Option, Some, None, unwrap_or, is_some, refl, sym, ap, ap₂, ◌∙◌, arith, append_assoc, slice_get, ltb-true, leb}
use Rattle.std.specs.List.{list_all, flat_map}
use Rattle.std.specs.Option.{option_map, option_map_or}
use Rattle.std.proofs.lemmas.Bool.{and_parts, and_from}
use Rattle.std.proofs.lemmas.List.{map-append, length-map, length_push}
use Rattle.std.proofs.lemmas.Option.{slice_get-map}
use Rattle.schema_model.specs.Classes.{Declared, inherited, fields_from, is_earlier, parents_earlier, item_in_range, item_of}
use Rattle.schema_model.specs.declared.class.Class.{Class}
use Rattle.schema_model.specs.declared.class.FieldDecl.{FieldDecl}
use Rattle.schema_model.proofs.FieldCounts.{is_small}
use Rattle.schema_model.proofs.FieldTables.{declared_by, fields_next, at_prefix}
use Rattle.state_model.specs.Sound.{keys_differ}
use Rattle.text_model.specs.Marks.{is_class_name, is_field_name, is_one_of}
use Rattle.text_model.specs.declared.draft.DraftField.{DraftField}
use Rattle.text_model.specs.declared.draft.DraftClass.{DraftClass}
use Rattle.text_model.specs.SchemaLines.{ClassLine, FieldLine, RootLine, fractional_words, is_item_word, item_word, tagging_of, field_line, parent_name, class_lines, lines_of, is_tag, is_field, is_class, fields_differ}
use Rattle.text_model.specs.SchemaReading.{names_inherited, names_from, class_place, field_of, class_of}
use Rattle.text_model.proofs.NamesFound.{names_of, draft_name}
use Rattle.text_model.proofs.DraftTable.{field_names, names_next}
use Rattle.text_model.proofs.DraftKept.{is_draft_field, are_field_names}
use Rattle.text_model.proofs.DraftLines.{draft_field_line, draft_parent, draft_class_lines, lines_behind}
use Rattle.text_model.proofs.DraftWhole.{is_draft_class, parents_before, AreWhole}
use Rattle.text_model.proofs.Known.{is_known, are_known, item_at, class_name_of, root_found, item_found, known_word, grouping_again, shape_item}
use Rattle.text_model.proofs.Spelled.{AreSpelled}

-- the classes of what was read
abbrev pub classes_of : List DraftClass → List Class
classes_of cs = map (class_of cs) cs

-- ---- lines

-- the item of a known field has the field's word
word_of_field : (cs : List DraftClass) (f : DraftField) → is_known cs f ≡ true → item_word (classes_of cs) (item_of (field_of cs f).shape) ≡ f.word
word_of_field cs f h = ap (item_word (classes_of cs)) (shape_item f.grouping (item_at cs f.word)) ∙ (item_found cs f.word h).0

field_same : (cs : List DraftClass) (f : DraftField) → is_known cs f ≡ true → field_line (classes_of cs) (field_of cs f) ≡ draft_field_line f
field_same cs f h = ap₂ (λ g w. FieldLine f.name g w (tagging_of f.tag)) (grouping_again f.grouping (item_at cs f.word)) (word_of_field cs f h)

fields_same : (cs : List DraftClass) (fs : List DraftField) → list_all (is_known cs) fs ≡ true
    → map (field_line (classes_of cs)) (map (field_of cs) fs) ≡ map draft_field_line fs
fields_same cs [] h = refl
fields_same cs (f ∷ fs) h =
    let two = and_parts (is_known cs f) (list_all (is_known cs) fs) h in
    ap₂ (λ a b. a ∷ b) (field_same cs f two.0) (fields_same cs fs two.1)

parent_same : (cs earlier rest : List DraftClass) (p : Option ℕ) → cs ≡ earlier ++ rest → is_earlier (length earlier) p ≡ true
    → parent_name (classes_of cs) p ≡ draft_parent earlier p
parent_same cs earlier rest None e h = refl
parent_same cs earlier rest (Some n) e h =
    let prefix = at_prefix earlier rest n (ltb-true n (length earlier) h) in
    ap Some (class_name_of cs cs n ∙ (ap (λ l. draft_name l n) e ∙ ap (λ o. option_map_or (λ (c : DraftClass). c.name) o []) prefix))

classes_same : (cs earlier rest : List DraftClass) (n : ℕ) → cs ≡ earlier ++ rest → n ≡ length earlier → parents_before n rest ≡ true
    → list_all (are_known cs) rest ≡ true
    → flat_map (class_lines (classes_of cs)) (map (class_of cs) rest) ≡ lines_behind earlier rest
classes_same cs earlier [] n e l p h = refl
classes_same cs earlier (c ∷ rest) n e l p h =
    let parents = and_parts (is_earlier n c.parent) (parents_before (suc n) rest) p in
    let known = and_parts (are_known cs c) (list_all (are_known cs) rest) h in
    let parent = parent_same cs earlier (c ∷ rest) c.parent e (ap (λ m. is_earlier m c.parent) (sym l) ∙ parents.0) in
    let here : class_lines (classes_of cs) (class_of cs c) ≡ draft_class_lines earlier c =
    ap₂ (λ a b. ClassLine c.name a ∷ b) parent (fields_same cs c.own known.0) in
    let all = e ∙ sym (append_assoc earlier (c ∷ []) rest) in
    ap₂ (λ a b. a ++ b) here (classes_same cs (earlier ++ c ∷ []) rest (suc n) all (omega (arith, length_push earlier c)) parents.1 known.1)

-- the lines of the schema of what was read
pub lines_same : (cs : List DraftClass) (name : List ℕ) → parents_before 0 cs ≡ true → list_all (are_known cs) cs ≡ true
    → is_some (class_place cs name) ≡ true
    → lines_of (record { classes = classes_of cs; root = unwrap_or (class_place cs name) 0 }) ≡ lines_behind [] cs ++ RootLine name ∷ []
lines_same cs name p h r =
    ap₂ (λ a b. a ++ RootLine b ∷ []) (classes_same cs [] cs 0 refl refl p h) (class_name_of cs cs (unwrap_or (class_place cs name) 0) ∙ (root_found cs name r).1)

-- ---- names and parents

pub names_same : (all cs : List DraftClass) → map (λ (c : Class). c.name) (map (class_of all) cs) ≡ names_of cs
names_same all [] = refl
names_same all (c ∷ cs) = ap (λ l. c.name ∷ l) (names_same all cs)

parents_same : (all cs : List DraftClass) (n : ℕ) → parents_earlier n (map (class_of all) cs) ≡ parents_before n cs
parents_same all [] n = refl
parents_same all (c ∷ cs) n = ap (λ b. is_earlier n c.parent && b) (parents_same all cs (suc n))

-- ---- the names of fields

abbrev declared_names : List Declared → List (List ℕ)
declared_names ds = map (λ (d : Declared). d.field.name) ds

unwrapped : (o : Option (List Declared)) → unwrap_or (option_map declared_names o) [] ≡ declared_names (unwrap_or o [])
unwrapped None = refl
unwrapped (Some x) = refl

inherited_same : (table : List (List Declared)) (p : Option ℕ) → names_inherited (map declared_names table) p ≡ declared_names (inherited table p)
inherited_same table None = refl
inherited_same table (Some n) = ap (λ o. unwrap_or o []) (slice_get-map declared_names table n) ∙ unwrapped (slice_get table n)

own_same : (all : List DraftClass) (n : ℕ) (fs : List DraftField) → field_names fs ≡ declared_names (map (declared_by n) (map (field_of all) fs))
own_same all n [] = refl
own_same all n (f ∷ fs) = ap (λ l. f.name ∷ l) (own_same all n fs)

next_same : (all : List DraftClass) (table : List (List Declared)) (c : DraftClass)
    → names_next (map declared_names table) c ≡ declared_names (fields_next table (class_of all c))
next_same all table c =
    ap₂ (λ a b. a ++ b) (inherited_same table c.parent) (own_same all (length table) c.own)
    ∙ sym (map-append (λ (d : Declared). d.field.name) (inherited table c.parent) (map (declared_by (length table)) (map (field_of all) c.own)))

table_same : (all cs : List DraftClass) (table : List (List Declared))
    → names_from (map declared_names table) cs ≡ map declared_names (fields_from table (map (class_of all) cs))
table_same all [] table = refl
table_same all (c ∷ cs) table =
    let pushed = map-append declared_names table (fields_next table (class_of all c) ∷ []) in
    ap (λ t. names_from t cs) (ap (λ l. map declared_names table ++ l ∷ []) (next_same all table c) ∙ sym pushed)
    ∙ table_same all cs (table ++ fields_next table (class_of all c) ∷ [])

names_both : (table : List (List Declared)) → list_all fields_differ table ≡ true → list_all is_small table ≡ true
    → list_all are_field_names (map declared_names table) ≡ true
names_both [] h k = refl
names_both (ds ∷ table) h k =
    let differ = and_parts (fields_differ ds) (list_all fields_differ table) h in
    let small = and_parts (is_small ds) (list_all is_small table) k in
    and_from _ _ (and_from _ _ differ.0 (ap (λ n. leb n 63) (length-map ds (λ (d : Declared). d.field.name)) ∙ small.0)) (names_both table differ.1 small.1)

names_each : (table : List (List Declared)) → list_all are_field_names (map declared_names table) ≡ true
    → (list_all fields_differ table ≡ true) × (list_all is_small table ≡ true)
names_each [] h = (refl, refl)
names_each (ds ∷ table) h =
    let here = and_parts (are_field_names (declared_names ds)) (list_all are_field_names (map declared_names table)) h in
    let two = and_parts (keys_differ (declared_names ds)) (leb (length (declared_names ds)) 63) here.0 in
    let rest = names_each table here.1 in
    (and_from _ _ two.0 rest.0, and_from _ _ (ap (λ n. leb n 63) (sym (length-map ds (λ (d : Declared). d.field.name))) ∙ two.1) rest.1)

-- ---- fields

field_spelled : (cs : List DraftClass) (f : DraftField) → is_known cs f ≡ true
    → is_field (classes_of cs) (field_of cs f) ≡ (is_field_name f.name && not (is_one_of fractional_words f.word) && is_tag f.tag)
field_spelled cs f h = ap (λ w. is_field_name f.name && not (is_one_of fractional_words w) && is_tag f.tag) (word_of_field cs f h)

fields_spelled : (cs : List DraftClass) (fs : List DraftField) → list_all (is_known cs) fs ≡ true → list_all is_draft_field fs ≡ true
    → list_all (is_field (classes_of cs)) (map (field_of cs) fs) ≡ true
fields_spelled cs [] h k = refl
fields_spelled cs (f ∷ fs) h k =
    let known = and_parts (is_known cs f) (list_all (is_known cs) fs) h in
    let fit = and_parts (is_draft_field f) (list_all is_draft_field fs) k in
    and_from _ _ (field_spelled cs f known.0 ∙ (and_parts _ (is_item_word f.word) fit.0).0) (fields_spelled cs fs known.1 fit.1)

fields_drafted : (cs : List DraftClass) (fs : List DraftField) → list_all (λ (c : DraftClass). is_class_name c.name) cs ≡ true
    → list_all (is_known cs) fs ≡ true
    → list_all (is_field (classes_of cs)) (map (field_of cs) fs) ≡ true → list_all is_draft_field fs ≡ true
fields_drafted cs [] n h k = refl
fields_drafted cs (f ∷ fs) n h k =
    let known = and_parts (is_known cs f) (list_all (is_known cs) fs) h in
    let fit = and_parts (is_field (classes_of cs) (field_of cs f)) _ k in
    and_from _ _ (and_from _ _ (sym (field_spelled cs f known.0) ∙ fit.0) (known_word cs f.word n known.0)) (fields_drafted cs fs n known.1 fit.1)

items_known : (cs : List DraftClass) (fs : List DraftField) → list_all (is_known cs) fs ≡ true
    → list_all (λ (f : FieldDecl). item_in_range (length (classes_of cs)) (item_of f.shape)) (map (field_of cs) fs) ≡ true
items_known cs [] h = refl
items_known cs (f ∷ fs) h =
    let known = and_parts (is_known cs f) (list_all (is_known cs) fs) h in
    and_from _ _ (ap (item_in_range (length (classes_of cs))) (shape_item f.grouping (item_at cs f.word)) ∙ (item_found cs f.word known.0).1) (items_known cs fs known.1)

-- ---- classes

classes_spelled : (cs es : List DraftClass) → list_all (are_known cs) es ≡ true → list_all is_draft_class es ≡ true
    → list_all (is_class (classes_of cs)) (map (class_of cs) es) ≡ true
classes_spelled cs [] h k = refl
classes_spelled cs (c ∷ es) h k =
    let known = and_parts (are_known cs c) (list_all (are_known cs) es) h in
    let fit = and_parts (is_draft_class c) (list_all is_draft_class es) k in
    let two = and_parts (is_class_name c.name) (list_all is_draft_field c.own) fit.0 in
    and_from _ _ (and_from _ _ two.0 (fields_spelled cs c.own known.0 two.1)) (classes_spelled cs es known.1 fit.1)

classes_drafted : (cs es : List DraftClass) → list_all (λ (c : DraftClass). is_class_name c.name) cs ≡ true → list_all (are_known cs) es ≡ true
    → list_all (is_class (classes_of cs)) (map (class_of cs) es) ≡ true → list_all is_draft_class es ≡ true
classes_drafted cs [] n h k = refl
classes_drafted cs (c ∷ es) n h k =
    let known = and_parts (are_known cs c) (list_all (are_known cs) es) h in
    let fit = and_parts (is_class (classes_of cs) (class_of cs c)) _ k in
    let two = and_parts (is_class_name c.name) _ fit.0 in
    and_from _ _ (and_from _ _ two.0 (fields_drafted cs c.own n known.0 two.1)) (classes_drafted cs es n known.1 fit.1)

class_names : (cs all : List DraftClass) (classes : List Class) → list_all (is_class classes) (map (class_of all) cs) ≡ true
    → list_all (λ (c : DraftClass). is_class_name c.name) cs ≡ true
class_names [] all classes h = refl
class_names (c ∷ cs) all classes h =
    let two = and_parts (is_class classes (class_of all c)) (list_all (is_class classes) (map (class_of all) cs)) h in
    and_from (is_class_name c.name) _ (and_parts (is_class_name c.name) _ two.0).0 (class_names cs all classes two.1)

range_known : (cs es : List DraftClass) → list_all (are_known cs) es ≡ true
    → list_all (λ (c : Class). list_all (λ (f : FieldDecl). item_in_range (length (classes_of cs)) (item_of f.shape)) c.own) (map (class_of cs) es) ≡ true
range_known cs [] h = refl
range_known cs (c ∷ es) h =
    let known = and_parts (are_known cs c) (list_all (are_known cs) es) h in
    and_from _ _ (items_known cs c.own known.0) (range_known cs es known.1)

-- ---- the schema

-- the schema of what is whole and known is spelled
pub spelled_of_whole : (cs : List DraftClass) (root : ℕ) → AreWhole cs → list_all (are_known cs) cs ≡ true → root < length cs
    → AreSpelled (record { classes = classes_of cs; root = root })
spelled_of_whole cs root w h r =
    let names = names_each (fields_from [] (classes_of cs)) (ap (list_all are_field_names) (sym (table_same cs cs [])) ∙ w.names) in
    record {
      count = omega (arith, w.count, length-map cs (class_of cs));
      root = omega (arith, r, length-map cs (class_of cs));
      parents = parents_same cs cs 0 ∙ w.parents;
      items = range_known cs cs h;
      small = names.1;
      classes = classes_spelled cs cs h w.classes;
      names = ap keys_differ (names_same cs cs) ∙ w.differ;
      fields = names.0;
    }

-- and the other way round
pub whole_of_spelled : (cs : List DraftClass) (root : ℕ) → list_all (are_known cs) cs ≡ true
    → AreSpelled (record { classes = classes_of cs; root = root }) → AreWhole cs
whole_of_spelled cs root h s = record {
  count = omega (arith, s.count, length-map cs (class_of cs));
  classes = classes_drafted cs cs (class_names cs cs (classes_of cs) s.classes) h s.classes;
  differ = ap keys_differ (sym (names_same cs cs)) ∙ s.names;
  parents = sym (parents_same cs cs 0) ∙ s.parents;
  names = ap (list_all are_field_names) (table_same cs cs []) ∙ names_both (fields_from [] (classes_of cs)) s.fields s.small;
}
