-- What is read of the text of a schema: its classes, with the words of their items and the numbers of their lines.
use Rattle.std.proofs.Common.{◌≡◌, ℕ, zero, suc, ◌<◌, true, List, [], ◌∷◌, length, map, Some, unwrap_or, is_some, refl, ap, ap₂, ◌∙◌, arith}
use Rattle.std.specs.List.{list_all}
use Rattle.std.proofs.lemmas.Bool.{and_parts, and_from}
use Rattle.schema_model.specs.Classes.{Schema, item_in_range, item_of}
use Rattle.schema_model.specs.declared.class.Class.{Class}
use Rattle.schema_model.specs.declared.class.FieldDecl.{FieldDecl}
use Rattle.schema_model.specs.declared.class.Item.{Item}
use Rattle.schema_model.specs.declared.class.Item.TheVariants as item
use Rattle.state_model.specs.Sound.{keys_differ}
use Rattle.text_model.specs.Marks.{is_class_name}
use Rattle.text_model.specs.declared.draft.DraftField.{DraftField}
use Rattle.text_model.specs.declared.draft.DraftClass.{DraftClass}
use Rattle.text_model.specs.SchemaLines.{class_name, item_word, grouping_of, is_class}
use Rattle.text_model.specs.SchemaReading.{class_place, item_of_word, shape_of, field_of, class_of}
use Rattle.text_model.proofs.NamesFound.{names_of, draft_name, own_place}
use Rattle.text_model.proofs.Known.{is_known, are_known, item_again, named_at, shape_again}
use Rattle.text_model.proofs.Spelled.{AreSpelled}
use Rattle.text_model.proofs.DraftSchema.{classes_of}

-- ---- the classes, from a line on

abbrev pub field_draft : List Class → ℕ → FieldDecl → DraftField
field_draft classes line f =
    record { name = f.name; grouping = grouping_of f.shape; word = item_word classes (item_of f.shape); tag = f.tag; line = line }

abbrev pub fields_draft : List Class → ℕ → List FieldDecl → List DraftField
fields_draft classes line [] = []
fields_draft classes line (f ∷ fs) = field_draft classes line f ∷ fields_draft classes (suc line) fs

abbrev pub class_draft : List Class → ℕ → Class → DraftClass
class_draft classes line c = record { name = c.name; parent = c.parent; own = fields_draft classes (suc line) c.own }

-- the number of the line behind these
abbrev pub behind_fields : ℕ → List FieldDecl → ℕ
behind_fields line [] = line
behind_fields line (f ∷ fs) = behind_fields (suc line) fs

abbrev pub classes_draft : List Class → ℕ → List Class → List DraftClass
classes_draft classes line [] = []
classes_draft classes line (c ∷ cs) = class_draft classes line c ∷ classes_draft classes (behind_fields (suc line) c.own) cs

abbrev pub behind_lines : ℕ → List Class → ℕ
behind_lines line [] = line
behind_lines line (c ∷ cs) = behind_lines (behind_fields (suc line) c.own) cs

-- those of a schema
abbrev pub drafted : Schema → List DraftClass
drafted s = classes_draft s.classes 1 s.classes

-- ---- their names

names_drafted : (classes : List Class) (line : ℕ) (cs : List Class) → names_of (classes_draft classes line cs) ≡ map (λ (c : Class). c.name) cs
names_drafted classes line [] = refl
names_drafted classes line (c ∷ cs) = ap (λ l. c.name ∷ l) (names_drafted classes (behind_fields (suc line) c.own) cs)

length_drafted : (classes : List Class) (line : ℕ) (cs : List Class) → length (classes_draft classes line cs) ≡ length cs
length_drafted classes line [] = refl
length_drafted classes line (c ∷ cs) = omega (arith, length_drafted classes (behind_fields (suc line) c.own) cs)

name_drafted : (classes : List Class) (line : ℕ) (cs : List Class) (n : ℕ) → class_name cs n ≡ draft_name (classes_draft classes line cs) n
name_drafted classes line [] n = refl
name_drafted classes line (c ∷ cs) zero = refl
name_drafted classes line (c ∷ cs) (suc n) = name_drafted classes (behind_fields (suc line) c.own) cs n

classes_named : (classes : List Class) (line : ℕ) (cs : List Class) → list_all (is_class classes) cs ≡ true
    → list_all (λ (c : DraftClass). is_class_name c.name) (classes_draft classes line cs) ≡ true
classes_named classes line [] h = refl
classes_named classes line (c ∷ cs) h =
    let two = and_parts (is_class classes c) (list_all (is_class classes) cs) h in
    and_from _ _ (and_parts (is_class_name c.name) _ two.0).0 (classes_named classes (behind_fields (suc line) c.own) cs two.1)

-- ---- their schema is the one they came from

-- the words of these items stand for the same items again
abbrev KnowsAgain : List DraftClass → List Class → ℕ → Type 0
KnowsAgain cs classes count = (i : Item) → item_in_range count i ≡ true → item_of_word cs (item_word classes i) ≡ Some i

fields_again : (ds : List DraftClass) (classes : List Class) (count line : ℕ) (fs : List FieldDecl) → KnowsAgain ds classes count
    → list_all (λ (f : FieldDecl). item_in_range count (item_of f.shape)) fs ≡ true
    → (map (field_of ds) (fields_draft classes line fs) ≡ fs) × (list_all (is_known ds) (fields_draft classes line fs) ≡ true)
fields_again ds classes count line [] knows h = (refl, refl)
fields_again ds classes count line (f ∷ fs) knows h =
    let two = and_parts (item_in_range count (item_of f.shape)) (list_all (λ (f : FieldDecl). item_in_range count (item_of f.shape)) fs) h in
    let rest = fields_again ds classes count (suc line) fs knows two.1 in
    let found = knows (item_of f.shape) two.0 in
    let shape = ap (λ o. shape_of (grouping_of f.shape) (unwrap_or o (item.Class 0))) found ∙ shape_again f.shape in
    let here : field_of ds (field_draft classes line f) ≡ f =
    ap (λ s. let g : FieldDecl = record { name = f.name; shape = s; tag = f.tag } in g) shape in
    (ap₂ (λ a b. a ∷ b) here rest.0, and_from _ _ (ap is_some found) rest.1)

classes_again : (ds : List DraftClass) (classes : List Class) (count line : ℕ) (cs : List Class) → KnowsAgain ds classes count
    → list_all (λ (c : Class). list_all (λ (f : FieldDecl). item_in_range count (item_of f.shape)) c.own) cs ≡ true
    → (map (class_of ds) (classes_draft classes line cs) ≡ cs) × (list_all (are_known ds) (classes_draft classes line cs) ≡ true)
classes_again ds classes count line [] knows h = (refl, refl)
classes_again ds classes count line (c ∷ cs) knows h =
    let two = and_parts (list_all (λ (f : FieldDecl). item_in_range count (item_of f.shape)) c.own) _ h in
    let rest = classes_again ds classes count (behind_fields (suc line) c.own) cs knows two.1 in
    let own = fields_again ds classes count (suc line) c.own knows two.0 in
    let here : class_of ds (class_draft classes line c) ≡ c =
    ap (λ fs. let e : Class = record { name = c.name; parent = c.parent; own = fs } in e) own.0 in
    (ap₂ (λ a b. a ∷ b) here rest.0, and_from _ _ own.1 rest.1)

differ_drafted : (s : Schema) → AreSpelled s → keys_differ (names_of (drafted s)) ≡ true
differ_drafted s p = ap keys_differ (names_drafted s.classes 1 s.classes) ∙ p.names

knows_drafted : (s : Schema) → AreSpelled s → KnowsAgain (drafted s) s.classes (length s.classes)
knows_drafted s p i h =
    item_again (drafted s) s.classes i (differ_drafted s p) (name_drafted s.classes 1 s.classes) (λ n. named_at (drafted s) n (classes_named s.classes 1 s.classes p.classes))
    (ap (λ n. item_in_range n i) (length_drafted s.classes 1 s.classes) ∙ h)

-- all their items are known, and they are the classes of the schema
pub drafted_again : (s : Schema) → AreSpelled s → (classes_of (drafted s) ≡ s.classes) × (list_all (are_known (drafted s)) (drafted s) ≡ true)
drafted_again s p = classes_again (drafted s) s.classes (length s.classes) 1 s.classes (knows_drafted s p) p.items

-- the root's name is found at its place
pub drafted_root : (s : Schema) → AreSpelled s → class_place (drafted s) (class_name s.classes s.root) ≡ Some s.root
drafted_root s p =
    let here : s.root < length (drafted s) = omega (arith, p.root, length_drafted s.classes 1 s.classes) in
    ap (class_place (drafted s)) (name_drafted s.classes 1 s.classes s.root)
    ∙ (own_place 0 (drafted s) s.root (differ_drafted s p) here ∙ ap Some (omega arith))
