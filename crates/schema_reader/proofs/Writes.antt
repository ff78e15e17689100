-- What is written, line by line.
use Rattle.std.proofs.Common.{◌≡◌, ℕ, ◌+◌, ◌<◌, List, [], ◌∷◌, ◌++◌, length, map, get_or, take, sym, ap, ◌∙◌, append_assoc}
use Rattle.std.specs.List.{flat_map}
use Rattle.std.proofs.lemmas.List.{append-nil, map-append, take_more}
use Rattle.std.proofs.lemmas.List.Concat.{flat_map-append}
use Rattle.schema_model.specs.declared.class.Class.{Class}
use Rattle.schema_model.specs.declared.class.FieldDecl.{FieldDecl}
use Rattle.text_model.specs.Marks.{line, lines}
use Rattle.text_model.specs.SchemaLines.{SchemaLine, class_lines, field_line, line_words}
use Rattle.schema_reader.proofs.GivesLaws.{map_more}

-- the text of lines
abbrev pub text_of : List SchemaLine → List ℕ
text_of ls = lines (map line_words ls)

pub text_of-append : (ls ms : List SchemaLine) → text_of (ls ++ ms) ≡ text_of ls ++ text_of ms
text_of-append ls ms = ap lines (map-append line_words ls ms) ∙ flat_map-append line (map line_words ls) (map line_words ms)

pub text_of-one : (l : SchemaLine) → text_of (l ∷ []) ≡ line (line_words l)
text_of-one l = append-nil (line (line_words l))

-- a field's line more
pub fields_more : (old mid now : List ℕ) (head : SchemaLine) (classes : List Class) (fields : List FieldDecl) (i : ℕ) (f : FieldDecl) → i < length fields → f ≡ get_or fields i f
    → mid ≡ old ++ text_of (head ∷ map (field_line classes) (take i fields)) → now ≡ mid ++ line (line_words (field_line classes f))
    → now ≡ old ++ text_of (head ∷ map (field_line classes) (take (i + 1) fields))
fields_more old mid now head classes fields i f h e m n =
    let prefix = head ∷ map (field_line classes) (take i fields) in
    let one = field_line classes f ∷ [] in
    let more : head ∷ map (field_line classes) (take (i + 1) fields) ≡ prefix ++ one =
    ap (λ t. head ∷ t) (map_more (field_line classes) fields i f h ∙ ap (λ y. map (field_line classes) (take i fields) ++ field_line classes y ∷ []) (sym e)) in
    n
    ∙ (ap (λ t. t ++ line (line_words (field_line classes f))) m
    ∙ (append_assoc old (text_of prefix) (line (line_words (field_line classes f)))
    ∙ ap (λ t. old ++ t) (ap (λ t. text_of prefix ++ t) (sym (text_of-one (field_line classes f))) ∙ (sym (text_of-append prefix one) ∙ sym (ap text_of more)))))

-- a class's lines more
pub classes_more : (mid now : List ℕ) (all classes : List Class) (i : ℕ) (c : Class) → i < length classes → c ≡ get_or classes i c
    → mid ≡ text_of (flat_map (class_lines all) (take i classes)) → now ≡ mid ++ text_of (class_lines all c)
    → now ≡ text_of (flat_map (class_lines all) (take (i + 1) classes))
classes_more mid now all classes i c h e m n =
    let prefix = flat_map (class_lines all) (take i classes) in
    let more : flat_map (class_lines all) (take (i + 1) classes) ≡ prefix ++ class_lines all c =
    ap (flat_map (class_lines all)) (take_more classes i c h)
    ∙ (flat_map-append (class_lines all) (take i classes) (get_or classes i c ∷ [])
    ∙ ap (λ t. prefix ++ t) (append-nil (class_lines all (get_or classes i c)) ∙ ap (class_lines all) (sym e))) in
    n ∙ (ap (λ t. t ++ text_of (class_lines all c)) m ∙ (sym (text_of-append prefix (class_lines all c)) ∙ sym (ap text_of more)))
