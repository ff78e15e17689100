-- The names of the fields of the classes of a draft, class by class.
use Rattle.std.proofs.Common.{◌≡◌, ℕ, ◌+◌, ◌-◌, List, [], ◌∷◌, ◌++◌, length, map, get_or, refl, sym, ap, ◌∙◌, arith, append_assoc}
use Rattle.std.proofs.lemmas.List.{map-append, length_push}
use Rattle.std.proofs.Math.Seq.{get_or-append_seam}
use Rattle.text_model.specs.declared.draft.DraftField.{DraftField}
use Rattle.text_model.specs.declared.draft.DraftClass.{DraftClass}
use Rattle.text_model.specs.SchemaReading.{names_inherited, names_from, last_names, with_field}

abbrev pub field_names : List DraftField → List (List ℕ)
field_names fs = map (λ (f : DraftField). f.name) fs

-- the names of all fields of a class, where those of the earlier classes are these
abbrev pub names_next : List (List (List ℕ)) → DraftClass → List (List ℕ)
names_next earlier c = names_inherited earlier c.parent ++ field_names c.own

pub names_from-append : (earlier : List (List (List ℕ))) (cs es : List DraftClass)
    → names_from earlier (cs ++ es) ≡ names_from (names_from earlier cs) es
names_from-append earlier [] es = refl
names_from-append earlier (c ∷ cs) es = names_from-append (earlier ++ names_next earlier c ∷ []) cs es

pub length-names_from : (earlier : List (List (List ℕ))) (cs : List DraftClass) → length (names_from earlier cs) ≡ length earlier + length cs
length-names_from earlier [] = omega arith
length-names_from earlier (c ∷ cs) =
    omega (arith, length-names_from (earlier ++ names_next earlier c ∷ []) cs, length_push earlier (names_next earlier c))

-- the names of the last class's fields
pub last_names-push : (cs : List DraftClass) (c : DraftClass) → last_names (cs ++ c ∷ []) ≡ names_next (names_from [] cs) c
last_names-push cs c =
    let place : length (cs ++ c ∷ []) - 1 ≡ length (names_from [] cs) = omega (arith, length_push cs c, length-names_from [] cs) in
    ap (λ t. get_or t (length (cs ++ c ∷ []) - 1) []) (names_from-append [] cs (c ∷ []))
    ∙ (ap (λ n. get_or (names_from [] cs ++ names_next (names_from [] cs) c ∷ []) n []) place
    ∙ get_or-append_seam (names_from [] cs) (names_next (names_from [] cs) c) [] [])

-- a class with a field more
abbrev pub more_fields : DraftClass → List DraftField → DraftClass
more_fields c fs = record { name = c.name; parent = c.parent; own = c.own ++ fs }

pub with_field-push : (cs : List DraftClass) (c : DraftClass) (f : DraftField) → with_field (cs ++ c ∷ []) f ≡ cs ++ more_fields c (f ∷ []) ∷ []
with_field-push [] c f = refl
with_field-push (x ∷ []) c f = refl
with_field-push (x ∷ y ∷ cs) c f = ap (λ l. x ∷ l) (with_field-push (y ∷ cs) c f)

-- the names with those of more fields
pub names_more : (earlier : List (List (List ℕ))) (c : DraftClass) (fs : List DraftField)
    → names_next earlier (more_fields c fs) ≡ names_next earlier c ++ field_names fs
names_more earlier c fs =
    ap (λ l. names_inherited earlier c.parent ++ l) (map-append (λ (f : DraftField). f.name) c.own fs)
    ∙ sym (append_assoc (names_inherited earlier c.parent) (field_names c.own) (field_names fs))
