-- What each class of a draft keeps to, behind the earlier ones.
use Rattle.std.proofs.Common.{◌≡◌, ℕ, zero, suc, ◌<◌, Bool, true, not, ◌&&◌, List, [], ◌∷◌, ◌++◌, length, Option, Some, None, refl, sym, ap, ◌∙◌, subst, append_assoc, append-nil, bytes_eq, leb, slice_get, unwrap_or}
use Rattle.std.proofs.lemmas.Bool.{and_parts, and_from}
use Rattle.std.specs.List.{list_any, list_all}
use Rattle.lists.proofs.Passing.{all_append}
use Rattle.schema_model.specs.Classes.{is_earlier}
use Rattle.state_model.specs.Sound.{keys_differ}
use Rattle.text_model.specs.Marks.{is_class_name, is_field_name, is_one_of}
use Rattle.text_model.specs.declared.draft.DraftField.{DraftField}
use Rattle.text_model.specs.declared.draft.DraftClass.{DraftClass}
use Rattle.text_model.specs.SchemaLines.{fractional_words, is_item_word, is_tag}
use Rattle.text_model.specs.SchemaReading.{names_from, names_inherited}
use Rattle.text_model.proofs.NamesFound.{names_of}
use Rattle.text_model.proofs.DraftTable.{names_next, names_from-append}

abbrev pub is_draft_field : DraftField → Bool
is_draft_field f = is_field_name f.name && not (is_one_of fractional_words f.word) && is_tag f.tag && is_item_word f.word

-- the names of the fields of a class differ, and are at most 63
abbrev pub are_field_names : List (List ℕ) → Bool
are_field_names names = keys_differ names && leb (length names) 63

-- a class that can stand behind these
pub record IsClassBehind (earlier : List DraftClass) (c : DraftClass) : Type 0 where
  pub few : length earlier < 256
  pub named : is_class_name c.name ≡ true
  pub fresh : not (list_any (bytes_eq c.name) (names_of earlier)) ≡ true
  pub earlier_parent : is_earlier (length earlier) c.parent ≡ true
  pub fields : list_all is_draft_field c.own ≡ true
  pub names : are_field_names (names_next (names_from [] earlier) c) ≡ true

abbrev pub AreClassesBehind : List DraftClass → List DraftClass → Type 0
AreClassesBehind earlier [] = Unit {0}
AreClassesBehind earlier (c ∷ cs) = IsClassBehind earlier c × AreClassesBehind (earlier ++ c ∷ []) cs

-- one class more
pub behind_push : (earlier cs : List DraftClass) (c : DraftClass) → AreClassesBehind earlier cs → IsClassBehind (earlier ++ cs) c
    → AreClassesBehind earlier (cs ++ c ∷ [])
behind_push earlier [] c k h = (subst (λ l. IsClassBehind l c) (append-nil earlier) h, tt)
behind_push earlier (e ∷ cs) c k h =
    (k.0, behind_push (earlier ++ e ∷ []) cs c k.1 (subst (λ l. IsClassBehind l c) (sym (append_assoc earlier (e ∷ []) cs)) h))

-- the last class, and those before it
pub behind_pop : (earlier cs : List DraftClass) (c : DraftClass) → AreClassesBehind earlier (cs ++ c ∷ [])
    → AreClassesBehind earlier cs × IsClassBehind (earlier ++ cs) c
behind_pop earlier [] c k = (tt, subst (λ l. IsClassBehind l c) (sym (append-nil earlier)) k.0)
behind_pop earlier (e ∷ cs) c k =
    let r = behind_pop (earlier ++ e ∷ []) cs c k.1 in
    ((k.0, r.0), subst (λ l. IsClassBehind l c) (append_assoc earlier (e ∷ []) cs) r.1)

-- the fields of each class have such names
pub behind_names : (earlier cs : List DraftClass) → list_all are_field_names (names_from [] earlier) ≡ true → AreClassesBehind earlier cs
    → list_all are_field_names (names_from [] (earlier ++ cs)) ≡ true
behind_names earlier [] h k = ap (λ l. list_all are_field_names (names_from [] l)) (append-nil earlier) ∙ h
behind_names earlier (c ∷ cs) h k =
    let table = names_from [] earlier in
    let next : list_all are_field_names (names_from [] (earlier ++ c ∷ [])) ≡ true =
    ap (list_all are_field_names) (names_from-append [] earlier (c ∷ []))
    ∙ all_append are_field_names table (names_next table c ∷ []) h (and_from _ true k.0.names refl) in
    ap (λ l. list_all are_field_names (names_from [] l)) (sym (append_assoc earlier (c ∷ []) cs)) ∙ behind_names (earlier ++ c ∷ []) cs next k.1

names_at : (table : List (List (List ℕ))) (n : ℕ) → list_all are_field_names table ≡ true → are_field_names (unwrap_or (slice_get table n) []) ≡ true
names_at [] n h = refl
names_at (names ∷ table) zero h = (and_parts (are_field_names names) (list_all are_field_names table) h).0
names_at (names ∷ table) (suc n) h = names_at table n (and_parts (are_field_names names) (list_all are_field_names table) h).1

-- so a class that declares none has such names
pub inherited_names : (table : List (List (List ℕ))) (parent : Option ℕ) → list_all are_field_names table ≡ true
    → are_field_names (names_inherited table parent ++ []) ≡ true
inherited_names table None h = refl
inherited_names table (Some n) h = ap are_field_names (append-nil (unwrap_or (slice_get table n) [])) ∙ names_at table n h
