-- What the classes of a draft keep to, said of all of them at once.
use Rattle.std.proofs.Common.{◌≡◌, ℕ, suc, ◌+◌, ◌≤◌, Bool, true, ◌&&◌, List, [], ◌∷◌, ◌++◌, length, refl, sym, ap, ◌∙◌, subst, arith, append_assoc, append-nil, length-append}
use Rattle.std.specs.List.{list_all}
use Rattle.std.proofs.lemmas.Bool.{and_parts, and_from}
use Rattle.std.proofs.lemmas.List.{map-append, length_push}
use Rattle.std.proofs.lemmas.List.Folds.{list_all-append}
use Rattle.schema_model.specs.Classes.{is_earlier}
use Rattle.state_model.specs.Sound.{keys_differ}
use Rattle.text_model.specs.Marks.{is_class_name}
use Rattle.text_model.proofs.Keys.{keys_push, keys_apart}
use Rattle.text_model.specs.declared.draft.DraftClass.{DraftClass}
use Rattle.text_model.specs.SchemaReading.{names_from}
use Rattle.text_model.proofs.NamesFound.{names_of}
use Rattle.text_model.proofs.DraftTable.{names_next, names_from-append}
use Rattle.text_model.proofs.DraftKept.{is_draft_field, are_field_names, IsClassBehind, AreClassesBehind, behind_names}

abbrev pub is_draft_class : DraftClass → Bool
is_draft_class c = is_class_name c.name && list_all is_draft_field c.own

-- the parents of the classes from this number on stand earlier
abbrev pub parents_before : ℕ → List DraftClass → Bool
parents_before n [] = true
parents_before n (c ∷ cs) = is_earlier n c.parent && parents_before (suc n) cs

pub record AreWhole (cs : List DraftClass) : Type 0 where
  pub count : length cs ≤ 256
  pub classes : list_all is_draft_class cs ≡ true
  pub differ : keys_differ (names_of cs) ≡ true
  pub parents : parents_before 0 cs ≡ true
  pub names : list_all are_field_names (names_from [] cs) ≡ true

-- ---- from each class behind the earlier ones

pub behind_count : (earlier cs : List DraftClass) → length earlier ≤ 256 → AreClassesBehind earlier cs → length earlier + length cs ≤ 256
behind_count earlier [] h k = omega arith
behind_count earlier (c ∷ cs) h k =
    let few = k.0.few in
    omega (arith, length_push earlier c, behind_count (earlier ++ c ∷ []) cs (omega (arith, length_push earlier c)) k.1)

pub behind_classes : (earlier cs : List DraftClass) → AreClassesBehind earlier cs → list_all is_draft_class cs ≡ true
behind_classes earlier [] k = refl
behind_classes earlier (c ∷ cs) k = and_from _ _ (and_from (is_class_name c.name) _ k.0.named k.0.fields) (behind_classes (earlier ++ c ∷ []) cs k.1)

names_of-push : (cs : List DraftClass) (c : DraftClass) → names_of (cs ++ c ∷ []) ≡ names_of cs ++ c.name ∷ []
names_of-push cs c = map-append (λ (c : DraftClass). c.name) cs (c ∷ [])

pub behind_differ : (earlier cs : List DraftClass) → keys_differ (names_of earlier) ≡ true → AreClassesBehind earlier cs
    → keys_differ (names_of (earlier ++ cs)) ≡ true
behind_differ earlier [] h k = ap (λ l. keys_differ (names_of l)) (append-nil earlier) ∙ h
behind_differ earlier (c ∷ cs) h k =
    let next : keys_differ (names_of (earlier ++ c ∷ [])) ≡ true =
    ap keys_differ (names_of-push earlier c) ∙ keys_push (names_of earlier) c.name h k.0.fresh in
    ap (λ l. keys_differ (names_of l)) (sym (append_assoc earlier (c ∷ []) cs)) ∙ behind_differ (earlier ++ c ∷ []) cs next k.1

behind_parents : (earlier cs : List DraftClass) (n : ℕ) → n ≡ length earlier → AreClassesBehind earlier cs → parents_before n cs ≡ true
behind_parents earlier [] n e k = refl
behind_parents earlier (c ∷ cs) n e k =
    and_from _ _ (ap (λ m. is_earlier m c.parent) e ∙ k.0.earlier_parent) (behind_parents (earlier ++ c ∷ []) cs (suc n) (omega (arith, length_push earlier c)) k.1)

pub whole_of_behind : (cs : List DraftClass) → AreClassesBehind [] cs → AreWhole cs
whole_of_behind cs k = record {
  count = omega (arith, behind_count [] cs (omega arith) k);
  classes = behind_classes [] cs k;
  differ = behind_differ [] cs refl k;
  parents = behind_parents [] cs 0 refl k;
  names = behind_names [] cs refl k;
}

-- ---- and back

parents_at : (n : ℕ) (earlier : List DraftClass) (c : DraftClass) (cs : List DraftClass) (k : ℕ) → k ≡ n + length earlier
    → parents_before n (earlier ++ c ∷ cs) ≡ true → is_earlier k c.parent ≡ true
parents_at n [] c cs k e h =
    let same : k ≡ n = omega arith in
    ap (λ m. is_earlier m c.parent) same ∙ (and_parts (is_earlier n c.parent) (parents_before (suc n) cs) h).0
parents_at n (x ∷ xs) c cs k e h =
    parents_at (suc n) xs c cs k (omega arith) (and_parts (is_earlier n x.parent) (parents_before (suc n) (xs ++ c ∷ cs)) h).1

-- the names of more classes' fields stand behind these
names_prefix : (table : List (List (List ℕ))) (cs : List DraftClass) → list_all are_field_names (names_from table cs) ≡ true
    → list_all are_field_names table ≡ true
names_prefix table [] h = h
names_prefix table (c ∷ cs) h =
    (and_parts _ _ (sym (list_all-append are_field_names table (names_next table c ∷ [])) ∙ names_prefix (table ++ names_next table c ∷ []) cs h)).0

names_here : (earlier : List DraftClass) (c : DraftClass) (cs : List DraftClass)
    → list_all are_field_names (names_from [] (earlier ++ c ∷ cs)) ≡ true → are_field_names (names_next (names_from [] earlier) c) ≡ true
names_here earlier c cs h =
    let table = names_from [] earlier in
    let prefix = names_prefix (table ++ names_next table c ∷ []) cs (ap (list_all are_field_names) (sym (names_from-append [] earlier (c ∷ cs))) ∙ h) in
    let last = and_parts (list_all are_field_names table) _ (sym (list_all-append are_field_names table (names_next table c ∷ [])) ∙ prefix) in
    (and_parts (are_field_names (names_next table c)) true last.1).0

class_behind : (earlier : List DraftClass) (c : DraftClass) (cs : List DraftClass) → AreWhole (earlier ++ c ∷ cs) → IsClassBehind earlier c
class_behind earlier c cs w =
    let here = and_parts (list_all is_draft_class earlier) _ (sym (list_all-append is_draft_class earlier (c ∷ cs)) ∙ w.classes) in
    let two = and_parts (is_class_name c.name) (list_all is_draft_field c.own) (and_parts (is_draft_class c) (list_all is_draft_class cs) here.1).0 in
    record {
      few = omega (arith, w.count, length-append earlier (c ∷ cs));
      named = two.0;
      fresh = keys_apart (names_of earlier) c.name (names_of cs) (ap keys_differ (sym (map-append (λ (c : DraftClass). c.name) earlier (c ∷ cs))) ∙ w.differ);
      earlier_parent = parents_at 0 earlier c cs (length earlier) (omega arith) w.parents;
      fields = two.1;
      names = names_here earlier c cs w.names;
    }

pub behind_of_whole : (earlier cs : List DraftClass) → AreWhole (earlier ++ cs) → AreClassesBehind earlier cs
behind_of_whole earlier [] w = tt
behind_of_whole earlier (c ∷ cs) w =
    (class_behind earlier c cs w, behind_of_whole (earlier ++ c ∷ []) cs (subst AreWhole (sym (append_assoc earlier (c ∷ []) cs)) w))
