-- What is declared somewhere: the items of fields, and the root.
use Rattle.std.proofs.Common.{◌≡◌, ℕ, zero, suc, ◌<◌, Bool, true, false, ◌||◌, cond, List, [], ◌∷◌, ◌++◌, length, map, Option, Some, None, is_some, unwrap_or, refl, sym, ap, ap₂, ◌∙◌, arith, lt-ltb, ltb-true}
use Rattle.std.specs.List.{list_all, flat_map}
use Rattle.std.specs.Option.{option_map, option_map_or}
use Rattle.std.proofs.lemmas.Bool.{and_parts, and_from, true≢false, not-true}
use Rattle.std.proofs.lemmas.List.{length-map}
use Rattle.schema_model.specs.Classes.{item_in_range, item_of}
use Rattle.schema_model.specs.declared.class.Class.{Class}
use Rattle.schema_model.specs.declared.class.Item.{Item}
use Rattle.schema_model.specs.declared.class.Item.TheVariants as item
use Rattle.schema_model.specs.declared.class.Shape.{Shape}
use Rattle.schema_model.specs.declared.class.Shape.TheVariants as shape
use Rattle.schema_model.specs.declared.scalar.ScalarKind.{ScalarKind}
use Rattle.schema_model.specs.declared.scalar.ScalarKind.TheVariants as kind
use Rattle.state_model.specs.Sound.{keys_differ}
use Rattle.text_model.specs.Marks.{is_class_name, is_field_name, is_one_of, kind_words, scalar_word}
use Rattle.text_model.specs.declared.draft.Grouping.{Grouping}
use Rattle.text_model.specs.declared.draft.Grouping.TheVariants.{Alone, Mapped, Listed, Gathered}
use Rattle.text_model.specs.declared.draft.DraftField.{DraftField}
use Rattle.text_model.specs.declared.draft.DraftClass.{DraftClass}
use Rattle.text_model.specs.declared.draft.DraftRoot.{DraftRoot}
use Rattle.text_model.specs.SchemaLines.{kind_of_word, is_item_word, class_name, item_word, grouping_of}
use Rattle.text_model.specs.SchemaReading.{Draft, class_place, item_of_word, unknown_field, unknown_root, unknown_lines, shape_of, class_of}
use Rattle.text_model.proofs.NamesFound.{names_of, draft_name, placed_name, own_place}
use Rattle.text_model.proofs.ItemWords.{kind_named, kind_known}

-- ---- nothing is unknown

abbrev pub is_known : List DraftClass → DraftField → Bool
is_known classes f = is_some (item_of_word classes f.word)

abbrev pub are_known : List DraftClass → DraftClass → Bool
are_known classes c = list_all (is_known classes) c.own

abbrev pub is_known_root : List DraftClass → Option DraftRoot → Bool
is_known_root classes None = true
is_known_root classes (Some r) = is_some (class_place classes r.name)

-- lists that are empty together are empty
both_empty : (xs ys : List ℕ) → xs ++ ys ≡ [] → (xs ≡ []) × (ys ≡ [])
both_empty [] ys h = (refl, h)
both_empty (x ∷ xs) ys h = absurd (cc)

all_of_empty : {A : Type 0} (g : A → List ℕ) (p : A → Bool) → ((x : A) → g x ≡ [] → p x ≡ true) → (xs : List A) → flat_map g xs ≡ []
    → list_all p xs ≡ true
all_of_empty g p each [] h = refl
all_of_empty g p each (x ∷ xs) h =
    let two = both_empty (g x) (flat_map g xs) h in
    and_from (p x) (list_all p xs) (each x two.0) (all_of_empty g p each xs two.1)

empty_of_all : {A : Type 0} (g : A → List ℕ) (p : A → Bool) → ((x : A) → p x ≡ true → g x ≡ []) → (xs : List A) → list_all p xs ≡ true
    → flat_map g xs ≡ []
empty_of_all g p each [] h = refl
empty_of_all g p each (x ∷ xs) h =
    let two = and_parts (p x) (list_all p xs) h in
    ap₂ (λ a b. a ++ b) (each x two.0) (empty_of_all g p each xs two.1)

known_where : (b : Bool) (n : ℕ) → cond b [] (n ∷ []) ≡ [] → b ≡ true
known_where true n h = refl
known_where false n h = absurd (cc)

root_where : (classes : List DraftClass) (root : Option DraftRoot) → unknown_root classes root ≡ [] → is_known_root classes root ≡ true
root_where classes None h = refl
root_where classes (Some r) h = known_where (is_some (class_place classes r.name)) r.line h

root_none : (classes : List DraftClass) (root : Option DraftRoot) → is_known_root classes root ≡ true → unknown_root classes root ≡ []
root_none classes None h = refl
root_none classes (Some r) h = ap (λ b. cond b [] (r.line ∷ [])) h

-- where no line is unknown, the items of all fields are known, and the root
pub known_of_none : (d : Draft) → unknown_lines d ≡ [] → (list_all (are_known d.classes) d.classes ≡ true) × (is_known_root d.classes d.root ≡ true)
known_of_none d h =
    let two = both_empty (flat_map (λ (c : DraftClass). flat_map (unknown_field d.classes) c.own) d.classes) (unknown_root d.classes d.root) h in
    let fields =
    λ (c : DraftClass). all_of_empty (unknown_field d.classes) (is_known d.classes) (λ f e. known_where (is_known d.classes f) f.line e) c.own in
    (all_of_empty (λ (c : DraftClass). flat_map (unknown_field d.classes) c.own) (are_known d.classes) fields d.classes two.0, root_where d.classes d.root two.1)

pub none_of_known : (d : Draft) → list_all (are_known d.classes) d.classes ≡ true → is_known_root d.classes d.root ≡ true → unknown_lines d ≡ []
none_of_known d h r =
    let fields = λ (c : DraftClass). empty_of_all (unknown_field d.classes) (is_known d.classes) (λ f e. ap (λ b. cond b [] (f.line ∷ [])) e) c.own in
    ap₂ (λ a b. a ++ b) (empty_of_all (λ (c : DraftClass). flat_map (unknown_field d.classes) c.own) (are_known d.classes) fields d.classes h) (root_none d.classes d.root r)

-- ---- the item of a word

-- the item that a word stands for, where it stands for one
abbrev pub item_at : List DraftClass → List ℕ → Item
item_at classes w = unwrap_or (item_of_word classes w) (item.Class 0)

-- a class has its name where it has its fields
pub class_name_of : (all cs : List DraftClass) (n : ℕ) → class_name (map (class_of all) cs) n ≡ draft_name cs n
class_name_of all [] n = refl
class_name_of all (c ∷ cs) zero = refl
class_name_of all (c ∷ cs) (suc n) = class_name_of all cs n

-- a class that was found
found_class : (cs : List DraftClass) (name : List ℕ) (n : ℕ) → class_place cs name ≡ Some n → (n < length cs) × (draft_name cs n ≡ name)
found_class cs name n h =
    let r = placed_name 0 cs name n h in
    let same : n ≡ r.0 = omega (arith, r.1) in
    (omega (arith, r.2), ap (draft_name cs) same ∙ r.3)

-- a root that is known has its name
pub root_found : (cs : List DraftClass) (name : List ℕ) → is_some (class_place cs name) ≡ true
    → (unwrap_or (class_place cs name) 0 < length cs) × (draft_name cs (unwrap_or (class_place cs name) 0) ≡ name)
root_found cs name h = from (class_place cs name) refl h
  where
    from : (o : Option ℕ) → class_place cs name ≡ o → is_some o ≡ true → (unwrap_or o 0 < length cs) × (draft_name cs (unwrap_or o 0) ≡ name)
    from None e k = absurd (true≢false (sym k))
    from (Some n) e k = found_class cs name n e

-- an item that is known: it is there, and has the word
pub item_found : (cs : List DraftClass) (w : List ℕ) → is_some (item_of_word cs w) ≡ true
    → (item_word (map (class_of cs) cs) (item_at cs w) ≡ w) × (item_in_range (length (map (class_of cs) cs)) (item_at cs w) ≡ true)
item_found cs w h = from (kind_of_word w) (class_place cs w) refl refl h
  where
    from : (k : Option ScalarKind) (o : Option ℕ) → kind_of_word w ≡ k → class_place cs w ≡ o
        → is_some (option_map_or (λ k. Some (item.Scalar k)) k (option_map item.Class o)) ≡ true
        → (item_word (map (class_of cs) cs) (unwrap_or (option_map_or (λ k. Some (item.Scalar k)) k (option_map item.Class o)) (item.Class 0)) ≡ w)
        × (item_in_range (length (map (class_of cs) cs)) (unwrap_or (option_map_or (λ k. Some (item.Scalar k)) k (option_map item.Class o)) (item.Class 0)) ≡ true)
    from (Some k) o e d t = (sym (kind_named w k e), refl)
    from None (Some n) e d t =
        let r = found_class cs w n d in
        (class_name_of cs cs n ∙ r.1, lt-ltb n (length (map (class_of cs) cs)) (omega (arith, r.0, length-map cs (class_of cs))))
    from None None e d t = absurd (true≢false (sym t))

-- the class at a place has a class's name
pub named_at : (cs : List DraftClass) (n : ℕ) → list_all (λ (c : DraftClass). is_class_name c.name) cs ≡ true → n < length cs
    → is_class_name (draft_name cs n) ≡ true
named_at [] n k l = absurd (omega arith)
named_at (c ∷ cs) zero k l = (and_parts (is_class_name c.name) _ k).0
named_at (c ∷ cs) (suc n) k l = named_at cs n (and_parts (is_class_name c.name) _ k).1 (omega arith)

-- the word of a known item can stand for one
pub known_word : (cs : List DraftClass) (w : List ℕ) → list_all (λ (c : DraftClass). is_class_name c.name) cs ≡ true
    → is_some (item_of_word cs w) ≡ true → is_item_word w ≡ true
known_word cs w names h = from (kind_of_word w) (class_place cs w) refl h
  where
    from : (k : Option ScalarKind) (o : Option ℕ) → class_place cs w ≡ o
        → is_some (option_map_or (λ k. Some (item.Scalar k)) k (option_map item.Class o)) ≡ true → (is_some k || is_class_name w) ≡ true
    from (Some k) o d t = refl
    from None (Some n) d t =
        let r = found_class cs w n d in
        ap is_class_name (sym r.1) ∙ named_at cs n names r.0
    from None None d t = absurd (true≢false (sym t))

-- ---- the word of an item

kind_taken : (k : ScalarKind) → is_one_of kind_words (scalar_word k) ≡ true
kind_taken kind.Number = refl
kind_taken kind.Str = refl
kind_taken kind.Bool = refl
kind_taken kind.I8 = refl
kind_taken kind.U8 = refl
kind_taken kind.I16 = refl
kind_taken kind.U16 = refl
kind_taken kind.I32 = refl
kind_taken kind.U32 = refl

-- the name of a class stands for no kind
no_kind : (w : List ℕ) → is_class_name w ≡ true → kind_of_word w ≡ None
no_kind w h = from (kind_of_word w) refl
  where
    from : (o : Option ScalarKind) → kind_of_word w ≡ o → o ≡ None
    from None e = refl
    from (Some k) e =
        let none = not-true _ (and_parts _ _ (and_parts (is_field_name w) _ h).0).1 in
        absurd (true≢false (sym (ap (is_one_of kind_words) (kind_named w k e) ∙ kind_taken k) ∙ none))

-- the item that an item's word stands for is this item
pub item_again : (cs : List DraftClass) (classes : List Class) (i : Item) → keys_differ (names_of cs) ≡ true
    → ((n : ℕ) → class_name classes n ≡ draft_name cs n) → ((n : ℕ) → n < length cs → is_class_name (draft_name cs n) ≡ true)
    → item_in_range (length cs) i ≡ true → item_of_word cs (item_word classes i) ≡ Some i
item_again cs classes (item.Scalar k) d same names h =
    ap (λ o. option_map_or (λ k. Some (item.Scalar k)) o (option_map item.Class (class_place cs (scalar_word k)))) (kind_known k)
item_again cs classes (item.Class n) d same names h =
    let low = ltb-true n (length cs) h in
    ap (item_of_word cs) (same n)
    ∙ (ap (λ o. option_map_or (λ k. Some (item.Scalar k)) o (option_map item.Class (class_place cs (draft_name cs n)))) (no_kind (draft_name cs n) (names n low))
    ∙ ap (λ o. option_map item.Class o) (own_place 0 cs n d low ∙ ap Some (omega arith)))

-- ---- shapes

pub grouping_again : (g : Grouping) (i : Item) → grouping_of (shape_of g i) ≡ g
grouping_again Alone i = refl
grouping_again Mapped i = refl
grouping_again Listed i = refl
grouping_again Gathered i = refl

pub shape_item : (g : Grouping) (i : Item) → item_of (shape_of g i) ≡ i
shape_item Alone i = refl
shape_item Mapped i = refl
shape_item Listed i = refl
shape_item Gathered i = refl

pub shape_again : (s : Shape) → shape_of (grouping_of s) (item_of s) ≡ s
shape_again (shape.One i) = refl
shape_again (shape.Map i) = refl
shape_again (shape.Array i) = refl
shape_again (shape.Set i) = refl
