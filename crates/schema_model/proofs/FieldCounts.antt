-- How many fields classes have, counted class by class: each count is the parent's and the own fields.
use Rattle.std.proofs.Common.{◌≡◌, ℕ, ◌+◌, Bool, true, false, ◌&&◌, ◌≤◌, List, [], ◌∷◌, ◌++◌, length, map, Option, Some, None, slice_get, nat_le, unwrap_or, option_and_then, refl, ap, ◌∙◌, arith, length-append, ◌<◌, get_or, drop, drop-cons}
use Rattle.std.specs.List.{list_all}
use Rattle.std.specs.Option.{option_map}
use Rattle.std.proofs.lemmas.List.{map-append, length-map}
use Rattle.std.proofs.lemmas.List.Folds.{list_all-append}
use Rattle.std.proofs.lemmas.Bool.Decides.{nat_tests}
use Rattle.std.proofs.Math.ListN.{drop_of_length-le}
use Rattle.std.proofs.lemmas.Option.{slice_get-map}
use Rattle.schema_model.specs.declared.class.Class.{Class}
use Rattle.schema_model.specs.Classes.{Declared, inherited, fields_from}

-- a class has at most 63 fields
abbrev pub is_small : List Declared → Bool
is_small fs = nat_le (length fs) 63

-- how many fields a class of this parent inherits, where the earlier classes have so many
abbrev pub inherited_count : List ℕ → Option ℕ → ℕ
inherited_count counts parent = unwrap_or (option_and_then (slice_get counts) parent) 0

-- how many fields a class has, where the earlier classes have so many
abbrev pub count_of : List ℕ → Class → ℕ
count_of counts c = inherited_count counts c.parent + length c.own

-- the classes are small, where the earlier ones have so many fields
abbrev pub small_from : List ℕ → List Class → Bool
small_from counts [] = true
small_from counts (c ∷ cs) = nat_le (count_of counts c) 63 && small_from (counts ++ count_of counts c ∷ []) cs

-- the fields of a class, where those of the earlier classes are these
abbrev fields_next : List (List Declared) → Class → List Declared
fields_next earlier c = inherited earlier c.parent ++ map (λ f. let d : Declared = record { class = length earlier; field = f } in d) c.own

unwrapped : (o : Option (List Declared)) → length (unwrap_or o []) ≡ unwrap_or (option_map length o) 0
unwrapped None = refl
unwrapped (Some x) = refl

length-inherited : (earlier : List (List Declared)) (p : Option ℕ) → length (inherited earlier p) ≡ inherited_count (map length earlier) p
length-inherited earlier None = refl
length-inherited earlier (Some n) = rw (slice_get-map length earlier n) (unwrapped (slice_get earlier n))

length-fields_next : (earlier : List (List Declared)) (c : Class) → length (fields_next earlier c) ≡ count_of (map length earlier) c
length-fields_next earlier c = simp (length-append, length-map, length-inherited)

large_stays : (earlier : List (List Declared)) (cs : List Class) → list_all is_small earlier ≡ false → list_all is_small (fields_from earlier cs) ≡ false
large_stays earlier [] h = h
large_stays earlier (c ∷ cs) h =
    large_stays (earlier ++ fields_next earlier c ∷ []) cs
    (list_all-append is_small earlier (fields_next earlier c ∷ []) ∙ ap (λ b. b && list_all is_small (fields_next earlier c ∷ [])) h)

small_more : (earlier : List (List Declared)) (c : Class) → list_all is_small earlier ≡ true → nat_le (count_of (map length earlier) c) 63 ≡ true →
    list_all is_small (earlier ++ fields_next earlier c ∷ []) ≡ true
small_more earlier c h e = simp (list_all-append, h, length-fields_next, e)

pub and_no : (b : Bool) → (b && false) ≡ false
and_no true = refl
and_no false = refl

large_more : (earlier : List (List Declared)) (c : Class) → nat_le (count_of (map length earlier) c) 63 ≡ false →
    list_all is_small (earlier ++ fields_next earlier c ∷ []) ≡ false
large_more earlier c e = rw (list_all-append, length-fields_next, e) (and_no _)

lengths_more : (earlier : List (List Declared)) (c : Class) →
    map length (earlier ++ fields_next earlier c ∷ []) ≡ map length earlier ++ count_of (map length earlier) c ∷ []
lengths_more earlier c = simp (map-append, length-fields_next)

pub all-fields_from : (earlier : List (List Declared)) (cs : List Class) → list_all is_small earlier ≡ true →
    list_all is_small (fields_from earlier cs) ≡ small_from (map length earlier) cs
all-fields_from earlier [] h = h
all-fields_from earlier (c ∷ cs) h =
    let next : List (List Declared) = earlier ++ fields_next earlier c ∷ [] in
    let go : (b : Bool) → nat_le (count_of (map length earlier) c) 63 ≡ b →
    list_all is_small (fields_from next cs)
    ≡ (nat_le (count_of (map length earlier) c) 63 && small_from (map length earlier ++ count_of (map length earlier) c ∷ []) cs) =
    elim [
      | true ↦ λ e. rw (e, ← lengths_more earlier c) (all-fields_from next cs (small_more earlier c h e))
      | false ↦ λ e. rw e (large_stays next cs (large_more earlier c e))
    ] in
    go _ refl

-- whether each class is small, counted from the first
pub all_small : (cs : List Class) → list_all is_small (fields_from [] cs) ≡ small_from [] cs
all_small cs = all-fields_from [] cs refl

-- a class behind these that is too large
pub small_from_large : (counts : List ℕ) (cs : List Class) (i : ℕ) (c : Class) → i < length cs → c ≡ get_or cs i c → 63 < count_of counts c →
    small_from counts (drop i cs) ≡ false
small_from_large counts cs i c h at large =
    let e : nat_le (count_of counts c) 63 ≡ false = grind (arith, nat_tests) in
    rw (drop-cons cs i c, ← at, e) refl

-- behind the last class
pub small_from_end : (counts : List ℕ) (cs : List Class) (i : ℕ) → length cs ≤ i → small_from counts (drop i cs) ≡ true
small_from_end counts cs i h = rw (drop_of_length-le cs h) refl
