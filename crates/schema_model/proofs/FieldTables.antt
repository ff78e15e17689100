-- The table of fields, class by class: a class's fields are its parent's, and then its own.
use Rattle.std.proofs.Common.{◌≡◌, ℕ, zero, suc, ◌+◌, ◌-◌, Bool, true, false, ◌&&◌, ◌<◌, ◌≤◌, List, [], ◌∷◌, ◌++◌, length, map, Option, Some, None, slice_get, unwrap_or, option_and_then, refl, ap, ◌∙◌, sym, arith, length-append}
use Rattle.std.specs.List.{list_all}
use Rattle.std.proofs.lemmas.Bool.Decides.{nat_tests}
use Rattle.std.proofs.lemmas.List.{length-map}
use Rattle.std.proofs.lemmas.Option.{slice_get_past}
use Rattle.lists.proofs.ListFacts.{past_end}
use Rattle.schema_model.specs.declared.class.Class.{Class}
use Rattle.schema_model.specs.declared.class.FieldDecl.{FieldDecl}
use Rattle.schema_model.specs.Classes.{Declared, inherited, fields_from, is_earlier, parents_earlier}
use Rattle.schema_model.proofs.FieldCounts.{is_small}

-- a field, as this class declares it
abbrev pub declared_by : ℕ → FieldDecl → Declared
declared_by class f = record { class = class; field = f }

-- the fields of a class, where those of the earlier classes are these
abbrev pub fields_next : List (List Declared) → Class → List Declared
fields_next earlier c = inherited earlier c.parent ++ map (declared_by (length earlier)) c.own

-- ---- places in lists

pub at_prefix : {A : Type 0} (xs ys : List A) (i : ℕ) → i < length xs → slice_get (xs ++ ys) i ≡ slice_get xs i
at_prefix [] ys i h = absurd (omega arith)
at_prefix (x ∷ xs) ys zero h = refl
at_prefix (x ∷ xs) ys (suc i) h = at_prefix xs ys i (omega arith)

pub behind : {A : Type 0} (xs ys : List A) (i k : ℕ) → k ≡ length xs + i → slice_get (xs ++ ys) k ≡ slice_get ys i
behind [] ys i k h = let e : k ≡ i = omega arith in ap (slice_get ys) e
behind (x ∷ xs) ys i zero h = absurd (omega arith)
behind (x ∷ xs) ys i (suc k) h = behind xs ys i k (omega arith)

-- ---- the table

-- classes behind these change nothing of theirs
kept_prefix : (earlier : List (List Declared)) (cs : List Class) (i : ℕ) → i < length earlier → slice_get (fields_from earlier cs) i ≡ slice_get earlier i
kept_prefix earlier [] i h = refl
kept_prefix earlier (c ∷ cs) i h =
    let more : i < length (earlier ++ fields_next earlier c ∷ []) = omega (arith, length-append earlier (fields_next earlier c ∷ [])) in
    kept_prefix (earlier ++ fields_next earlier c ∷ []) cs i more ∙ at_prefix earlier (fields_next earlier c ∷ []) i h

kept_inherited : (earlier : List (List Declared)) (cs : List Class) (p : Option ℕ) → is_earlier (length earlier) p ≡ true → inherited (fields_from earlier cs) p ≡ inherited earlier p
kept_inherited earlier cs None h = refl
kept_inherited earlier cs (Some p) h =
    let below : p < length earlier = grind (arith, nat_tests) in
    ap (λ o. unwrap_or o []) (kept_prefix earlier cs p below)

length-fields_from : (earlier : List (List Declared)) (cs : List Class) → length (fields_from earlier cs) ≡ length earlier + length cs
length-fields_from earlier [] = omega arith
length-fields_from earlier (c ∷ cs) =
    omega (arith, length-fields_from (earlier ++ fields_next earlier c ∷ []) cs, length-append earlier (fields_next earlier c ∷ []))

and_left : (a b : Bool) → (a && b) ≡ true → a ≡ true
and_left true b h = refl
and_left false b h = h

and_right : (a b : Bool) → (a && b) ≡ true → b ≡ true
and_right true b h = h
and_right false b h = absurd (cc)

-- a class's fields behind these
table_from : (earlier : List (List Declared)) (cs : List Class) (i n : ℕ) (c : Class) → n ≡ length earlier + i → parents_earlier (length earlier) cs ≡ true → slice_get cs i ≡ Some c →
    slice_get (fields_from earlier cs) n ≡ Some (inherited (fields_from earlier cs) c.parent ++ map (declared_by n) c.own)
table_from earlier [] i n d w h e = absurd (cc)
table_from earlier (c ∷ cs) zero n d w h e =
    let here : n ≡ length earlier = omega arith in
    let same : c ≡ d = grind arith in
    let more : length (earlier ++ fields_next earlier c ∷ []) ≡ suc (length earlier) = omega (arith, length-append earlier (fields_next earlier c ∷ [])) in
    let soon : is_earlier (length earlier) c.parent ≡ true = and_left _ (parents_earlier (suc (length earlier)) cs) h in
    let kept = kept_prefix (earlier ++ fields_next earlier c ∷ []) cs (length earlier) (omega arith) in
    let found = behind earlier (fields_next earlier c ∷ []) 0 (length earlier) (omega arith) in
    let up = kept_inherited earlier (c ∷ cs) c.parent soon in
    rw (here, ← same) (kept ∙ found ∙ ap (λ fs. Some (fs ++ map (declared_by (length earlier)) c.own)) (sym up))
table_from earlier (c ∷ cs) (suc i) n d w h e =
    let more : length (earlier ++ fields_next earlier c ∷ []) ≡ suc (length earlier) = omega (arith, length-append earlier (fields_next earlier c ∷ [])) in
    let late : parents_earlier (suc (length earlier)) cs ≡ true = and_right (is_earlier (length earlier) c.parent) _ h in
    table_from (earlier ++ fields_next earlier c ∷ []) cs i n d (omega arith) (rw more late) e

-- a class's fields are its parent's, and then its own
pub line_fields : (cs : List Class) (n : ℕ) (c : Class) → parents_earlier 0 cs ≡ true → slice_get cs n ≡ Some c →
    inherited (fields_from [] cs) (Some n) ≡ inherited (fields_from [] cs) c.parent ++ map (declared_by n) c.own
line_fields cs n c h e = ap (λ o. unwrap_or o []) (table_from [] cs n n c (omega arith) h e)

-- a class that there isn't has none
pub no_fields : (cs : List Class) (n : ℕ) → slice_get cs n ≡ None → inherited (fields_from [] cs) (Some n) ≡ []
no_fields cs n h =
    let beyond : length (fields_from [] cs) ≤ n = omega (arith, length-fields_from [] cs, past_end cs n h) in
    ap (λ o. unwrap_or o []) (slice_get_past (fields_from [] cs) n beyond)

-- ---- the way up

-- a parent stands earlier
earlier_at : (k : ℕ) (cs : List Class) (i n : ℕ) (c : Class) → n ≡ k + i → parents_earlier k cs ≡ true → slice_get cs i ≡ Some c → is_earlier n c.parent ≡ true
earlier_at k [] i n d w h e = absurd (cc)
earlier_at k (c ∷ cs) zero n d w h e =
    let here : n ≡ k = omega arith in
    let same : c ≡ d = grind arith in
    rw (here, ← same) (and_left _ (parents_earlier (suc k) cs) h)
earlier_at k (c ∷ cs) (suc i) n d w h e = earlier_at (suc k) cs i n d (omega arith) (and_right (is_earlier k c.parent) _ h) e

-- how far a class is from having no parents left
abbrev pub height : Option ℕ → ℕ
height None = 0
height (Some n) = suc n

height_earlier : (n : ℕ) (p : Option ℕ) → is_earlier n p ≡ true → height p < suc n
height_earlier n None h = omega arith
height_earlier n (Some p) h = grind (arith, nat_tests)

-- it falls on the way up
pub height_falls : (cs : List Class) (line : Option ℕ) (c : Class) → parents_earlier 0 cs ≡ true → option_and_then (slice_get cs) line ≡ Some c → height c.parent < height line
height_falls cs None c h e = absurd (cc)
height_falls cs (Some n) c h e = height_earlier n c.parent (earlier_at 0 cs n n c (omega arith) h e)

-- a class has as many fields as its parent and as it declares
pub count_up : (cs : List Class) (line : Option ℕ) (c : Class) → parents_earlier 0 cs ≡ true → option_and_then (slice_get cs) line ≡ Some c →
    length (inherited (fields_from [] cs) line) ≡ length (inherited (fields_from [] cs) c.parent) + length c.own
count_up cs None c h e = absurd (cc)
count_up cs (Some n) c h e =
    ap length (line_fields cs n c h e) ∙ simp (length-append, length-map)

pub count_end : (cs : List Class) (line : Option ℕ) → option_and_then (slice_get cs) line ≡ None → length (inherited (fields_from [] cs) line) ≡ 0
count_end cs None e = refl
count_end cs (Some n) e = ap length (no_fields cs n e)

small_at : (table : List (List Declared)) (n : ℕ) → list_all is_small table ≡ true → length (unwrap_or (slice_get table n) []) ≤ 63
small_at [] n h = omega arith
small_at (fs ∷ table) zero h =
    let small : is_small fs ≡ true = and_left _ (list_all is_small table) h in
    grind (arith, nat_tests)
small_at (fs ∷ table) (suc n) h = small_at table n (and_right (is_small fs) _ h)

-- no class has more than 63 fields
pub count_small : (cs : List Class) (line : Option ℕ) → list_all is_small (fields_from [] cs) ≡ true → length (inherited (fields_from [] cs) line) ≤ 63
count_small cs None h = omega arith
count_small cs (Some n) h = small_at (fields_from [] cs) n h

-- a class's own fields stand behind its parent's
pub own_part : (cs : List Class) (n : ℕ) (c : Class) (index : ℕ) → parents_earlier 0 cs ≡ true → slice_get cs n ≡ Some c →
    length (inherited (fields_from [] cs) c.parent) ≤ index →
    slice_get (inherited (fields_from [] cs) (Some n)) index ≡ slice_get (map (declared_by n) c.own) (index - length (inherited (fields_from [] cs) c.parent))
own_part cs n c index h e behind_them =
    ap (λ fs. slice_get fs index) (line_fields cs n c h e) ∙ behind (inherited (fields_from [] cs) c.parent) (map (declared_by n) c.own) _ index (omega arith)

-- its parent's stand first
pub inherited_part : (cs : List Class) (n : ℕ) (c : Class) (index : ℕ) → parents_earlier 0 cs ≡ true → slice_get cs n ≡ Some c →
    index < length (inherited (fields_from [] cs) c.parent) →
    slice_get (inherited (fields_from [] cs) (Some n)) index ≡ slice_get (inherited (fields_from [] cs) c.parent) index
inherited_part cs n c index h e among =
    ap (λ fs. slice_get fs index) (line_fields cs n c h e) ∙ at_prefix (inherited (fields_from [] cs) c.parent) (map (declared_by n) c.own) index among
