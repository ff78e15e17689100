-- What number the operation on one place names, and what the operations on all places of a row name.
use Rattle.std.proofs.Common.{◌≡◌, ℕ, Bool, true, false, cond, ◌||◌, List, [], ◌∷◌, ◌++◌, Option, Some, None, refl, sym, ap, ◌∙◌, true≢false, append-nil, ◌⊎◌, inl, inr}
use Rattle.std.specs.List.{list_any, flat_map}
use Rattle.std.specs.Option.{option_map_or}
use Rattle.std.proofs.lemmas.List.Folds.{list_any-append}
use Rattle.std.proofs.lemmas.Grind.{flat_map-append}
use Rattle.schema_model.specs.declared.value.Value.{Value}
use Rattle.schema_model.specs.declared.value.Value.TheVariants.{Whole, Str, Truth, Link}
use Rattle.state_model.specs.declared.row.RowEntry.{RowEntry}
use Rattle.state_model.specs.Values.{held_by, same_value}
use Rattle.state_model.specs.declared.place.Expected.{Expected}
use Rattle.state_model.specs.Reached.{is_among}
use Rattle.wire_model.specs.declared.op.OpKey.{OpKey}
use Rattle.wire_model.specs.Edits.{Edit, Add, Carried}
use Rattle.wire_model.specs.Patch.{carried, changed_place, place_edit, named_in, linked_number}
use Rattle.state_laws.proofs.Numbers.{among_passes}
use Rattle.state_laws.proofs.SameValues.{same_is}

-- ---- tests over lists

-- a list with a number that passes has such a number
pub some_number : {X : Type 0} (p : X → Bool) (xs : List X) → list_any p xs ≡ true → (x : X) × (p x ≡ true)
some_number p [] h = absurd cc
some_number p (x ∷ xs) h =
    let go : (b : Bool) → p x ≡ b → (y : _) × (p y ≡ true) = elim [ true ↦ λ e. (x, e) | false ↦ λ e. some_number p xs (rw e at h) ] in
    go (p x) refl

-- ---- one place

-- the numbers that a value holds, where there is one
abbrev pub held_at : Option Value → List ℕ
held_at o = option_map_or held_by o []

-- what an operation carries of a value holds what the value holds
pub carried_numbers : (rows : List RowEntry) (expected : Option Expected) (v : Value) → linked_number (carried rows expected v) ≡ held_by v
carried_numbers rows expected (Whole z) = refl
carried_numbers rows expected (Str t) = refl
carried_numbers rows expected (Truth b) = refl
carried_numbers rows expected (Link n) = refl

-- the operation on a place with another value carries that value
changed_numbers : (key new_key : OpKey) (v : Value) (c : Carried) → named_in (changed_place key new_key v c ∷ []) ≡ linked_number c ++ []
changed_numbers key new_key (Whole z) c = refl
changed_numbers key new_key (Str t) c = refl
changed_numbers key new_key (Truth b) c = refl
changed_numbers key new_key (Link n) c = refl

-- equal values hold the same
pub same_held : (u v : Value) → same_value u v ≡ true → held_by u ≡ held_by v
same_held u v h = ap held_by (same_is u v h)

-- the operation on a place that is new names what its value holds
added_numbers : (key : OpKey) (rows : List RowEntry) (expected : Option Expected) (v : Value) → named_in (Add key (carried rows expected v) ∷ []) ≡ held_by v
added_numbers key rows expected v = append-nil (linked_number (carried rows expected v)) ∙ carried_numbers rows expected v

-- the operation on a place that is changed names what its value holds
put_numbers : (key new_key : OpKey) (rows : List RowEntry) (expected : Option Expected) (v : Value) → named_in (changed_place key new_key v (carried rows expected v) ∷ []) ≡ held_by v
put_numbers key new_key rows expected v = changed_numbers key new_key v (carried rows expected v) ∙ append-nil (linked_number (carried rows expected v)) ∙ carried_numbers rows expected v

-- what the operation on a place names: what the new value holds, unless it is the old value
pub place_numbers : (key new_key : OpKey) (rows : List RowEntry) (expected : Option Expected) (old new : Option Value)
    → (named_in (place_edit key new_key rows expected old new) ≡ held_at new) ⊎ ((named_in (place_edit key new_key rows expected old new) ≡ []) × (held_at new ≡ held_at old))
place_numbers key new_key rows expected None None = inl refl
place_numbers key new_key rows expected None (Some v) = inl (added_numbers key rows expected v)
place_numbers key new_key rows expected (Some u) None = inl refl
place_numbers key new_key rows expected (Some u) (Some v) =
    let go : (b : Bool) → same_value u v ≡ b → (named_in (cond b [] (changed_place key new_key v (carried rows expected v) ∷ [])) ≡ held_by v) ⊎
    ((named_in (cond b [] (changed_place key new_key v (carried rows expected v) ∷ [])) ≡ []) × (held_by v ≡ held_by u)) =
    elim [ true ↦ λ e. inr (refl, sym (same_held u v e)) | false ↦ λ e. inl (put_numbers key new_key rows expected v) ] in
    go (same_value u v) refl

-- the operation on a place names only what the new value holds
pub place_names : (key new_key : OpKey) (rows : List RowEntry) (expected : Option Expected) (old new : Option Value) (m : ℕ) → is_among m (named_in (place_edit key new_key rows expected old new)) ≡ true → is_among m (held_at new) ≡ true
place_names key new_key rows expected old new m h =
    elim (place_numbers key new_key rows expected old new) [ inl e ↦ rw e at h | inr e ↦ absurd (true≢false (sym (rw e.0 at h))) ]

-- the operation on a place names what the new value holds and the old one doesn't
pub place_named : (key new_key : OpKey) (rows : List RowEntry) (expected : Option Expected) (old new : Option Value) (m : ℕ) → is_among m (held_at new) ≡ true → is_among m (held_at old) ≡ false
    → is_among m (named_in (place_edit key new_key rows expected old new)) ≡ true
place_named key new_key rows expected old new m h g =
    elim (place_numbers key new_key rows expected old new) [ inl e ↦ rw e h | inr e ↦ absurd (true≢false (sym h ∙ ap (is_among m) e.1 ∙ g)) ]

-- ---- all places of a row

-- the operations on the places of these numbers
abbrev pub places_edits : (ℕ → OpKey) → (ℕ → OpKey) → List RowEntry → (ℕ → Option Expected) → (ℕ → Option Value) → (ℕ → Option Value) → List ℕ → List Edit
places_edits key new_key rows expected old new ns = flat_map (λ n. place_edit (key n) (new_key n) rows (expected n) (old n) (new n)) ns

-- they name what the operation on one of the places names
named_by_places : (m : ℕ) (f : ℕ → List Edit) (ns : List ℕ) → is_among m (named_in (flat_map f ns)) ≡ list_any (λ n. is_among m (named_in (f n))) ns
named_by_places m f [] = refl
named_by_places m f (n ∷ ns) = ap (is_among m) (flat_map-append _ (f n) (flat_map f ns)) ∙ list_any-append _ (named_in (f n)) (named_in (flat_map f ns)) ∙ ap (λ b. is_among m (named_in (f n)) || b) (named_by_places m f ns)

-- a number that they name is held by the new value of some place
pub places_name : (key new_key : ℕ → OpKey) (rows : List RowEntry) (expected : ℕ → Option Expected) (old new : ℕ → Option Value) (ns : List ℕ) (m : ℕ)
    → is_among m (named_in (places_edits key new_key rows expected old new ns)) ≡ true → (n : ℕ) × (is_among m (held_at (new n)) ≡ true)
places_name key new_key rows expected old new ns m h =
    let f : ℕ → List Edit = λ n. place_edit (key n) (new_key n) rows (expected n) (old n) (new n) in
    let some = some_number (λ n. is_among m (named_in (f n))) ns (sym (named_by_places m f ns) ∙ h) in
    (some.0, place_names (key some.0) (new_key some.0) rows (expected some.0) (old some.0) (new some.0) m some.1)

-- they name what the new value of one of the places holds and its old one doesn't
pub places_named : (key new_key : ℕ → OpKey) (rows : List RowEntry) (expected : ℕ → Option Expected) (old new : ℕ → Option Value) (ns : List ℕ) (n m : ℕ) → is_among n ns ≡ true
    → is_among m (held_at (new n)) ≡ true → is_among m (held_at (old n)) ≡ false → is_among m (named_in (places_edits key new_key rows expected old new ns)) ≡ true
places_named key new_key rows expected old new ns n m h t g =
    let f : ℕ → List Edit = λ k. place_edit (key k) (new_key k) rows (expected k) (old k) (new k) in
    named_by_places m f ns ∙ among_passes (λ k. is_among m (named_in (f k))) ns n h (place_named (key n) (new_key n) rows (expected n) (old n) (new n) m t g)
