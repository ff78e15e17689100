-- What every operation on a holder keeps, all of them keep; and what holds of the operation on each place holds of all that lead from row to row.
use Rattle.std.proofs.Common.{◌≡◌, ℕ, Bool, true, false, not, List, [], ◌∷◌, ◌++◌, map, filter, Option, Some, None, cond, refl, ap, arith}
use Rattle.std.specs.List.{list_all, flat_map, fold}
use Rattle.std.proofs.lemmas.Bool.{and_parts, and_from}
use Rattle.schema_model.specs.Classes.{Schema}
use Rattle.schema_model.specs.declared.value.Value.{Value}
use Rattle.schema_model.specs.declared.value.Value.TheVariants.{Link, Whole, Str, Truth}
use Rattle.schema_model.specs.declared.place.Home.{Home}
use Rattle.state_model.specs.declared.row.Row.{Row}
use Rattle.state_model.specs.declared.row.Row.TheVariants.{Struct, Map, Array, Set}
use Rattle.state_model.specs.declared.row.RowEntry.{RowEntry}
use Rattle.state_model.specs.declared.place.Expected.{Expected}
use Rattle.wire_model.specs.declared.op.OpKey.{OpKey}
use Rattle.wire_model.specs.Edits.{Carried, Edit, Add, Replace, DeleteAdd, Delete, Clear, DeleteByRef}
use Rattle.wire_model.specs.Effect.{Body, opened, closed, closed_slots, effect, edited_row, drop_link}
use Rattle.wire_model.specs.Patch.{carried, changed_place, place_edit, drop_edit, push_edit, ref_edits, whole_start, gone_of, kept_of, same_values, stands_in}
use Rattle.state_model.specs.Values.{same_value}
use Rattle.wire_laws.proofs.SlotRuns.{closed_slots-map}

-- ---- open and closed

-- a row that is opened and closed is as it was
pub closed_opened : (r : Row) → closed (opened r) ≡ r
closed_opened (Struct class fields) = refl
closed_opened (Map home items) = refl
closed_opened (Array home values) = ap (Array home) (closed_slots-map values)
closed_opened (Set home items) = refl

-- a value that goes last is the last without holes
pub closed_slots-push : (slots : List (Option Value)) (v : Value) → closed_slots (slots ++ Some v ∷ []) ≡ closed_slots slots ++ v ∷ []
closed_slots-push [] v = refl
closed_slots-push (None ∷ ss) v = closed_slots-push ss v
closed_slots-push (Some u ∷ ss) v = ap (λ vs. u ∷ vs) (closed_slots-push ss v)

-- what all values pass they pass without a link
pub all-drop_link : (t : Value → Bool) (n : ℕ) (slots : List (Option Value)) → list_all t (closed_slots slots) ≡ true → list_all t (closed_slots (drop_link n slots)) ≡ true
all-drop_link t n [] h = refl
all-drop_link t n (None ∷ ss) h = all-drop_link t n ss h
all-drop_link t n (Some v ∷ ss) h = by (same_value (Link n) v) (all-drop_link t n ss)
  where
    by : (b : Bool) → (list_all t (closed_slots ss) ≡ true → list_all t (closed_slots (drop_link n ss)) ≡ true) → list_all t (closed_slots (cond b (None ∷ ss) (Some v ∷ drop_link n ss))) ≡ true
    by true rest = grind arith
    by false rest = grind arith

module _ (P : Row → Type 0) (ok : Edit → Bool) (step : (e : Edit) (b : Body) → ok e ≡ true → P (closed b) → P (closed (effect e b))) where
  -- what each operation keeps of a holder, all of them keep
  fold_keeps : (es : List Edit) (b : Body) → list_all ok es ≡ true → P (closed b) → P (closed (fold (λ body e. effect e body) b es))
  fold_keeps [] b h p = p
  fold_keeps (e ∷ es) b h p = let two = and_parts (ok e) (list_all ok es) h in fold_keeps es (effect e b) two.1 (step e b two.0 p)

  -- what each operation keeps of a row, all of them keep
  pub edited_keeps : (es : List Edit) (r : Row) → list_all ok es ≡ true → P r → P (edited_row es r)
  edited_keeps es r h p = fold_keeps es (opened r) h (rw closed_opened p)

-- ---- all that pass

module _ {X : Type 0} where
  -- where each passes, all pass
  pub all_each : (t : X → Bool) → ((x : X) → t x ≡ true) → (xs : List X) → list_all t xs ≡ true
  all_each t h [] = refl
  all_each t h (x ∷ xs) = and_from (t x) (list_all t xs) (h x) (all_each t h xs)

  -- what is left of those that pass passes
  pub all-filter : (t kept : X → Bool) (xs : List X) → list_all t xs ≡ true → list_all t (filter kept xs) ≡ true
  all-filter t kept [] h = refl
  all-filter t kept (x ∷ xs) h = grind (arith, all-filter t kept xs)

  -- where the items of two lists pass, all of both pass
  pub all-append : (t : X → Bool) (xs ys : List X) → list_all t xs ≡ true → list_all t ys ≡ true → list_all t (xs ++ ys) ≡ true
  all-append t [] ys h k = k
  all-append t (x ∷ xs) ys h k = grind (arith, all-append t xs ys)

  -- what is made of items passes, where each pass as what is made of it does
  all-map : {Y : Type 0} (t : Y → Bool) (f : X → Y) (xs : List X) → list_all (λ x. t (f x)) xs ≡ true → list_all t (map f xs) ≡ true
  all-map t f [] h = refl
  all-map t f (x ∷ xs) h = grind (arith, all-map t f xs)

-- where all that comes of each passes, all that comes of a list passes
all-flat_map : {X Y : Type 0} (t : Y → Bool) (f : X → List Y) (xs : List X) → ((x : X) → list_all t (f x) ≡ true) → list_all t (flat_map f xs) ≡ true
all-flat_map t f [] h = refl
all-flat_map t f (x ∷ xs) h = all-append t (f x) (flat_map f xs) (h x) (all-flat_map t f xs h)

-- ---- the operations on a place and on a filtered array

-- each way to put a value that is carried passes
abbrev pub PutsPass : (Edit → Bool) → OpKey → OpKey → Carried → Type 0
PutsPass ok key new_key c = (ok (Add new_key c) ≡ true) × (ok (DeleteAdd new_key c) ≡ true) × (ok (Replace key c) ≡ true)

module _ (ok : Edit → Bool) where
  -- the operation on a place that has another value passes
  changed_passes : (key new_key : OpKey) (v : Value) (c : Carried) → PutsPass ok key new_key c → ok (changed_place key new_key v c) ≡ true
  changed_passes key new_key (Whole z) c h = h.2
  changed_passes key new_key (Str t) c h = h.2
  changed_passes key new_key (Truth b) c h = h.2
  changed_passes key new_key (Link n) c h = h.1

  -- the operation on a place passes, where DELETE passes and so does each way to put its new value
  place_passes : (key new_key : OpKey) (rows : List RowEntry) (expected : Option Expected) (old new : Option Value) → ok (Delete key) ≡ true
      → ((v : Value) → new ≡ Some v → PutsPass ok key new_key (carried rows expected v)) → list_all ok (place_edit key new_key rows expected old new) ≡ true
  place_passes key new_key rows expected None None d h = refl
  place_passes key new_key rows expected None (Some v) d h = and_from _ _ (h v refl).0 refl
  place_passes key new_key rows expected (Some u) None d h = and_from _ _ d refl
  place_passes key new_key rows expected (Some u) (Some v) d h = by (same_value u v)
    where
      by : (same : Bool) → list_all ok (cond same [] (changed_place key new_key v (carried rows expected v) ∷ [])) ≡ true
      by true = refl
      by false = and_from _ _ (changed_passes key new_key v (carried rows expected v) (h v refl)) refl

  -- the operations on places pass, each by its number
  pub places_pass : (key new_key : ℕ → OpKey) (rows : List RowEntry) (expected : ℕ → Option Expected) (old new : ℕ → Option Value) (ns : List ℕ) → ((n : ℕ) → ok (Delete (key n)) ≡ true)
      → ((n : ℕ) (v : Value) → new n ≡ Some v → PutsPass ok (key n) (new_key n) (carried rows (expected n) v)) → list_all ok (flat_map (λ n. place_edit (key n) (new_key n) rows (expected n) (old n) (new n)) ns) ≡ true
  places_pass key new_key rows expected old new ns d h =
      all-flat_map ok (λ n. place_edit (key n) (new_key n) rows (expected n) (old n) (new n)) ns (λ n. place_passes (key n) (new_key n) rows (expected n) (old n) (new n) (d n) (h n))

  -- what a value that goes is deleted by passes
  drop_passes : ((n : ℕ) → ok (DeleteByRef n) ≡ true) → (v : Value) → list_all ok (drop_edit v) ≡ true
  drop_passes d (Whole z) = refl
  drop_passes d (Str t) = refl
  drop_passes d (Truth b) = refl
  drop_passes d (Link n) = and_from _ _ (d n) refl

  -- the operations on a filtered array pass, where CLEAR, each DELETE_BY_REFID and the ADD_BY_REFID of each new value pass
  pub ref_edits_pass : (schema : Schema) (rows : List RowEntry) (home : Home) (old new : List Value) → ok Clear ≡ true → ((n : ℕ) → ok (DeleteByRef n) ≡ true)
      → list_all (λ v. ok (push_edit schema rows home v)) new ≡ true → list_all ok (ref_edits schema rows home old new) ≡ true
  ref_edits_pass schema rows home old new c d a = by (same_values new (kept_of new old ++ gone_of old new))
    where
      by : (same : Bool) → list_all ok (cond same (flat_map drop_edit (gone_of new old) ++ map (push_edit schema rows home) (gone_of old new)) (Clear ∷ map (push_edit schema rows home) new)) ≡ true
      by true = all-append ok _ _ (all-flat_map ok drop_edit (gone_of new old) (drop_passes d))
          (all-map ok (push_edit schema rows home) (gone_of old new) (all-filter (λ v. ok (push_edit schema rows home v)) (λ v. not (stands_in old v)) new a))
      by false = and_from _ _ c (all-map ok (push_edit schema rows home) new a)

  -- what a whole row begins with passes, where CLEAR does
  pub start_passes : ok Clear ≡ true → (r : Row) → list_all ok (whole_start r) ≡ true
  start_passes c (Struct class fields) = refl
  start_passes c (Map home items) = refl
  start_passes c (Array home []) = refl
  start_passes c (Array home (v ∷ vs)) = and_from _ _ c refl
  start_passes c (Set home items) = refl
