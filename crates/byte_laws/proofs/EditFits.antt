-- What each operation is that leads to a new row: on a declared place that has bytes, and with a value that fits it and has bytes.
use Rattle.std.proofs.Common.{◌≡◌, Bool, true, false, not, cond, List, [], ◌∷◌, ◌++◌, map, Option, Some, None, refl, sym, ap, ◌∙◌}
use Rattle.std.specs.Prelude.{is_some}
use Rattle.std.specs.List.{AllByRecursion as Each, list_all, flat_map}
use Rattle.std.proofs.lemmas.Bool.{and_parts}
use Rattle.lists.proofs.Passing.{list_all_filtered}
use Rattle.schema_model.specs.Classes.{Schema}
use Rattle.schema_model.specs.declared.value.Value.{Value}
use Rattle.schema_model.specs.declared.value.Value.TheVariants.{Whole, Str, Truth, Link}
use Rattle.schema_model.specs.declared.place.Home.{Home}
use Rattle.state_model.specs.declared.row.Row.{Row}
use Rattle.state_model.specs.declared.row.Row.TheVariants.{Array}
use Rattle.state_model.specs.declared.row.RowEntry.{RowEntry}
use Rattle.state_model.specs.Values.{same_value, is_link}
use Rattle.state_model.specs.declared.place.Expected.{Expected}
use Rattle.state_model.specs.Places.{item_expects, holds_instances, row_home}
use Rattle.state_model.specs.Sound.{fits_place}
use Rattle.wire_model.specs.declared.op.OpKey.{OpKey}
use Rattle.wire_model.specs.declared.op.OpKey.TheVariants.{Item}
use Rattle.wire_model.specs.Edits.{Carried, Edit, Add, Replace, DeleteAdd, Delete, Clear, AddByRef, DeleteByRef}
use Rattle.wire_model.specs.Grammar.{expects_at}
use Rattle.wire_model.specs.Patch.{carried, changed_place, place_edit, gone_of, stands_in, drop_edit, push_edit}
use Rattle.block_laws.specs.Writable.{is_place, is_count}
use Rattle.block_laws.specs.Fitting.{key_fits, holds_refs}
use Rattle.state_model.specs.Spelled.{is_spelled_value}
use Rattle.byte_laws.proofs.SpelledRows.{is_counted}

-- what is carried is a value that fits its place and has bytes
pub record Puts (schema : Schema) (new : List RowEntry) (expected : Option Expected) (c : Carried) : Type 0 where
  pub value : Value
  pub is : c ≡ carried new expected value
  pub fit : fits_place schema new value expected ≡ true
  pub spelled : is_spelled_value value ≡ true

-- an operation on a holder is on a declared place that has bytes, with what fits it; REPLACE puts no link
abbrev pub EditFits : Schema → List RowEntry → Row → Edit → Type 0
EditFits schema new holder (Add k c) = (key_fits holder true k ≡ true) × (is_place k ≡ true) × Puts schema new (expects_at schema holder k) c
EditFits schema new holder (Replace k c) = (key_fits holder false k ≡ true) × (is_place k ≡ true) × (p : Puts schema new (expects_at schema holder k) c) × (is_link p.value ≡ false)
EditFits schema new holder (DeleteAdd k c) = (key_fits holder true k ≡ true) × (is_place k ≡ true) × Puts schema new (expects_at schema holder k) c
EditFits schema new holder (Delete k) = (key_fits holder false k ≡ true) × (is_place k ≡ true) × (is_some (expects_at schema holder k) ≡ true)
EditFits schema new holder Clear = is_some (row_home holder) ≡ true
EditFits schema new holder (AddByRef c) = (holds_refs schema holder ≡ true) × Puts schema new (expects_at schema holder (Item 0)) c
EditFits schema new holder (DeleteByRef n) = (holds_refs schema holder ≡ true) × (is_count n ≡ true)

-- ---- lists of operations

-- what holds of each of two lists holds of both
pub Each-append : {X : Type 0} (P : X → Type 0) (xs ys : List X) → Each P xs → Each P ys → Each P (xs ++ ys)
Each-append P [] ys c d = d
Each-append P (x ∷ xs) ys c d = (c.0, Each-append P xs ys c.1 d)

-- where the operations of each that passes fit, those of all do
Each-flat_map : {X : Type 0} (P : Edit → Type 0) (t : X → Bool) (f : X → List Edit) → ((x : X) → t x ≡ true → Each P (f x)) → (xs : List X) → list_all t xs ≡ true → Each P (flat_map f xs)
Each-flat_map P t f c [] h = tt
Each-flat_map P t f c (x ∷ xs) h =
    let two = and_parts (t x) (list_all t xs) h in
    Each-append P (f x) (flat_map f xs) (c x two.0) (Each-flat_map P t f c xs two.1)

-- ---- one place

module _ (schema : Schema) (new : List RowEntry) (holder : Row) (key new_key : OpKey) (same : expects_at schema holder new_key ≡ expects_at schema holder key) where
  -- a new value is put where it fits
  new_puts : (v : Value) → fits_place schema new v (expects_at schema holder key) ≡ true → is_spelled_value v ≡ true → Puts schema new (expects_at schema holder new_key) (carried new (expects_at schema holder key) v)
  new_puts v fit spelled = record {
    value = v;
    is = ap (λ w. carried new w v) (sym same);
    fit = ap (fits_place schema new v) same ∙ fit;
    spelled = spelled;
  }

  -- a new value in place of another
  changed_fits : (v : Value) → key_fits holder false key ≡ true → is_place key ≡ true → key_fits holder true new_key ≡ true → is_place new_key ≡ true
      → fits_place schema new v (expects_at schema holder key) ≡ true → is_spelled_value v ≡ true → EditFits schema new holder (changed_place key new_key v (carried new (expects_at schema holder key) v))
  changed_fits (Whole z) k p l q fit spelled = (k, p, record { value = Whole z; is = refl; fit = fit; spelled = spelled }, refl)
  changed_fits (Str t) k p l q fit spelled = (k, p, record { value = Str t; is = refl; fit = fit; spelled = spelled }, refl)
  changed_fits (Truth b) k p l q fit spelled = (k, p, record { value = Truth b; is = refl; fit = fit; spelled = spelled }, refl)
  changed_fits (Link n) k p l q fit spelled = (l, q, new_puts (Link n) fit spelled)

  -- the operation on a place, where its old value can go and its new one can come
  pub place_fits : (old_value new_value : Option Value) → key_fits holder false key ≡ true
      → ((u : Value) → old_value ≡ Some u → (is_place key ≡ true) × (is_some (expects_at schema holder key) ≡ true))
      → ((v : Value) → new_value ≡ Some v
      → (key_fits holder true new_key ≡ true) × (is_place new_key ≡ true) × (fits_place schema new v (expects_at schema holder key) ≡ true) × (is_spelled_value v ≡ true))
      → Each (EditFits schema new holder) (place_edit key new_key new (expects_at schema holder key) old_value new_value)
  place_fits None None k o n = tt
  place_fits None (Some v) k o n = let x = n v refl in ((x.0, x.1, new_puts v x.2 x.3), tt)
  place_fits (Some u) None k o n = let x = o u refl in ((k, x.0, x.1), tt)
  place_fits (Some u) (Some v) k o n =
      let x = o u refl in
      let y = n v refl in
      let go : (b : Bool) → Each (EditFits schema new holder) (cond b [] (changed_place key new_key v (carried new (expects_at schema holder key) v) ∷ [])) = elim [
        | true ↦ tt
        | false ↦ (changed_fits v k x.0 y.0 y.1 y.2 y.3, tt)
      ] in go (same_value u v)

-- ---- a filtered array

module _ (schema : Schema) (new : List RowEntry) (home : Home) (instances : holds_instances schema home ≡ true) where
  -- an instance goes
  drop_fits : (v : Value) → is_counted v ≡ true → Each (EditFits schema new (Array home [])) (drop_edit v)
  drop_fits (Whole z) h = tt
  drop_fits (Str t) h = tt
  drop_fits (Truth b) h = tt
  drop_fits (Link n) h = ((instances, h), tt)

  -- instances come
  pushes_fit : (vs : List Value) → list_all (λ v. fits_place schema new v (item_expects schema home)) vs ≡ true → list_all is_spelled_value vs ≡ true
      → Each (EditFits schema new (Array home [])) (map (push_edit schema new home) vs)
  pushes_fit [] fit spelled = tt
  pushes_fit (v ∷ vs) fit spelled =
      let two = and_parts (fits_place schema new v (item_expects schema home)) (list_all (λ v. fits_place schema new v (item_expects schema home)) vs) fit in
      let both = and_parts (is_spelled_value v) (list_all is_spelled_value vs) spelled in
      ((instances, record { value = v; is = refl; fit = two.0; spelled = both.0 }), pushes_fit vs two.1 both.1)

  -- some go and others come, or all are put anew
  pub refs_fit : (old values : List Value) (b : Bool) → list_all is_counted old ≡ true
      → list_all (λ v. fits_place schema new v (item_expects schema home)) values ≡ true → list_all is_spelled_value values ≡ true
      → Each (EditFits schema new (Array home [])) (cond b (flat_map drop_edit (gone_of values old) ++ map (push_edit schema new home) (gone_of old values)) (Clear ∷ map (push_edit schema new home) values))
  refs_fit old values true counted fit spelled =
      let goes = λ (v : Value). not (stands_in old v) in
      Each-append (EditFits schema new (Array home [])) (flat_map drop_edit (gone_of values old)) (map (push_edit schema new home) (gone_of old values))
      (Each-flat_map (EditFits schema new (Array home [])) is_counted drop_edit drop_fits (gone_of values old) (list_all_filtered is_counted (λ v. not (stands_in values v)) old counted))
      (pushes_fit (gone_of old values) (list_all_filtered (λ v. fits_place schema new v (item_expects schema home)) goes values fit) (list_all_filtered is_spelled_value goes values spelled))
  refs_fit old values false counted fit spelled = (refl, pushes_fit values fit spelled)
