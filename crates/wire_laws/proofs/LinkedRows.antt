-- The rows that operations bring: each number that they name is there, with the row that it had or an empty one of its kind.
use Rattle.std.proofs.Common.{◌≡◌, ℕ, Bool, true, false, cond, max, ◌||◌, ◌==◌, List, [], ◌∷◌, ◌++◌, length, map, Option, Some, None, is_some, refl, sym, ap, ◌∙◌, arith}
use Rattle.std.specs.List.{flat_map, slice_get, range_with_len}
use Rattle.std.specs.Option.{option_map, option_map_or}
use Rattle.std.proofs.lemmas.Bool.Decides.{nat_tests}
use Rattle.std.proofs.lemmas.List.Folds.{list_any-append}
use Rattle.lists.specs.Rising.{RisesFrom, find}
use Rattle.lists.proofs.RisingLaws.{find-put, RisesFrom-put}
use Rattle.lists.proofs.Tests.{or_swapped}
use Rattle.schema_model.specs.Classes.{Schema}
use Rattle.schema_model.specs.declared.value.Value.{Value}
use Rattle.schema_model.specs.declared.value.Value.TheVariants.{Whole, Str, Truth, Link}
use Rattle.schema_model.specs.declared.place.Home.{Home}
use Rattle.state_model.specs.declared.row.Row.{Row}
use Rattle.state_model.specs.declared.row.Row.TheVariants.{Struct, Map, Array, Set}
use Rattle.state_model.specs.declared.row.RowEntry.{RowEntry}
use Rattle.state_model.specs.Values.{same_value}
use Rattle.state_model.specs.Rows.{number_of, row_at, is_live, put_row, emptied}
use Rattle.state_model.specs.declared.place.Expected.{Expected}
use Rattle.state_model.specs.Places.{field_expects, item_expects, is_filtered}
use Rattle.state_model.specs.Reached.{is_among}
use Rattle.wire_model.specs.declared.op.OpKey.{OpKey}
use Rattle.wire_model.specs.declared.op.OpKey.TheVariants.{Field, Item, Named}
use Rattle.wire_model.specs.Edits.{Edit, Clear, Carried, Plain, Linked}
use Rattle.wire_model.specs.Effect.{carried_by, with_linked, with_named}
use Rattle.wire_model.specs.Patch.{kind_in, carried, changed_place, place_edit, field_value, map_item, item_value, item_key, set_value, slot_edits, same_values, kept_of, gone_of, drop_edit, push_edit, ref_edits, row_edits, whole_start, whole_edits, linked_number, named_in}
use Rattle.state_laws.proofs.Numbers.{live_row}
use Rattle.wire_laws.proofs.Bools.{or-none}

-- ---- the kinds of what is carried

-- a carried link has the kind of its number in these rows
abbrev pub CarriesKind : List RowEntry → Option Carried → Type 0
CarriesKind rows None = Unit {0}
CarriesKind rows (Some (Plain k s)) = Unit {0}
CarriesKind rows (Some (Linked n empty)) = empty ≡ kind_in rows n

-- each carried link has the kind of its number in these rows
abbrev pub CarriesKinds : List RowEntry → List Edit → Type 0
CarriesKinds rows [] = Unit {0}
CarriesKinds rows (e ∷ es) = CarriesKind rows (carried_by e) × CarriesKinds rows es

-- so do operations one behind another
pub CarriesKinds-append : (rows : List RowEntry) (es fs : List Edit) → CarriesKinds rows es → CarriesKinds rows fs → CarriesKinds rows (es ++ fs)
CarriesKinds-append rows [] fs c d = d
CarriesKinds-append rows (e ∷ es) fs c d = (c.0, CarriesKinds-append rows es fs c.1 d)

-- so do the operations of each of some items
pub CarriesKinds-flat_map : {X : Type 0} (rows : List RowEntry) (f : X → List Edit) (xs : List X) → ((x : X) → CarriesKinds rows (f x)) → CarriesKinds rows (flat_map f xs)
CarriesKinds-flat_map rows f [] c = tt
CarriesKinds-flat_map rows f (x ∷ xs) c = CarriesKinds-append rows (f x) (flat_map f xs) (c x) (CarriesKinds-flat_map rows f xs c)

-- so does one operation for each of some items
pub CarriesKinds-map : {X : Type 0} (rows : List RowEntry) (f : X → Edit) (xs : List X) → ((x : X) → CarriesKind rows (carried_by (f x))) → CarriesKinds rows (map f xs)
CarriesKinds-map rows f [] c = tt
CarriesKinds-map rows f (x ∷ xs) c = (c x, CarriesKinds-map rows f xs c)

-- a value is carried with the kind of its number
carried_kind : (rows : List RowEntry) (expected : Option Expected) (v : Value) → CarriesKind rows (Some (carried rows expected v))
carried_kind rows expected (Whole z) = tt
carried_kind rows expected (Str t) = tt
carried_kind rows expected (Truth b) = tt
carried_kind rows expected (Link n) = refl

-- the operation on a place with another value
changed_carries : (key new_key : OpKey) (rows : List RowEntry) (expected : Option Expected) (v : Value) → CarriesKinds rows (changed_place key new_key v (carried rows expected v) ∷ [])
changed_carries key new_key rows expected (Whole z) = (tt, tt)
changed_carries key new_key rows expected (Str t) = (tt, tt)
changed_carries key new_key rows expected (Truth b) = (tt, tt)
changed_carries key new_key rows expected (Link n) = (refl, tt)

-- the operation on a place
place_carries : (key new_key : OpKey) (rows : List RowEntry) (expected : Option Expected) (old new : Option Value) → CarriesKinds rows (place_edit key new_key rows expected old new)
place_carries key new_key rows expected None None = tt
place_carries key new_key rows expected None (Some v) = (carried_kind rows expected v, tt)
place_carries key new_key rows expected (Some u) None = (tt, tt)
place_carries key new_key rows expected (Some u) (Some v) =
    let go : (b : Bool) → CarriesKinds rows (cond b [] (changed_place key new_key v (carried rows expected v) ∷ [])) = elim [ true ↦ tt | false ↦ changed_carries key new_key rows expected v ] in
    go (same_value u v)

-- the operations that delete an instance
drop_carries : (rows : List RowEntry) (v : Value) → CarriesKinds rows (drop_edit v)
drop_carries rows (Whole z) = tt
drop_carries rows (Str t) = tt
drop_carries rows (Truth b) = tt
drop_carries rows (Link n) = (tt, tt)

-- the operations that add instances
pushes_carry : (schema : Schema) (rows : List RowEntry) (home : Home) (vs : List Value) → CarriesKinds rows (map (push_edit schema rows home) vs)
pushes_carry schema rows home vs = CarriesKinds-map rows (push_edit schema rows home) vs (λ v. carried_kind rows (item_expects schema home) v)

-- the operations on a filtered array
refs_carry : (schema : Schema) (rows : List RowEntry) (home : Home) (old new : List Value) (b : Bool)
    → CarriesKinds rows (cond b (flat_map drop_edit (gone_of new old) ++ map (push_edit schema rows home) (gone_of old new)) (Clear ∷ map (push_edit schema rows home) new))
refs_carry schema rows home old new true =
    CarriesKinds-append rows (flat_map drop_edit (gone_of new old)) (map (push_edit schema rows home) (gone_of old new))
    (CarriesKinds-flat_map rows drop_edit (gone_of new old) (drop_carries rows)) (pushes_carry schema rows home (gone_of old new))
refs_carry schema rows home old new false = (tt, pushes_carry schema rows home new)

-- the operations on an array, filtered or not
array_carries : (schema : Schema) (rows : List RowEntry) (home : Home) (old new : List Value) (b : Bool) → CarriesKinds rows (cond b (ref_edits schema rows home old new) (slot_edits schema rows home old new))
array_carries schema rows home old new true = refs_carry schema rows home old new (same_values new (kept_of new old ++ gone_of old new))
array_carries schema rows home old new false =
    CarriesKinds-flat_map rows _ (range_with_len 0 (max (length old) (length new))) (λ at. place_carries (Item at) (Item at) rows (item_expects schema home) (slice_get old at) (slice_get new at))

-- the operations that lead to a row carry the kinds of their links
pub row_carries : (schema : Schema) (rows : List RowEntry) (a b : Row) → CarriesKinds rows (row_edits schema rows a b)
row_carries schema rows (Struct a old) (Struct b new) = CarriesKinds-flat_map rows _ _ (λ i. place_carries (Field i) (Field i) rows (field_expects schema b i) (field_value old i) (field_value new i))
row_carries schema rows (Map a old) (Map b new) = CarriesKinds-flat_map rows _ _ (λ n. place_carries (Item n) (Named n (item_key (map_item new n))) rows (item_expects schema b) (item_value (map_item old n)) (item_value (map_item new n)))
row_carries schema rows (Array a old) (Array b new) = array_carries schema rows b old new (is_filtered schema b)
row_carries schema rows (Set a old) (Set b new) = CarriesKinds-flat_map rows _ _ (λ n. place_carries (Item n) (Item n) rows (item_expects schema b) (set_value old n) (set_value new n))
row_carries schema rows a b = tt

-- CLEAR carries nothing
start_carries : (rows : List RowEntry) (r : Row) → CarriesKinds rows (whole_start r)
start_carries rows (Struct class fields) = tt
start_carries rows (Map home items) = tt
start_carries rows (Array home []) = tt
start_carries rows (Array home (v ∷ vs)) = (tt, tt)
start_carries rows (Set home items) = tt

-- the operations of a whole row carry the kinds of their links
pub whole_carries : (schema : Schema) (rows : List RowEntry) (r : Row) → CarriesKinds rows (whole_edits schema rows r)
whole_carries schema rows r = CarriesKinds-append rows (whole_start r) (row_edits schema rows (emptied r) r) (start_carries rows r) (row_carries schema rows (emptied r) r)

-- ---- rows, looked up

-- a number that isn't live has no row
pub missing_row : (rows : List RowEntry) (n : ℕ) → is_live rows n ≡ false → row_at rows n ≡ None
missing_row [] n h = refl
missing_row (e ∷ es) n h = grind (arith, nat_tests, missing_row es n)

-- the row of a number after one is put
pub row_at-put_row : (j : ℕ) (r : Row) (rows : List RowEntry) (n : ℕ) → row_at (put_row j r rows) n ≡ cond (j == n) (Some r) (row_at rows n)
row_at-put_row j r rows n =
    let go : (b : Bool) → option_map (λ (e : RowEntry). e.row) (cond b (Some (record { who = j; row = r })) (find number_of n rows)) ≡ cond b (Some r) (row_at rows n) = elim [ true ↦ refl | false ↦ refl ] in
    ap (option_map (λ (e : RowEntry). e.row)) (find-put number_of (record { who = j; row = r }) rows n) ∙ go (j == n)

-- which numbers are live after one is put
pub is_live-put_row : (j : ℕ) (r : Row) (rows : List RowEntry) (n : ℕ) → is_live (put_row j r rows) n ≡ ((j == n) || is_live rows n)
is_live-put_row j r rows n =
    let go : (b : Bool) → is_some (cond b (Some r) (row_at rows n)) ≡ (b || is_some (row_at rows n)) = elim [ true ↦ refl | false ↦ refl ] in
    live_row (put_row j r rows) n ∙ ap is_some (row_at-put_row j r rows n) ∙ go (j == n) ∙ ap (λ b. (j == n) || b) (sym (live_row rows n))

-- ---- the rows with those that are named

-- they rise with one link
pub linked_rises : (c : Carried) (rows : List RowEntry) → RisesFrom number_of 0 rows → RisesFrom number_of 0 (with_linked c rows)
linked_rises (Plain k s) rows r = r
linked_rises (Linked n empty) rows r =
    let go : (b : Bool) → RisesFrom number_of 0 (cond b rows (put_row n empty rows)) = elim [ true ↦ r | false ↦ RisesFrom-put number_of 0 (record { who = n; row = empty }) rows r (omega arith) ] in
    go (is_live rows n)

-- the rows with what one operation names
abbrev pub with_carried : Option Carried → List RowEntry → List RowEntry
with_carried o rows = option_map_or (λ v. with_linked v rows) o rows

-- they rise with what one operation names
carried_rises : (o : Option Carried) (rows : List RowEntry) → RisesFrom number_of 0 rows → RisesFrom number_of 0 (with_carried o rows)
carried_rises None rows r = r
carried_rises (Some c) rows r = linked_rises c rows r

-- they rise with all that operations name
pub named_rises : (edits : List Edit) (rows : List RowEntry) → RisesFrom number_of 0 rows → RisesFrom number_of 0 (with_named edits rows)
named_rises [] rows r = r
named_rises (e ∷ es) rows r = named_rises es (with_carried (carried_by e) rows) (carried_rises (carried_by e) rows r)

-- a row that is there, else the empty row of the kind where the number is named
abbrev pub named_row : List RowEntry → List RowEntry → List ℕ → ℕ → Option Row
named_row kinds rows ns n = cond (is_live rows n) (row_at rows n) (cond (is_among n ns) (Some (kind_in kinds n)) None)

-- where nothing is named the rows are as they were
none_named : (kinds rows : List RowEntry) (n : ℕ) → row_at rows n ≡ named_row kinds rows [] n
none_named kinds rows n =
    let go : (b : Bool) → is_live rows n ≡ b → row_at rows n ≡ cond b (row_at rows n) None = elim [ true ↦ λ h. refl | false ↦ λ h. missing_row rows n h ] in
    go (is_live rows n) refl

-- a link to a row that is there
old_link : (kinds rows : List RowEntry) (j n : ℕ) → is_live rows j ≡ true → row_at rows n ≡ named_row kinds rows (j ∷ []) n
old_link kinds rows j n h =
    let go : (b : Bool) → (j == n) ≡ b → row_at rows n ≡ cond (is_live rows n) (row_at rows n) (cond (b || false) (Some (kind_in kinds n)) None) =
    elim [
      | true ↦ λ e. let same : j ≡ n = grind (arith, nat_tests) in let live : is_live rows n ≡ true = rw same at h in rw live refl
      | false ↦ λ e. none_named kinds rows n
    ] in
    go (j == n) refl

-- which numbers are live after a link to a row that is there
old_lives : (rows : List RowEntry) (j n : ℕ) → is_live rows j ≡ true → is_live rows n ≡ (is_live rows n || is_among n (j ∷ []))
old_lives rows j n h =
    let go : (b : Bool) → (j == n) ≡ b → is_live rows n ≡ (is_live rows n || (b || false)) =
    elim [
      | true ↦ λ e. let same : j ≡ n = grind (arith, nat_tests) in let live : is_live rows n ≡ true = rw same at h in rw live refl
      | false ↦ λ e. or-none (is_live rows n)
    ] in
    go (j == n) refl

-- a link to a row that isn't there
new_link : (kinds rows : List RowEntry) (j n : ℕ) (empty : Row) → empty ≡ kind_in kinds j → is_live rows j ≡ false → row_at (put_row j empty rows) n ≡ named_row kinds rows (j ∷ []) n
new_link kinds rows j n empty k h =
    let go : (b : Bool) → (j == n) ≡ b → cond b (Some empty) (row_at rows n) ≡ cond (is_live rows n) (row_at rows n) (cond (b || false) (Some (kind_in kinds n)) None) =
    elim [
      | true ↦ λ e. let same : j ≡ n = grind (arith, nat_tests) in let dead : is_live rows n ≡ false = rw same at h in rw (dead, k, same) refl
      | false ↦ λ e. none_named kinds rows n
    ] in
    row_at-put_row j empty rows n ∙ go (j == n) refl

-- the rows after one link
linked_rows : (kinds : List RowEntry) (c : Carried) (rows : List RowEntry) (n : ℕ) → CarriesKind kinds (Some c) → row_at (with_linked c rows) n ≡ named_row kinds rows (linked_number c) n
linked_rows kinds (Plain k s) rows n h = none_named kinds rows n
linked_rows kinds (Linked j empty) rows n h =
    let go : (b : Bool) → is_live rows j ≡ b → row_at (cond b rows (put_row j empty rows)) n ≡ named_row kinds rows (j ∷ []) n = elim [ true ↦ λ e. old_link kinds rows j n e | false ↦ λ e. new_link kinds rows j n empty h e ] in
    go (is_live rows j) refl

-- which numbers are live after one link
linked_lives : (c : Carried) (rows : List RowEntry) (n : ℕ) → is_live (with_linked c rows) n ≡ (is_live rows n || is_among n (linked_number c))
linked_lives (Plain k s) rows n = or-none (is_live rows n)
linked_lives (Linked j empty) rows n =
    let go : (b : Bool) → is_live rows j ≡ b → is_live (cond b rows (put_row j empty rows)) n ≡ (is_live rows n || is_among n (j ∷ [])) =
    elim [ true ↦ λ e. old_lives rows j n e | false ↦ λ e. is_live-put_row j empty rows n ∙ or_swapped (j == n) (is_live rows n) ] in
    go (is_live rows j) refl

-- the rows after what one operation names
carried_rows : (kinds : List RowEntry) (o : Option Carried) (rows : List RowEntry) (n : ℕ) → CarriesKind kinds o → row_at (with_carried o rows) n ≡ named_row kinds rows (option_map_or linked_number o []) n
carried_rows kinds None rows n k = none_named kinds rows n
carried_rows kinds (Some c) rows n k = linked_rows kinds c rows n k

-- which numbers are live after one operation
pub carried_lives : (o : Option Carried) (rows : List RowEntry) (n : ℕ) → is_live (with_carried o rows) n ≡ (is_live rows n || is_among n (option_map_or linked_number o []))
carried_lives None rows n = or-none (is_live rows n)
carried_lives (Some c) rows n = linked_lives c rows n

-- what stands after two steps
two_steps : {A : Type 0} (l a b : Bool) (r k : Option A) → cond (l || a) (cond l r (cond a k None)) (cond b k None) ≡ cond l r (cond (a || b) k None)
two_steps true a b r k = refl
two_steps false true b r k = refl
two_steps false false b r k = refl

-- a number that is there keeps its row, and one that is named has an empty row of its kind
pub named_rows : (kinds : List RowEntry) (edits : List Edit) (rows : List RowEntry) (n : ℕ) → RisesFrom number_of 0 rows → CarriesKinds kinds edits
    → row_at (with_named edits rows) n ≡ cond (is_live rows n) (row_at rows n) (cond (is_among n (named_in edits)) (Some (kind_in kinds n)) None)
named_rows kinds [] rows n r c = none_named kinds rows n
named_rows kinds (e ∷ es) rows n r c =
    let o = carried_by e in
    let ns = option_map_or linked_number o [] in
    let more = with_carried o rows in
    let kind = Some (kind_in kinds n) in
    named_rows kinds es more n (carried_rises o rows r) c.1
    ∙ ap (λ b. cond b (row_at more n) (cond (is_among n (named_in es)) kind None)) (carried_lives o rows n)
    ∙ ap (λ x. cond (is_live rows n || is_among n ns) x (cond (is_among n (named_in es)) kind None)) (carried_rows kinds o rows n c.0)
    ∙ two_steps (is_live rows n) (is_among n ns) (is_among n (named_in es)) (row_at rows n) kind
    ∙ ap (λ b. cond (is_live rows n) (row_at rows n) (cond b kind None)) (sym (list_any-append _ ns (named_in es)))
