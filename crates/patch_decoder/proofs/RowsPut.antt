-- Rows put in one behind another and with links beside them; their kinds; and what operations find, wherever their links lead to.
use Rattle.std.proofs.Common.{◌≡◌, ℕ, Bool, true, false, cond, ◌||◌, ◌==◌, List, [], length, Option, Some, None, refl, sym, ap, ◌∙◌, arith}
use Rattle.std.specs.List.{list_any}
use Rattle.std.specs.Option.{option_map, option_map_or}
use Rattle.std.specs.Prelude.{nat_le}
use Rattle.std.proofs.lemmas.Bool.Decides.{nat_tests}
use Rattle.lists.specs.Rising.{RisesFrom, find}
use Rattle.lists.proofs.RisingLaws.{find-put, same_rising}
use Rattle.schema_model.specs.Classes.{Schema}
use Rattle.state_model.specs.declared.row.Row.{Row}
use Rattle.state_model.specs.declared.row.Row.TheVariants as row
use Rattle.state_model.specs.declared.row.RowEntry.{RowEntry}
use Rattle.state_model.specs.declared.row.MapItem.{MapItem}
use Rattle.state_model.specs.declared.row.SetItem.{SetItem}
use Rattle.state_model.specs.Rows.{number_of, row_at, is_live, emptied, kinds_of, put_row}
use Rattle.state_model.specs.Sound.{has_kind}
use Rattle.state_laws.proofs.Numbers.{live_at, at_live, put_rises}
use Rattle.wire_model.specs.declared.op.OpKey.TheVariants.{Field, Item, Named}
use Rattle.wire_model.specs.declared.op.Op.{Op}
use Rattle.wire_model.specs.declared.op.Op.TheVariants as op
use Rattle.wire_model.specs.Edits.{Carried, Plain, Linked}
use Rattle.wire_model.specs.Effect.{Body, Fields, Items, Slots, Elements, finds}
use Rattle.wire_model.specs.Grammar.{resolved}
use Rattle.wire_model.specs.Resolved.{holder_kind}
use Rattle.wire_laws.proofs.LinkedRows.{with_carried, row_at-put_row, is_live-put_row}
use Rattle.wire_laws.proofs.EncodedKnown.{row_at-kinds_of}
use Rattle.wire_ops.specs.Bodies.{put_position, replaced_number}
use Rattle.wire_ops.specs.PlainEdits.{plain_edit}
use Rattle.wire_ops.proofs.EffectLaws.{finds_fields, finds_items, finds_slots, finds_elements}
use Rattle.patch_decoder.proofs.LinkKinds.{Brings}
use Rattle.patch_decoder.proofs.Running.{carried_keeps}

-- a holder's kind has no places
no_places : (o : Option Row) → emptied (option_map_or (λ r. r) (option_map emptied o) (row.Struct 0 [])) ≡ option_map_or (λ r. r) (option_map emptied o) (row.Struct 0 [])
no_places None = refl
no_places (Some (row.Struct class fields)) = refl
no_places (Some (row.Map home items)) = refl
no_places (Some (row.Array home values)) = refl
no_places (Some (row.Set home items)) = refl

pub kind_is_bare : (rows : List RowEntry) (n : ℕ) → emptied (holder_kind (kinds_of rows) n) ≡ holder_kind (kinds_of rows) n
kind_is_bare rows n = rw (row_at-kinds_of rows n) (no_places (row_at rows n))

-- ---- finding, wherever links lead to

-- the item that an operation replaces, wherever its link leads to
same_replaced : (schema : Schema) (known : List RowEntry) (holder : Row) (o : Op) → replaced_number (plain_edit o) ≡ replaced_number (resolved schema known holder o)
same_replaced schema known holder (op.Add k v) = refl
same_replaced schema known holder (op.Replace (Field i) v) = refl
same_replaced schema known holder (op.Replace (Item n) v) = refl
same_replaced schema known holder (op.Replace (Named n key) v) = refl
same_replaced schema known holder (op.DeleteAdd k v) = refl
same_replaced schema known holder (op.Delete k) = refl
same_replaced schema known holder op.Clear = refl
same_replaced schema known holder (op.AddByRef v) = refl
same_replaced schema known holder (op.DeleteByRef n) = refl

-- the position at which it puts a value
same_position : (schema : Schema) (known : List RowEntry) (holder : Row) (o : Op) → put_position (plain_edit o) ≡ put_position (resolved schema known holder o)
same_position schema known holder (op.Add (Field i) v) = refl
same_position schema known holder (op.Add (Item n) v) = refl
same_position schema known holder (op.Add (Named n key) v) = refl
same_position schema known holder (op.Replace (Field i) v) = refl
same_position schema known holder (op.Replace (Item n) v) = refl
same_position schema known holder (op.Replace (Named n key) v) = refl
same_position schema known holder (op.DeleteAdd (Field i) v) = refl
same_position schema known holder (op.DeleteAdd (Item n) v) = refl
same_position schema known holder (op.DeleteAdd (Named n key) v) = refl
same_position schema known holder (op.Delete k) = refl
same_position schema known holder op.Clear = refl
same_position schema known holder (op.AddByRef v) = refl
same_position schema known holder (op.DeleteByRef n) = refl

-- an operation finds its item wherever its link leads to
pub same_finds : (schema : Schema) (known : List RowEntry) (holder : Row) (o : Op) (body : Body) → finds (plain_edit o) body ≡ finds (resolved schema known holder o) body
same_finds schema known holder o (Fields class fields) = finds_fields (plain_edit o) class fields ∙ sym (finds_fields (resolved schema known holder o) class fields)
same_finds schema known holder o (Items home items) =
    finds_items (plain_edit o) home items ∙ (ap (λ p. option_map_or (λ n. list_any (λ (i : MapItem). i.number == n) items) p true) (same_replaced schema known holder o) ∙ sym (finds_items (resolved schema known holder o) home items))
same_finds schema known holder o (Slots home slots) =
    finds_slots (plain_edit o) home slots ∙ (ap (λ p. option_map_or (λ at. nat_le at (length slots)) p true) (same_position schema known holder o) ∙ sym (finds_slots (resolved schema known holder o) home slots))
same_finds schema known holder o (Elements home items) =
    finds_elements (plain_edit o) home items ∙ (ap (λ p. option_map_or (λ n. list_any (λ (i : SetItem). i.number == n) items) p true) (same_replaced schema known holder o) ∙ sym (finds_elements (resolved schema known holder o) home items))

-- ---- rows that are put in

-- the row that was put in
pub row_put : (rows : List RowEntry) (n : ℕ) (r : Row) → row_at (put_row n r rows) n ≡ Some r
row_put rows n r = let self : (n == n) ≡ true = grind (arith, nat_tests) in row_at-put_row n r rows n ∙ ap (λ b. cond b (Some r) (row_at rows n)) self

-- of two rows put in at a number the last one is left
pub put_twice : (rows : List RowEntry) (n : ℕ) (a b : Row) → RisesFrom number_of 0 rows → put_row n b (put_row n a rows) ≡ put_row n b rows
put_twice rows n a b rises =
    let x : RowEntry = record { who = n; row = b } in
    let y : RowEntry = record { who = n; row = a } in
    let twice : (t : Bool) (o : Option RowEntry) → cond t (Some x) (cond t (Some y) o) ≡ cond t (Some x) o = elim [ true ↦ λ o. refl | false ↦ λ o. refl ] in
    same_rising number_of 0 0 (put_row n b (put_row n a rows)) (put_row n b rows) (put_rises (put_row n a rows) n b (put_rises rows n a rises)) (put_rises rows n b rises)
    (λ k. find-put number_of x (put_row n a rows) k ∙ (ap (λ o. cond (n == k) (Some x) o) (find-put number_of y rows k) ∙ (twice (n == k) (find number_of k rows) ∙ sym (find-put number_of x rows k))))

-- rows put in at two numbers, in either order
put_swap : (rows : List RowEntry) (n m : ℕ) (a b : Row) → RisesFrom number_of 0 rows → (n == m) ≡ false → put_row m b (put_row n a rows) ≡ put_row n a (put_row m b rows)
put_swap rows n m a b rises apart =
    let x : RowEntry = record { who = m; row = b } in
    let y : RowEntry = record { who = n; row = a } in
    let swap : (k : ℕ) (s t : Bool) → (m == k) ≡ s → (n == k) ≡ t → (o : Option RowEntry) → cond s (Some x) (cond t (Some y) o) ≡ cond t (Some y) (cond s (Some x) o) = λ k. elim [
      | true ↦ elim [ true ↦ λ e f o. let same : n ≡ m = grind (arith, nat_tests) in absurd (grind (arith, nat_tests)) | false ↦ λ e f o. refl ]
      | false ↦ elim [ true ↦ λ e f o. refl | false ↦ λ e f o. refl ]
    ] in
    same_rising number_of 0 0 (put_row m b (put_row n a rows)) (put_row n a (put_row m b rows)) (put_rises (put_row n a rows) m b (put_rises rows n a rises)) (put_rises (put_row m b rows) n a (put_rises rows m b rises))
    (λ k. find-put number_of x (put_row n a rows) k ∙ (ap (λ o. cond (m == k) (Some x) o) (find-put number_of y rows k) ∙ (swap k (m == k) (n == k) refl refl (find number_of k rows)
    ∙ (ap (λ o. cond (n == k) (Some y) o) (sym (find-put number_of x rows k)) ∙ sym (find-put number_of y (put_row m b rows) k)))))

-- a link beside a row that is put in where one is
pub carried_put : (o : Option Carried) (rows : List RowEntry) (n : ℕ) (r new : Row) → RisesFrom number_of 0 rows → row_at rows n ≡ Some r → with_carried o (put_row n new rows) ≡ put_row n new (with_carried o rows)
carried_put None rows n r new rises there = refl
carried_put (Some (Plain k s)) rows n r new rises there = refl
carried_put (Some (Linked j empty)) rows n r new rises there =
    let go : (t : Bool) → (n == j) ≡ t → (b : Bool) → is_live rows j ≡ b → cond (t || b) (put_row n new rows) (put_row j empty (put_row n new rows)) ≡ put_row n new (cond b rows (put_row j empty rows)) = elim [
      | true ↦ λ e. elim [
        | true ↦ λ live. refl
        | false ↦ λ live. let same : n ≡ j = grind (arith, nat_tests) in let there : is_live rows j ≡ true = ap (is_live rows) (sym same) ∙ live_at rows n r there in absurd (cc)
      ]
      | false ↦ λ e. elim [
        | true ↦ λ live. refl
        | false ↦ λ live. put_swap rows n j new empty rises e
      ]
    ] in ap (λ b. cond b (put_row n new rows) (put_row j empty (put_row n new rows))) (is_live-put_row n new rows j) ∙ go (n == j) refl (is_live rows j) refl

-- ---- rows of kinds of the schema

-- each row is of a kind of the schema
abbrev pub HasKinds : Schema → List RowEntry → Type 0
HasKinds schema rows = (n : ℕ) (r : Row) → row_at rows n ≡ Some r → has_kind schema r ≡ true

-- a row of a kind of the schema put in
pub kinds_put : (schema : Schema) (rows : List RowEntry) (j : ℕ) (new : Row) → HasKinds schema rows → has_kind schema new ≡ true → HasKinds schema (put_row j new rows)
kinds_put schema rows j new kinds fits n r there =
    let go : (b : Bool) → cond b (Some new) (row_at rows n) ≡ Some r → has_kind schema r ≡ true = elim [
      | true ↦ λ is. let same : new ≡ r = cc in rw (← same) fits
      | false ↦ λ is. kinds n r is
    ] in go (j == n) (sym (row_at-put_row j new rows n) ∙ there)

-- a number stays live
pub live_put : (rows : List RowEntry) (j n : ℕ) (r : Row) → is_live rows n ≡ true → is_live (put_row j r rows) n ≡ true
live_put rows j n r live = is_live-put_row j r rows n ∙ (ap (λ b. (j == n) || b) live ∙ by (j == n)) where
  by : (b : Bool) → (b || true) ≡ true
  by true = refl
  by false = refl

-- with a link too
pub kinds_carried : (schema : Schema) (o : Option Carried) (rows : List RowEntry) → HasKinds schema rows → Brings schema (kinds_of rows) o → HasKinds schema (with_carried o rows)
kinds_carried schema None rows kinds brings = kinds
kinds_carried schema (Some (Plain k s)) rows kinds brings = kinds
kinds_carried schema (Some (Linked j empty)) rows kinds brings =
    let go : (b : Bool) → is_live rows j ≡ b → HasKinds schema (cond b rows (put_row j empty rows)) = elim [
      | true ↦ λ live. kinds
      | false ↦ λ live.
          let gone : (q : Option Row) → row_at rows j ≡ q → row_at (kinds_of rows) j ≡ None = elim [
            | None ↦ λ is. row_at-kinds_of rows j ∙ ap (option_map emptied) is
            | Some r ↦ λ is. let there : is_live rows j ≡ true = live_at rows j r is in absurd (cc)
          ] in kinds_put schema rows j empty kinds (brings (gone (row_at rows j) refl))
    ] in go (is_live rows j) refl

-- with a link too
pub live_carried : (o : Option Carried) (rows : List RowEntry) (n : ℕ) → is_live rows n ≡ true → is_live (with_carried o rows) n ≡ true
live_carried o rows n live = let r = at_live rows n live in live_at (with_carried o rows) n r.0 (carried_keeps o rows n r.0 r.1)
