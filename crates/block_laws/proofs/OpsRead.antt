-- Every operation that fits its holder is read where it stands, and so is a switch.
use Rattle.std.proofs.Common.{◌≡◌, ℕ, suc, ◌+◌, ◌<◌, ◌^◌, Bool, true, false, not, ◌&&◌, ◌==◌, List, [], ◌∷◌, ◌++◌, length, Some, is_some, option_and_then, Ok, refl, ap, subst, ◌∙◌, arith, length-append}
use Rattle.std.specs.Prelude.{nat_lt}
use Rattle.std.specs.Option.{option_map_or}
use Rattle.std.specs.Str.{is_utf8}
use Rattle.std.proofs.lemmas.Bool.{and_parts}
use Rattle.std.proofs.lemmas.Bool.Decides.{nat_tests}
use Rattle.schema_model.specs.Classes.{Schema}
use Rattle.schema_model.specs.Spelling.{text_bytes}
use Rattle.schema_model.specs.declared.place.Home.{Home}
use Rattle.schema_model.proofs.NumberAgain.{ltb_below}
use Rattle.state_model.specs.declared.row.Row.{Row}
use Rattle.state_model.specs.declared.row.Row.TheVariants.{Struct, Map, Array, Set}
use Rattle.state_model.specs.declared.row.RowEntry.{RowEntry}
use Rattle.state_model.specs.declared.row.FieldValue.{FieldValue}
use Rattle.state_model.specs.Rows.{row_at}
use Rattle.state_model.specs.Places.{item_expects, holds_instances, row_home}
use Rattle.wire_model.specs.declared.op.OpKey.{OpKey}
use Rattle.wire_model.specs.declared.op.OpKey.TheVariants.{Field, Item, Named}
use Rattle.wire_model.specs.declared.op.OpValue.{OpValue}
use Rattle.wire_model.specs.declared.op.Op.{Op}
use Rattle.wire_model.specs.declared.op.Op.TheVariants as op
use Rattle.wire_model.specs.declared.op.Step.TheVariants.{Turn, Do}
use Rattle.wire_model.specs.OpBytes.{count_bytes, value_bytes, head_bytes, link_number, op_bytes, switch_bytes}
use Rattle.wire_model.specs.Grammar.{has_add_bit, with_value, is_map, is_array_row, collection_step, holder_step, switch_at, step_at, expects_at}
use Rattle.block_laws.specs.Writable.{is_count, is_place, is_named, is_instance, is_carried, is_marked, is_unmarked, is_writable_op}
use Rattle.block_laws.specs.Fitting.{PlaceFits, key_fits, holds_refs, OpFits}
use Rattle.block_laws.proofs.Stands.{Stands, stands_behind, byte_there}
use Rattle.block_laws.proofs.ValuesRead.{count_there}
use Rattle.block_laws.proofs.ItemOps.{PutsItem, item_there, named_item_there}
use Rattle.block_laws.proofs.RefOps.{clear_there, delete_there, add_ref_there, delete_ref_there}
use Rattle.block_laws.proofs.FieldOps.{field_there, field_delete_there}

-- a switch to a holder that is known is read where it stands
pub turn_there : (schema : Schema) (known : List RowEntry) (from : ℕ) (bytes : List ℕ) (at n : ℕ) → is_some (row_at known n) ≡ true → is_count n ≡ true → Stands bytes at (switch_bytes n)
    → step_at schema known from bytes at ≡ Ok (Turn n, at + length (switch_bytes n))
unfolding step_at switch_at
turn_there schema known from bytes at n there h s =
    let place : at + 1 + length (count_bytes n) ≡ at + suc (length (count_bytes n)) = omega arith in
    rw (byte_there bytes at 255 (count_bytes n) s, count_there bytes (at + 1) n h (stands_behind bytes at (255 ∷ []) (count_bytes n) s), there, place) refl

-- any other byte begins an operation on the holder
op_byte : (schema : Schema) (known : List RowEntry) (holder : ℕ) (kind : Row) (bytes : List ℕ) (at byte : ℕ) (part : List ℕ) → row_at known holder ≡ Some kind → (byte == 255) ≡ false
    → Stands bytes at (byte ∷ part) → step_at schema known holder bytes at ≡ holder_step schema known kind bytes at byte
unfolding step_at
op_byte schema known holder kind bytes at byte part is no_switch s = rw (byte_there bytes at byte part s, no_switch, is) refl

-- ---- on an instance

-- an operation on an instance is read where it stands
field_op_there : (schema : Schema) (known : List RowEntry) (holder class : ℕ) (fields : List FieldValue) (bytes : List ℕ) (at : ℕ) (o : Op) → row_at known holder ≡ Some (Struct class fields)
    → OpFits schema known (Struct class fields) o → is_writable_op o ≡ true → Stands bytes at (op_bytes o) → step_at schema known holder bytes at ≡ Ok (Do o, at + length (op_bytes o))
field_op_there schema known holder class fields bytes at (op.Add (Field i) v) is f w s =
    let w = and_parts (nat_lt i 63) (is_carried v && is_marked v) w in
    let below : i < 63 = ltb_below i 63 w.0 in
    op_byte schema known holder (Struct class fields) bytes at (128 + i) (value_bytes v) is (grind (arith, nat_tests)) s
    ∙ field_there schema known class fields bytes at 128 i v (omega arith) refl f.1 (and_parts (is_carried v) (is_marked v) w.1).0 s
field_op_there schema known holder class fields bytes at (op.Replace (Field i) v) is f w s =
    let w = and_parts (nat_lt i 63 && true) (is_carried v && is_unmarked v) w in
    let below : i < 63 = ltb_below i 63 (and_parts (nat_lt i 63) true w.0).0 in
    op_byte schema known holder (Struct class fields) bytes at (0 + i) (value_bytes v) is (grind (arith, nat_tests)) s
    ∙ field_there schema known class fields bytes at 0 i v (omega arith) refl f.1 (and_parts (is_carried v) (is_unmarked v) w.1).0 s
field_op_there schema known holder class fields bytes at (op.DeleteAdd (Field i) v) is f w s =
    let w = and_parts (nat_lt i 63) (is_carried v && is_marked v) w in
    let below : i < 63 = ltb_below i 63 w.0 in
    op_byte schema known holder (Struct class fields) bytes at (192 + i) (value_bytes v) is (grind (arith, nat_tests)) s
    ∙ field_there schema known class fields bytes at 192 i v (omega arith) refl f.1 (and_parts (is_carried v) (is_marked v) w.1).0 s
field_op_there schema known holder class fields bytes at (op.Delete (Field i)) is f w s =
    let below : i < 63 = ltb_below i 63 (and_parts (nat_lt i 63) true w).0 in
    op_byte schema known holder (Struct class fields) bytes at (64 + i) [] is (grind (arith, nat_tests)) s
    ∙ field_delete_there schema known class fields bytes at i (omega arith) f.1
field_op_there schema known holder class fields bytes at o is f w s = cc

-- ---- on a collection

-- what the items of a collection hold, whatever the key
wants_item : (schema : Schema) (holder : Row) (home : Home) (key : OpKey) → row_home holder ≡ Some home → expects_at schema holder key ≡ item_expects schema home
wants_item schema (Struct class fields) home key is = cc
wants_item schema (Map a items) home key is = ap (option_and_then (item_expects schema)) is
wants_item schema (Array a values) home key is = ap (option_and_then (item_expects schema)) is
wants_item schema (Set a items) home key is = ap (option_and_then (item_expects schema)) is

-- a step on a holder that has a home is one on a collection of it
on_home : (schema : Schema) (known : List RowEntry) (holder : Row) (home : Home) (bytes : List ℕ) (at byte : ℕ) → row_home holder ≡ Some home
    → holder_step schema known holder bytes at byte ≡ collection_step schema known holder home bytes at byte
on_home schema known (Struct class fields) home bytes at byte is = cc
on_home schema known (Map a items) home bytes at byte is = let same : a ≡ home = cc in ap (λ h. collection_step schema known (Map a items) h bytes at byte) same
on_home schema known (Array a values) home bytes at byte is = let same : a ≡ home = cc in ap (λ h. collection_step schema known (Array a values) h bytes at byte) same
on_home schema known (Set a items) home bytes at byte is = let same : a ≡ home = cc in ap (λ h. collection_step schema known (Set a items) h bytes at byte) same

-- where an item has a number alone, it is no new item of a map
unnamed : (holder : Row) (adds : Bool) (n : ℕ) → key_fits holder adds (Item n) ≡ true → (is_map holder && adds) ≡ false
unnamed (Struct class fields) adds n h = refl
unnamed (Map home items) true n h = cc
unnamed (Map home items) false n h = refl
unnamed (Array home values) adds n h = refl
unnamed (Set home items) adds n h = refl

-- where it has a key too, it is a new item of a map, and the key is a text
named : (holder : Row) (adds : Bool) (n : ℕ) (key : List ℕ) → key_fits holder adds (Named n key) ≡ true → (is_map holder ≡ true) × (adds ≡ true) × (is_utf8 key ≡ true)
named (Map home items) true n key h = (refl, refl, h)
named holder adds n key h = cc

-- a collection has no fields
no_field : (holder : Row) (home : Home) (adds : Bool) (i : ℕ) → row_home holder ≡ Some home → key_fits holder adds (Field i) ≡ false
no_field (Struct class fields) home adds i is = cc
no_field (Map a items) home true i is = refl
no_field (Map a items) home false i is = refl
no_field (Array a values) home adds i is = refl
no_field (Set a items) home adds i is = refl

-- an array of instances takes operations by reference
takes_refs : (schema : Schema) (holder : Row) (home : Home) → row_home holder ≡ Some home → holds_refs schema holder ≡ true → (is_array_row holder && holds_instances schema home) ≡ true
takes_refs schema holder home is h = subst (λ o. (is_array_row holder && option_map_or (holds_instances schema) o false) ≡ true) is h

-- an operation that puts a value on a collection is read where it stands
put_there : (schema : Schema) (known : List RowEntry) (who : ℕ) (holder : Row) (home : Home) (bytes : List ℕ) (at code : ℕ) (key : OpKey) (v : OpValue) → PutsItem code
    → row_at known who ≡ Some holder → row_home holder ≡ Some home → key_fits holder (has_add_bit code) key ≡ true → PlaceFits schema known (has_add_bit code) (expects_at schema holder key) v
    → is_place key ≡ true → is_carried v ≡ true → Stands bytes at (head_bytes code key ++ value_bytes v)
    → step_at schema known who bytes at ≡ Ok (Do (with_value code key v), at + length (head_bytes code key ++ value_bytes v))
put_there schema known who holder home bytes at code (Field i) v p row is k f h t s = let no = no_field holder home (has_add_bit code) i is in cc
put_there schema known who holder home bytes at code (Item n) v p row is k f h t s =
    op_byte schema known who holder bytes at code (count_bytes n ++ value_bytes v) row p.switches s
    ∙ (on_home schema known holder home bytes at code is
    ∙ item_there schema known holder home bytes at code n v p (unnamed holder (has_add_bit code) n k)
    (subst (λ o. PlaceFits schema known (has_add_bit code) o v) (wants_item schema holder home (Item n) is) f) h t s)
put_there schema known who holder home bytes at code (Named n key) v p row is k f h t s =
    let two = and_parts (is_count n) (nat_lt (length key) (2 ^ 32)) h in
    let new = named holder (has_add_bit code) n key k in
    op_byte schema known who holder bytes at code ((count_bytes n ++ text_bytes key) ++ value_bytes v) row p.switches s
    ∙ (on_home schema known holder home bytes at code is
    ∙ named_item_there schema known holder home bytes at code n key v p new.0 new.1
    (subst (λ o. PlaceFits schema known (has_add_bit code) o v) (wants_item schema holder home (Named n key) is) f) two.0 two.1 new.2 t s)

-- an operation on a collection is read where it stands
item_op_there : (schema : Schema) (known : List RowEntry) (who : ℕ) (holder : Row) (home : Home) (bytes : List ℕ) (at : ℕ) (o : Op) → row_at known who ≡ Some holder
    → row_home holder ≡ Some home → OpFits schema known holder o → is_writable_op o ≡ true → Stands bytes at (op_bytes o) → step_at schema known who bytes at ≡ Ok (Do o, at + length (op_bytes o))
item_op_there schema known who holder home bytes at (op.Add k v) row is f w s =
    let w = and_parts (is_place k) (is_carried v && is_marked v) w in
    put_there schema known who holder home bytes at 128 k v (record { switches = refl; clears = refl; deletes = refl; unsupported = refl; item = refl }) row is f.0 f.1 w.0
    (and_parts (is_carried v) (is_marked v) w.1).0 s
item_op_there schema known who holder home bytes at (op.Replace k v) row is f w s =
    let w = and_parts (is_place k && not (is_named k)) (is_carried v && is_unmarked v) w in
    put_there schema known who holder home bytes at 0 k v (record { switches = refl; clears = refl; deletes = refl; unsupported = refl; item = refl }) row is f.0 f.1
    (and_parts (is_place k) (not (is_named k)) w.0).0 (and_parts (is_carried v) (is_unmarked v) w.1).0 s
item_op_there schema known who holder home bytes at (op.DeleteAdd k v) row is f w s =
    let w = and_parts (is_place k) (is_carried v && is_marked v) w in
    put_there schema known who holder home bytes at 192 k v (record { switches = refl; clears = refl; deletes = refl; unsupported = refl; item = refl }) row is f.0 f.1 w.0
    (and_parts (is_carried v) (is_marked v) w.1).0 s
item_op_there schema known who holder home bytes at (op.Delete (Field i)) row is f w s = let no = no_field holder home false i is in cc
item_op_there schema known who holder home bytes at (op.Delete (Item n)) row is f w s =
    op_byte schema known who holder bytes at 64 (count_bytes n) row refl s
    ∙ (on_home schema known holder home bytes at 64 is
    ∙ delete_there schema known holder home bytes at n (rw (wants_item schema holder home (Item n) is) at f.1) (and_parts (is_count n) true w).0 s)
item_op_there schema known who holder home bytes at (op.Delete (Named n key)) row is f w s = let no = and_parts (is_place (Named n key)) false w in cc
item_op_there schema known who holder home bytes at op.Clear row is f w s =
    op_byte schema known who holder bytes at 10 [] row refl s ∙ (on_home schema known holder home bytes at 10 is ∙ clear_there schema known holder home bytes at)
item_op_there schema known who holder home bytes at (op.AddByRef v) row is f w s =
    let w = and_parts (is_instance v) (is_carried v && is_marked v) w in
    op_byte schema known who holder bytes at 129 (count_bytes (link_number v) ++ value_bytes v) row refl s
    ∙ (on_home schema known holder home bytes at 129 is
    ∙ add_ref_there schema known holder home bytes at v (takes_refs schema holder home is f.0) (subst (λ o. PlaceFits schema known true o v) (wants_item schema holder home (Item 0) is) f.1) w.0
    (and_parts (is_carried v) (is_marked v) w.1).0 s)
item_op_there schema known who holder home bytes at (op.DeleteByRef n) row is f w s =
    op_byte schema known who holder bytes at 33 (count_bytes n) row refl s
    ∙ (on_home schema known holder home bytes at 33 is ∙ delete_ref_there schema known holder home bytes at n (takes_refs schema holder home is f) w s)

-- ---- on any holder

-- an operation that fits its holder is read where it stands
pub op_there : (schema : Schema) (known : List RowEntry) (who : ℕ) (holder : Row) (bytes : List ℕ) (at : ℕ) (o : Op) → row_at known who ≡ Some holder → OpFits schema known holder o
    → is_writable_op o ≡ true → Stands bytes at (op_bytes o) → step_at schema known who bytes at ≡ Ok (Do o, at + length (op_bytes o))
op_there schema known who (Struct class fields) bytes at o row f w s = field_op_there schema known who class fields bytes at o row f w s
op_there schema known who (Map home items) bytes at o row f w s = item_op_there schema known who (Map home items) home bytes at o row refl f w s
op_there schema known who (Array home values) bytes at o row f w s = item_op_there schema known who (Array home values) home bytes at o row refl f w s
op_there schema known who (Set home items) bytes at o row f w s = item_op_there schema known who (Set home items) home bytes at o row refl f w s

-- a key with its byte is at least a byte
head_spelled : (code : ℕ) (key : OpKey) → 0 < length (head_bytes code key)
head_spelled code (Field i) = omega arith
head_spelled code (Item n) = omega arith
head_spelled code (Named n key) = omega arith

-- an operation is at least a byte
pub op_spelled : (o : Op) → 0 < length (op_bytes o)
op_spelled (op.Add k v) = omega (arith, length-append (head_bytes 128 k) (value_bytes v), head_spelled 128 k)
op_spelled (op.Replace k v) = omega (arith, length-append (head_bytes 0 k) (value_bytes v), head_spelled 0 k)
op_spelled (op.DeleteAdd k v) = omega (arith, length-append (head_bytes 192 k) (value_bytes v), head_spelled 192 k)
op_spelled (op.Delete k) = head_spelled 64 k
op_spelled op.Clear = omega arith
op_spelled (op.AddByRef v) = omega arith
op_spelled (op.DeleteByRef n) = omega arith
