-- Operations on collections with a number alone, and by reference, are read where they stand.
use Rattle.std.proofs.Common.{◌≡◌, ℕ, suc, ◌+◌, true, false, ◌==◌, List, [], ◌∷◌, ◌++◌, length, Option, Some, None, is_some, option_and_then, Ok, refl, ap, ◌∙◌, arith, append-nil}
use Rattle.std.proofs.lemmas.Bool.{and_parts}
use Rattle.std.specs.Option.{option_map}
use Rattle.schema_model.specs.Classes.{Schema, home_field, item_of}
use Rattle.schema_model.specs.declared.class.FieldDecl.{FieldDecl}
use Rattle.schema_model.specs.declared.place.Home.{Home}
use Rattle.state_model.specs.declared.row.Row.{Row}
use Rattle.state_model.specs.declared.row.RowEntry.{RowEntry}
use Rattle.state_model.specs.declared.place.Expected.{Expected}
use Rattle.state_model.specs.declared.place.Expected.TheVariants.{Item as AnItem}
use Rattle.state_model.specs.Places.{item_expects, holds_instances, instance_class}
use Rattle.wire_model.specs.declared.op.OpKey.TheVariants.{Item}
use Rattle.wire_model.specs.declared.op.OpValue.{OpValue}
use Rattle.wire_model.specs.declared.op.OpValue.TheVariants as carried
use Rattle.wire_model.specs.declared.op.Op.TheVariants as op
use Rattle.wire_model.specs.declared.op.Step.TheVariants.{Do}
use Rattle.wire_model.specs.OpBytes.{count_bytes, value_bytes, link_number}
use Rattle.wire_model.specs.Grammar.{by_ref_value, is_array_row, is_unsupported, is_item_code, is_ref_code, item_step, ref_step, collection_step}
use Rattle.block_laws.specs.Writable.{is_count, is_type, is_instance, is_carried}
use Rattle.block_laws.specs.Fitting.{ValueFits, PlaceFits}
use Rattle.block_laws.proofs.Stands.{Stands, stands_first, stands_behind}
use Rattle.block_laws.proofs.ValuesRead.{count_there, value_there}
use Rattle.block_laws.proofs.ItemOps.{item_number, behind_number, end_behind}

-- CLEAR is read where it stands
pub clear_there : (schema : Schema) (known : List RowEntry) (holder : Row) (home : Home) (bytes : List ℕ) (at : ℕ)
    → collection_step schema known holder home bytes at 10 ≡ Ok (Do op.Clear, at + 1)
unfolding collection_step
clear_there schema known holder home bytes at = refl

-- DELETE of an item is read where it stands
pub delete_there : (schema : Schema) (known : List RowEntry) (holder : Row) (home : Home) (bytes : List ℕ) (at n : ℕ) → is_some (item_expects schema home) ≡ true → is_count n ≡ true
    → Stands bytes at (64 ∷ count_bytes n) → collection_step schema known holder home bytes at 64 ≡ Ok (Do (op.Delete (Item n)), at + suc (length (count_bytes n)))
delete_there schema known holder home bytes at n expects h s =
    item_number schema known holder home bytes at 64 n [] refl refl refl h (rw (append-nil (count_bytes n)) s) ∙ by_expected (item_expects schema home) expects
  where
    by_expected : (o : Option Expected) → is_some o ≡ true
        → item_step schema known holder bytes at 64 o (n, at + 1 + length (count_bytes n)) ≡ Ok (Do (op.Delete (Item n)), at + suc (length (count_bytes n)))
    by_expected None expects = cc
    by_expected (Some expected) expects = ap (λ k. Ok (Do (op.Delete (Item n)), k)) (omega arith)

-- ---- by reference

-- the number behind the byte of an operation by reference, and what is read behind it
ref_number : (schema : Schema) (known : List RowEntry) (holder : Row) (home : Home) (bytes : List ℕ) (at code n : ℕ) (rest : List ℕ) → (code == 10) ≡ false → is_unsupported code ≡ false
    → is_item_code code ≡ false → is_ref_code schema holder home code ≡ true → is_count n ≡ true → Stands bytes at (code ∷ (count_bytes n ++ rest))
    → collection_step schema known holder home bytes at code ≡ ref_step schema known bytes at code (item_expects schema home) (n, at + 1 + length (count_bytes n))
unfolding collection_step
ref_number schema known holder home bytes at code n rest clears unsupported item ref h s =
    let number = count_there bytes (at + 1) n h (stands_first bytes (at + 1) (count_bytes n) rest (stands_behind bytes at (code ∷ []) (count_bytes n ++ rest) s)) in
    rw (clears, unsupported, item, ref, number) refl

-- the number that an instance is put by is in range
link_count : (v : OpValue) → is_instance v ≡ true → is_carried v ≡ true → is_count (link_number v) ≡ true
link_count (carried.Scalar k v) i h = cc
link_count (carried.Struct n class) i h = (and_parts (is_count n) (is_type class) h).0
link_count (carried.Coll n) i h = h

-- an instance that is put by reference is read behind the number that stands before it
by_ref_there : (schema : Schema) (known : List RowEntry) (bytes : List ℕ) (at : ℕ) (expected : Expected) (v : OpValue) → ValueFits schema known true expected v → is_carried v ≡ true
    → Stands bytes at (value_bytes v) → by_ref_value schema known bytes at expected ≡ Ok (Do (op.AddByRef v), at + length (value_bytes v))
unfolding by_ref_value
by_ref_there schema known bytes at expected v f h s = rw (value_there schema known true bytes at expected v f h s) refl

-- ADD_BY_REFID is read where it stands
pub add_ref_there : (schema : Schema) (known : List RowEntry) (holder : Row) (home : Home) (bytes : List ℕ) (at : ℕ) (v : OpValue) → is_ref_code schema holder home 129 ≡ true
    → PlaceFits schema known true (item_expects schema home) v → is_instance v ≡ true → is_carried v ≡ true → Stands bytes at (129 ∷ (count_bytes (link_number v) ++ value_bytes v))
    → collection_step schema known holder home bytes at 129 ≡ Ok (Do (op.AddByRef v), at + suc (length (count_bytes (link_number v) ++ value_bytes v)))
add_ref_there schema known holder home bytes at v ref f i h s =
    ref_number schema known holder home bytes at 129 (link_number v) (value_bytes v) refl refl refl ref (link_count v i h) s ∙ by_expected (item_expects schema home) f
  where
    by_expected : (o : Option Expected) → PlaceFits schema known true o v
        → ref_step schema known bytes at 129 o (link_number v, at + 1 + length (count_bytes (link_number v)))
        ≡ Ok (Do (op.AddByRef v), at + suc (length (count_bytes (link_number v) ++ value_bytes v)))
    by_expected None f = absurd f
    by_expected (Some expected) f =
        by_ref_there schema known bytes (at + 1 + length (count_bytes (link_number v))) expected v f h (behind_number bytes at 129 (link_number v) (value_bytes v) s)
        ∙ ap (λ k. Ok (Do (op.AddByRef v), k)) (end_behind at (link_number v) (value_bytes v))

-- a home of instances expects items
wants_items : (schema : Schema) (home : Home) → holds_instances schema home ≡ true → is_some (item_expects schema home) ≡ true
wants_items schema home h = by_field (home_field schema home) h
  where
    by_field : (o : Option FieldDecl) → is_some (option_and_then (λ (f : FieldDecl). instance_class (item_of f.shape)) o) ≡ true → is_some (option_map (λ (f : FieldDecl). AnItem (item_of f.shape)) o) ≡ true
    by_field None h = cc
    by_field (Some f) h = refl

-- DELETE_BY_REFID is read where it stands
pub delete_ref_there : (schema : Schema) (known : List RowEntry) (holder : Row) (home : Home) (bytes : List ℕ) (at n : ℕ) → is_ref_code schema holder home 33 ≡ true → is_count n ≡ true
    → Stands bytes at (33 ∷ count_bytes n) → collection_step schema known holder home bytes at 33 ≡ Ok (Do (op.DeleteByRef n), at + suc (length (count_bytes n)))
delete_ref_there schema known holder home bytes at n ref h s =
    ref_number schema known holder home bytes at 33 n [] refl refl refl ref h (rw (append-nil (count_bytes n)) s)
    ∙ by_expected (item_expects schema home) (wants_items schema home (and_parts (is_array_row holder) (holds_instances schema home) ref).1)
  where
    by_expected : (o : Option Expected) → is_some o ≡ true
        → ref_step schema known bytes at 33 o (n, at + 1 + length (count_bytes n)) ≡ Ok (Do (op.DeleteByRef n), at + suc (length (count_bytes n)))
    by_expected None expects = cc
    by_expected (Some expected) expects = ap (λ k. Ok (Do (op.DeleteByRef n), k)) (omega arith)
