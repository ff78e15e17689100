-- Numbers, type marks and carried values are read where they stand.
use Rattle.std.proofs.Common.{◌≡◌, ℕ, suc, ◌+◌, Bool, true, false, cond, not, ◌||◌, List, [], ◌∷◌, ◌++◌, length, pos, Option, Some, None, is_some, Ok, Err, refl, ap, subst, ◌∙◌, arith, length-append}
use Rattle.std.specs.Prelude.{nat_lt}
use Rattle.std.proofs.lemmas.Bool.{and_parts}
use Rattle.schema_model.specs.Classes.{Schema}
use Rattle.schema_model.specs.Spelling.{spelling}
use Rattle.schema_model.specs.Reading.{◌>>=◌, number_at, read_scalar}
use Rattle.schema_model.specs.declared.class.Item.TheVariants as item
use Rattle.schema_model.specs.declared.place.Home.{Home}
use Rattle.schema_model.proofs.NumberAgain.{number_again}
use Rattle.schema_model.proofs.ScalarAgain.{scalar_again}
use Rattle.state_model.specs.declared.row.Row.{Row}
use Rattle.state_model.specs.declared.row.RowEntry.{RowEntry}
use Rattle.state_model.specs.declared.place.Expected.{Expected}
use Rattle.state_model.specs.declared.place.Expected.TheVariants.{Item as AnItem, Collection as ACollection}
use Rattle.state_model.specs.Rows.{row_at}
use Rattle.state_model.specs.Sound.{is_instance_of, is_collection_of}
use Rattle.wire_model.specs.declared.op.OpValue.{OpValue}
use Rattle.wire_model.specs.declared.op.OpValue.TheVariants as carried
use Rattle.wire_model.specs.declared.fault.OpFault.TheVariants.{WrongClass}
use Rattle.wire_model.specs.OpBytes.{count_bytes, mark_bytes, value_bytes}
use Rattle.wire_model.specs.Grammar.{as_op_fault, not_negative, count_at, check_instance, mark_fits, marked_value, instance_value, collection_value, scalar_carried, value_at}
use Rattle.block_laws.specs.Writable.{is_count, is_type, is_carried}
use Rattle.block_laws.specs.Fitting.{marks_fit, ValueFits}
use Rattle.block_laws.proofs.Stands.{Stands, stands_first, stands_behind, read_there, byte_found}

-- a number that is written as a count is read where it stands
pub count_there : (bytes : List ℕ) (at n : ℕ) → is_count n ≡ true → Stands bytes at (count_bytes n) → count_at bytes at ≡ Ok (n, at + length (count_bytes n))
unfolding count_at
count_there bytes at n h s =
    ap (λ r. as_op_fault r >>= not_negative at) (read_there number_at (count_bytes n) (pos n) (λ prefix more. number_again prefix more (pos n) h) bytes at s)

-- ---- instances

-- the number of an instance passes wherever it stands
check_anywhere : (schema : Schema) (class : ℕ) (adds : Bool) (at : ℕ) (o : Option Row) → check_instance schema class adds 0 o ≡ Ok true → check_instance schema class adds at o ≡ Ok true
check_anywhere schema class true at None h = refl
check_anywhere schema class false at None h = cc
check_anywhere schema class adds at (Some r) h = by_test (is_instance_of schema class (Some r)) h
  where
    by_test : (b : Bool) → cond b (Ok true) (Err (WrongClass 0)) ≡ Ok true → cond b (Ok true) (Err (WrongClass at)) ≡ Ok true
    by_test true h = refl
    by_test false h = cc

-- a type mark that fits is read where it stands
mark_there : (schema : Schema) (class : ℕ) (bytes : List ℕ) (at n next mark : ℕ) (o : Option Row) → marks_fit schema class true o (Some mark) ≡ true → is_count mark ≡ true
    → Stands bytes next (213 ∷ count_bytes mark)
    → marked_value schema class bytes at (n, next) o ≡ Ok (carried.Struct n (Some mark), next + suc (length (count_bytes mark)))
unfolding marked_value
mark_there schema class bytes at n next mark o fit h s =
    let two = and_parts (nat_lt mark (length schema.classes)) (mark_fits schema class o mark) fit in
    let read = read_there number_at (count_bytes mark) (pos mark) (λ prefix more. number_again prefix more (pos mark) h) bytes (next + 1)
    (stands_behind bytes next (213 ∷ []) (count_bytes mark) s) in
    let place : next + 1 + length (count_bytes mark) ≡ next + suc (length (count_bytes mark)) = omega arith in
    rw (read, two.0, two.1, place) refl

-- an instance is read with its mark behind its number
instance_there : (schema : Schema) (class : ℕ) (adds : Bool) (bytes : List ℕ) (at n next : ℕ) (mark : Option ℕ) (o : Option Row) → check_instance schema class adds 0 o ≡ Ok true
    → marks_fit schema class adds o mark ≡ true → is_type mark ≡ true → Stands bytes next (mark_bytes mark)
    → instance_value schema class adds bytes at (n, next) o ≡ Ok (carried.Struct n mark, next + length (mark_bytes mark))
unfolding instance_value
instance_there schema class true bytes at n next (Some mark) o check fit h s =
    rw (check_anywhere schema class true at o check, byte_found bytes next 213 (count_bytes mark) s) (mark_there schema class bytes at n next mark o fit h s)
instance_there schema class false bytes at n next None o check fit h s =
    let place : next ≡ next + 0 = omega arith in
    rw (check_anywhere schema class false at o check) (ap (λ k. Ok (carried.Struct n None, k)) place)
instance_there schema class true bytes at n next None o check fit h s = cc
instance_there schema class false bytes at n next (Some mark) o check fit h s = cc

-- ---- collections

-- a collection of the home that is expected passes
collection_there : (home : Home) (at n next : ℕ) (o : Option Row) → (not (is_some o) || is_collection_of home o) ≡ true
    → collection_value home at (n, next) o ≡ Ok (carried.Coll n, next)
collection_there home at n next None h = refl
collection_there home at n next (Some r) h = rw h refl

-- ---- all values

-- a value that fits is read where it stands
pub value_there : (schema : Schema) (known : List RowEntry) (adds : Bool) (bytes : List ℕ) (at : ℕ) (expected : Expected) (v : OpValue) → ValueFits schema known adds expected v
    → is_carried v ≡ true → Stands bytes at (value_bytes v) → value_at schema known adds bytes at expected ≡ Ok (v, at + length (value_bytes v))
unfolding value_at
value_there schema known adds bytes at (AnItem (item.Scalar kind)) (carried.Scalar k v) f h s =
    let read = read_there (λ b a. read_scalar b a k) (spelling k v) v (λ prefix more. scalar_again k v prefix more f.1.0 f.1.1) bytes at s in
    subst (λ j. scalar_carried j (read_scalar bytes at j) ≡ Ok (carried.Scalar k v, at + length (spelling k v))) f.0 (ap (scalar_carried k) read)
value_there schema known adds bytes at (AnItem (item.Class class)) (carried.Struct n mark) f h s =
    let two = and_parts (is_count n) (is_type mark) h in
    let number = count_there bytes at n two.0 (stands_first bytes at (count_bytes n) (mark_bytes mark) s) in
    let place : at + length (count_bytes n) + length (mark_bytes mark) ≡ at + length (count_bytes n ++ mark_bytes mark) =
    omega (arith, length-append (count_bytes n) (mark_bytes mark)) in
    rw number
    (instance_there schema class adds bytes at n (at + length (count_bytes n)) mark (row_at known n) f.0 f.1 two.1 (stands_behind bytes at (count_bytes n) (mark_bytes mark) s)
    ∙ ap (λ k. Ok (carried.Struct n mark, k)) place)
value_there schema known adds bytes at (ACollection home) (carried.Coll n) f h s =
    rw (count_there bytes at n h s) (collection_there home at n (at + length (count_bytes n)) (row_at known n) f)
value_there schema known adds bytes at expected v f h s = absurd f
