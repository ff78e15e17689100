-- Operations on collections are read where they stand.
use Rattle.std.proofs.Common.{◌≡◌, ℕ, suc, ◌+◌, ◌^◌, true, false, ◌&&◌, ◌==◌, List, [], ◌∷◌, ◌++◌, length, Option, Some, None, Ok, refl, sym, ap, ◌∙◌, arith, length-append, append_assoc}
use Rattle.std.specs.Prelude.{nat_lt}
use Rattle.std.specs.Str.{is_utf8}
use Rattle.schema_model.specs.Classes.{Schema}
use Rattle.schema_model.specs.Spelling.{text_bytes}
use Rattle.schema_model.specs.Reading.{◌>>=◌, text_at}
use Rattle.schema_model.specs.declared.place.Home.{Home}
use Rattle.schema_model.proofs.NumberAgain.{ltb_below}
use Rattle.schema_model.proofs.ScalarAgain.{text_again}
use Rattle.state_model.specs.declared.row.Row.{Row}
use Rattle.state_model.specs.declared.row.RowEntry.{RowEntry}
use Rattle.state_model.specs.declared.place.Expected.{Expected}
use Rattle.state_model.specs.Places.{item_expects}
use Rattle.wire_model.specs.declared.op.OpKey.{OpKey}
use Rattle.wire_model.specs.declared.op.OpKey.TheVariants.{Item, Named}
use Rattle.wire_model.specs.declared.op.OpValue.{OpValue}
use Rattle.wire_model.specs.declared.op.Step.TheVariants.{Do}
use Rattle.wire_model.specs.OpBytes.{count_bytes, value_bytes}
use Rattle.wire_model.specs.Grammar.{as_op_fault, has_add_bit, with_value, keyed_value, named_value, is_map, is_unsupported, is_item_code, item_step, collection_step}
use Rattle.block_laws.specs.Writable.{is_count, is_carried}
use Rattle.block_laws.specs.Fitting.{ValueFits, PlaceFits}
use Rattle.block_laws.proofs.Stands.{Stands, stands_first, stands_behind, read_there}
use Rattle.block_laws.proofs.ValuesRead.{count_there, value_there}

-- behind its key a value is read where it stands
pub keyed_there : (schema : Schema) (known : List RowEntry) (bytes : List ℕ) (at code : ℕ) (key : OpKey) (expected : Expected) (v : OpValue)
    → ValueFits schema known (has_add_bit code) expected v → is_carried v ≡ true → Stands bytes at (value_bytes v)
    → keyed_value schema known bytes at code key expected ≡ Ok (Do (with_value code key v), at + length (value_bytes v))
unfolding keyed_value
keyed_there schema known bytes at code key expected v f h s = rw (value_there schema known (has_add_bit code) bytes at expected v f h s) refl

-- behind the number of a new item its key and its value are read where they stand
named_there : (schema : Schema) (known : List RowEntry) (bytes : List ℕ) (at code n : ℕ) (key : List ℕ) (expected : Expected) (v : OpValue)
    → ValueFits schema known (has_add_bit code) expected v → is_carried v ≡ true → nat_lt (length key) (2 ^ 32) ≡ true → is_utf8 key ≡ true → Stands bytes at (text_bytes key ++ value_bytes v)
    → named_value schema known bytes at code n expected ≡ Ok (Do (with_value code (Named n key) v), at + length (text_bytes key ++ value_bytes v))
unfolding named_value
named_there schema known bytes at code n key expected v f h short good s =
    let text = read_there text_at (text_bytes key) key (λ prefix more. text_again prefix more key (ltb_below (length key) (2 ^ 32) short) good) bytes at
    (stands_first bytes at (text_bytes key) (value_bytes v) s) in
    let place : at + length (text_bytes key) + length (value_bytes v) ≡ at + length (text_bytes key ++ value_bytes v) =
    omega (arith, length-append (text_bytes key) (value_bytes v)) in
    ap (λ r. as_op_fault r >>= (λ k. keyed_value schema known bytes k.1 code (Named n k.0) expected)) text
    ∙ (keyed_there schema known bytes (at + length (text_bytes key)) code (Named n key) expected v f h (stands_behind bytes at (text_bytes key) (value_bytes v) s)
    ∙ ap (λ k. Ok (Do (with_value code (Named n key) v), k)) place)

-- the number behind the byte of an operation on an item, and what is read behind it
pub item_number : (schema : Schema) (known : List RowEntry) (holder : Row) (home : Home) (bytes : List ℕ) (at code n : ℕ) (rest : List ℕ) → (code == 10) ≡ false → is_unsupported code ≡ false
    → is_item_code code ≡ true → is_count n ≡ true → Stands bytes at (code ∷ (count_bytes n ++ rest))
    → collection_step schema known holder home bytes at code ≡ item_step schema known holder bytes at code (item_expects schema home) (n, at + 1 + length (count_bytes n))
unfolding collection_step
item_number schema known holder home bytes at code n rest clears unsupported item h s =
    let number = count_there bytes (at + 1) n h (stands_first bytes (at + 1) (count_bytes n) rest (stands_behind bytes at (code ∷ []) (count_bytes n ++ rest) s)) in
    rw (clears, unsupported, item, number) refl

-- what stands behind the number
pub behind_number : (bytes : List ℕ) (at code n : ℕ) (rest : List ℕ) → Stands bytes at (code ∷ (count_bytes n ++ rest)) → Stands bytes (at + 1 + length (count_bytes n)) rest
behind_number bytes at code n rest s = stands_behind bytes (at + 1) (count_bytes n) rest (stands_behind bytes at (code ∷ []) (count_bytes n ++ rest) s)

-- where it ends
pub end_behind : (at n : ℕ) (rest : List ℕ) → at + 1 + length (count_bytes n) + length rest ≡ at + suc (length (count_bytes n ++ rest))
end_behind at n rest = omega (arith, length-append (count_bytes n) rest)

-- the byte of an operation on an item with a value
pub record PutsItem (code : ℕ) : Type 0 where
  pub switches : (code == 255) ≡ false
  pub clears : (code == 10) ≡ false
  pub deletes : (code == 64) ≡ false
  pub unsupported : is_unsupported code ≡ false
  pub item : is_item_code code ≡ true

-- an operation that puts a value at an item number is read where it stands
pub item_there : (schema : Schema) (known : List RowEntry) (holder : Row) (home : Home) (bytes : List ℕ) (at code n : ℕ) (v : OpValue) → PutsItem code
    → (is_map holder && has_add_bit code) ≡ false → PlaceFits schema known (has_add_bit code) (item_expects schema home) v → is_count n ≡ true → is_carried v ≡ true
    → Stands bytes at (code ∷ (count_bytes n ++ value_bytes v))
    → collection_step schema known holder home bytes at code ≡ Ok (Do (with_value code (Item n) v), at + suc (length (count_bytes n ++ value_bytes v)))
item_there schema known holder home bytes at code n v p unnamed f h t s =
    item_number schema known holder home bytes at code n (value_bytes v) p.clears p.unsupported p.item h s ∙ by_expected (item_expects schema home) f
  where
    by_expected : (o : Option Expected) → PlaceFits schema known (has_add_bit code) o v
        → item_step schema known holder bytes at code o (n, at + 1 + length (count_bytes n)) ≡ Ok (Do (with_value code (Item n) v), at + suc (length (count_bytes n ++ value_bytes v)))
    by_expected None f = absurd f
    by_expected (Some expected) f =
        rw (p.deletes, unnamed)
        (keyed_there schema known bytes (at + 1 + length (count_bytes n)) code (Item n) expected v f t (behind_number bytes at code n (value_bytes v) s)
        ∙ ap (λ k. Ok (Do (with_value code (Item n) v), k)) (end_behind at n (value_bytes v)))

-- an operation that puts a value at a key is read where it stands
pub named_item_there : (schema : Schema) (known : List RowEntry) (holder : Row) (home : Home) (bytes : List ℕ) (at code n : ℕ) (key : List ℕ) (v : OpValue) → PutsItem code
    → is_map holder ≡ true → has_add_bit code ≡ true → PlaceFits schema known (has_add_bit code) (item_expects schema home) v → is_count n ≡ true → nat_lt (length key) (2 ^ 32) ≡ true → is_utf8 key ≡ true
    → is_carried v ≡ true → Stands bytes at (code ∷ ((count_bytes n ++ text_bytes key) ++ value_bytes v))
    → collection_step schema known holder home bytes at code ≡ Ok (Do (with_value code (Named n key) v), at + suc (length ((count_bytes n ++ text_bytes key) ++ value_bytes v)))
named_item_there schema known holder home bytes at code n key v p map adds f h short good t s =
    item_number schema known holder home bytes at code n (text_bytes key ++ value_bytes v) p.clears p.unsupported p.item h there ∙ by_expected (item_expects schema home) f
  where
    there : Stands bytes at (code ∷ (count_bytes n ++ (text_bytes key ++ value_bytes v)))
    there = rw (append_assoc (count_bytes n) (text_bytes key) (value_bytes v)) at s

    by_expected : (o : Option Expected) → PlaceFits schema known (has_add_bit code) o v
        → item_step schema known holder bytes at code o (n, at + 1 + length (count_bytes n))
        ≡ Ok (Do (with_value code (Named n key) v), at + suc (length ((count_bytes n ++ text_bytes key) ++ value_bytes v)))
    by_expected None f = absurd f
    by_expected (Some expected) f =
        let end = end_behind at n (text_bytes key ++ value_bytes v) ∙ ap (λ x. at + suc (length x)) (sym (append_assoc (count_bytes n) (text_bytes key) (value_bytes v))) in
        rw (p.deletes, map, adds)
        (named_there schema known bytes (at + 1 + length (count_bytes n)) code n key expected v f t short good (behind_number bytes at code n (text_bytes key ++ value_bytes v) there)
        ∙ ap (λ k. Ok (Do (with_value code (Named n key) v), k)) end)
