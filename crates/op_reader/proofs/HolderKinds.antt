-- What a step means looks at a holder's kind alone.
use Rattle.std.proofs.Common.{◌≡◌, ℕ, ◌+◌, ◌<◌, length, slice_index_or, ◌==◌, take, drop, arith, zero, suc, ◌∷◌, true, false, List, [], Option, Some, None, Result, Ok, Err, refl, sym, ap, ◌∙◌}
use Rattle.std.specs.Option.{option_map, option_map_or}
use Rattle.std.specs.Prelude.{nat_lt}
use Rattle.std.specs.Int.{w8, byte_len, from_le_bytes}
use Rattle.std.proofs.lemmas.Bool.Decides.{nat_tests}
use Rattle.schema_model.specs.Classes.{Schema}
use Rattle.schema_model.specs.Reading.{◌>>=◌, fixed_at}
use Rattle.schema_model.specs.declared.place.Home.{Home}
use Rattle.state_model.specs.declared.row.Row.{Row}
use Rattle.state_model.specs.declared.row.Row.TheVariants.{Struct, Map, Array, Set}
use Rattle.state_model.specs.declared.row.RowEntry.{RowEntry}
use Rattle.state_model.specs.declared.place.Expected.{Expected}
use Rattle.state_model.specs.Places.{empty_collection, item_expects, same_kind}
use Rattle.state_model.specs.Sound.{has_kind}
use Rattle.state_model.specs.Rows.{row_at}
use Rattle.wire_model.specs.declared.op.RowKind.{RowKind}
use Rattle.wire_model.specs.declared.fault.OpFault.{OpFault}
use Rattle.wire_model.specs.Grammar.{as_op_fault, step_at, count_at, item_step, collection_step, holder_step, is_map, is_array_row}
use Rattle.op_reader.specs.Known.{kind_of_row, known_kind, is_holder}
use Rattle.op_reader.specs.Homes.{home_row, kind_step, step_on}

-- the same second step behind a first
pub then_same : {A B : Type 0} (r : Result A OpFault) (f g : A → Result B OpFault) → ((x : A) → f x ≡ g x) → r >>= f ≡ r >>= g
then_same (Ok x) f g same = same x
then_same (Err e) f g same = refl

-- an operation on items looks at whether the holder is a map
item_same : (schema : Schema) (known : List RowEntry) (a b : Row) (bytes : List ℕ) (at code : ℕ) (w : Option Expected) (n : ℕ × ℕ) → is_map a ≡ is_map b
    → item_step schema known a bytes at code w n ≡ item_step schema known b bytes at code w n
item_same schema known a b bytes at code None n e = refl
item_same schema known a b bytes at code (Some expected) n e = rw e refl

-- an operation on a collection looks at its shape
collection_same : (schema : Schema) (known : List RowEntry) (a b : Row) (home : Home) (bytes : List ℕ) (at code : ℕ) → is_map a ≡ is_map b → is_array_row a ≡ is_array_row b
    → collection_step schema known a home bytes at code ≡ collection_step schema known b home bytes at code
unfolding collection_step
collection_same schema known a b home bytes at code map array =
    let items = then_same (count_at bytes (at + 1)) (item_step schema known a bytes at code (item_expects schema home)) (item_step schema known b bytes at code (item_expects schema home))
    (λ n. item_same schema known a b bytes at code (item_expects schema home) n map) in
    rw (items, array) refl

-- rows of one kind have one shape
shape_of_kind : (a b : Row) → same_kind a b ≡ true → (is_map a ≡ is_map b) × (is_array_row a ≡ is_array_row b)
shape_of_kind (Struct c fs) (Struct d gs) h = (refl, refl)
shape_of_kind (Map h xs) (Map g ys) k = (refl, refl)
shape_of_kind (Array h xs) (Array g ys) k = (refl, refl)
shape_of_kind (Set h xs) (Set g ys) k = (refl, refl)
shape_of_kind (Struct c fs) (Map g ys) h = absurd (cc)
shape_of_kind (Struct c fs) (Array g ys) h = absurd (cc)
shape_of_kind (Struct c fs) (Set g ys) h = absurd (cc)
shape_of_kind (Map h xs) (Struct d gs) k = absurd (cc)
shape_of_kind (Map h xs) (Array g ys) k = absurd (cc)
shape_of_kind (Map h xs) (Set g ys) k = absurd (cc)
shape_of_kind (Array h xs) (Struct d gs) k = absurd (cc)
shape_of_kind (Array h xs) (Map g ys) k = absurd (cc)
shape_of_kind (Array h xs) (Set g ys) k = absurd (cc)
shape_of_kind (Set h xs) (Struct d gs) k = absurd (cc)
shape_of_kind (Set h xs) (Map g ys) k = absurd (cc)
shape_of_kind (Set h xs) (Array g ys) k = absurd (cc)

-- a collection of a declared home is of the shape of the home's
home_shape : (schema : Schema) (home : Home) (r : Row) → option_map_or (same_kind r) (empty_collection schema home) false ≡ true
    → (is_map (home_row schema home) ≡ is_map r) × (is_array_row (home_row schema home) ≡ is_array_row r)
home_shape schema home r h = by (empty_collection schema home) refl h where
  by : (o : Option Row) → empty_collection schema home ≡ o → option_map_or (same_kind r) o false ≡ true
      → (is_map (home_row schema home) ≡ is_map r) × (is_array_row (home_row schema home) ≡ is_array_row r)
  by None is k = absurd (cc)
  by (Some e) is k =
      let s = shape_of_kind r e k in
      rw is (sym s.0, sym s.1)

-- an operation on a holder goes by what the holder is known to be
pub kind_steps : (schema : Schema) (known : List RowEntry) (r : Row) (bytes : List ℕ) (at byte : ℕ) → has_kind schema r ≡ true
    → kind_step schema known (kind_of_row r) bytes at byte ≡ holder_step schema known r bytes at byte
kind_steps schema known (Struct class fields) bytes at byte h = refl
kind_steps schema known (Map home items) bytes at byte h =
    let s = home_shape schema home (Map home items) h in collection_same schema known (home_row schema home) (Map home items) home bytes at byte s.0 s.1
kind_steps schema known (Array home values) bytes at byte h =
    let s = home_shape schema home (Array home values) h in collection_same schema known (home_row schema home) (Array home values) home bytes at byte s.0 s.1
kind_steps schema known (Set home items) bytes at byte h =
    let s = home_shape schema home (Set home items) h in collection_same schema known (home_row schema home) (Set home items) home bytes at byte s.0 s.1

-- one element from a place on
one_there : (bytes : List ℕ) (at : ℕ) → at < length bytes → take 1 (drop at bytes) ≡ slice_index_or bytes at 0 ∷ []
one_there [] at within = absurd (omega arith)
one_there (b ∷ bs) zero within = refl
one_there (b ∷ bs) (suc at) within = one_there bs at (omega arith)

-- the byte at a place within the bytes
byte_there : (bytes : List ℕ) (at : ℕ) → at < length bytes → fixed_at w8 bytes at ≡ Ok (slice_index_or bytes at 0, at + 1)
byte_there bytes at within =
    let long : nat_lt (length bytes) (at + byte_len w8) ≡ false = grind (arith, nat_tests) in
    let one : from_le_bytes w8 (take (byte_len w8) (drop at bytes)) ≡ slice_index_or bytes at 0 = ap (from_le_bytes w8) (one_there bytes at within) ∙ omega arith in
    rw (long, one) refl

-- the step on a holder that is known is that on its kind
pub step_on_known : (schema : Schema) (known : List RowEntry) (holder : ℕ) (bytes : List ℕ) (at : ℕ) (kind : RowKind) → is_holder schema known holder ≡ true
    → known_kind known holder ≡ Some kind → step_on schema known kind bytes at ≡ step_at schema known holder bytes at
unfolding step_at step_on
step_on_known schema known holder bytes at kind is_holder kinds =
    by (row_at known holder) refl is_holder kinds where
      by : (o : Option Row) → row_at known holder ≡ o → option_map_or (has_kind schema) o false ≡ true → option_map kind_of_row o ≡ Some kind
          → step_on schema known kind bytes at ≡ step_at schema known holder bytes at
      by None is h k = absurd (cc)
      by (Some r) is h k =
          let same : kind_of_row r ≡ kind = cc in
          then_same (as_op_fault (fixed_at w8 bytes at)) _ _ (λ byte. rw (is, ← same, kind_steps schema known r bytes at byte.0 h) refl)
