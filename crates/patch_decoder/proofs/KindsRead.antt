-- What is read looks at the kinds of the known rows alone.
use Rattle.std.proofs.Common.{◌≡◌, ℕ, ◌+◌, ◌-◌, ◌%◌, Bool, true, List, [], Option, Some, None, is_some, refl, ap, ◌∙◌}
use Rattle.std.specs.Option.{option_map}
use Rattle.std.specs.Int.{w8}
use Rattle.schema_model.specs.Classes.{Schema}
use Rattle.schema_model.specs.Reading.{number_at, text_at, fixed_at}
use Rattle.schema_model.specs.declared.place.Home.{Home}
use Rattle.schema_model.specs.declared.class.Item.TheVariants as item
use Rattle.state_model.specs.declared.row.Row.{Row}
use Rattle.state_model.specs.declared.row.Row.TheVariants.{Struct, Map, Array, Set}
use Rattle.state_model.specs.declared.row.RowEntry.{RowEntry}
use Rattle.state_model.specs.Rows.{row_at, emptied, kinds_of}
use Rattle.state_model.specs.declared.place.Expected.{Expected}
use Rattle.state_model.specs.declared.place.Expected.TheVariants.{Item as AnItem, Collection as ACollection}
use Rattle.state_model.specs.Places.{field_expects, item_expects}
use Rattle.wire_model.specs.declared.op.OpKey.{OpKey}
use Rattle.wire_model.specs.Grammar.{as_op_fault, count_at, collection_value, check_instance, class_of_number, mark_fits, marked_value, instance_value, link_value, value_at, keyed_value, field_step, named_value, is_map, is_array_row, item_step, by_ref_value, ref_step, collection_step, holder_step, turn_to, switch_at, known_step, step_at}
use Rattle.op_reader.proofs.HolderKinds.{then_same}
use Rattle.wire_laws.proofs.EncodedKnown.{row_at-kinds_of}

-- ---- one known row, without its places

-- an instance is checked by its kind
check_same : (schema : Schema) (class : ℕ) (adds : Bool) (at : ℕ) (o : Option Row) → check_instance schema class adds at (option_map emptied o) ≡ check_instance schema class adds at o
check_same schema class adds at None = refl
check_same schema class adds at (Some (Struct c fs)) = refl
check_same schema class adds at (Some (Map h xs)) = refl
check_same schema class adds at (Some (Array h xs)) = refl
check_same schema class adds at (Some (Set h xs)) = refl

-- so is a mark
fits_same : (schema : Schema) (class : ℕ) (o : Option Row) (mark : ℕ) → mark_fits schema class (option_map emptied o) mark ≡ mark_fits schema class o mark
fits_same schema class None mark = refl
fits_same schema class (Some (Struct c fs)) mark = refl
fits_same schema class (Some (Map h xs)) mark = refl
fits_same schema class (Some (Array h xs)) mark = refl
fits_same schema class (Some (Set h xs)) mark = refl

-- so is a collection
collection_same : (home : Home) (at : ℕ) (n : ℕ × ℕ) (o : Option Row) → collection_value home at n (option_map emptied o) ≡ collection_value home at n o
collection_same home at n None = refl
collection_same home at n (Some (Struct c fs)) = refl
collection_same home at n (Some (Map h xs)) = refl
collection_same home at n (Some (Array h xs)) = refl
collection_same home at n (Some (Set h xs)) = refl

-- a row is there with or without its places
there_same : (o : Option Row) → is_some (option_map emptied o) ≡ is_some o
there_same None = refl
there_same (Some r) = refl

-- ---- values

-- a marked instance
marked_same : (schema : Schema) (class : ℕ) (bytes : List ℕ) (at : ℕ) (n : ℕ × ℕ) (o : Option Row) → marked_value schema class bytes at n (option_map emptied o) ≡ marked_value schema class bytes at n o
unfolding marked_value
marked_same schema class bytes at n o =
    then_same (as_op_fault (number_at bytes (n.1 + 1))) _ _ (λ z. then_same (class_of_number schema (n.1 + 1) z) _ _ (λ mark. rw (fits_same schema class o mark.0) refl))

-- an instance
instance_same : (schema : Schema) (class : ℕ) (adds : Bool) (bytes : List ℕ) (at : ℕ) (n : ℕ × ℕ) (o : Option Row) →
    instance_value schema class adds bytes at n (option_map emptied o) ≡ instance_value schema class adds bytes at n o
unfolding instance_value
instance_same schema class adds bytes at n o = rw (check_same schema class adds at o, marked_same schema class bytes at n o) refl

-- a link
link_same : (schema : Schema) (known : List RowEntry) (adds : Bool) (bytes : List ℕ) (at : ℕ) (w : Expected) (n : ℕ × ℕ) → link_value schema (kinds_of known) adds bytes at w n ≡ link_value schema known adds bytes at w n
link_same schema known adds bytes at (AnItem (item.Class class)) n = ap (instance_value schema class adds bytes at n) (row_at-kinds_of known n.0) ∙ instance_same schema class adds bytes at n (row_at known n.0)
link_same schema known adds bytes at (AnItem (item.Scalar kind)) n = refl
link_same schema known adds bytes at (ACollection home) n = ap (collection_value home at n) (row_at-kinds_of known n.0) ∙ collection_same home at n (row_at known n.0)

-- any value
value_same : (schema : Schema) (known : List RowEntry) (adds : Bool) (bytes : List ℕ) (at : ℕ) (w : Expected) → value_at schema (kinds_of known) adds bytes at w ≡ value_at schema known adds bytes at w
unfolding value_at
value_same schema known adds bytes at (AnItem (item.Scalar kind)) = refl
value_same schema known adds bytes at (AnItem (item.Class class)) = then_same (count_at bytes at) _ _ (λ n. link_same schema known adds bytes at (AnItem (item.Class class)) n)
value_same schema known adds bytes at (ACollection home) = then_same (count_at bytes at) _ _ (λ n. link_same schema known adds bytes at (ACollection home) n)

-- ---- operations

-- a value under a key
keyed_same : (schema : Schema) (known : List RowEntry) (bytes : List ℕ) (at code : ℕ) (key : OpKey) (w : Expected) → keyed_value schema (kinds_of known) bytes at code key w ≡ keyed_value schema known bytes at code key w
unfolding keyed_value
keyed_same schema known bytes at code key w = rw (value_same schema known _ bytes at w) refl

-- an operation on a field
field_same : (schema : Schema) (known : List RowEntry) (bytes : List ℕ) (at code index : ℕ) (w : Option Expected) → field_step schema (kinds_of known) bytes at code index w ≡ field_step schema known bytes at code index w
field_same schema known bytes at code index None = refl
field_same schema known bytes at code index (Some w) = rw (keyed_same schema known bytes (at + 1) code _ w) refl

-- a new item of a map
named_same : (schema : Schema) (known : List RowEntry) (bytes : List ℕ) (at code n : ℕ) (w : Expected) → named_value schema (kinds_of known) bytes at code n w ≡ named_value schema known bytes at code n w
unfolding named_value
named_same schema known bytes at code n w = then_same (as_op_fault (text_at bytes at)) _ _ (λ key. keyed_same schema known bytes key.1 code _ w)

-- an operation on an item
items_same : (schema : Schema) (known : List RowEntry) (a b : Row) (bytes : List ℕ) (at code : ℕ) (w : Option Expected) (n : ℕ × ℕ) → is_map a ≡ is_map b →
    item_step schema (kinds_of known) a bytes at code w n ≡ item_step schema known b bytes at code w n
items_same schema known a b bytes at code None n map = refl
items_same schema known a b bytes at code (Some w) n map = rw (map, named_same schema known bytes n.1 code n.0 w, keyed_same schema known bytes n.1 code _ w) refl

-- an instance put by reference
by_ref_same : (schema : Schema) (known : List RowEntry) (bytes : List ℕ) (at : ℕ) (w : Expected) → by_ref_value schema (kinds_of known) bytes at w ≡ by_ref_value schema known bytes at w
unfolding by_ref_value
by_ref_same schema known bytes at w = rw (value_same schema known true bytes at w) refl

-- an operation by reference
refs_same : (schema : Schema) (known : List RowEntry) (bytes : List ℕ) (at code : ℕ) (w : Option Expected) (n : ℕ × ℕ) → ref_step schema (kinds_of known) bytes at code w n ≡ ref_step schema known bytes at code w n
refs_same schema known bytes at code None n = refl
refs_same schema known bytes at code (Some w) n = rw (by_ref_same schema known bytes n.1 w) refl

-- an operation on a collection, by its shape
shape_same : (schema : Schema) (known : List RowEntry) (a b : Row) (home : Home) (bytes : List ℕ) (at code : ℕ) → is_map a ≡ is_map b → is_array_row a ≡ is_array_row b →
    collection_step schema (kinds_of known) a home bytes at code ≡ collection_step schema known b home bytes at code
unfolding collection_step
shape_same schema known a b home bytes at code map array =
    let items = then_same (count_at bytes (at + 1)) (item_step schema (kinds_of known) a bytes at code (item_expects schema home)) (item_step schema known b bytes at code (item_expects schema home))
    (λ n. items_same schema known a b bytes at code (item_expects schema home) n map) in
    let refs = then_same (count_at bytes (at + 1)) (ref_step schema (kinds_of known) bytes at code (item_expects schema home)) (ref_step schema known bytes at code (item_expects schema home))
    (λ n. refs_same schema known bytes at code (item_expects schema home) n) in
    rw (items, refs, array) refl

-- an operation on a holder, by its kind
holder_same : (schema : Schema) (known : List RowEntry) (r : Row) (bytes : List ℕ) (at byte : ℕ) → holder_step schema (kinds_of known) (emptied r) bytes at byte ≡ holder_step schema known r bytes at byte
holder_same schema known (Struct class fields) bytes at byte = field_same schema known bytes at (byte - byte % 64) (byte % 64) (field_expects schema class (byte % 64))
holder_same schema known (Map home items) bytes at byte = shape_same schema known (Map home []) (Map home items) home bytes at byte refl refl
holder_same schema known (Array home values) bytes at byte = shape_same schema known (Array home []) (Array home values) home bytes at byte refl refl
holder_same schema known (Set home items) bytes at byte = shape_same schema known (Set home []) (Set home items) home bytes at byte refl refl

-- the same, where the holder may be unknown
known_same : (schema : Schema) (known : List RowEntry) (bytes : List ℕ) (at byte : ℕ) (o : Option Row) → known_step schema (kinds_of known) bytes at byte (option_map emptied o) ≡ known_step schema known bytes at byte o
known_same schema known bytes at byte None = refl
known_same schema known bytes at byte (Some r) = holder_same schema known r bytes at byte

-- a switch to a number
turn_same : (known : List RowEntry) (at : ℕ) (n : ℕ × ℕ) → turn_to (kinds_of known) at n ≡ turn_to known at n
turn_same known at n = rw (row_at-kinds_of known n.0, there_same (row_at known n.0)) refl

-- a switch
switch_same : (known : List RowEntry) (bytes : List ℕ) (at : ℕ) → switch_at (kinds_of known) bytes at ≡ switch_at known bytes at
unfolding switch_at
switch_same known bytes at = then_same (count_at bytes (at + 1)) _ _ (λ n. turn_same known (at + 1) n)

-- a step against the kinds of rows is one against the rows
pub step_same : (schema : Schema) (known : List RowEntry) (holder : ℕ) (bytes : List ℕ) (at : ℕ) → step_at schema (kinds_of known) holder bytes at ≡ step_at schema known holder bytes at
unfolding step_at
step_same schema known holder bytes at =
    then_same (as_op_fault (fixed_at w8 bytes at)) _ _
    (λ byte. rw (switch_same known bytes at, row_at-kinds_of known holder, known_same schema known bytes at byte.0 (row_at known holder)) refl)
