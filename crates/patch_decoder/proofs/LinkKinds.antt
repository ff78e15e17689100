-- The row that an operation brings is of a kind of the schema.
use Rattle.std.proofs.Common.{◌≡◌, ℕ, ◌+◌, ◌-◌, ◌%◌, Bool, true, false, cond, ◌==◌, List, [], length, Option, Some, None, is_some, Result, Ok, Err, refl, subst}
use Rattle.std.specs.Option.{option_map_or}
use Rattle.std.specs.Prelude.{nat_lt, ℤ, pos, negsuc, ◌&&◌}
use Rattle.std.specs.Int.{w8}
use Rattle.schema_model.specs.Classes.{Schema, is_kept}
use Rattle.schema_model.specs.Reading.{◌>>=◌, number_at, text_at, read_scalar, fixed_at}
use Rattle.schema_model.specs.declared.fault.ReadFault.{ReadFault}
use Rattle.schema_model.specs.declared.scalar.ScalarKind.{ScalarKind}
use Rattle.schema_model.specs.declared.value.Value.{Value}
use Rattle.schema_model.specs.declared.place.Home.{Home}
use Rattle.schema_model.specs.declared.class.Item.TheVariants as item
use Rattle.state_model.specs.declared.row.Row.{Row}
use Rattle.state_model.specs.declared.row.Row.TheVariants.{Struct, Map, Array, Set}
use Rattle.state_model.specs.declared.row.RowEntry.{RowEntry}
use Rattle.state_model.specs.declared.row.FieldValue.{FieldValue}
use Rattle.state_model.specs.Rows.{row_at}
use Rattle.state_model.specs.declared.place.Expected.{Expected}
use Rattle.state_model.specs.declared.place.Expected.TheVariants.{Item as AnItem, Collection as ACollection}
use Rattle.state_model.specs.Places.{field_expects, item_expects}
use Rattle.state_model.specs.Sound.{has_kind, is_collection_of}
use Rattle.wire_model.specs.declared.op.OpKey.{OpKey}
use Rattle.wire_model.specs.declared.op.OpKey.TheVariants.{Field, Item, Named}
use Rattle.wire_model.specs.declared.op.OpValue.{OpValue}
use Rattle.wire_model.specs.declared.op.Op.{Op}
use Rattle.wire_model.specs.declared.op.Op.TheVariants as op
use Rattle.wire_model.specs.declared.op.Step.{Step}
use Rattle.wire_model.specs.declared.op.Step.TheVariants.{Turn, Do}
use Rattle.wire_model.specs.declared.fault.OpFault.{OpFault}
use Rattle.wire_model.specs.declared.fault.OpFault.TheVariants.{UnknownType, UnknownRef}
use Rattle.wire_model.specs.Edits.{Carried, Plain, Linked}
use Rattle.wire_model.specs.Effect.{carried_by}
use Rattle.wire_model.specs.Grammar.{as_op_fault, count_at, collection_value, check_instance, class_of_number, mark_fits, marked_value, has_mark, instance_value, scalar_carried, value_at, with_value, has_add_bit, keyed_value, field_step, named_value, is_map, item_step, by_ref_value, ref_step, is_unsupported, is_item_code, is_ref_code, collection_step, known_step, turn_to, switch_at, step_at, resolved_value, resolved, expects_at}
use Rattle.patch_decoder.proofs.DeclaredFields.{IsOf, field_is_of, items_are_of}

-- a link to an unknown number leads to a row of a kind of the schema
abbrev pub Brings : Schema → List RowEntry → Option Carried → Type 0
Brings schema known None = Unit {0}
Brings schema known (Some (Plain k s)) = Unit {0}
Brings schema known (Some (Linked n empty)) = row_at known n ≡ None → has_kind schema empty ≡ true

-- of a value that was read where this is expected
abbrev ValueBrings : Schema → List RowEntry → Expected → Result (OpValue × ℕ) OpFault → Type 0
ValueBrings schema known w (Ok v) = Brings schema known (Some (resolved_value schema known (Some w) v.0))
ValueBrings schema known w (Err f) = Unit {0}

-- of a step that was read on a holder of this kind; a switch leads to a known number
abbrev StepBrings : Schema → List RowEntry → Row → Result (Step × ℕ) OpFault → Type 0
StepBrings schema known kind (Ok (Turn n, next)) = is_some (row_at known n) ≡ true
StepBrings schema known kind (Ok (Do o, next)) = Brings schema known (carried_by (resolved schema known kind o))
StepBrings schema known kind (Err f) = Unit {0}

-- ---- values

-- on either side of a test
either_value : (schema : Schema) (known : List RowEntry) (w : Expected) (x y : Result (OpValue × ℕ) OpFault) (b : Bool) → ValueBrings schema known w x → ValueBrings schema known w y → ValueBrings schema known w (cond b x y)
either_value schema known w x y true p q = p
either_value schema known w x y false p q = q

-- behind a step before it
value_behind : {A : Type 0} (schema : Schema) (known : List RowEntry) (w : Expected) (r : Result A OpFault) (f : A → Result (OpValue × ℕ) OpFault) → ((x : A) → r ≡ Ok x → ValueBrings schema known w (f x)) → ValueBrings schema known w (r >>= f)
value_behind schema known w (Ok x) f g = g x refl
value_behind schema known w (Err e) f g = tt

-- a new row, where none is known
fresh : (schema : Schema) (o : Option Row) (new : Row) → has_kind schema new ≡ true → o ≡ None → has_kind schema (option_map_or (λ r. r) o new) ≡ true
fresh schema o new kind none = rw none kind

-- a mark is a class of the schema
marked_class : (schema : Schema) (at : ℕ) (z : ℤ × ℕ) (mark : ℕ × ℕ) → class_of_number schema at z ≡ Ok mark → nat_lt mark.0 (length schema.classes) ≡ true
marked_class schema at (pos n, next) mark is = by (nat_lt n (length schema.classes)) refl is where
  by : (b : Bool) → nat_lt n (length schema.classes) ≡ b → cond b (Ok (n, next)) (Err (UnknownType at)) ≡ Ok mark → nat_lt mark.0 (length schema.classes) ≡ true
  by true in_range h = let same : n ≡ mark.0 = cc in rw same at in_range
  by false in_range h = absurd (cc)
marked_class schema at (negsuc n, next) mark is = absurd (cc)

-- a marked instance
marked_brings : (schema : Schema) (known : List RowEntry) (class : ℕ) (bytes : List ℕ) (at : ℕ) (n : ℕ × ℕ) (o : Option Row) → ValueBrings schema known (AnItem (item.Class class)) (marked_value schema class bytes at n o)
unfolding marked_value
marked_brings schema known class bytes at n o =
    let w = AnItem (item.Class class) in
    value_behind schema known w (as_op_fault (number_at bytes (n.1 + 1))) _ (λ z s. value_behind schema known w (class_of_number schema (n.1 + 1) z) _
    (λ mark is. either_value schema known w _ _ (mark_fits schema class o mark.0) (fresh schema (row_at known n.0) (Struct mark.0 []) (marked_class schema (n.1 + 1) z mark is)) tt))

-- an instance
instance_brings : (schema : Schema) (known : List RowEntry) (class : ℕ) (adds : Bool) (bytes : List ℕ) (at : ℕ) (n : ℕ × ℕ) (o : Option Row) → nat_lt class (length schema.classes) ≡ true →
    ValueBrings schema known (AnItem (item.Class class)) (instance_value schema class adds bytes at n o)
unfolding instance_value
instance_brings schema known class adds bytes at n o is =
    let w = AnItem (item.Class class) in
    value_behind schema known w (check_instance schema class adds at o) _
    (λ fine s. either_value schema known w _ _ (has_mark adds bytes n.1) (marked_brings schema known class bytes at n o) (fresh schema (row_at known n.0) (Struct class []) is))

-- a collection
coll_brings : (schema : Schema) (known : List RowEntry) (home : Home) (at : ℕ) (n : ℕ × ℕ) (o : Option Row) → IsOf schema (ACollection home) → ValueBrings schema known (ACollection home) (collection_value home at n o)
coll_brings schema known home at n None is = fresh schema (row_at known n.0) _ is
coll_brings schema known home at n (Some r) is = either_value schema known (ACollection home) _ _ (is_collection_of home (Some r)) (fresh schema (row_at known n.0) _ is) tt

-- a scalar
scalar_brings : (schema : Schema) (known : List RowEntry) (k : ScalarKind) (r : Result (Value × ℕ) ReadFault) → ValueBrings schema known (AnItem (item.Scalar k)) (scalar_carried k r)
scalar_brings schema known k (Ok x) = tt
scalar_brings schema known k (Err e) = tt

-- any value
value_brings : (schema : Schema) (known : List RowEntry) (adds : Bool) (bytes : List ℕ) (at : ℕ) (w : Expected) → IsOf schema w → ValueBrings schema known w (value_at schema known adds bytes at w)
unfolding value_at
value_brings schema known adds bytes at (AnItem (item.Scalar k)) is = scalar_brings schema known k (read_scalar bytes at k)
value_brings schema known adds bytes at (AnItem (item.Class class)) is =
    value_behind schema known (AnItem (item.Class class)) (count_at bytes at) _ (λ n s. instance_brings schema known class adds bytes at n (row_at known n.0) is)
value_brings schema known adds bytes at (ACollection home) is =
    value_behind schema known (ACollection home) (count_at bytes at) _ (λ n s. coll_brings schema known home at n (row_at known n.0) is)

-- ---- operations

-- on either side of a test
either_step : (schema : Schema) (known : List RowEntry) (kind : Row) (x y : Result (Step × ℕ) OpFault) (b : Bool) → StepBrings schema known kind x → StepBrings schema known kind y → StepBrings schema known kind (cond b x y)
either_step schema known kind x y true p q = p
either_step schema known kind x y false p q = q

-- behind a step before it
step_behind : {A : Type 0} (schema : Schema) (known : List RowEntry) (kind : Row) (r : Result A OpFault) (f : A → Result (Step × ℕ) OpFault) → ((x : A) → StepBrings schema known kind (f x)) → StepBrings schema known kind (r >>= f)
step_behind schema known kind (Ok x) f g = g x
step_behind schema known kind (Err e) f g = tt

-- an operation that puts a value, by its code
put_brings : (schema : Schema) (known : List RowEntry) (kind : Row) (code next : ℕ) (key : OpKey) (v : OpValue) (w : Expected) → expects_at schema kind key ≡ Some w → Brings schema known (Some (resolved_value schema known (Some w) v)) →
    StepBrings schema known kind (Ok (Do (with_value code key v), next))
put_brings schema known kind code next key v w expects h = by (code == 128) (code == 192) where
  right : Brings schema known (Some (resolved_value schema known (expects_at schema kind key) v))
  right = rw expects h

  by : (a b : Bool) → Brings schema known (carried_by (resolved schema known kind (cond a (op.Add key v) (cond b (op.DeleteAdd key v) (op.Replace key v)))))
  by true b = right
  by false true = right
  by false false = right

-- a value under a key
keyed_brings : (schema : Schema) (known : List RowEntry) (kind : Row) (bytes : List ℕ) (at code : ℕ) (key : OpKey) (w : Expected) → expects_at schema kind key ≡ Some w → IsOf schema w →
    StepBrings schema known kind (keyed_value schema known bytes at code key w)
unfolding keyed_value
keyed_brings schema known kind bytes at code key w expects is = by (value_at schema known (has_add_bit code) bytes at w) (value_brings schema known (has_add_bit code) bytes at w is) where
  by : (r : Result (OpValue × ℕ) OpFault) → ValueBrings schema known w r → StepBrings schema known kind (r >>= (λ v. Ok (Do (with_value code key v.0), v.1)))
  by (Ok v) h = put_brings schema known kind code v.1 key v.0 w expects h
  by (Err f) h = tt

-- an operation on a field
field_brings : (schema : Schema) (known : List RowEntry) (class : ℕ) (fields : List FieldValue) (bytes : List ℕ) (at code index : ℕ) (w : Option Expected) → is_kept schema ≡ true → field_expects schema class index ≡ w →
    StepBrings schema known (Struct class fields) (field_step schema known bytes at code index w)
field_brings schema known class fields bytes at code index None kept is = tt
field_brings schema known class fields bytes at code index (Some w) kept is =
    either_step schema known (Struct class fields) _ _ (code == 64) tt (keyed_brings schema known (Struct class fields) bytes (at + 1) code (Field index) w is (field_is_of schema class index w kept is))

-- a new item of a map
named_brings : (schema : Schema) (known : List RowEntry) (kind : Row) (bytes : List ℕ) (at code n : ℕ) (w : Expected) → ((key : List ℕ) → expects_at schema kind (Named n key) ≡ Some w) → IsOf schema w →
    StepBrings schema known kind (named_value schema known bytes at code n w)
unfolding named_value
named_brings schema known kind bytes at code n w expects is =
    step_behind schema known kind (as_op_fault (text_at bytes at)) _ (λ key. keyed_brings schema known kind bytes key.1 code (Named n key.0) w (expects key.0) is)

-- a collection, whose items are expected so at every key
abbrev WantsItems : Schema → Row → Option Expected → Type 0
WantsItems schema kind w = ((n : ℕ) → expects_at schema kind (Item n) ≡ w) × ((n : ℕ) (key : List ℕ) → expects_at schema kind (Named n key) ≡ w)

-- an operation on an item
item_brings : (schema : Schema) (known : List RowEntry) (kind : Row) (bytes : List ℕ) (at code : ℕ) (w : Option Expected) (n : ℕ × ℕ) → WantsItems schema kind w → ((v : Expected) → w ≡ Some v → IsOf schema v) →
    StepBrings schema known kind (item_step schema known kind bytes at code w n)
item_brings schema known kind bytes at code None n expects is = tt
item_brings schema known kind bytes at code (Some w) n expects is =
    either_step schema known kind _ _ (code == 64) tt (either_step schema known kind _ _ (is_map kind && has_add_bit code)
    (named_brings schema known kind bytes n.1 code n.0 w (expects.1 n.0) (is w refl)) (keyed_brings schema known kind bytes n.1 code (Item n.0) w (expects.0 n.0) (is w refl)))

-- an instance put by reference
by_ref_brings : (schema : Schema) (known : List RowEntry) (kind : Row) (bytes : List ℕ) (at : ℕ) (w : Expected) → expects_at schema kind (Item 0) ≡ Some w → IsOf schema w → StepBrings schema known kind (by_ref_value schema known bytes at w)
unfolding by_ref_value
by_ref_brings schema known kind bytes at w expects is = by (value_at schema known true bytes at w) (value_brings schema known true bytes at w is) where
  by : (r : Result (OpValue × ℕ) OpFault) → ValueBrings schema known w r → StepBrings schema known kind (r >>= (λ v. Ok (Do (op.AddByRef v.0), v.1)))
  by (Ok v) h = rw expects h
  by (Err f) h = tt

-- an operation by reference
ref_brings : (schema : Schema) (known : List RowEntry) (kind : Row) (bytes : List ℕ) (at code : ℕ) (w : Option Expected) (n : ℕ × ℕ) → WantsItems schema kind w → ((v : Expected) → w ≡ Some v → IsOf schema v) →
    StepBrings schema known kind (ref_step schema known bytes at code w n)
ref_brings schema known kind bytes at code None n expects is = tt
ref_brings schema known kind bytes at code (Some w) n expects is = either_step schema known kind _ _ (code == 33) tt (by_ref_brings schema known kind bytes n.1 w (expects.0 0) (is w refl))

-- an operation on a collection
collection_brings : (schema : Schema) (known : List RowEntry) (kind : Row) (home : Home) (bytes : List ℕ) (at code : ℕ) → is_kept schema ≡ true → WantsItems schema kind (item_expects schema home) →
    StepBrings schema known kind (collection_step schema known kind home bytes at code)
unfolding collection_step
collection_brings schema known kind home bytes at code kept expects =
    let is : (v : Expected) → item_expects schema home ≡ Some v → IsOf schema v = λ v h. items_are_of schema home v kept h in
    either_step schema known kind _ _ (code == 10) tt (either_step schema known kind _ _ (is_unsupported code) tt
    (either_step schema known kind _ _ (is_item_code code) (step_behind schema known kind (count_at bytes (at + 1)) _ (λ n. item_brings schema known kind bytes at code (item_expects schema home) n expects is))
    (either_step schema known kind _ _ (is_ref_code schema kind home code) (step_behind schema known kind (count_at bytes (at + 1)) _ (λ n. ref_brings schema known kind bytes at code (item_expects schema home) n expects is)) tt)))

-- an operation on a holder
held_brings : (schema : Schema) (known : List RowEntry) (kind : Row) (bytes : List ℕ) (at byte : ℕ) → is_kept schema ≡ true → StepBrings schema known kind (known_step schema known bytes at byte (Some kind))
held_brings schema known (Struct class fields) bytes at byte kept = field_brings schema known class fields bytes at (byte - byte % 64) (byte % 64) (field_expects schema class (byte % 64)) kept refl
held_brings schema known (Map home items) bytes at byte kept = collection_brings schema known (Map home items) home bytes at byte kept (λ n. refl, λ n key. refl)
held_brings schema known (Array home values) bytes at byte kept = collection_brings schema known (Array home values) home bytes at byte kept (λ n. refl, λ n key. refl)
held_brings schema known (Set home items) bytes at byte kept = collection_brings schema known (Set home items) home bytes at byte kept (λ n. refl, λ n key. refl)

-- a switch to a number
turn_brings : (schema : Schema) (known : List RowEntry) (kind : Row) (at : ℕ) (n : ℕ × ℕ) → StepBrings schema known kind (turn_to known at n)
turn_brings schema known kind at n =
    let go : (b : Bool) → is_some (row_at known n.0) ≡ b → StepBrings schema known kind (cond b (Ok (Turn n.0, n.1)) (Err (UnknownRef at))) = elim [ true ↦ λ is. is | false ↦ λ is. tt ] in
    go (is_some (row_at known n.0)) refl

-- a switch
switch_brings : (schema : Schema) (known : List RowEntry) (kind : Row) (bytes : List ℕ) (at : ℕ) → StepBrings schema known kind (switch_at known bytes at)
unfolding switch_at
switch_brings schema known kind bytes at = step_behind schema known kind (count_at bytes (at + 1)) _ (λ n. turn_brings schema known kind (at + 1) n)

-- any step
step_brings : (schema : Schema) (known : List RowEntry) (holder : ℕ) (kind : Row) (bytes : List ℕ) (at : ℕ) → is_kept schema ≡ true → row_at known holder ≡ Some kind → StepBrings schema known kind (step_at schema known holder bytes at)
unfolding step_at
step_brings schema known holder kind bytes at kept is =
    step_behind schema known kind (as_op_fault (fixed_at w8 bytes at)) _
    (λ byte. either_step schema known kind _ _ (byte.0 == 255) (switch_brings schema known kind bytes at) (rw is (held_brings schema known kind bytes at byte.0 kept)))

-- the row that an operation brings, where its number isn't known, is of a kind of the schema
pub op_brings : (schema : Schema) (known : List RowEntry) (holder : ℕ) (kind : Row) (bytes : List ℕ) (at : ℕ) (o : Op) (next : ℕ) → is_kept schema ≡ true → row_at known holder ≡ Some kind →
    step_at schema known holder bytes at ≡ Ok (Do o, next) → Brings schema known (carried_by (resolved schema known kind o))
op_brings schema known holder kind bytes at o next kept is read = subst (StepBrings schema known kind) read (step_brings schema known holder kind bytes at kept is)

-- a switch leads to a known number
pub turn_leads : (schema : Schema) (known : List RowEntry) (holder : ℕ) (kind : Row) (bytes : List ℕ) (at n next : ℕ) → is_kept schema ≡ true → row_at known holder ≡ Some kind →
    step_at schema known holder bytes at ≡ Ok (Turn n, next) → is_some (row_at known n) ≡ true
turn_leads schema known holder kind bytes at n next kept is read = subst (StepBrings schema known kind) read (step_brings schema known holder kind bytes at kept is)
