-- What is read ends behind where it began.
use Rattle.std.proofs.Common.{◌≡◌, ℕ, ◌+◌, ◌-◌, ◌%◌, ◌<◌, ◌≤◌, Bool, true, false, cond, ◌==◌, List, length, Option, Some, None, is_some, Result, Ok, Err, arith}
use Rattle.std.specs.Prelude.{nat_lt, nat_le, ℤ, pos, negsuc, ◌&&◌, take, drop}
use Rattle.std.specs.Str.{is_utf8}
use Rattle.std.specs.Int.{Width, w8, w16, w32, byte_len}
use Rattle.schema_model.specs.Classes.{Schema}
use Rattle.schema_model.specs.declared.fault.ReadFault.{ReadFault}
use Rattle.schema_model.specs.declared.scalar.ScalarKind.{ScalarKind}
use Rattle.schema_model.specs.declared.scalar.ScalarKind.TheVariants as kind
use Rattle.schema_model.specs.declared.value.Value.{Value}
use Rattle.schema_model.specs.declared.place.Home.{Home}
use Rattle.schema_model.specs.declared.class.Item.TheVariants as item
use Rattle.schema_model.specs.Reading.{◌>>=◌, fixed_at, signed_at, unsigned_at, wide_at, number_of, number_at, text_length, text_of, text_at, read_scalar, whole, worded, truthful}
use Rattle.state_model.specs.declared.row.Row.{Row}
use Rattle.state_model.specs.declared.row.Row.TheVariants.{Struct, Map, Array, Set}
use Rattle.state_model.specs.declared.row.RowEntry.{RowEntry}
use Rattle.state_model.specs.Rows.{row_at}
use Rattle.state_model.specs.declared.place.Expected.{Expected}
use Rattle.state_model.specs.declared.place.Expected.TheVariants.{Item as AnItem, Collection as ACollection}
use Rattle.state_model.specs.Places.{field_expects, item_expects}
use Rattle.state_model.specs.Sound.{is_collection_of}
use Rattle.wire_model.specs.declared.op.OpKey.{OpKey}
use Rattle.wire_model.specs.declared.op.Step.{Step}
use Rattle.wire_model.specs.declared.fault.OpFault.{OpFault}
use Rattle.wire_model.specs.Grammar.{as_op_fault, not_negative, count_at, collection_value, check_instance, class_of_number, mark_fits, marked_value, has_mark, instance_value, scalar_carried, value_at, has_add_bit, keyed_value, field_step, named_value, is_map, item_step, by_ref_value, ref_step, is_unsupported, is_item_code, is_ref_code, collection_step, switch_at, known_step, step_at}

-- what was read ends at a place or behind it
abbrev pub EndsPast : {A E : Type 0} → ℕ → Result (A × ℕ) E → Type 0
EndsPast low (Ok r) = low ≤ r.1
EndsPast low (Err e) = Unit {0}

-- on either side of a test
either : {A E : Type 0} (low : ℕ) (x y : Result (A × ℕ) E) (b : Bool) → EndsPast low x → EndsPast low y → EndsPast low (cond b x y)
either low x y true p q = p
either low x y false p q = q

-- a second step behind a first
behind : {A B E : Type 0} (low : ℕ) (r : Result (A × ℕ) E) (f : A × ℕ → Result (B × ℕ) E) → EndsPast low r → ((x : A × ℕ) → low ≤ x.1 → EndsPast low (f x)) → EndsPast low (r >>= f)
behind low (Ok x) f past g = g x past
behind low (Err e) f past g = tt

-- a second step behind a first that reads nothing
checked : {A B E : Type 0} (low : ℕ) (r : Result A E) (f : A → Result (B × ℕ) E) → ((x : A) → EndsPast low (f x)) → EndsPast low (r >>= f)
checked low (Ok x) f g = g x
checked low (Err e) f g = tt

-- ---- numbers and texts

-- a number of a fixed width
fixed_past : (w : Width) (low : ℕ) (bytes : List ℕ) (at : ℕ) → low ≤ at → EndsPast low (fixed_at w bytes at)
fixed_past w low bytes at h = either low (Err _) (Ok _) (nat_lt (length bytes) (at + byte_len w)) tt (omega arith)

-- a signed one
signed_past : (w : Width) (low : ℕ) (bytes : List ℕ) (at : ℕ) → low ≤ at → EndsPast low (signed_at w bytes at)
unfolding signed_at
signed_past w low bytes at h = behind low (fixed_at w bytes at) _ (fixed_past w low bytes at h) (λ x p. p)

-- an unsigned one
unsigned_past : (w : Width) (low : ℕ) (bytes : List ℕ) (at : ℕ) → low ≤ at → EndsPast low (unsigned_at w bytes at)
unfolding unsigned_at
unsigned_past w low bytes at h = behind low (fixed_at w bytes at) _ (fixed_past w low bytes at h) (λ x p. p)

-- four bytes
wide_past : (low : ℕ) (bytes : List ℕ) (value_at at : ℕ) → low ≤ at → EndsPast low (wide_at bytes value_at at)
unfolding wide_at
wide_past low bytes value_at at h = behind low (fixed_at w32 bytes at) _ (fixed_past w32 low bytes at h) (λ x p. either low _ _ (nat_lt x.0 2147483648) p tt)

-- what follows the first byte of a `number`
number_of_past : (low : ℕ) (bytes : List ℕ) (at first : ℕ) → low ≤ at → EndsPast low (number_of bytes at first)
unfolding number_of
number_of_past low bytes at first h =
    let on : low ≤ at + 1 = omega arith in
    either low _ _ (nat_lt first 128) on (either low _ _ (nat_le 224 first) on
    (either low _ _ (first == 204) (unsigned_past w8 low bytes (at + 1) on) (either low _ _ (first == 205) (unsigned_past w16 low bytes (at + 1) on)
    (either low _ _ (first == 206) (wide_past low bytes at (at + 1) on) (either low _ _ (first == 208) (signed_past w8 low bytes (at + 1) on)
    (either low _ _ (first == 209) (signed_past w16 low bytes (at + 1) on) (either low _ _ (first == 210) (signed_past w32 low bytes (at + 1) on)
    (either low _ _ (first == 202) tt (either low _ _ (first == 203) tt (either low _ _ (first == 207) tt (either low _ _ (first == 211) tt tt)))))))))))

-- a `number`
number_past : (low : ℕ) (bytes : List ℕ) (at : ℕ) → low ≤ at → EndsPast low (number_at bytes at)
unfolding number_at
number_past low bytes at h = behind low (fixed_at w8 bytes at) _ (fixed_past w8 low bytes at h) (λ x p. number_of_past low bytes at x.0 h)

-- a fault as one of state bytes
fault_past : {A : Type 0} (low : ℕ) (r : Result (A × ℕ) ReadFault) → EndsPast low r → EndsPast low (as_op_fault r)
fault_past low (Ok x) p = p
fault_past low (Err e) p = tt

-- a reference, item or position number
count_past : (low : ℕ) (bytes : List ℕ) (at : ℕ) → low ≤ at → EndsPast low (count_at bytes at)
unfolding count_at
count_past low bytes at h = by (number_at bytes at) (number_past low bytes at h) where
  by : (r : Result (ℤ × ℕ) ReadFault) → EndsPast low r → EndsPast low (as_op_fault r >>= not_negative at)
  by (Ok (pos n, next)) p = p
  by (Ok (negsuc n, next)) p = tt
  by (Err e) p = tt

-- the head of a text
head_past : (low : ℕ) (bytes : List ℕ) (at first : ℕ) → low ≤ at → EndsPast low (text_length bytes at first)
unfolding text_length
head_past low bytes at first h =
    let on : low ≤ at + 1 = omega arith in
    either low _ _ (nat_le 160 first && nat_lt first 192) on (either low _ _ (first == 217) (fixed_past w8 low bytes (at + 1) on)
    (either low _ _ (first == 218) (fixed_past w16 low bytes (at + 1) on) (either low _ _ (first == 219) (fixed_past w32 low bytes (at + 1) on) tt)))

-- so many bytes as a text
text_of_past : (low : ℕ) (bytes : List ℕ) (value_at at len : ℕ) → low ≤ at → EndsPast low (text_of bytes value_at at len)
unfolding text_of
text_of_past low bytes value_at at len h =
    let on : low ≤ at + len = omega arith in
    either low _ _ (nat_lt (length bytes) (at + len)) tt (either low _ _ (is_utf8 (take len (drop at bytes))) on tt)

-- a text
text_past : (low : ℕ) (bytes : List ℕ) (at : ℕ) → low ≤ at → EndsPast low (text_at bytes at)
unfolding text_at
text_past low bytes at h =
    behind low (fixed_at w8 bytes at) _ (fixed_past w8 low bytes at h)
    (λ x p. behind low (text_length bytes at x.0) _ (head_past low bytes at x.0 h) (λ head q. text_of_past low bytes at head.1 head.0 q))

-- ---- values

-- a whole number as a value
whole_past : (low : ℕ) (r : Result (ℤ × ℕ) ReadFault) → EndsPast low r → EndsPast low (whole r)
whole_past low (Ok x) p = p
whole_past low (Err e) p = tt

-- a text as a value
worded_past : (low : ℕ) (r : Result (List ℕ × ℕ) ReadFault) → EndsPast low r → EndsPast low (worded r)
worded_past low (Ok x) p = p
worded_past low (Err e) p = tt

-- a byte as a truth value
truthful_past : (low : ℕ) (r : Result (ℕ × ℕ) ReadFault) → EndsPast low r → EndsPast low (truthful r)
truthful_past low (Ok x) p = p
truthful_past low (Err e) p = tt

-- a scalar of each kind
scalar_past : (low : ℕ) (bytes : List ℕ) (at : ℕ) (k : ScalarKind) → low ≤ at → EndsPast low (read_scalar bytes at k)
scalar_past low bytes at kind.Number h = whole_past low (number_at bytes at) (number_past low bytes at h)
scalar_past low bytes at kind.Str h = worded_past low (text_at bytes at) (text_past low bytes at h)
scalar_past low bytes at kind.Bool h = truthful_past low (fixed_at w8 bytes at) (fixed_past w8 low bytes at h)
scalar_past low bytes at kind.I8 h = whole_past low (signed_at w8 bytes at) (signed_past w8 low bytes at h)
scalar_past low bytes at kind.U8 h = whole_past low (unsigned_at w8 bytes at) (unsigned_past w8 low bytes at h)
scalar_past low bytes at kind.I16 h = whole_past low (signed_at w16 bytes at) (signed_past w16 low bytes at h)
scalar_past low bytes at kind.U16 h = whole_past low (unsigned_at w16 bytes at) (unsigned_past w16 low bytes at h)
scalar_past low bytes at kind.I32 h = whole_past low (signed_at w32 bytes at) (signed_past w32 low bytes at h)
scalar_past low bytes at kind.U32 h = whole_past low (unsigned_at w32 bytes at) (unsigned_past w32 low bytes at h)

-- a scalar as a carried value
carried_past : (low : ℕ) (k : ScalarKind) (r : Result (Value × ℕ) ReadFault) → EndsPast low r → EndsPast low (scalar_carried k r)
carried_past low k (Ok x) p = p
carried_past low k (Err e) p = tt

-- a type number
class_past : (low : ℕ) (schema : Schema) (at : ℕ) (z : ℤ × ℕ) → low ≤ z.1 → EndsPast low (class_of_number schema at z)
class_past low schema at (pos n, next) p = either low _ _ (nat_lt n (length schema.classes)) p tt
class_past low schema at (negsuc n, next) p = tt

-- a marked instance
marked_past : (low : ℕ) (schema : Schema) (class : ℕ) (bytes : List ℕ) (at : ℕ) (n : ℕ × ℕ) (o : Option Row) → low ≤ n.1 → EndsPast low (marked_value schema class bytes at n o)
unfolding marked_value
marked_past low schema class bytes at n o h =
    let on : low ≤ n.1 + 1 = omega arith in
    behind low (as_op_fault (number_at bytes (n.1 + 1))) _ (fault_past low (number_at bytes (n.1 + 1)) (number_past low bytes (n.1 + 1) on))
    (λ z p. behind low (class_of_number schema (n.1 + 1) z) _ (class_past low schema (n.1 + 1) z p) (λ mark q. either low _ _ (mark_fits schema class o mark.0) q tt))

-- an instance
instance_past : (low : ℕ) (schema : Schema) (class : ℕ) (adds : Bool) (bytes : List ℕ) (at : ℕ) (n : ℕ × ℕ) (o : Option Row) → low ≤ n.1 → EndsPast low (instance_value schema class adds bytes at n o)
unfolding instance_value
instance_past low schema class adds bytes at n o h =
    checked low (check_instance schema class adds at o) _ (λ fine. either low _ _ (has_mark adds bytes n.1) (marked_past low schema class bytes at n o h) h)

-- a collection
coll_past : (low : ℕ) (home : Home) (at : ℕ) (n : ℕ × ℕ) (o : Option Row) → low ≤ n.1 → EndsPast low (collection_value home at n o)
coll_past low home at n None h = h
coll_past low home at n (Some r) h = either low _ _ (is_collection_of home (Some r)) h tt

-- any value
value_past : (low : ℕ) (schema : Schema) (known : List RowEntry) (adds : Bool) (bytes : List ℕ) (at : ℕ) (w : Expected) → low ≤ at → EndsPast low (value_at schema known adds bytes at w)
unfolding value_at
value_past low schema known adds bytes at (AnItem (item.Scalar k)) h = carried_past low k (read_scalar bytes at k) (scalar_past low bytes at k h)
value_past low schema known adds bytes at (AnItem (item.Class class)) h =
    behind low (count_at bytes at) _ (count_past low bytes at h) (λ n p. instance_past low schema class adds bytes at n (row_at known n.0) p)
value_past low schema known adds bytes at (ACollection home) h = behind low (count_at bytes at) _ (count_past low bytes at h) (λ n p. coll_past low home at n (row_at known n.0) p)

-- ---- operations

-- a value under a key
keyed_past : (low : ℕ) (schema : Schema) (known : List RowEntry) (bytes : List ℕ) (at code : ℕ) (key : OpKey) (w : Expected) → low ≤ at → EndsPast low (keyed_value schema known bytes at code key w)
unfolding keyed_value
keyed_past low schema known bytes at code key w h = behind low (value_at schema known (has_add_bit code) bytes at w) _ (value_past low schema known (has_add_bit code) bytes at w h) (λ v p. p)

-- an operation on a field
field_past : (low : ℕ) (schema : Schema) (known : List RowEntry) (bytes : List ℕ) (at code index : ℕ) (w : Option Expected) → low ≤ at + 1 → EndsPast low (field_step schema known bytes at code index w)
field_past low schema known bytes at code index None h = tt
field_past low schema known bytes at code index (Some w) h = either low _ _ (code == 64) h (keyed_past low schema known bytes (at + 1) code _ w h)

-- a new item of a map
named_past : (low : ℕ) (schema : Schema) (known : List RowEntry) (bytes : List ℕ) (at code n : ℕ) (w : Expected) → low ≤ at → EndsPast low (named_value schema known bytes at code n w)
unfolding named_value
named_past low schema known bytes at code n w h =
    behind low (as_op_fault (text_at bytes at)) _ (fault_past low (text_at bytes at) (text_past low bytes at h)) (λ key p. keyed_past low schema known bytes key.1 code _ w p)

-- an operation on an item
item_past : (low : ℕ) (schema : Schema) (known : List RowEntry) (holder : Row) (bytes : List ℕ) (at code : ℕ) (w : Option Expected) (n : ℕ × ℕ) → low ≤ n.1 → EndsPast low (item_step schema known holder bytes at code w n)
item_past low schema known holder bytes at code None n h = tt
item_past low schema known holder bytes at code (Some w) n h =
    either low _ _ (code == 64) h (either low _ _ (is_map holder && has_add_bit code) (named_past low schema known bytes n.1 code n.0 w h) (keyed_past low schema known bytes n.1 code _ w h))

-- an instance put by reference
by_ref_past : (low : ℕ) (schema : Schema) (known : List RowEntry) (bytes : List ℕ) (at : ℕ) (w : Expected) → low ≤ at → EndsPast low (by_ref_value schema known bytes at w)
unfolding by_ref_value
by_ref_past low schema known bytes at w h = behind low (value_at schema known true bytes at w) _ (value_past low schema known true bytes at w h) (λ v p. p)

-- an operation by reference
ref_past : (low : ℕ) (schema : Schema) (known : List RowEntry) (bytes : List ℕ) (at code : ℕ) (w : Option Expected) (n : ℕ × ℕ) → low ≤ n.1 → EndsPast low (ref_step schema known bytes at code w n)
ref_past low schema known bytes at code None n h = tt
ref_past low schema known bytes at code (Some w) n h = either low _ _ (code == 33) h (by_ref_past low schema known bytes n.1 w h)

-- an operation on a collection
collection_past : (low : ℕ) (schema : Schema) (known : List RowEntry) (holder : Row) (home : Home) (bytes : List ℕ) (at code : ℕ) → low ≤ at + 1 → EndsPast low (collection_step schema known holder home bytes at code)
unfolding collection_step
collection_past low schema known holder home bytes at code h =
    let count = count_past low bytes (at + 1) h in
    either low _ _ (code == 10) h (either low _ _ (is_unsupported code) tt
    (either low _ _ (is_item_code code) (behind low (count_at bytes (at + 1)) _ count (λ n p. item_past low schema known holder bytes at code (item_expects schema home) n p))
    (either low _ _ (is_ref_code schema holder home code) (behind low (count_at bytes (at + 1)) _ count (λ n p. ref_past low schema known bytes at code (item_expects schema home) n p)) tt)))

-- an operation on a holder
known_past : (low : ℕ) (schema : Schema) (known : List RowEntry) (bytes : List ℕ) (at byte : ℕ) (o : Option Row) → low ≤ at + 1 → EndsPast low (known_step schema known bytes at byte o)
known_past low schema known bytes at byte None h = tt
known_past low schema known bytes at byte (Some (Struct class fields)) h = field_past low schema known bytes at (byte - byte % 64) (byte % 64) (field_expects schema class (byte % 64)) h
known_past low schema known bytes at byte (Some (Map home items)) h = collection_past low schema known (Map home items) home bytes at byte h
known_past low schema known bytes at byte (Some (Array home values)) h = collection_past low schema known (Array home values) home bytes at byte h
known_past low schema known bytes at byte (Some (Set home items)) h = collection_past low schema known (Set home items) home bytes at byte h

-- a switch
switch_past : (low : ℕ) (known : List RowEntry) (bytes : List ℕ) (at : ℕ) → low ≤ at + 1 → EndsPast low (switch_at known bytes at)
unfolding switch_at
switch_past low known bytes at h = behind low (count_at bytes (at + 1)) _ (count_past low bytes (at + 1) h) (λ n p. either low _ _ (is_some (row_at known n.0)) p tt)

-- any step
step_past : (schema : Schema) (known : List RowEntry) (holder : ℕ) (bytes : List ℕ) (at : ℕ) → EndsPast (at + 1) (step_at schema known holder bytes at)
unfolding step_at
step_past schema known holder bytes at =
    checked (at + 1) (as_op_fault (fixed_at w8 bytes at)) _
    (λ byte. either (at + 1) _ _ (byte.0 == 255) (switch_past (at + 1) known bytes at (omega arith)) (known_past (at + 1) schema known bytes at byte.0 (row_at known holder) (omega arith)))

-- a step takes at least one byte
pub step_on : (schema : Schema) (known : List RowEntry) (holder : ℕ) (bytes : List ℕ) (at : ℕ) (s : Step) (next : ℕ) → step_at schema known holder bytes at ≡ Ok (s, next) → at < next
step_on schema known holder bytes at s next is = by (step_at schema known holder bytes at) (step_past schema known holder bytes at) is where
  by : (r : Result (Step × ℕ) OpFault) → EndsPast (at + 1) r → r ≡ Ok (s, next) → at < next
  by (Ok x) past h = let same : x.1 ≡ next = cc in omega arith
  by (Err e) past h = absurd (cc)
