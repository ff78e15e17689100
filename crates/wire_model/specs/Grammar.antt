-- The steps that state bytes spell, with every fault and its place. Our profile, after `@colyseus/schema` 3.
-- Known rows are given as rows without places: what a number is known to be.
use Rattle.std.specs.Prelude.{ℕ, ◌+◌, ◌-◌, ◌%◌, Bool, true, false, not, ◌&&◌, ◌||◌, List, [], ◌∷◌, ◌++◌, length, ℤ, pos, negsuc, Option, Some, None, is_some, option_and_then, nat_lt, ◌==◌, if◌then◌else◌, slice_get, Result, Ok, Err}
use Rattle.std.specs.Option.{option_map_or}
use Rattle.schema_model.specs.Classes.{Schema, is_kind_of}
use Rattle.schema_model.specs.Reading.{◌>>=◌, number_at, text_at, read_scalar, fixed_at}
use Rattle.std.specs.Int.{w8}
use Rattle.schema_model.specs.declared.fault.ReadFault.{ReadFault}
use Rattle.schema_model.specs.declared.fault.ReadFault.TheVariants.{BadForm}
use Rattle.schema_model.specs.declared.scalar.ScalarKind.{ScalarKind}
use Rattle.schema_model.specs.declared.value.Value.{Value}
use Rattle.schema_model.specs.declared.value.Value.TheVariants as value
use Rattle.schema_model.specs.declared.place.Home.{Home}
use Rattle.schema_model.specs.declared.class.Item.TheVariants as item
use Rattle.state_model.specs.declared.row.Row.{Row}
use Rattle.state_model.specs.declared.row.Row.TheVariants as row
use Rattle.state_model.specs.declared.row.RowEntry.{RowEntry}
use Rattle.state_model.specs.Rows.{row_at, kinds_of, put_row}
use Rattle.state_model.specs.declared.place.Expected.{Expected}
use Rattle.state_model.specs.declared.place.Expected.TheVariants.{Item as AnItem, Collection as ACollection}
use Rattle.state_model.specs.Places.{field_expects, item_expects, empty_collection, holds_instances, row_class, row_home}
use Rattle.state_model.specs.Reached.{times}
use Rattle.state_model.specs.Sound.{is_instance_of, is_collection_of}
use Rattle.wire_model.specs.declared.op.OpKey.{OpKey}
use Rattle.wire_model.specs.declared.op.OpKey.TheVariants.{Field, Item, Named}
use Rattle.wire_model.specs.declared.op.OpValue.{OpValue}
use Rattle.wire_model.specs.declared.op.OpValue.TheVariants as carried
use Rattle.wire_model.specs.declared.op.Op.{Op}
use Rattle.wire_model.specs.declared.op.Op.TheVariants as op
use Rattle.wire_model.specs.declared.op.Step.{Step}
use Rattle.wire_model.specs.declared.op.Step.TheVariants.{Turn, Do}
use Rattle.wire_model.specs.declared.fault.OpFault.{OpFault}
use Rattle.wire_model.specs.declared.fault.OpFault.TheVariants as fault
use Rattle.wire_model.specs.Edits.{Carried, Plain, Linked, Scalar, AWhole, AText, ATruth, Edit, Add, Replace, DeleteAdd, Delete, Clear, AddByRef, DeleteByRef}

-- a scalar's fault as one of state bytes
abbrev pub as_op_fault : {A : Type 0} → Result A ReadFault → Result A OpFault
as_op_fault (Ok x) = Ok x
as_op_fault (Err f) = Err (fault.Scalar f)

-- a whole number that may not be negative; the fault is at its place
abbrev pub not_negative : ℕ → ℤ × ℕ → Result (ℕ × ℕ) OpFault
not_negative at (pos n, next) = Ok (n, next)
not_negative at (negsuc n, next) = Err (fault.Scalar (BadForm at))

-- a reference, item or position number, and the place after it
unfoldable pub count_at : List ℕ → ℕ → Result (ℕ × ℕ) OpFault
count_at bytes at = do
  n ← as_op_fault (number_at bytes at)
  not_negative at n

-- ---- carried values

-- a collection: its number is unknown, or known as a collection of the home; the fault is at the number
abbrev pub collection_value : Home → ℕ → ℕ × ℕ → Option Row → Result (OpValue × ℕ) OpFault
collection_value home at n None = Ok (carried.Coll n.0, n.1)
collection_value home at n (Some known) =
    if is_collection_of home (Some known) then Ok (carried.Coll n.0, n.1) else Err (fault.WrongClass at)

-- the number of an instance is known as one of the class or of a descendant, or it is unknown and may be added
abbrev pub check_instance : Schema → ℕ → Bool → ℕ → Option Row → Result Bool OpFault
check_instance schema class adds at None = if adds then Ok true else Err (fault.UnknownRef at)
check_instance schema class adds at (Some known) =
    if is_instance_of schema class (Some known) then Ok true else Err (fault.WrongClass at)

-- a type number that is a class; the fault is at the number
abbrev pub class_of_number : Schema → ℕ → ℤ × ℕ → Result (ℕ × ℕ) OpFault
class_of_number schema at (pos n, next) = if nat_lt n (length schema.classes) then Ok (n, next) else Err (fault.UnknownType at)
class_of_number schema at (negsuc n, next) = Err (fault.UnknownType at)

-- a class that a type mark gives: it is the declared class or a descendant, and the row's own where the row is known
abbrev pub mark_fits : Schema → ℕ → Option Row → ℕ → Bool
mark_fits schema class None mark = is_kind_of schema mark class
mark_fits schema class (Some known) mark =
    is_kind_of schema mark class && option_map_or (λ own. own == mark) (row_class known) false

-- a type mark at a place behind the number of an instance
unfoldable pub marked_value : Schema → ℕ → List ℕ → ℕ → ℕ × ℕ → Option Row → Result (OpValue × ℕ) OpFault
marked_value schema class bytes at n known = do
  z ← as_op_fault (number_at bytes (n.1 + 1))
  mark ← class_of_number schema (n.1 + 1) z
  if mark_fits schema class known mark.0 then Ok (carried.Struct n.0 (Some mark.0), mark.1) else Err (fault.WrongClass at)

-- a type mark begins at a place: the operation has the ADD bit, and the next byte is 213
abbrev pub has_mark : Bool → List ℕ → ℕ → Bool
has_mark adds bytes at = adds && option_map_or (λ b. b == 213) (slice_get bytes at) false

-- an instance of a class
unfoldable pub instance_value : Schema → ℕ → Bool → List ℕ → ℕ → ℕ × ℕ → Option Row → Result (OpValue × ℕ) OpFault
instance_value schema class adds bytes at n known = do
  fine ← check_instance schema class adds at known
  if has_mark adds bytes n.1 then marked_value schema class bytes at n known else Ok (carried.Struct n.0 None, n.1)

-- a scalar of a kind as a carried value
abbrev pub scalar_carried : ScalarKind → Result (Value × ℕ) ReadFault → Result (OpValue × ℕ) OpFault
scalar_carried kind (Ok r) = Ok (carried.Scalar kind r.0, r.1)
scalar_carried kind (Err f) = Err (fault.Scalar f)

-- a link, where the number was read: to an instance of a class, or to a collection of a home
abbrev pub link_value : Schema → List RowEntry → Bool → List ℕ → ℕ → Expected → ℕ × ℕ → Result (OpValue × ℕ) OpFault
link_value schema known adds bytes at (AnItem (item.Class class)) n = instance_value schema class adds bytes at n (row_at known n.0)
link_value schema known adds bytes at (ACollection home) n = collection_value home at n (row_at known n.0)
link_value schema known adds bytes at (AnItem (item.Scalar kind)) n = Err (fault.WrongClass at)

-- the value of what a place is declared to hold, and the place after it
unfoldable pub value_at : Schema → List RowEntry → Bool → List ℕ → ℕ → Expected → Result (OpValue × ℕ) OpFault
value_at schema known adds bytes at (AnItem (item.Scalar kind)) = scalar_carried kind (read_scalar bytes at kind)
value_at schema known adds bytes at (AnItem (item.Class class)) = do
  n ← count_at bytes at
  link_value schema known adds bytes at (AnItem (item.Class class)) n
value_at schema known adds bytes at (ACollection home) = do
  n ← count_at bytes at
  link_value schema known adds bytes at (ACollection home) n

-- ---- operations

-- an operation that carries a value: its constructor is by the top two bits
abbrev pub with_value : ℕ → OpKey → OpValue → Op
with_value code key v = if code == 128 then op.Add key v else if code == 192 then op.DeleteAdd key v else op.Replace key v

-- the operation has the ADD bit
abbrev pub has_add_bit : ℕ → Bool
has_add_bit code = (code == 128) || (code == 192)

-- an operation with a key and a value of what is expected
unfoldable pub keyed_value : Schema → List RowEntry → List ℕ → ℕ → ℕ → OpKey → Expected → Result (Step × ℕ) OpFault
keyed_value schema known bytes at code key expected = do
  v ← value_at schema known (has_add_bit code) bytes at expected
  Ok (Do (with_value code key v.0), v.1)

-- an operation on an instance: its byte is the code and the field's index
abbrev pub field_step : Schema → List RowEntry → List ℕ → ℕ → ℕ → ℕ → Option Expected → Result (Step × ℕ) OpFault
field_step schema known bytes at code index None = Err (fault.UnknownField at)
field_step schema known bytes at code index (Some expected) =
    if code == 64 then Ok (Do (op.Delete (Field index)), at + 1)
    else keyed_value schema known bytes (at + 1) code (Field index) expected

-- the key of a new item of a map
unfoldable pub named_value : Schema → List RowEntry → List ℕ → ℕ → ℕ → ℕ → Expected → Result (Step × ℕ) OpFault
named_value schema known bytes at code n expected = do
  key ← as_op_fault (text_at bytes at)
  keyed_value schema known bytes key.1 code (Named n key.0) expected

-- a row is a map
abbrev pub is_map : Row → Bool
is_map (row.Map home items) = true
is_map r = false

-- a row is an array
abbrev pub is_array_row : Row → Bool
is_array_row (row.Array home values) = true
is_array_row r = false

-- an operation on a collection behind its number
abbrev pub item_step : Schema → List RowEntry → Row → List ℕ → ℕ → ℕ → Option Expected → ℕ × ℕ → Result (Step × ℕ) OpFault
item_step schema known holder bytes at code None n = Err (fault.UnknownOp at code)
item_step schema known holder bytes at code (Some expected) n =
    if code == 64 then Ok (Do (op.Delete (Item n.0)), n.1)
    else if is_map holder && has_add_bit code then named_value schema known bytes n.1 code n.0 expected
    else keyed_value schema known bytes n.1 code (Item n.0) expected

-- an instance put by reference, behind the number that is only read
unfoldable pub by_ref_value : Schema → List RowEntry → List ℕ → ℕ → Expected → Result (Step × ℕ) OpFault
by_ref_value schema known bytes at expected = do
  v ← value_at schema known true bytes at expected
  Ok (Do (op.AddByRef v.0), v.1)

-- an operation by reference behind its number
abbrev pub ref_step : Schema → List RowEntry → List ℕ → ℕ → ℕ → Option Expected → ℕ × ℕ → Result (Step × ℕ) OpFault
ref_step schema known bytes at code None n = Err (fault.UnknownOp at code)
ref_step schema known bytes at code (Some expected) n =
    if code == 33 then Ok (Do (op.DeleteByRef n.0), n.1) else by_ref_value schema known bytes n.1 expected

-- the byte of an operation that moves or reverses arrays
abbrev pub is_unsupported : ℕ → Bool
is_unsupported code = (code == 15) || (code == 32) || (code == 96) || (code == 160)

-- the byte of an operation with an item number or a position
abbrev pub is_item_code : ℕ → Bool
is_item_code code = (code == 128) || (code == 0) || (code == 64) || (code == 192)

-- the byte of an operation by reference, on an array of instances
abbrev pub is_ref_code : Schema → Row → Home → ℕ → Bool
is_ref_code schema holder home code = ((code == 129) || (code == 33)) && is_array_row holder && holds_instances schema home

-- an operation on a collection of a home
unfoldable pub collection_step : Schema → List RowEntry → Row → Home → List ℕ → ℕ → ℕ → Result (Step × ℕ) OpFault
collection_step schema known holder home bytes at code =
    if code == 10 then Ok (Do op.Clear, at + 1)
    else if is_unsupported code then Err (fault.Unsupported at code)
    else if is_item_code code then (count_at bytes (at + 1) >>= item_step schema known holder bytes at code (item_expects schema home))
    else if is_ref_code schema holder home code then (count_at bytes (at + 1) >>= ref_step schema known bytes at code (item_expects schema home))
    else Err (fault.UnknownOp at code)

-- an operation on a holder of this kind whose first byte is given
abbrev pub holder_step : Schema → List RowEntry → Row → List ℕ → ℕ → ℕ → Result (Step × ℕ) OpFault
holder_step schema known (row.Struct class fields) bytes at byte =
    field_step schema known bytes at (byte - byte % 64) (byte % 64) (field_expects schema class (byte % 64))
holder_step schema known (row.Map home items) bytes at byte = collection_step schema known (row.Map home items) home bytes at byte
holder_step schema known (row.Array home values) bytes at byte = collection_step schema known (row.Array home values) home bytes at byte
holder_step schema known (row.Set home items) bytes at byte = collection_step schema known (row.Set home items) home bytes at byte

-- the holder that a switch names is known; the fault is at its number
abbrev pub turn_to : List RowEntry → ℕ → ℕ × ℕ → Result (Step × ℕ) OpFault
turn_to known at n = if is_some (row_at known n.0) then Ok (Turn n.0, n.1) else Err (fault.UnknownRef at)

-- a switch: byte 255, then the number of the new holder
unfoldable pub switch_at : List RowEntry → List ℕ → ℕ → Result (Step × ℕ) OpFault
switch_at known bytes at = do
  n ← count_at bytes (at + 1)
  turn_to known (at + 1) n

-- an operation on a holder, where the holder is known
abbrev pub known_step : Schema → List RowEntry → List ℕ → ℕ → ℕ → Option Row → Result (Step × ℕ) OpFault
known_step schema known bytes at byte None = Err (fault.UnknownRef at)
known_step schema known bytes at byte (Some kind) = holder_step schema known kind bytes at byte

-- the step at a place, and the place after it: a first byte 255 is a switch, any other is an operation on the holder
unfoldable pub step_at : Schema → List RowEntry → ℕ → List ℕ → ℕ → Result (Step × ℕ) OpFault
step_at schema known holder bytes at = do
  byte ← as_op_fault (fixed_at w8 bytes at)
  if byte.0 == 255 then switch_at known bytes at else known_step schema known bytes at byte.0 (row_at known holder)

-- ---- what a step means against the rows known so far

-- a scalar of a value; links don't stand here
abbrev pub scalar_of : Value → Scalar
scalar_of (value.Whole z) = AWhole z
scalar_of (value.Str t) = AText t
scalar_of (value.Truth b) = ATruth b
scalar_of (value.Link n) = AWhole (pos n)

-- the class that a place is declared to hold instances of; 0 where it is none
abbrev pub declared_class : Option Expected → ℕ
declared_class (Some (AnItem (item.Class class))) = class
declared_class expected = 0

-- the kind of an unknown instance: of the marked class, or of the declared one without a mark
abbrev pub new_instance : Option ℕ → Option Expected → Row
new_instance (Some mark) expected = row.Struct mark []
new_instance None expected = row.Struct (declared_class expected) []

-- the kind of an unknown collection: of the home that the place expects
abbrev pub new_collection : Schema → Option Expected → Row
new_collection schema (Some (ACollection home)) = option_map_or (λ r. r) (empty_collection schema home) (row.Array home [])
new_collection schema expected = row.Struct 0 []

-- what a carried value leads to
abbrev pub resolved_value : Schema → List RowEntry → Option Expected → OpValue → Carried
resolved_value schema known expected (carried.Scalar kind v) = Plain kind (scalar_of v)
resolved_value schema known expected (carried.Struct n mark) = Linked n (option_map_or (λ r. r) (row_at known n) (new_instance mark expected))
resolved_value schema known expected (carried.Coll n) = Linked n (option_map_or (λ r. r) (row_at known n) (new_collection schema expected))

-- what the place of an operation is declared to hold
abbrev pub expects_at : Schema → Row → OpKey → Option Expected
expects_at schema (row.Struct class fields) (Field i) = field_expects schema class i
expects_at schema holder key = option_and_then (item_expects schema) (row_home holder)

-- an operation with what its link leads to
abbrev pub resolved : Schema → List RowEntry → Row → Op → Edit
resolved schema known holder (op.Add k v) = Add k (resolved_value schema known (expects_at schema holder k) v)
resolved schema known holder (op.Replace k v) = Replace k (resolved_value schema known (expects_at schema holder k) v)
resolved schema known holder (op.DeleteAdd k v) = DeleteAdd k (resolved_value schema known (expects_at schema holder k) v)
resolved schema known holder (op.Delete k) = Delete k
resolved schema known holder op.Clear = Clear
resolved schema known holder (op.AddByRef v) = AddByRef (resolved_value schema known (expects_at schema holder (Item 0)) v)
resolved schema known holder (op.DeleteByRef n) = DeleteByRef n

-- the rows known after an operation: the linked one besides
abbrev pub known_after : Edit → List RowEntry → List RowEntry
known_after (Add k (Linked n empty)) known = put_row n empty known
known_after (Replace k (Linked n empty)) known = put_row n empty known
known_after (DeleteAdd k (Linked n empty)) known = put_row n empty known
known_after (AddByRef (Linked n empty)) known = put_row n empty known
known_after e known = known

-- an operation, and the place of the number behind its byte
pub record PlacedEdit : Type 0 where
  pub edit : Edit
  pub number_place : ℕ

-- operations on one holder, with their places
pub record ReadBlock : Type 0 where
  pub holder : ℕ
  pub edits : List PlacedEdit

-- what was read: the blocks up to the first fault, and that fault
pub record Readings : Type 0 where
  pub blocks : List ReadBlock
  pub fault : Option OpFault

-- the holder's operations with one more
abbrev pub with_edit : ReadBlock → Edit → ℕ → ReadBlock
with_edit b e place = record { holder = b.holder; edits = b.edits ++ record { edit = e; number_place = place } ∷ [] }

-- how far reading is: the rows known, the holder with its operations, the blocks before it, the place, and how it ended
pub record Progress : Type 0 where
  pub known : List RowEntry
  pub done : List ReadBlock
  pub block : ReadBlock
  pub at : ℕ
  pub fault : Option OpFault

-- a switch ends the holder's block
abbrev pub turned : Progress → ℕ → ℕ → Progress
turned p n next = record { known = p.known; done = p.done ++ p.block ∷ []; block = record { holder = n; edits = [] }; at = next; fault = None }

-- an operation joins the holder's block
abbrev pub did : Progress → Edit → ℕ → Progress
did p e next = record { known = known_after e p.known; done = p.done; block = with_edit p.block e (p.at + 1); at = next; fault = None }

-- the progress after a step
abbrev pub after_step : Schema → Progress → Result (Step × ℕ) OpFault → Progress
after_step schema p (Err f) = record { known = p.known; done = p.done; block = p.block; at = p.at; fault = Some f }
after_step schema p (Ok (Turn n, next)) = turned p n next
after_step schema p (Ok (Do o, next)) =
    did p (resolved schema p.known (option_map_or (λ r. r) (row_at p.known p.block.holder) (row.Struct 0 [])) o) next

-- a step, where bytes are left and there was no fault
abbrev pub advanced : Schema → List ℕ → Progress → Progress
advanced schema bytes p =
    if nat_lt p.at (length bytes) && not (is_some p.fault) then after_step schema p (step_at schema p.known p.block.holder bytes p.at) else p

-- where reading begins: at holder 0, with the rows known
abbrev pub reading_start : List RowEntry → Progress
reading_start rows = record { known = kinds_of rows; done = []; block = record { holder = 0; edits = [] }; at = 0; fault = None }

-- what was read, with the last holder's block
abbrev pub finished : Progress → Readings
finished p = record { blocks = p.done ++ p.block ∷ []; fault = p.fault }

-- the blocks that bytes spell against the rows known, up to the first fault, and that fault.
-- Each step takes at least one byte, so as many steps as there are bytes are enough.
abbrev pub read_blocks : Schema → List RowEntry → List ℕ → Readings
read_blocks schema rows bytes = finished (times (length bytes) (advanced schema bytes) (reading_start rows))
