-- The collections of a home.
use Rattle.std.specs.Prelude.{ℕ, ◌+◌, ◌-◌, ◌%◌, Bool, ◌&&◌, ◌==◌, if◌then◌else◌, List, [], Result, Ok, Err}
use Rattle.std.specs.Option.{option_map_or}
use Rattle.schema_model.specs.Classes.{Schema}
use Rattle.schema_model.specs.declared.place.Home.{Home}
use Rattle.state_model.specs.declared.row.Row.{Row}
use Rattle.state_model.specs.declared.row.Row.TheVariants.{Set}
use Rattle.state_model.specs.declared.row.RowEntry.{RowEntry}
use Rattle.state_model.specs.declared.place.Expected.{Expected}
use Rattle.state_model.specs.Places.{empty_collection, field_expects, item_expects, holds_instances}
use Rattle.wire_model.specs.declared.op.OpKey.TheVariants.{Item}
use Rattle.wire_model.specs.declared.op.Op.TheVariants as op
use Rattle.wire_model.specs.declared.op.Step.{Step}
use Rattle.wire_model.specs.declared.op.Step.TheVariants.{Do}
use Rattle.wire_model.specs.declared.fault.OpFault.{OpFault}
use Rattle.wire_model.specs.declared.fault.OpFault.TheVariants as fault
use Rattle.wire_model.specs.declared.op.RowKind.{RowKind}
use Rattle.wire_model.specs.declared.op.RowKind.TheVariants as is
use Rattle.std.specs.Int.{w8}
use Rattle.schema_model.specs.Reading.{◌>>=◌, fixed_at}
use Rattle.wire_model.specs.Grammar.{as_op_fault, switch_at, has_add_bit, named_value, keyed_value, count_at, ref_step, field_step, collection_step, is_array_row}

-- a collection of a home, without items; a set where the home is none of a collection
abbrev pub home_row : Schema → Home → Row
home_row schema home = option_map_or (λ r. r) (empty_collection schema home) (Set home [])

-- an operation on a collection behind its number, where its items are declared; new items of a map are named
abbrev pub item_after : Schema → List RowEntry → Bool → List ℕ → ℕ → Expected → ℕ × ℕ → Result (Step × ℕ) OpFault
item_after schema known named bytes code expected n =
    if code == 64 then Ok (Do (op.Delete (Item n.0)), n.1)
    else if named && has_add_bit code then named_value schema known bytes n.1 code n.0 expected
    else keyed_value schema known bytes n.1 code (Item n.0) expected

-- an operation by reference
abbrev pub refs_step : Schema → List RowEntry → Row → Home → List ℕ → ℕ → ℕ → Result (Step × ℕ) OpFault
refs_step schema known holder home bytes at code =
    if is_array_row holder && holds_instances schema home
    then (count_at bytes (at + 1) >>= ref_step schema known bytes at code (item_expects schema home)) else Err (fault.UnknownOp at code)

-- an operation on a holder of a kind
abbrev pub kind_step : Schema → List RowEntry → RowKind → List ℕ → ℕ → ℕ → Result (Step × ℕ) OpFault
kind_step schema known (is.Struct class) bytes at byte =
    field_step schema known bytes at (byte - byte % 64) (byte % 64) (field_expects schema class (byte % 64))
kind_step schema known (is.Coll home) bytes at byte = collection_step schema known (home_row schema home) home bytes at byte

-- the step at a place on a holder of a kind, and the place after it: a first byte 255 is a switch, any other is an operation on the holder
unfoldable pub step_on : Schema → List RowEntry → RowKind → List ℕ → ℕ → Result (Step × ℕ) OpFault
step_on schema known kind bytes at = do
  byte ← as_op_fault (fixed_at w8 bytes at)
  if byte.0 == 255 then switch_at known bytes at else kind_step schema known kind bytes at byte.0
