-- What rows are known to be, and what reading answers.
use Rattle.std.specs.Prelude.{ℕ, Bool, false, List, Option, Some, None, Result, Ok, Err, ◌≡◌}
use Rattle.std.specs.Option.{option_map, option_map_or}
use Rattle.schema_model.specs.Classes.{Schema}
use Rattle.schema_model.specs.declared.place.Home.{Home}
use Rattle.state_model.specs.declared.row.Row.{Row}
use Rattle.state_model.specs.declared.row.Row.TheVariants as row
use Rattle.state_model.specs.declared.row.RowEntry.{RowEntry}
use Rattle.state_model.specs.Rows.{row_at}
use Rattle.state_model.specs.Sound.{has_kind}
use Rattle.wire_model.specs.declared.op.RowKind.{RowKind}
use Rattle.wire_model.specs.declared.op.RowKind.TheVariants as is
use Rattle.wire_model.specs.declared.fault.OpFault.{OpFault}
use Rattle.wire_model.specs.declared.fault.OpFault.TheVariants.{Memory}

-- what a row is
abbrev pub kind_of_row : Row → RowKind
kind_of_row (row.Struct class fields) = is.Struct class
kind_of_row (row.Map home items) = is.Coll home
kind_of_row (row.Array home values) = is.Coll home
kind_of_row (row.Set home items) = is.Coll home

-- the class of an instance
abbrev pub class_of_kind : RowKind → Option ℕ
class_of_kind (is.Struct class) = Some class
class_of_kind (is.Coll home) = None

-- the home of a collection
abbrev pub home_of_kind : RowKind → Option Home
home_of_kind (is.Struct class) = None
home_of_kind (is.Coll home) = Some home

-- what a number is known to be
abbrev pub known_kind : List RowEntry → ℕ → Option RowKind
known_kind known n = option_map kind_of_row (row_at known n)

-- a holder is known: as of a class of the schema, or of the home and the shape of a collection field
abbrev pub is_holder : Schema → List RowEntry → ℕ → Bool
is_holder schema known n = option_map_or (has_kind schema) (row_at known n) false

-- memory may be wanting where the bytes spell something
abbrev pub MayWant : {A : Type 0} → Result A OpFault → Type 0
MayWant (Ok x) = Unit {0}
MayWant (Err f) = f ≡ Memory

-- an answer is what the bytes spell, or out of memory
abbrev pub Reads : {A : Type 0} → Result A OpFault → Result A OpFault → Type 0
Reads (Err Memory) there = MayWant there
Reads found there = found ≡ there
