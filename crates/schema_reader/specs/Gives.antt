-- What reading gives, where memory may run out.
use Rattle.std.specs.Prelude.{◌≡◌, ℕ, suc, List, [], ◌∷◌, Option, Some, None, Result, Ok, Err}
use Rattle.std.specs.Option.{option_map_or}
use Rattle.schema_model.specs.Classes.{Schema}
use Rattle.schema_model.specs.declared.class.Class.{Class}
use Rattle.text_model.specs.SchemaReading.{Draft, class_place}
use Rattle.text_model.specs.declared.draft.DraftClass.{DraftClass}
use Rattle.text_model.specs.declared.draft.DraftRoot.{DraftRoot}
use Rattle.text_model.specs.declared.fault.SchemaFault.{SchemaFault}
use Rattle.text_model.specs.declared.fault.SchemaFault.TheVariants.{Memory, NoRoot, UnknownClass}

-- this value or fault, unless memory runs out
abbrev pub Gives : {A : Type 0} → Result A SchemaFault → Result A SchemaFault → Type 0
Gives (Ok x) there = there ≡ Ok x
Gives (Err Memory) there = Unit {0}
Gives (Err f) there = there ≡ Err f

abbrev pub GivesSchema : Result Schema SchemaFault → Result Schema SchemaFault → Type 0
GivesSchema result there = Gives result there

-- this schema, unless memory runs out
abbrev pub IsGiven : Schema → Result Schema SchemaFault → Type 0
IsGiven s (Ok x) = x ≡ s
IsGiven s (Err f) = f ≡ Memory

-- what was read, where no line has a fault
abbrev pub taken : Result (Unit {0}) SchemaFault → Draft → Result Draft SchemaFault
taken (Ok u) d = Ok d
taken (Err f) d = Err f

-- this value, where no line names a class that is declared nowhere; else the first such line
abbrev pub first_unknown : {A : Type 0} → List ℕ → A → Result A SchemaFault
first_unknown [] x = Ok x
first_unknown (line ∷ lines) x = Err (UnknownClass line)

-- the class of the root, behind so many lines
abbrev pub root_place : ℕ → List DraftClass → Option DraftRoot → Result ℕ SchemaFault
root_place count classes None = Err (NoRoot (suc count))
root_place count classes (Some r) = option_map_or Ok (class_place classes r.name) (Err (UnknownClass r.line))

-- the schema of its classes and its root
abbrev pub schema_of_parts : Result (List Class × ℕ) SchemaFault → Result Schema SchemaFault
schema_of_parts (Ok parts) = Ok (record { classes = parts.0; root = parts.1 })
schema_of_parts (Err f) = Err f
