-- The value of a decoder, and what a frame makes of it.
use Rattle.std.specs.Prelude.{◌≡◌, Bool, true, false, List, Result, Ok, Err}
use Rattle.std.specs.List.{list_all}
use Rattle.schema_model.specs.Classes.{Schema}
use Rattle.state_model.specs.declared.row.RowEntry.{RowEntry}
use Rattle.state_model.specs.Rows.{is_live}
use Rattle.state_model.specs.Sound.{has_kind}
use Rattle.wire_model.specs.declared.fault.OpFault.{OpFault}
use Rattle.wire_model.specs.declared.fault.OpFault.TheVariants.{Memory}

-- a decoder: its rows, and whether it answered out of memory
pub record DecoderState : Type 0 where
  pub schema : Schema
  pub rows : List RowEntry
  pub spent : Bool

-- the root is there, and every row is of a class of the schema or of the home and the shape of a collection field
pub record AreKnown (schema : Schema) (rows : List RowEntry) : Type 0 where
  pub root : is_live rows 0 ≡ true
  pub kinds : list_all (λ (e : RowEntry). has_kind schema e.row) rows ≡ true

-- out of memory, or what the bytes are decoded to
abbrev pub Decodes : {A : Type 0} → Result A OpFault → Result A OpFault → Type 0
Decodes (Err Memory) there = Unit {0}
Decodes found there = found ≡ there

-- what a frame makes of a decoder: its rows are what the bytes are decoded to; or the fault is told, and nothing changed;
-- or memory was wanting, and is from then on
abbrev pub Took : Result (List RowEntry) OpFault → DecoderState → DecoderState → Result (Unit {0}) OpFault → Type 0
Took there old new (Ok done) = (there ≡ Ok new.rows) × (new ≡ record { schema = old.schema; rows = new.rows; spent = false })
Took there old new (Err Memory) = new ≡ record { schema = old.schema; rows = old.rows; spent = true }
Took there old new (Err fault) = (there ≡ Err fault) × (new ≡ old)

-- what a frame makes of a decoder that is spent, or not
abbrev pub TakesAs : Bool → Result (List RowEntry) OpFault → DecoderState → DecoderState → Result (Unit {0}) OpFault → Type 0
TakesAs true there old new answer = (answer ≡ Err Memory) × (new ≡ old)
TakesAs false there old new answer = Took there old new answer

-- a decoder that answered out of memory answers it for good
abbrev pub Takes : Result (List RowEntry) OpFault → DecoderState → DecoderState → Result (Unit {0}) OpFault → Type 0
Takes there old new answer = TakesAs old.spent there old new answer
