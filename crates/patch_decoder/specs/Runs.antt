-- Rows of which one is open, and what steps do to them.
use Rattle.std.specs.Prelude.{◌≡◌, ℕ, ◌+◌, true, false, List, [], Result, Ok, Err, ◌⊎◌}
use Rattle.std.specs.Option.{option_map_or}
use Rattle.lists.specs.Rising.{RisesFrom}
use Rattle.schema_model.specs.Classes.{Schema}
use Rattle.state_model.specs.declared.row.Row.{Row}
use Rattle.state_model.specs.declared.row.Row.TheVariants as row
use Rattle.state_model.specs.declared.row.RowEntry.{RowEntry}
use Rattle.state_model.specs.Rows.{number_of, row_at, kinds_of, put_row}
use Rattle.state_model.specs.Reached.{freed}
use Rattle.wire_model.specs.declared.op.Op.{Op}
use Rattle.wire_model.specs.declared.op.Step.{Step}
use Rattle.wire_model.specs.declared.op.Step.TheVariants.{Turn, Do}
use Rattle.wire_model.specs.declared.fault.OpFault.{OpFault}
use Rattle.wire_model.specs.declared.fault.OpFault.TheVariants.{Memory, NoItem}
use Rattle.wire_model.specs.Decoded.{decoded}
use Rattle.wire_model.specs.Effect.{opened, closed, effect, finds}
use Rattle.wire_model.specs.Grammar.{step_at}
use Rattle.wire_model.specs.Resolved.{holder_kind}
use Rattle.wire_ops.specs.PlainEdits.{plain_edit}
use Rattle.canon_patch.specs.Applying.{with_link}
use Rattle.patch_decoder.specs.declared.run.Run.{Run}
use Rattle.patch_decoder.specs.Decoders.{AreKnown}

-- a row, or an instance of the first class where it isn't there
abbrev pub row_or_first : List RowEntry → ℕ → Row
row_or_first rows who = option_map_or (λ r. r) (row_at rows who) (row.Struct 0 [])

-- the rows with the open one closed
abbrev pub closed_rows : Run → List RowEntry
closed_rows run = put_row run.who (closed run.holder) run.rows

-- of rows this one is open: of it the kind alone is among them
pub record Opens (all : List RowEntry) (n : ℕ) (run : Run) : Type 0 where
  pub who : run.who ≡ n
  pub rows : run.rows ≡ put_row n (holder_kind (kinds_of all) n) all
  pub kind : run.kind ≡ holder_kind (kinds_of all) n
  pub body : run.holder ≡ opened (row_or_first all n)

-- an operation found its item and is done to the open row; the row that it links to is there
pub record Does (schema : Schema) (o : Op) (old new : Run) : Type 0 where
  pub found : finds (plain_edit o) old.holder ≡ true
  pub who : new.who ≡ old.who
  pub rows : new.rows ≡ with_link schema old.kind o old.rows
  pub kind : new.kind ≡ old.kind
  pub body : new.holder ≡ effect (plain_edit o) old.holder

-- an operation is done, or it misses its item
abbrev pub Acts : Schema → Op → ℕ → Run → Run → Result (Unit {0}) OpFault → Type 0
Acts schema o place old new (Ok done) = Does schema o old new
Acts schema o place old new (Err Memory) = Unit {0}
Acts schema o place old new (Err f) = (f ≡ NoItem place) × (finds (plain_edit o) old.holder ≡ false)

-- what a step does
abbrev pub DoesStep : Schema → Step → Run → Run → Type 0
DoesStep schema (Turn n) old new = Opens (closed_rows old) n new
DoesStep schema (Do o) old new = Does schema o old new

-- a step is done, or it is an operation that misses its item
abbrev pub TakesStep : Schema → Step → ℕ → Run → Run → Result (Unit {0}) OpFault → Type 0
TakesStep schema s place old new (Ok done) = DoesStep schema s old new
TakesStep schema s place old new (Err Memory) = Unit {0}
TakesStep schema s place old new (Err f) = (o : Op) × (s ≡ Do o) × (f ≡ NoItem place) × (finds (plain_edit o) old.holder ≡ false)

-- the step at a place is read and done, or there is its fault
abbrev pub Steps : Schema → List ℕ → ℕ → Run → Run → Result ℕ OpFault → Type 0
Steps schema bytes at old new (Ok next) = (s : Step) × (step_at schema old.rows old.who bytes at ≡ Ok (s, next)) × DoesStep schema s old new
Steps schema bytes at old new (Err Memory) = Unit {0}
Steps schema bytes at old new (Err f) =
    (step_at schema old.rows old.who bytes at ≡ Err f)
    ⊎ ((o : Op) × (next : ℕ) × (step_at schema old.rows old.who bytes at ≡ Ok (Do o, next)) × (f ≡ NoItem (at + 1)) × (finds (plain_edit o) old.holder ≡ false))

-- the open rows are, closed and freed, what bytes are decoded to
pub record Led (schema : Schema) (rows : List RowEntry) (bytes : List ℕ) (run : Run) : Type 0 where
  pub decoded : decoded schema bytes rows ≡ Ok (freed (closed_rows run))
  pub rises : RisesFrom number_of 0 (closed_rows run)
  pub known : AreKnown schema (closed_rows run)

-- bytes lead to open rows, or to a fault
abbrev pub Leads : Schema → List RowEntry → List ℕ → Result Run OpFault → Type 0
Leads schema rows bytes (Ok run) = Led schema rows bytes run
Leads schema rows bytes (Err Memory) = Unit {0}
Leads schema rows bytes (Err f) = decoded schema bytes rows ≡ Err f
