-- What reading gives, where memory may run out. Ours.
use Rattle.std.specs.Prelude.{◌≡◌, ℕ, suc, ◌+◌, ◌≤◌, drop, take, List, [], ◌∷◌, ◌++◌, length, Option, None, Result, Ok, Err}
use Rattle.std.specs.Borrow.{Bor}
use Rattle.schema_model.specs.Classes.{Schema}
use Rattle.schema_model.specs.Reading.{◌>>=◌}
use Rattle.room_model.specs.declared.definition.RoomDef.{RoomDef}
use Rattle.hub_model.specs.declared.event.HubEvent.{HubEvent}
use Rattle.hub_model.specs.declared.event.HubOut.{HubOut}
use Rattle.text_model.specs.declared.schedule.ScheduleFault.{ScheduleFault}
use Rattle.text_model.specs.declared.schedule.ScheduleFault.TheVariants.{Line, Memory}
use Rattle.text_model.specs.declared.schedule.Word.{Word}
use Rattle.schedule_text.specs.declared.fault.LineFault.{LineFault}
use Rattle.schedule_text.specs.declared.fault.LineFault.TheVariants as refused
use Rattle.text_model.specs.Lines.{behind_lines, lines_in}
use Rattle.text_model.specs.OutLines.{reply_of}
use Rattle.text_model.specs.Schedules.{Fault, Parts, behind, schema_fault, with_schema}
use Rattle.text_model.specs.SchemaReading.{read_schema_text}
use Rattle.text_model.specs.declared.fault.SchemaFault.{SchemaFault}
use Rattle.text_model.specs.declared.fault.SchemaFault.TheVariants as schema

-- a reply of the words behind its first one
abbrev pub replied : List (List ℕ) → Option HubOut
replied [] = None
replied (a ∷ ws) = reply_of a ws

-- ---- what reading a text gives, where memory may run out

-- this value or this line's fault, unless memory runs out
abbrev pub Tells : {A : Type 0} → Result A ScheduleFault → Result A Fault → Type 0
Tells (Ok x) there = there ≡ Ok x
Tells (Err (Line n w)) there = there ≡ Err (n, w)
Tells (Err Memory) there = Unit {0}

-- values before those that reading gives
abbrev pub behind_some : {A : Type 0} → List A → Result (List A) Fault → Result (List A) Fault
behind_some xs r = r >>= (λ ys. Ok (xs ++ ys))

-- definitions and events as a pair
abbrev pub parts_of : Result (List RoomDef × List HubEvent) ScheduleFault → Result Parts ScheduleFault
parts_of (Ok p) = Ok (record { defs = p.0; events = p.1 })
parts_of (Err f) = Err f

-- the fault of a line as the calls give it
abbrev pub line_fault : Fault → ScheduleFault
line_fault f = Line f.0 f.1

abbrev pub fault_at : LineFault → ℕ → Word → ScheduleFault
fault_at refused.NotOfForm n w = Line n w
fault_at refused.Memory n w = Memory

-- ---- the schema with which a text begins

-- the number of the line behind it, the schema, and the lines from there on
abbrev pub parted : List ℕ → Result (ℕ × Schema × List (List ℕ)) Fault
parted text = with_schema (lines_in text) (behind_lines text) (λ n s ls. Ok (n, s, ls))

-- so many lines and bytes of a text are its schema's
pub record IsEnd (text : List ℕ) (n len : ℕ) : Type 0 where
  pub within : len ≤ length text
  pub few : n + length (drop len text) ≤ length text
  pub parted : parted text ≡ behind (read_schema_text (take len text)) (λ s. Ok (suc n, s, lines_in (drop len text)))
  pub rest : (s : Schema) → read_schema_text (take len text) ≡ Ok s → behind_lines (drop len text) ≡ behind_lines text

-- the fault of a schema as the calls give it
abbrev pub told_fault : SchemaFault → ScheduleFault
told_fault schema.Memory = Memory
told_fault f = line_fault (schema_fault f)

-- the schema, how many lines it has, and what stands behind them
abbrev pub IsPart : List ℕ → Result (Schema × ℕ × Bor (List ℕ)) ScheduleFault → Type 0
IsPart text (Ok p) = (parted text ≡ Ok (suc p.1, p.0, lines_in p.2.now)) × (behind_lines p.2.now ≡ behind_lines text) × (p.1 + length p.2.now ≤ length text)
IsPart text (Err (Line n w)) = parted text ≡ Err (n, w)
IsPart text (Err Memory) = Unit {0}

-- this value, unless memory runs out
abbrev pub IsAnswer : {A : Type 0} → A → Result A ScheduleFault → Type 0
IsAnswer x (Ok y) = y ≡ x
IsAnswer x (Err f) = f ≡ Memory
