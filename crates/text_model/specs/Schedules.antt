-- Schedules: the one text of each, and a text as a schedule, or the first line that can't stand where it stands, with the
-- word of its part. Ours.
use Rattle.std.specs.Prelude.{◌≡◌, ℕ, suc, Bool, true, false, ◌&&◌, List, [], ◌∷◌, ◌++◌, length, map, Option, Some, None, if◌then◌else◌, Result, Ok, Err, codes, nat_le}
use Rattle.std.specs.List.{list_all, list_any}
use Rattle.std.specs.Option.{option_map_or}
use Rattle.state_model.specs.Sound.{keys_differ}
use Rattle.schema_model.specs.Classes.{Schema}
use Rattle.schema_model.specs.Reading.{◌>>=◌}
use Rattle.room_model.specs.declared.definition.RoomDef.{RoomDef}
use Rattle.hub_model.specs.declared.event.HubEvent.{HubEvent}
use Rattle.text_model.specs.declared.schedule.Schedule.{Schedule}
use Rattle.text_model.specs.declared.schedule.Word.{Word}
use Rattle.text_model.specs.declared.schedule.Word.TheVariants as word
use Rattle.text_model.specs.declared.fault.SchemaFault.{SchemaFault}
use Rattle.text_model.specs.declared.fault.SchemaFault.TheVariants as fault
use Rattle.text_model.specs.DefLines.{def_words, is_named_def, most_defs, next_def}
use Rattle.text_model.specs.Events.{event_of_line, event_words, is_event}
use Rattle.text_model.specs.Lines.{behind_lines, is_word, lines_in, words_of}
use Rattle.text_model.specs.Marks.{is_id, lines}
use Rattle.text_model.specs.SchemaLines.{RootLine, SchemaLine, is_spelled, schema_text}
use Rattle.text_model.specs.SchemaReading.{empty_draft, ended, line_form, lines_taken}

-- ---- the one text

-- the lines behind the schema's
abbrev pub schedule_lines : Schedule → List (List (List ℕ))
schedule_lines s =
    (codes "process" ∷ s.process ∷ []) ∷ (map def_words s.defs ++ (codes "events" ∷ []) ∷ (map event_words s.events ++ (codes "end" ∷ []) ∷ []))

abbrev pub schedule_text : Schedule → List ℕ
schedule_text s = schema_text s.schema ++ lines (schedule_lines s)

-- which schedules have one
abbrev pub are_named_defs : List RoomDef → Bool
are_named_defs ds = list_all is_named_def ds && (nat_le 1 (length ds) && (nat_le (length ds) most_defs && keys_differ (map (λ (d : RoomDef). d.name) ds)))

abbrev pub is_schedule : Schedule → Bool
is_schedule s = is_spelled s.schema && (is_id s.process && (are_named_defs s.defs && list_all is_event s.events))

-- the bytes are the text of this schedule
abbrev pub IsScheduleText : List ℕ → Schedule → Type 0
IsScheduleText text s = (is_schedule s ≡ true) × (text ≡ schedule_text s)

-- ---- a text as a schedule

-- a number of a line with a word
abbrev pub Fault : Type 0
Fault = ℕ × Word

-- where lines end that should go on: there is no line more, or a piece without LF, which is none
abbrev pub breaks_off : ℕ → Word → List ℕ → Fault
breaks_off n w [] = (n, word.End)
breaks_off n w (b ∷ bs) = (n, w)

-- behind `end` stands nothing
abbrev pub at_end : {A : Type 0} → ℕ → List (List ℕ) → List ℕ → A → Result A Fault
at_end n [] [] x = Ok x
at_end n ls rest x = Err (n, word.End)

-- events from a line of this number on, up to `end`
abbrev pub events_from : ℕ → List (List ℕ) → List ℕ → Result (List HubEvent) Fault
events_from n [] rest = Err (breaks_off n word.Event rest)
events_from n (l ∷ ls) rest =
    if is_word (codes "end") l then at_end (suc n) ls rest []
    else option_map_or (λ e. events_from (suc n) ls rest >>= (λ es. Ok (e ∷ es))) (event_of_line l) (Err (n, word.Event))

-- the word of a line that is no definition: before the first one it is that of rooms, and so it is where it begins as one
abbrev pub first_word : List (List ℕ) → List ℕ
first_word [] = []
first_word (w ∷ ws) = w

abbrev pub room_word : List RoomDef → List ℕ → Word
room_word [] l = word.Room
room_word (d ∷ ds) l = if is_word (codes "room") (first_word (words_of l)) then word.Room else word.Event

-- definitions and events
pub record Parts : Type 0 where
  pub defs : List RoomDef
  pub events : List HubEvent

-- `events` stands behind one definition or more
abbrev pub is_opened : List RoomDef → List ℕ → Bool
is_opened [] l = false
is_opened (d ∷ ds) l = is_word (codes "events") l

-- definitions behind these from a line of this number on, up to `events`, and what stands behind that
abbrev pub rooms_from : ℕ → List RoomDef → List (List ℕ) → List ℕ → Result Parts Fault
rooms_from n defs [] rest = Err (breaks_off n (room_word defs rest) rest)
rooms_from n defs (l ∷ ls) rest =
    if is_opened defs l then events_from (suc n) ls rest >>= (λ es. Ok (record { defs = defs; events = es }))
    else option_map_or (λ d. rooms_from (suc n) (defs ++ d ∷ []) ls rest) (next_def defs (words_of l)) (Err (n, room_word defs l))

-- the id of the process
abbrev pub process_of : List (List ℕ) → Option (List ℕ)
process_of (w ∷ id ∷ []) = if is_word (codes "process") w && is_id id then Some id else None
process_of ws = None

-- what stands behind the schema, from a line of this number on
abbrev pub heading_from : ℕ → Schema → List (List ℕ) → List ℕ → Result Schedule Fault
heading_from n schema [] rest = Err (breaks_off n word.Process rest)
heading_from n schema (l ∷ ls) rest =
    option_map_or (λ id. rooms_from (suc n) [] ls rest >>= (λ parts. Ok (record { schema = schema; process = id; defs = parts.defs; events = parts.events })))
    (process_of (words_of l)) (Err (n, word.Process))

-- ---- the schema

-- the line of a root, by its form
abbrev pub is_root_form : Option SchemaLine → Bool
is_root_form (Some (RootLine name)) = true
is_root_form f = false

abbrev pub is_root_line : List ℕ → Bool
is_root_line l = is_root_form (line_form (words_of l))

-- the lines up to the first one of a root with it, which are the schema's, and those behind it
abbrev pub schema_part : List (List ℕ) → List (List ℕ)
schema_part [] = []
schema_part (l ∷ ls) = if is_root_line l then l ∷ [] else l ∷ schema_part ls

abbrev pub behind_schema : List (List ℕ) → List (List ℕ)
behind_schema [] = []
behind_schema (l ∷ ls) = if is_root_line l then ls else behind_schema ls

-- the schema of lines, or their first fault
abbrev pub schema_of_lines : List (List ℕ) → List ℕ → Result Schema SchemaFault
schema_of_lines ls rest = lines_taken 1 empty_draft (map words_of ls) >>= ended (length ls) rest

-- the line of a fault with its word; the schema that has no root ends too early
abbrev pub schema_fault : SchemaFault → Fault
schema_fault (fault.UnknownWord n) = (n, word.Schema)
schema_fault (fault.UnknownClass n) = (n, word.Schema)
schema_fault (fault.TwiceClass n) = (n, word.Schema)
schema_fault (fault.TwiceField n) = (n, word.Schema)
schema_fault (fault.TooManyFields n) = (n, word.Schema)
schema_fault (fault.TooManyClasses n) = (n, word.Schema)
schema_fault (fault.BadTag n) = (n, word.Schema)
schema_fault (fault.NoRoot n) = (n, word.End)
schema_fault (fault.FractionalKind n) = (n, word.Schema)
schema_fault (fault.ParentLater n) = (n, word.Schema)
schema_fault fault.Memory = (0, word.Schema)

-- what goes on behind a schema
abbrev pub behind : {A : Type 0} → Result Schema SchemaFault → (Schema → Result A Fault) → Result A Fault
behind (Ok s) f = f s
behind (Err e) f = Err (schema_fault e)

-- a text of lines that begins with a schema: where none of them is a root's, all are the schema's
abbrev pub with_schema : {A : Type 0} → List (List ℕ) → List ℕ → (ℕ → Schema → List (List ℕ) → Result A Fault) → Result A Fault
with_schema ls rest f =
    if list_any is_root_line ls then behind (schema_of_lines (schema_part ls) []) (λ s. f (suc (length (schema_part ls))) s (behind_schema ls))
    else behind (schema_of_lines ls rest) (λ s. f (suc (length ls)) s [])

-- a text as a schedule, or its first fault
abbrev pub read_schedule_text : List ℕ → Result Schedule Fault
read_schedule_text text = with_schema (lines_in text) (behind_lines text) (λ n s ls. heading_from n s ls (behind_lines text))
