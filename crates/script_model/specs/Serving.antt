-- Serve texts: definitions with the handlers of their rooms, or the first line that can't stand where it stands, with the word
-- of its part; what is wrong with a handler comes last. Ours.
use Rattle.std.specs.Prelude.{ℕ, suc, ◌+◌, ◌-◌, Bool, true, false, List, [], ◌∷◌, ◌++◌, if◌then◌else◌, Result, Ok, Err, codes}
use Rattle.std.specs.List.{flat_map}
use Rattle.std.specs.Option.{option_map_or}
use Rattle.schema_model.specs.Classes.{Schema}
use Rattle.schema_model.specs.Reading.{◌>>=◌}
use Rattle.room_model.specs.declared.definition.RoomDef.{RoomDef}
use Rattle.text_model.specs.declared.schedule.Schedule.{Schedule}
use Rattle.text_model.specs.declared.schedule.Word.{Word}
use Rattle.text_model.specs.declared.schedule.Word.TheVariants as word
use Rattle.text_model.specs.DefLines.{next_def}
use Rattle.text_model.specs.Lines.{behind_lines, is_word, lines_in, words_of}
use Rattle.text_model.specs.Schedules.{Fault, at_end, breaks_off, first_word, process_of, with_schema}
use Rattle.script_model.specs.declared.serve.ServeText.{ServeText}
use Rattle.script_model.specs.ScriptReading.{Handled, read_script_text}

-- a line that begins as a definition does
abbrev pub is_room_line : List ℕ → Bool
is_room_line l = is_word (codes "room") (first_word (words_of l))

-- where lines end before the end of the text
abbrev pub rooms_break : ℕ → List RoomDef → List ℕ → Fault
rooms_break n [] rest = breaks_off n word.Room rest
rooms_break n (d ∷ ds) [] = (n, word.End)
rooms_break n (d ∷ ds) (b ∷ bs) = if is_room_line (b ∷ bs) then (n, word.Room) else (suc n, word.End)

abbrev pub is_end : List RoomDef → List ℕ → Bool
is_end [] l = false
is_end (d ∷ ds) l = is_word (codes "end") l

-- a line of a handler, which is left alone
abbrev pub is_left : List RoomDef → List ℕ → Bool
is_left [] l = false
is_left (d ∷ ds) l = if is_room_line l then false else true

-- definitions behind these from a line of this number on, up to `end`
abbrev pub serve_rooms : ℕ → List RoomDef → List (List ℕ) → List ℕ → Result (List RoomDef) Fault
serve_rooms n defs [] rest = Err (rooms_break n defs rest)
serve_rooms n defs (l ∷ ls) rest =
    if is_end defs l then at_end (suc n) ls rest defs
    else if is_left defs l then serve_rooms (suc n) defs ls rest
    else option_map_or (λ d. serve_rooms (suc n) (defs ++ d ∷ []) ls rest) (next_def defs (words_of l)) (Err (n, word.Room))

-- lines and what stands behind the last one, as a text
abbrev pub text_from : List (List ℕ) → List ℕ → List ℕ
text_from ls rest = flat_map (λ l. l ++ 10 ∷ []) ls ++ rest

abbrev pub serve_text : Schema → List ℕ → ℕ → List (List ℕ) → List ℕ → List RoomDef → ServeText
serve_text schema process n ls rest defs =
    record { schedule = record { schema = schema; process = process; defs = defs; events = [] }; first = n; rest = text_from ls rest }

-- what stands behind the schema, from a line of this number on
abbrev pub serve_heading : ℕ → Schema → List (List ℕ) → List ℕ → Result ServeText Fault
serve_heading n schema [] rest = Err (breaks_off n word.Process rest)
serve_heading n schema (l ∷ ls) rest =
    option_map_or (λ id. serve_rooms (suc n) [] ls rest >>= (λ defs. Ok (serve_text schema id (suc n) ls rest defs)))
    (process_of (words_of l)) (Err (n, word.Process))

-- a text as definitions and what is left of it for the handlers, or its first fault of another word
abbrev pub read_serve_text : List ℕ → Result ServeText Fault
read_serve_text text = with_schema (lines_in text) (behind_lines text) (λ n s ls. serve_heading n s ls (behind_lines text))

-- ---- with the handlers

-- definitions with the handlers of their rooms
pub record Served : Type 0 where
  pub schedule : Schedule
  pub handlers : List Handled

-- a line with the word of its part, or one of a handler
pub data ServedFault : Type 0 where
  part : Fault → ServedFault
  script : ℕ → ServedFault

abbrev pub handlers_served : ServeText → Result (List Handled) ℕ → Result Served ServedFault
handlers_served s (Ok hs) = Ok (record { schedule = s.schedule; handlers = hs })
handlers_served s (Err n) = Err (script (s.first + n - 1))

abbrev pub definitions_served : Result ServeText Fault → Result Served ServedFault
definitions_served (Ok s) = handlers_served s (read_script_text s.schedule.schema s.rest)
definitions_served (Err f) = Err (part f)

-- a text as what is served, or its first fault; one of a handler comes behind all others
abbrev pub served_of : List ℕ → Result Served ServedFault
served_of text = definitions_served (read_serve_text text)
