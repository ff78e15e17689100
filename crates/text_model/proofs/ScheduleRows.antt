-- Examples: a schedule by its text, and the first fault of each text that is none; worked out by hand from the forms.
use Rattle.std.specs.Prelude.{◌≡◌, ℕ, true, List, [], ◌∷◌, ◌++◌, pos, None, Ok, Err, codes, refl}
use Rattle.std.specs.Fmt.{digits}
use Rattle.std.specs.Str.{chars, is_utf8}
use lib.Utf8.{encode}
use Rattle.percent_encoding.specs.Percent.{percent_decode}
use Rattle.schema_model.specs.Classes.{Schema}
use Rattle.schema_model.specs.declared.class.Item.TheVariants.{Scalar}
use Rattle.schema_model.specs.declared.class.Shape.TheVariants.{One}
use Rattle.schema_model.specs.declared.scalar.ScalarKind.TheVariants.{Number}
use Rattle.schema_model.specs.declared.value.Value.TheVariants.{Whole}
use Rattle.state_model.specs.declared.command.Command.TheVariants.{Put}
use Rattle.room_model.specs.declared.event.Act.TheVariants.{State}
use Rattle.hub_model.specs.declared.event.HubEvent.TheVariants.{At, Ask, Opening, Frame, Act as Acted, Tick}
use Rattle.text_model.specs.declared.schedule.Schedule.{Schedule}
use Rattle.text_model.specs.declared.schedule.Word.{Word}
use Rattle.text_model.specs.declared.schedule.Word.TheVariants as word
use Rattle.text_model.specs.Schedules.{is_schedule, read_schedule_text, schedule_text}

-- a text of lines
abbrev pub text : List (List ℕ) → List ℕ
text [] = []
text (l ∷ ls) = l ++ 10 ∷ text ls

abbrev pub number_schema : Schema
number_schema = record {
  classes = record { name = codes "State"; parent = None; own = record { name = codes "x"; shape = One (Scalar Number); tag = None } ∷ [] } ∷ [];
  root = 0;
}

abbrev duel : Schedule
duel = record {
  schema = number_schema;
  process = codes "proc00001";
  defs = record { name = codes "duel"; max = 2; seat = 15000; patch = 50; keep = 0; filter = [] }
      ∷ record { name = codes "a-b"; max = 64; seat = 1; patch = 3600000; keep = 3600000; filter = codes "mode" ∷ codes "map" ∷ [] } ∷ [];
  events = At 0
      ∷ Ask 1 (codes "/matchmake/joinOrCreate/duel") (codes "{}") (codes "room00001") (codes "sess00001")
      ∷ Opening 2 (codes "/proc00001/room00001?sessionId=sess00001") (codes "token0001")
      ∷ Frame 2 (10 ∷ [])
      ∷ Acted (codes "room00001") (State (Put 0 0 (Whole (pos 5))))
      ∷ Tick (codes "room00001") ∷ [];
}

abbrev pub schema_lines : List (List ℕ)
schema_lines = codes "class State" ∷ codes "field x number" ∷ codes "root State" ∷ []

abbrev heading : List (List ℕ)
heading = schema_lines ++ codes "process proc00001" ∷ codes "room duel max 2 seat 15000 patch 50 keep 0" ∷ []

abbrev duel_text : List ℕ
duel_text = text (heading ++ codes "room a-b max 64 seat 1 patch 3600000 keep 3600000 filter mode,map" ∷ codes "events" ∷ codes "at 0"
    ∷ codes "ask 1 /matchmake/joinOrCreate/duel {} room00001 sess00001" ∷ codes "open 2 /proc00001/room00001?sessionId=sess00001 token0001"
    ∷ codes "frame 2 0a" ∷ codes "act room00001 put 0 0 5" ∷ codes "tick room00001" ∷ codes "end" ∷ [])

duel_written : schedule_text duel ≡ duel_text
unfolding digits
duel_written = refl

duel_read : read_schedule_text duel_text ≡ Ok duel
unfolding percent_decode is_utf8 chars encode
duel_read = refl

duel_spelled : is_schedule duel ≡ true
unfolding is_utf8 chars encode
duel_spelled = refl

-- ---- the first fault

-- the text of these lines is none, by the line of this number and its word
abbrev Fails : List (List ℕ) → ℕ → Word → Type 0
Fails ls n w = read_schedule_text (text ls) ≡ Err (n, w)

nothing : Fails [] 1 word.End
nothing = refl

schema_bad : Fails (codes "class State" ∷ codes "field x float32" ∷ codes "root State" ∷ []) 2 word.Schema
schema_bad = refl

schema_ends : Fails (codes "class State" ∷ codes "field x number" ∷ []) 3 word.End
schema_ends = refl

-- a class that is declared nowhere comes before a text that ends too early
class_unknown : Fails (codes "class State" ∷ codes "field x Card" ∷ codes "field y number" ∷ []) 2 word.Schema
class_unknown = refl

-- and before a fault behind the schema, but not before a bad line of the schema
class_unknown_first : Fails (codes "class State" ∷ codes "field x Card" ∷ codes "root State" ∷ codes "proces" ∷ []) 2 word.Schema
class_unknown_first = refl

class_unknown_last : Fails (codes "class State" ∷ codes "field x Card" ∷ codes "field y float32" ∷ codes "root State" ∷ []) 3 word.Schema
class_unknown_last = refl

piece_in_schema : read_schedule_text (text (codes "class State" ∷ []) ++ codes "field x number") ≡ Err (2, word.Schema)
piece_in_schema = refl

process_bad : Fails (schema_lines ++ codes "process proc0001" ∷ []) 4 word.Process
process_bad = refl

process_ends : Fails schema_lines 4 word.End
process_ends = refl

room_first : Fails (schema_lines ++ codes "process proc00001" ∷ codes "events" ∷ []) 5 word.Room
room_first = refl

room_bad : Fails (heading ++ codes "room duo max 0 seat 1 patch 1 keep 0" ∷ []) 6 word.Room
room_bad = refl

room_twice : Fails (heading ++ codes "room duel max 2 seat 15000 patch 50 keep 0" ∷ []) 6 word.Room
room_twice = refl

room_lone : Fails (heading ++ codes "room" ∷ []) 6 word.Room
room_lone = refl

room_keys : Fails (heading ++ codes "room duo max 1 seat 1 patch 1 keep 0 filter a,b,a" ∷ []) 6 word.Room
room_keys = refl

room_many_keys : Fails (heading ++ codes "room duo max 1 seat 1 patch 1 keep 0 filter a,b,c,d,e" ∷ []) 6 word.Room
room_many_keys = refl

room_no_key : Fails (heading ++ codes "room duo max 1 seat 1 patch 1 keep 0 filter a,,b" ∷ []) 6 word.Room
room_no_key = refl

no_events : Fails (heading ++ codes "rooms" ∷ []) 6 word.Event
no_events = refl

rooms_end : Fails heading 6 word.End
rooms_end = refl

piece_in_rooms : read_schedule_text (text heading ++ codes "room x") ≡ Err (6, word.Room)
piece_in_rooms = refl

event_bad : Fails (heading ++ codes "events" ∷ codes "at 0" ∷ codes "at 00" ∷ codes "end" ∷ []) 8 word.Event
event_bad = refl

events_end : Fails (heading ++ codes "events" ∷ codes "at 0" ∷ []) 8 word.End
events_end = refl

piece_in_events : read_schedule_text (text (heading ++ codes "events" ∷ []) ++ codes "end") ≡ Err (7, word.Event)
piece_in_events = refl

behind_end : Fails (heading ++ codes "events" ∷ codes "end" ∷ codes "tick room00001" ∷ []) 8 word.End
behind_end = refl

piece_behind_end : read_schedule_text (text (heading ++ codes "events" ∷ codes "end" ∷ []) ++ codes "end") ≡ Err (8, word.End)
piece_behind_end = refl

events_none : read_schedule_text (text (heading ++ codes "events" ∷ codes "end" ∷ []))
    ≡ Ok (record {
      schema = number_schema;
      process = codes "proc00001";
      defs = record { name = codes "duel"; max = 2; seat = 15000; patch = 50; keep = 0; filter = [] } ∷ [];
      events = [];
    })
events_none = refl
