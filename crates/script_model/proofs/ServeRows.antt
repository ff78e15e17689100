-- Examples: serve texts, and the first fault of each text that is none; worked out by hand from the manual.
use Rattle.std.specs.Prelude.{◌≡◌, ℕ, zero, suc, Bool, true, false, List, [], ◌∷◌, ◌++◌, ℤ, pos, negsuc, Option, Some, None, Result, Ok, Err, codes, refl}
use Rattle.std.specs.Fmt.{digits}
use Rattle.std.specs.Str.{chars, is_utf8}
use lib.Utf8.{encode}
use Rattle.percent_encoding.specs.Percent.{percent_decode}
use Rattle.schema_model.specs.Classes.{Schema}
use Rattle.schema_model.specs.declared.class.Item.TheVariants.{Scalar}
use Rattle.schema_model.specs.declared.class.Shape.TheVariants.{One}
use Rattle.schema_model.specs.declared.scalar.ScalarKind.TheVariants.{Number}
use Rattle.text_model.specs.declared.schedule.Word.{Word}
use Rattle.text_model.specs.declared.schedule.Word.TheVariants as word
use Rattle.script_model.specs.declared.line.When.TheVariants as when
use Rattle.script_model.specs.declared.action.Action.TheVariants as action
use Rattle.script_model.specs.declared.operand.Operand.TheVariants as operand
use Rattle.script_model.specs.Serving.{ServedFault, part, read_serve_text, script, served_of}
use Rattle.script_model.specs.Steps.{does, more, no_steps}
use Rattle.script_model.proofs.HandlerRows.{text_of}

abbrev pub number_schema : Schema
number_schema = record {
  classes = record { name = codes "State"; parent = None; own = record { name = codes "x"; shape = One (Scalar Number); tag = None } ∷ [] } ∷ [];
  root = 0;
}

abbrev pub heading : List (List ℕ)
heading = codes "class State" ∷ codes "field x number" ∷ codes "root State" ∷ codes "process proc00001" ∷ []

abbrev pub duel : List ℕ
duel = codes "room duel max 2 seat 15000 patch 50 keep 0"

abbrev pub counts : List (List ℕ)
counts = duel ∷ codes "on create" ∷ codes "put root x 5" ∷ codes "done" ∷ codes "end" ∷ []

definitions_alone : read_serve_text (text_of (heading ++ counts))
    ≡ Ok (record {
      schedule = record { schema = number_schema; process = codes "proc00001"; defs = record { name = codes "duel"; max = 2; seat = 15000; patch = 50; keep = 0; filter = [] } ∷ []; events = [] };
      first = 5;
      rest = text_of counts;
    })
definitions_alone = refl

with_handlers : served_of (text_of (heading ++ counts))
    ≡ Ok (record {
      schedule = record { schema = number_schema; process = codes "proc00001"; defs = record { name = codes "duel"; max = 2; seat = 15000; patch = 50; keep = 0; filter = [] } ∷ []; events = [] };
      handlers = record { def = 0; when = when.Create; body = more (does (action.Put operand.Root (codes "x") (operand.Whole (pos 5)))) no_steps } ∷ [];
    })
with_handlers = refl

abbrev pub Fails : List (List ℕ) → ℕ → Word → Type 0
Fails ls n w = served_of (text_of (heading ++ ls)) ≡ Err (part (n, w))

abbrev pub FailsScript : List (List ℕ) → ℕ → Type 0
FailsScript ls n = served_of (text_of (heading ++ ls)) ≡ Err (script n)

bad_handler : FailsScript (duel ∷ codes "on create" ∷ codes "nothing" ∷ codes "done" ∷ codes "end" ∷ []) 7
bad_handler = refl

-- the definition behind it comes first, and so does the missing end
definition_before_handler : Fails (duel ∷ codes "nothing" ∷ codes "room duel max 2 seat 15000 patch 50 keep 0" ∷ codes "end" ∷ []) 7 word.Room
definition_before_handler = refl

end_before_handler : Fails (duel ∷ codes "nothing" ∷ []) 7 word.End
end_before_handler = refl

room_first : Fails (codes "on create" ∷ []) 5 word.Room
room_first = refl

no_room : Fails [] 5 word.End
no_room = refl

schema_first : served_of (text_of (codes "class" ∷ duel ∷ [])) ≡ Err (part (1, word.Schema))
schema_first = refl

process_second : served_of (text_of (codes "class State" ∷ codes "field x number" ∷ codes "root State" ∷ duel ∷ [])) ≡ Err (part (4, word.Process))
process_second = refl

behind_the_end : Fails (counts ++ codes "end" ∷ []) 10 word.End
behind_the_end = refl

piece_of_a_room : served_of (text_of (heading ++ duel ∷ []) ++ codes "room x") ≡ Err (part (6, word.Room))
piece_of_a_room = refl

other_piece : served_of (text_of (heading ++ duel ∷ []) ++ codes "end") ≡ Err (part (7, word.End))
other_piece = refl

piece_before_rooms : served_of (text_of heading ++ codes "room x") ≡ Err (part (5, word.Room))
piece_before_rooms = refl

events_are_of_schedules : FailsScript (duel ∷ codes "events" ∷ codes "end" ∷ []) 6
events_are_of_schedules = refl
