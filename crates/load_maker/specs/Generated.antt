-- The load that is made: a game of eight players and two hundred things, whose numbers a stated generator draws. Ours.
use Rattle.std.specs.Prelude.{ℕ, zero, suc, ◌+◌, ◌-◌, ◌*◌, ◌/◌, ◌%◌, ◌^◌, ◌==◌, List, [], ◌∷◌, ◌++◌, pos, negsuc, Some, None, nat_lt, if◌then◌else◌, codes}
use Rattle.std.specs.Fmt.{decimal}
use Rattle.schema_model.specs.Classes.{Schema}
use Rattle.schema_model.specs.declared.class.Class.{Class}
use Rattle.schema_model.specs.declared.class.FieldDecl.{FieldDecl}
use Rattle.schema_model.specs.declared.class.Item.TheVariants as item
use Rattle.schema_model.specs.declared.class.Shape.{Shape}
use Rattle.schema_model.specs.declared.class.Shape.TheVariants.{One, Map, Array}
use Rattle.schema_model.specs.declared.scalar.ScalarKind.TheVariants as kind
use Rattle.schema_model.specs.declared.value.Value.{Value}
use Rattle.schema_model.specs.declared.value.Value.TheVariants.{Whole, Str, Link}
use Rattle.state_model.specs.declared.command.Command.{Command}
use Rattle.state_model.specs.declared.command.Command.TheVariants.{Make, MakeFor, Put, PutKey, Push}
use Rattle.room_model.specs.declared.definition.RoomDef.{RoomDef}
use Rattle.room_model.specs.declared.event.Act.TheVariants.{State, ViewAdd}
use Rattle.hub_model.specs.declared.event.HubEvent.{HubEvent}
use Rattle.hub_model.specs.declared.event.HubEvent.TheVariants.{At, Ask, Opening, Frame, Lost, Act, Tick}
use Rattle.hub_model.specs.Replies.{join_or_create_target, opening_target}
use Rattle.text_model.specs.declared.schedule.Schedule.{Schedule}

-- the most rounds
abbrev pub most_rounds : ℕ
most_rounds = 10000

-- ---- draws

-- the state behind a draw, and the number below a limit that it gives
abbrev pub next_state : ℕ → ℕ
next_state s = (s * 6364136223846793005 + 1442695040888963407) % 2 ^ 64

abbrev pub drawn : ℕ → ℕ → ℕ
drawn limit s = (s / 2 ^ 33) % limit

-- what a step makes of a state, so many times
abbrev pub again : (ℕ → ℕ) → ℕ → ℕ → ℕ
again step zero s = s
again step (suc n) s = step (again step n s)

-- lists of 0, 1 and so on, so many, one behind another
abbrev pub up_to : {A : Type 0} → (ℕ → List A) → ℕ → List A
up_to f zero = []
up_to f (suc n) = up_to f n ++ f n

-- ---- names

abbrev pub digit : ℕ → ℕ
digit n = 48 + n % 10

abbrev pub process_id : List ℕ
process_id = codes "proc00001"

abbrev pub room_id : List ℕ
room_id = codes "room00001"

-- the session of a client, and the token that its opening draws
abbrev pub session_id : ℕ → List ℕ
session_id i = codes "sess0000" ++ digit i ∷ []

abbrev pub token_id : ℕ → List ℕ
token_id i = codes "tok00000" ++ digit i ∷ []

-- the token that a return in a round draws
abbrev pub return_id : ℕ → List ℕ
return_id k = codes "ret" ++ digit (k / 100000) ∷ digit (k / 10000) ∷ digit (k / 1000) ∷ digit (k / 100) ∷ digit (k / 10) ∷ digit k ∷ []

-- the target of an opening under a token
abbrev pub return_target : List ℕ → List ℕ → List ℕ → List ℕ → List ℕ
return_target process room session token = opening_target process room session ++ (codes "&reconnectionToken=" ++ token)

-- ---- the game

abbrev pub number_field : List ℕ → FieldDecl
number_field name = record { name = name; shape = One (item.Scalar kind.Number); tag = None }

abbrev pub shared_field : List ℕ → Shape → FieldDecl
shared_field name shape = record { name = name; shape = shape; tag = None }

abbrev pub shown_field : List ℕ → Shape → FieldDecl
shown_field name shape = record { name = name; shape = shape; tag = Some (negsuc 0) }

abbrev pub class_of : List ℕ → List FieldDecl → Class
class_of name own = record { name = name; parent = None; own = own }

abbrev pub game_schema : Schema
game_schema = record {
  classes =
      class_of (codes "State") (shared_field (codes "players") (Map (item.Class 1)) ∷ shared_field (codes "things") (Map (item.Class 3)) ∷ [])
      ∷ class_of (codes "Player") (shared_field (codes "name") (One (item.Scalar kind.Str)) ∷ shown_field (codes "gold") (One (item.Scalar kind.Number)) ∷ shown_field (codes "hand") (Array (item.Class 2)) ∷ [])
      ∷ class_of (codes "Card") (number_field (codes "rank") ∷ [])
      ∷ class_of (codes "Thing") (number_field (codes "x") ∷ number_field (codes "y") ∷ [])
      ∷ [];
  root = 0;
}

abbrev pub game_def : RoomDef
game_def = record { name = codes "game"; max = 8; seat = 15000; patch = 50; keep = 20000; filter = [] }

-- ---- events

-- a command of the room
abbrev pub commanded : Command → HubEvent
commanded c = Act room_id (State c)

abbrev pub whole : ℕ → Value
whole n = Whole (pos n)

-- so many players and things
abbrev pub most_players : ℕ
most_players = 8

abbrev pub most_things : ℕ
most_things = 200

-- a client asks for a seat, opens it and acknowledges
abbrev pub asked : ℕ → HubEvent
asked i = Ask i (join_or_create_target (codes "game")) (codes "{}") room_id (session_id i)

abbrev pub opened : ℕ → HubEvent
opened i = Opening (100 + i) (opening_target process_id room_id (session_id i)) (token_id i)

abbrev pub acknowledged : ℕ → HubEvent
acknowledged conn = Frame conn (10 ∷ [])

abbrev pub seat_of : ℕ → List HubEvent
seat_of i = asked i ∷ opened i ∷ acknowledged (100 + i) ∷ []

-- the root gets its two maps
abbrev pub map_made : ℕ → ℕ → List HubEvent
map_made field map = commanded (MakeFor (record { class = 0; field = field })) ∷ commanded (Put 0 field (Link map)) ∷ []

abbrev pub root_made : List HubEvent
root_made = map_made 0 1 ++ map_made 1 2

-- a player of a client: its row, its hand with a card, and it in the client's view
abbrev pub player_row : ℕ → ℕ
player_row i = 3 * i

abbrev pub row_made : ℕ → List HubEvent
row_made i =
    commanded (Make 1)
    ∷ commanded (Put (player_row i) 0 (Str (session_id i)))
    ∷ commanded (Put (player_row i) 1 (whole 0))
    ∷ commanded (PutKey 1 (session_id i) (Link (player_row i)))
    ∷ []

abbrev pub hand_made : ℕ → List HubEvent
hand_made i = commanded (MakeFor (record { class = 1; field = 2 })) ∷ commanded (Put (player_row i) 2 (Link (player_row i + 1))) ∷ []

abbrev pub card_made : ℕ → List HubEvent
card_made i =
    commanded (Make 2)
    ∷ commanded (Put (player_row i + 2) 0 (whole i))
    ∷ commanded (Push (player_row i + 1) (Link (player_row i + 2)))
    ∷ Act room_id (ViewAdd (session_id i) (record { who = player_row i; tag = negsuc 0 }))
    ∷ []

abbrev pub player_made : ℕ → List HubEvent
player_made i = row_made i ++ (hand_made i ++ card_made i)

-- a thing, by its number from 0 on
abbrev pub thing_row : ℕ → ℕ
thing_row j = 27 + j

abbrev pub thing_made : ℕ → List HubEvent
thing_made j =
    commanded (Make 3) ∷ commanded (Put (thing_row j) 0 (whole 0)) ∷ commanded (Put (thing_row j) 1 (whole 0)) ∷ commanded (PutKey 2 (decimal j) (Link (thing_row j))) ∷ []

-- all that stands before the rounds
abbrev pub game_made : List HubEvent
game_made = At 0 ∷ (up_to (λ n. seat_of (n + 1)) most_players ++ (root_made ++ (up_to (λ n. player_made (n + 1)) most_players ++ up_to thing_made most_things)))

-- ---- rounds

-- a thing gets a number: its own, the field and the number are drawn one behind another
abbrev pub after_move : ℕ → ℕ
after_move s = next_state (next_state (next_state s))

abbrev pub thing_moved : ℕ → List HubEvent
thing_moved s =
    let one : ℕ = next_state s in
    let two : ℕ = next_state one in
    commanded (Put (thing_row (drawn most_things one)) (drawn 2 two) (whole (drawn 1000 (next_state two)))) ∷ []

-- so many of them, and how many a round has
abbrev pub moved : ℕ → ℕ → List HubEvent
moved count s = up_to (λ n. thing_moved (again after_move n s)) count

unfoldable pub most_moves : ℕ
most_moves = 20

abbrev pub things_moved : ℕ → List HubEvent
things_moved s = moved most_moves s

-- a player gets gold: its number and how much are drawn
abbrev pub gold_given : ℕ → List HubEvent
gold_given s =
    let one : ℕ = next_state s in
    commanded (Put (player_row (drawn most_players one + 1)) 1 (whole (drawn 100 (next_state one)))) ∷ []

-- the first client's connection before a drop in a round, and its token before a return in one
abbrev pub conn_before : ℕ → ℕ
conn_before k = if nat_lt k 200 then 101 else k + 50

abbrev pub token_before : ℕ → List ℕ
token_before k = if nat_lt k 200 then token_id 1 else return_id (k - 200)

abbrev pub reopened : ℕ → HubEvent
reopened k = Opening (200 + k) (return_target process_id room_id (session_id 1) (token_before k)) (return_id k)

abbrev pub returned_in : ℕ → List HubEvent
returned_in k = reopened k ∷ acknowledged (200 + k) ∷ []

-- every two hundred rounds the first client drops, and returns fifty rounds later
abbrev pub dropped_or_returned : ℕ → List HubEvent
dropped_or_returned k = if k % 200 == 100 then Lost (conn_before k) ∷ [] else if k % 200 == 150 then returned_in k else []

-- a round, from a state
abbrev pub round_from : ℕ → ℕ → List HubEvent
round_from k s = At (50 * k) ∷ (things_moved s ++ (gold_given (again after_move most_moves s) ++ (dropped_or_returned k ++ Tick room_id ∷ [])))

abbrev pub after_round : ℕ → ℕ
after_round s = next_state (next_state (again after_move most_moves s))

-- so many rounds, from 1 on
abbrev pub rounds_from : ℕ → ℕ → List HubEvent
rounds_from seed rounds = up_to (λ n. round_from (n + 1) (again after_round n seed)) rounds

-- ---- the schedule

abbrev pub generated : ℕ → ℕ → Schedule
generated seed rounds = record { schema = game_schema; process = process_id; defs = game_def ∷ []; events = game_made ++ rounds_from seed rounds }
