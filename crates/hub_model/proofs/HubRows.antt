-- What a hub gives for each event, and each refusal: examples worked out by hand.
use Rattle.std.specs.Prelude.{◌≡◌, ℕ, ◌+◌, ◌/◌, ◌%◌, ◌==◌, List, [], ◌∷◌, ◌++◌, map, length, pos, Option, Some, None, codes, refl, if◌then◌else◌}
use Rattle.std.specs.Fmt.{digits}
use Rattle.std.specs.Str.{bytes_eq}
use Rattle.percent_encoding.specs.Percent.{percent_decode}
use Rattle.schema_model.specs.declared.value.Value.TheVariants as value
use Rattle.state_model.specs.declared.command.Command.TheVariants as command
use Rattle.state_model.proofs.Examples.{flat}
use Rattle.frame_model.specs.declared.frame.MsgKind.TheVariants as kind
use Rattle.frame_model.proofs.Opened.{reading}
use Rattle.room_model.specs.declared.definition.RoomDef.{RoomDef}
use Rattle.room_model.specs.declared.event.Act.TheVariants as act
use Rattle.room_model.specs.declared.refusal.Refusal.TheVariants as refusal
use Rattle.room_model.specs.Room.{room_step}
use Rattle.hub_model.specs.declared.event.HubEvent.{HubEvent}
use Rattle.hub_model.specs.declared.event.HubEvent.TheVariants as event
use Rattle.hub_model.specs.declared.event.HubOut.{HubOut}
use Rattle.hub_model.specs.declared.event.HubOut.TheVariants as out
use Rattle.hub_model.specs.Requests.{Said, read_request}
use Rattle.hub_model.specs.HubValues.{HubValue, new_hub}
use Rattle.hub_model.specs.HubStep.{Rules, hub_step, hub_after}

-- rooms of two places and of one, whose seats are kept for 20 seconds, and rooms that go by a mode, whose seats are not kept
abbrev duel : RoomDef
duel = record { name = codes "duel"; max = 2; seat = 15000; patch = 50; keep = 20000; filter = [] }

abbrev solo : RoomDef
solo = record { name = codes "solo"; max = 1; seat = 15000; patch = 50; keep = 20000; filter = [] }

abbrev team : RoomDef
team = record { name = codes "team"; max = 2; seat = 15000; patch = 50; keep = 0; filter = codes "mode" ∷ [] }

-- what these bodies say: nothing; a mode; a token; else they say nothing that can be read
abbrev said : List ℕ → Option Said
said body =
    if length body == 0 then Some (record { members = []; token = None })
    else if bytes_eq body (codes "a") then Some (record { members = record { key = codes "mode"; text = codes "\"a\"" } ∷ []; token = None })
    else if bytes_eq body (codes "b") then Some (record { members = record { key = codes "mode"; text = codes "\"b\"" } ∷ []; token = None })
    else if length body == 9 then Some (record { members = []; token = Some body })
    else None

abbrev rules : Rules
rules = record { step = room_step; read = λ defs target body. read_request defs target (said body) }

abbrev hub : HubValue
hub = new_hub flat (codes "proc00001") (duel ∷ solo ∷ team ∷ [])

-- ids
abbrev r1 : List ℕ
r1 = codes "room00001"

abbrev r2 : List ℕ
r2 = codes "room00002"

abbrev s1 : List ℕ
s1 = codes "sess00001"

abbrev s2 : List ℕ
s2 = codes "sess00002"

abbrev s3 : List ℕ
s3 = codes "sess00003"

abbrev t1 : List ℕ
t1 = codes "tok000001"

abbrev t2 : List ℕ
t2 = codes "tok000002"

-- events
abbrev ask : List ℕ → List ℕ → List ℕ → HubEvent
ask target room session = event.Ask 1 (codes "/matchmake/" ++ target) [] room session

abbrev entered : ℕ → List ℕ → List ℕ → List ℕ → HubEvent
entered conn room session fresh = event.Opening conn (codes "/proc00001/" ++ (room ++ (codes "?sessionId=" ++ session))) fresh

abbrev returned : ℕ → List ℕ → List ℕ → List ℕ → List ℕ → HubEvent
returned conn room session token fresh = event.Opening conn (codes "/proc00001/" ++ (room ++ (codes "?sessionId=" ++ (session ++ (codes "&reconnectionToken=" ++ token))))) fresh

abbrev acknowledge : ℕ → HubEvent
acknowledge conn = event.Frame conn (10 ∷ [])

-- what each of these events gives, one after another
abbrev gives : HubValue → List HubEvent → List (List HubOut)
gives h [] = []
gives h (e ∷ es) = (hub_step rules h e).1 ∷ gives (hub_step rules h e).0 es

-- the last of them
abbrev last_of : List (List HubOut) → List HubOut
last_of [] = []
last_of (o ∷ []) = o
last_of (o ∷ p ∷ os) = last_of (p ∷ os)

abbrev at_last : List HubEvent → List HubOut
at_last es = last_of (gives hub es)

-- ---- requests

abbrev refused : ℕ → List ℕ → List HubOut
refused code text = out.Reply 1 (codes "{\"code\":" ++ (codes "42" ++ ((48 + code / 10) ∷ (48 + code % 10) ∷ codes ",\"error\":\"" ++ (text ++ codes "\"}")))) ∷ []

-- a seat of a room of this name
abbrev seated : ℕ → ℕ → List ℕ → List ℕ → List ℕ → HubOut
seated used max name room session =
    out.Reply 1 (codes "{\"room\":{\"clients\":" ++ ((48 + used) ∷ codes ",\"maxClients\":" ++
    ((48 + max) ∷ codes ",\"name\":\"" ++ (name ++ (codes "\",\"processId\":\"proc00001\",\"roomId\":\"" ++ (room ++ (codes "\"},\"sessionId\":\"" ++ (session ++ codes "\"}"))))))))

requests_that_are_none :
    gives hub (ask (codes "swap/duel") r1 s1 ∷ event.Ask 1 (codes "/matchmake/join/duel") (codes "[]") r1 s1 ∷ ask (codes "join/none") r1 s1 ∷ ask (codes "join/duel") r1 s1 ∷ ask (codes "joinById/nope") r1 s1 ∷ [])
    ≡ refused 10 (codes "no method") ∷ refused 17 (codes "invalid payload") ∷ refused 10 (codes "no handler") ∷ refused 11 (codes "no room meets the criteria") ∷ refused 12 (codes "room nope not found") ∷ []
unfolding digits reading percent_decode
requests_that_are_none = refl

-- ---- a client comes

abbrev join : ℕ → List ℕ → HubOut
join conn token = out.Send conn (10 ∷ 9 ∷ (token ++ (6 ∷ codes "schema")))

-- a room is made for it, its seat is opened, and it is live
abbrev coming : List HubEvent
coming = ask (codes "joinOrCreate/duel") r1 s1 ∷ entered 2 r1 s1 t1 ∷ acknowledge 2 ∷ event.Act r1 (act.State (command.Put 0 0 (value.Whole (pos 5)))) ∷ event.Tick r1 ∷ []

a_client_comes : gives hub coming ≡ (out.Created r1 (codes "duel") ∷ seated 1 2 (codes "duel") r1 s1 ∷ []) ∷ (out.Joined r1 s1 ∷ join 2 t1 ∷ []) ∷ [] ∷ [] ∷ (out.Send 2 (14 ∷ 128 ∷ 5 ∷ []) ∷ []) ∷ []
unfolding digits reading percent_decode
a_client_comes = refl

-- ---- rooms by their criteria

abbrev asked : List ℕ → List ℕ → List ℕ → List ℕ → HubEvent
asked target body room session = event.Ask 1 (codes "/matchmake/" ++ target) body room session

another_mode_has_another_room :
    gives hub (asked (codes "joinOrCreate/team") (codes "a") r1 s1 ∷ asked (codes "join/team") (codes "b") r2 s2 ∷ asked (codes "joinOrCreate/team") (codes "b") r2 s2 ∷ asked (codes "join/team") (codes "b") r1 s3 ∷ [])
    ≡ (out.Created r1 (codes "team") ∷ seated 1 2 (codes "team") r1 s1 ∷ []) ∷ refused 11 (codes "no room meets the criteria")
    ∷ (out.Created r2 (codes "team") ∷ seated 1 2 (codes "team") r2 s2 ∷ []) ∷ (seated 2 2 (codes "team") r2 s3 ∷ []) ∷ []
unfolding digits reading percent_decode
another_mode_has_another_room = refl

-- ---- ids that are drawn

ids_in_use_are_refused :
    gives hub (ask (codes "create/duel") r1 s1 ∷ ask (codes "create/duel") r1 s2 ∷ ask (codes "create/duel") r2 s1 ∷ ask (codes "create/duel") s1 r1 ∷ ask (codes "join/duel") r2 s1 ∷ ask (codes "joinById/room00001") r2 r1 ∷ [])
    ≡ (out.Created r1 (codes "duel") ∷ seated 1 2 (codes "duel") r1 s1 ∷ []) ∷ refused 13 (codes "id room00001 is in use") ∷ refused 13 (codes "id sess00001 is in use")
    ∷ refused 13 (codes "id sess00001 is in use") ∷ refused 13 (codes "id sess00001 is in use") ∷ refused 13 (codes "id room00001 is in use") ∷ []
unfolding digits reading percent_decode
ids_in_use_are_refused = refl

equal_ids_are_taken : gives hub (ask (codes "create/duel") r1 r1 ∷ []) ≡ (out.Created r1 (codes "duel") ∷ seated 1 2 (codes "duel") r1 r1 ∷ []) ∷ []
unfolding digits reading percent_decode
equal_ids_are_taken = refl

-- ---- openings that are refused

abbrev no_such_room : ℕ → List HubOut
no_such_room conn = out.Send conn (11 ∷ 205 ∷ 116 ∷ 16 ∷ 172 ∷ codes "no such room") ∷ out.Close conn 4002 ∷ []

abbrev seat_expired : ℕ → List HubOut
seat_expired conn = out.Send conn (11 ∷ 205 ∷ 118 ∷ 16 ∷ 172 ∷ codes "seat expired") ∷ out.Close conn 4002 ∷ []

abbrev token_in_use : ℕ → List HubOut
token_in_use conn = out.Send conn (11 ∷ 205 ∷ 117 ∷ 16 ∷ 182 ∷ codes "id tok000001 is in use") ∷ out.Close conn 4002 ∷ []

openings_that_are_refused :
    gives hub (coming ++ event.Opening 3 (codes "/proc00002/room00001?sessionId=sess00001") t2 ∷ event.Opening 3 (codes "/proc00001/room00002?sessionId=sess00001") t2 ∷ event.Opening 3 (codes "/") t2
    ∷ entered 2 r1 s2 t2 ∷ event.Opening 2 (codes "/") t2 ∷ entered 3 r1 s1 t2 ∷ entered 3 r1 s2 t2 ∷ ask (codes "join/duel") r2 s2 ∷ entered 3 r1 s2 t1 ∷ entered 3 r1 s2 t2 ∷ [])
    ≡ gives hub coming ++ no_such_room 3 ∷ no_such_room 3 ∷ no_such_room 3
    ∷ (out.Refused refusal.ConnInUse ∷ []) ∷ (out.Refused refusal.ConnInUse ∷ []) ∷ seat_expired 3 ∷ seat_expired 3 ∷ (seated 2 2 (codes "duel") r1 s2 ∷ []) ∷ token_in_use 3 ∷ (out.Joined r1 s2 ∷ join 3 t2 ∷ []) ∷ []
unfolding digits reading percent_decode
openings_that_are_refused = refl

-- ---- events that go no further than the hub

unknown_ones_are_refused :
    gives hub (coming ++ acknowledge 9 ∷ event.Lost 9 ∷ event.Tick r2 ∷ event.Act r2 act.Lock ∷ event.Act r1 (act.Kick s2 4001) ∷ [])
    ≡ gives hub coming ++ (out.Refused refusal.NoConn ∷ []) ∷ (out.Refused refusal.NoConn ∷ []) ∷ (out.Refused refusal.NoRoom ∷ []) ∷ (out.Refused refusal.NoRoom ∷ []) ∷ (out.Refused refusal.NoSession ∷ []) ∷ []
unfolding digits reading percent_decode
unknown_ones_are_refused = refl

-- what is no request closes the connection, and leaves a session that it has
a_bad_connection_keeps_its_session : gives hub (coming ++ event.Bad 2 ∷ event.Act r1 (act.State (command.Put 0 0 (value.Whole (pos 6)))) ∷ event.Tick r1 ∷ event.Bad 7 ∷ [])
    ≡ gives hub coming ++ (out.Close 2 1002 ∷ []) ∷ [] ∷ (out.Send 2 (15 ∷ 0 ∷ 6 ∷ []) ∷ []) ∷ (out.Close 7 1002 ∷ []) ∷ []
unfolding digits reading percent_decode
a_bad_connection_keeps_its_session = refl

-- ---- messages

messages_are_told : gives hub (coming ++ event.Frame 2 (13 ∷ 164 ∷ codes "move") ∷ event.Frame 2 (17 ∷ 3 ∷ 7 ∷ []) ∷ event.Frame 2 (99 ∷ []) ∷ event.Act r1 (act.Send s1 (kind.Name (codes "a")) (192 ∷ [])) ∷ [])
    ≡ gives hub coming ++ (out.Message r1 s1 (kind.Name (codes "move")) [] ∷ []) ∷ (out.RawMessage r1 s1 (kind.Num (pos 3)) (7 ∷ []) ∷ [])
    ∷ (out.Send 2 (11 ∷ 205 ∷ 121 ∷ 16 ∷ 175 ∷ codes "invalid payload") ∷ []) ∷ (out.Send 2 (13 ∷ 161 ∷ 97 ∷ 192 ∷ []) ∷ []) ∷ []
unfolding digits reading percent_decode
messages_are_told = refl

-- ---- ends

-- a leave and a kick close the connection, which has no session from then on; the room is disposed of behind all else
a_leave_ends_it : gives hub (coming ++ event.Frame 2 (12 ∷ []) ∷ acknowledge 2 ∷ event.Tick r1 ∷ [])
    ≡ gives hub coming ++ (out.Close 2 4000 ∷ out.Left r1 s1 ∷ out.Disposed r1 ∷ []) ∷ (out.Refused refusal.NoConn ∷ []) ∷ (out.Refused refusal.NoRoom ∷ []) ∷ []
unfolding digits reading percent_decode
a_leave_ends_it = refl

a_kick_ends_it : gives hub (coming ++ event.Act r1 (act.Kick s1 4001) ∷ event.Lost 2 ∷ [])
    ≡ gives hub coming ++ (out.Close 2 4001 ∷ out.Left r1 s1 ∷ out.Disposed r1 ∷ []) ∷ (out.Refused refusal.NoConn ∷ []) ∷ []
unfolding digits reading percent_decode
a_kick_ends_it = refl

-- a kick of a reservation has no connection to close, and leaves the room where another has a place
a_kick_of_a_reservation : gives hub (coming ++ ask (codes "join/duel") r2 s2 ∷ event.Act r1 (act.Kick s2 4001) ∷ [])
    ≡ gives hub coming ++ (seated 2 2 (codes "duel") r1 s2 ∷ []) ∷ (out.Left r1 s2 ∷ []) ∷ []
unfolding digits reading percent_decode
a_kick_of_a_reservation = refl

-- a seat whose keep time is 0 ends with its connection
a_loss_ends_it : gives hub (ask (codes "create/team") r1 s1 ∷ entered 2 r1 s1 t1 ∷ event.Lost 2 ∷ [])
    ≡ (out.Created r1 (codes "team") ∷ seated 1 2 (codes "team") r1 s1 ∷ []) ∷ (out.Joined r1 s1 ∷ join 2 t1 ∷ []) ∷ (out.Left r1 s1 ∷ out.Disposed r1 ∷ []) ∷ []
unfolding digits reading percent_decode
a_loss_ends_it = refl

-- ---- lapses

a_place_comes_free :
    gives hub (ask (codes "create/duel") r1 s1 ∷ entered 2 r1 s1 t1 ∷ ask (codes "joinById/room00001") r2 s2 ∷ event.At 14999 ∷ ask (codes "joinById/room00001")
    r2 s3 ∷ event.At 15000 ∷ entered 3 r1 s2 t2 ∷ ask (codes "joinById/room00001") r2 s3 ∷ [])
    ≡ (out.Created r1 (codes "duel") ∷ seated 1 2 (codes "duel") r1 s1 ∷ []) ∷ (out.Joined r1 s1 ∷ join 2 t1 ∷ []) ∷ (seated 2 2 (codes "duel") r1 s2 ∷ []) ∷ [] ∷ refused 12 (codes "room room00001 is locked") ∷ []
    ∷ seat_expired 3 ∷ (seated 2 2 (codes "duel") r1 s3 ∷ []) ∷ []
unfolding digits reading percent_decode
a_place_comes_free = refl

-- what lapses by one moment does so room by room, in the order of their creation, whatever its own moment; then empty rooms go
rooms_lapse_in_their_order :
    gives hub (ask (codes "create/duel") r1 s1 ∷ ask (codes "create/solo") r2 s2 ∷ entered 2 r1 s1 t1 ∷ entered 3 r2 s2 t2 ∷ event.Lost 3 ∷ event.At 5 ∷ event.Lost 2 ∷ event.At 30000 ∷ [])
    ≡ (out.Created r1 (codes "duel") ∷ seated 1 2 (codes "duel") r1 s1 ∷ []) ∷ (out.Created r2 (codes "solo") ∷ seated 1 1 (codes "solo") r2 s2 ∷ []) ∷ (out.Joined r1 s1 ∷ join 2 t1 ∷ []) ∷ (out.Joined r2 s2 ∷ join 3 t2 ∷ [])
    ∷ (out.Dropped r2 s2 ∷ []) ∷ [] ∷ (out.Dropped r1 s1 ∷ []) ∷ (out.Left r1 s1 ∷ out.Left r2 s2 ∷ out.Disposed r1 ∷ out.Disposed r2 ∷ []) ∷ []
unfolding digits reading percent_decode
rooms_lapse_in_their_order = refl

-- the moment never goes back, and one past the last counts as the last
the_moment_goes_on : map (λ es. (hub_after rules hub es).now) ((event.At 7 ∷ []) ∷ (event.At 7 ∷ event.At 3 ∷ []) ∷ (event.At 9007199254740992 ∷ []) ∷ []) ≡ 7 ∷ 7 ∷ 9007199254740991 ∷ []
the_moment_goes_on = refl

-- ---- a seat that is kept

a_kept_seat_is_taken_back :
    gives hub (ask (codes "create/solo") r1 s1 ∷ entered 2 r1 s1 t1 ∷ event.At 100 ∷ event.Lost 2 ∷ ask (codes "joinById/room00001") r2 s2 ∷ asked (codes "reconnect/room00001") t1 r2 s2 ∷ returned 3 r1 s1 t1 t2 ∷ acknowledge 3 ∷ event.Tick r1
    ∷ asked (codes "reconnect/room00001") t1 r2 s2 ∷ returned 4 r1 s1 t1 t1 ∷ [])
    ≡ (out.Created r1 (codes "solo") ∷ seated 1 1 (codes "solo") r1 s1 ∷ []) ∷ (out.Joined r1 s1 ∷ join 2 t1 ∷ []) ∷ [] ∷ (out.Dropped r1 s1 ∷ []) ∷ refused 12 (codes "room room00001 is locked")
    ∷ (seated 1 1 (codes "solo") r1 s1 ∷ []) ∷ (out.Returned r1 s1 ∷ join 3 t2 ∷ []) ∷ [] ∷ (out.Send 3 (14 ∷ []) ∷ []) ∷ refused 14 (codes "seat expired") ∷ seat_expired 4 ∷ []
unfolding digits reading percent_decode
a_kept_seat_is_taken_back = refl

-- a kept seat by its own token as the fresh one
a_fresh_token_in_use_is_refused :
    at_last (ask (codes "create/solo") r1 s1 ∷ entered 2 r1 s1 t1 ∷ event.Lost 2 ∷ returned 3 r1 s1 t1 t1 ∷ []) ∷ at_last (ask (codes "create/solo") r1 s1 ∷ entered 2 r1 s1 t1 ∷ event.Lost 2 ∷ asked (codes "reconnect/room00002") t1 r2 s2 ∷ [])
    ∷ [] ≡ token_in_use 3 ∷ refused 12 (codes "room room00002 not found") ∷ []
unfolding digits reading percent_decode
a_fresh_token_in_use_is_refused = refl
