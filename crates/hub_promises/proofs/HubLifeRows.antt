-- A run of two rooms and three clients, worked out by hand: each life's record, what it was given, and what it saw.
use Rattle.std.specs.Prelude.{◌≡◌, ℕ, ◌+◌, ◌==◌, Bool, true, false, List, [], ◌∷◌, ◌++◌, map, length, pos, Option, Some, None, Result, codes, refl, if◌then◌else◌}
use Rattle.std.specs.Fmt.{digits}
use Rattle.percent_encoding.specs.Percent.{percent_decode}
use Rattle.schema_model.specs.declared.value.Value.TheVariants as value
use Rattle.state_model.specs.declared.row.Row.TheVariants.{Struct}
use Rattle.state_model.specs.declared.row.RowEntry.{RowEntry}
use Rattle.state_model.specs.declared.command.Command.TheVariants as command
use Rattle.state_model.proofs.Examples.{flat}
use Rattle.wire_model.proofs.Opened.{reading as state_reading}
use Rattle.frame_model.proofs.Opened.{reading}
use Rattle.room_model.specs.declared.definition.RoomDef.{RoomDef}
use Rattle.frame_model.specs.declared.frame.MsgKind.TheVariants as kind
use Rattle.room_model.specs.declared.event.Act.{Act}
use Rattle.room_model.specs.declared.event.Act.TheVariants as act
use Rattle.hub_model.specs.declared.event.HubEvent.{HubEvent}
use Rattle.hub_model.specs.declared.event.HubEvent.TheVariants as event
use Rattle.hub_model.specs.declared.request.AskFault.{AskFault}
use Rattle.hub_model.specs.declared.request.Request.{Request}
use Rattle.hub_model.specs.Requests.{Said, read_request}
use Rattle.hub_model.specs.HubValues.{HubRoom, new_hub}
use Rattle.hub_model.specs.Kinds.{event_has_kept_kind}
use Rattle.life_model.specs.Entries.{Entry, Asked, Opened, Framed, Ticked, Dropped, Kicked, Lapsed, Sending, Frame, Closing}
use Rattle.life_model.specs.Followed.{takes_given, client_given}
use Rattle.life_model.specs.HubLives.{HubLife, HubRun, hub_run, is_live}
use Rattle.life_model.specs.HubPromises.{rules_of, may_come}
use Rattle.life_model.specs.Sent.{sent}

-- rooms of two places, whose seats are kept for 20 seconds, and of one
abbrev pub duel : RoomDef
duel = record { name = codes "duel"; max = 2; seat = 15000; patch = 50; keep = 20000; filter = [] }

abbrev solo : RoomDef
solo = record { name = codes "solo"; max = 1; seat = 15000; patch = 50; keep = 0; filter = [] }

-- a body of nine bytes says a token, every other one nothing
abbrev said : List ℕ → Option Said
said body = Some (record { members = []; token = if length body == 9 then Some body else None })

abbrev pub read : List RoomDef → List ℕ → List ℕ → Result Request AskFault
read defs target body = read_request defs target (said body)

abbrev pub r1 : List ℕ
r1 = codes "room00001"

abbrev pub r2 : List ℕ
r2 = codes "room00002"

abbrev pub s1 : List ℕ
s1 = codes "sess00001"

abbrev pub s2 : List ℕ
s2 = codes "sess00002"

abbrev s3 : List ℕ
s3 = codes "sess00003"

abbrev pub t1 : List ℕ
t1 = codes "tok000001"

abbrev pub t2 : List ℕ
t2 = codes "tok000002"

abbrev t3 : List ℕ
t3 = codes "tok000003"

-- the first client's room is made, the second joins it, and the third makes one of its own
abbrev coming : List HubEvent
coming =
    event.Ask 1 (codes "/matchmake/joinOrCreate/duel") [] r1 s1 ∷ event.Opening 2 (codes "/proc00001/room00001?sessionId=sess00001") t1 ∷ event.Frame 2 (10 ∷ [])
    ∷ event.Ask 1 (codes "/matchmake/join/duel") [] r2 s2 ∷ event.Opening 3 (codes "/proc00001/room00001?sessionId=sess00002") t2 ∷ event.Ask 1 (codes "/matchmake/create/solo") [] r2 s3 ∷ []

-- a tick; the second client drops and comes back; a tick
abbrev playing : List HubEvent
playing =
    event.Act r1 (act.State (command.Put 0 0 (value.Whole (pos 5)))) ∷ event.Tick r1 ∷ event.Lost 3 ∷ event.At 5 ∷ event.Ask 1 (codes "/matchmake/reconnect/room00001") t2 r2 s3
    ∷ event.Opening 3 (codes "/proc00001/room00001?sessionId=sess00001") t3
    ∷ event.Opening 4 (codes "/proc00001/room00001?sessionId=sess00002&reconnectionToken=tok000002") t3 ∷ event.Frame 4 (10 ∷ []) ∷ event.Tick r1 ∷ []

-- the third's reservation lapses, the first is kicked, and the second leaves
abbrev going : List HubEvent
going = event.At 15000 ∷ event.Act r1 (act.Kick s1 4001) ∷ event.Bad 4 ∷ event.Frame 4 (12 ∷ []) ∷ []

abbrev run : List HubEvent → HubRun
run es = hub_run (rules_of read) (new_hub flat (codes "proc00001") (duel ∷ solo ∷ [])) es

-- ---- what is expected

abbrev pub seated : ℕ → ℕ → List ℕ → List ℕ → List ℕ → List ℕ
seated used max name room session =
    codes "{\"room\":{\"clients\":" ++ ((48 + used) ∷ codes ",\"maxClients\":" ++
    ((48 + max) ∷ codes ",\"name\":\"" ++ (name ++ (codes "\",\"processId\":\"proc00001\",\"roomId\":\"" ++ (room ++ (codes "\"},\"sessionId\":\"" ++ (session ++ codes "\"}")))))))

abbrev pub join : List ℕ → Sending
join token = Frame (10 ∷ 9 ∷ (token ++ (6 ∷ codes "schema")))

-- the root alone, and with x = 5
abbrev root : List RowEntry
root = record { who = 0; row = Struct 0 [] } ∷ []

abbrev pub five : List RowEntry
five = record { who = 0; row = Struct 0 (record { field = 0; value = value.Whole (pos 5) } ∷ []) } ∷ []

-- what is told of a life
abbrev tells : HubLife → (List ℕ × List ℕ) × Bool
tells l = ((l.room, l.session), l.lasts)

-- with what it was given
abbrev tells_all : HubLife → ((List ℕ × List ℕ) × Bool) × List Sending
tells_all l = (tells l, l.outputs)

-- ---- the lives

three_lives_begin : map tells (run coming).lives ≡ ((r1, s1), true) ∷ ((r1, s2), true) ∷ ((r2, s3), true) ∷ []
unfolding digits reading percent_decode
three_lives_begin = refl

live_after_a_tick : (let x = run (coming ++ playing) in map (is_live x.hub) x.lives) ≡ true ∷ true ∷ false ∷ []
unfolding digits reading percent_decode
live_after_a_tick = refl

all_have_ended : map tells (run (coming ++ (playing ++ going))).lives ≡ ((r1, s1), false) ∷ ((r1, s2), false) ∷ ((r2, s3), false) ∷ []
unfolding digits reading percent_decode
all_have_ended = refl

-- the first: a request, an opening, ticks, a kick
abbrev first_record : List Entry
first_record =
    Asked (codes "/matchmake/joinOrCreate/duel") [] (seated 1 2 (codes "duel") r1 s1) ∷ Opened t1 ∷ Framed (10 ∷ []) ∷ Ticked five five ∷ Ticked five five ∷ Kicked 4001 ∷ []

-- the second: a drop, a request and an opening by its token, and its own leave; another's opening of a used seat is none of it, and so
-- is the closing of what is no request
abbrev second_record : List Entry
second_record =
    Asked (codes "/matchmake/join/duel") [] (seated 2 2 (codes "duel") r1 s2) ∷ Opened t2 ∷ Dropped true ∷ Asked (codes "/matchmake/reconnect/room00001") t2 (seated 2 2 (codes "duel") r1 s2) ∷ Opened t3
    ∷ Framed (10 ∷ []) ∷ Ticked five five ∷ Framed (12 ∷ []) ∷ []

-- the third: a request, and a lapse
abbrev third_record : List Entry
third_record = Asked (codes "/matchmake/create/solo") [] (seated 1 1 (codes "solo") r2 s3) ∷ Lapsed ∷ []

their_records : map (λ (l : HubLife). l.entries) (run (coming ++ (playing ++ going))).lives ≡ first_record ∷ second_record ∷ third_record ∷ []
unfolding digits reading percent_decode
their_records = refl

abbrev first_given : List Sending
first_given = join t1 ∷ Frame (14 ∷ 128 ∷ 5 ∷ []) ∷ Closing 4001 ∷ []

abbrev second_given : List Sending
second_given = join t2 ∷ join t3 ∷ Frame (14 ∷ 128 ∷ 5 ∷ []) ∷ Closing 4000 ∷ []

they_were_given : map (λ (l : HubLife). l.outputs) (run (coming ++ (playing ++ going))).lives ≡ first_given ∷ second_given ∷ [] ∷ []
unfolding digits reading percent_decode
they_were_given = refl

-- which is what their records are sent
they_are_sent : map (sent flat) (first_record ∷ second_record ∷ third_record ∷ []) ≡ first_given ∷ second_given ∷ [] ∷ []
unfolding digits reading percent_decode
they_are_sent = refl

they_saw : map (λ (l : HubLife). l.view) (run (coming ++ (playing ++ going))).lives ≡ five ∷ five ∷ root ∷ []
unfolding digits reading percent_decode
they_saw = refl

-- a client that follows a life refuses nothing of all that it was given
they_take_all : map (λ (l : HubLife). takes_given flat l.outputs) (run (coming ++ (playing ++ going))).lives ≡ true ∷ true ∷ true ∷ []
unfolding digits reading state_reading percent_decode
they_take_all = refl

-- and while it is live has the rows that it may see; the third had no full state
abbrev followed_rows : HubLife → List RowEntry
followed_rows l = (client_given flat l.outputs).rows

they_follow : map followed_rows (run (coming ++ playing)).lives ≡ five ∷ five ∷ root ∷ []
unfolding digits reading state_reading percent_decode
they_follow = refl

-- the rooms are gone
no_room_is_left : map (λ (r : HubRoom). r.id) (run (coming ++ playing)).hub.rooms ∷ map (λ (r : HubRoom). r.id) (run (coming ++ (playing ++ going))).hub.rooms ∷ [] ≡ (r1 ∷ r2 ∷ []) ∷ [] ∷ []
unfolding digits reading percent_decode
no_room_is_left = refl

-- ---- two lives of one room and session

-- a session leaves, the room is disposed of, and both ids are drawn again: the life that has ended stays as it was
ids_come_again :
    (let x = run (event.Ask 1 (codes "/matchmake/create/solo") [] r1 s1 ∷ event.Act r1 (act.Kick s1 4001) ∷ event.Ask 1 (codes "/matchmake/create/solo") [] r1 s1 ∷ event.Opening 2 (codes "/proc00001/room00001?sessionId=sess00001") t1 ∷ []) in
    map tells_all x.lives) ≡ (((r1, s1), false), []) ∷ (((r1, s1), true), join t1 ∷ []) ∷ []
unfolding digits reading percent_decode
ids_come_again = refl

-- ---- messages

-- an act before the first client's full state, and again behind it
abbrev told : Act → List HubEvent
told a = event.Frame 2 (10 ∷ []) ∷ event.Act r1 a ∷ event.Tick r1 ∷ event.Act r1 a ∷ []

-- of a message to all the first waits for the full state, and the next is sent at once
abbrev hi : List ℕ
hi = 13 ∷ 162 ∷ 104 ∷ 105 ∷ 192 ∷ []

they_are_told : map (λ (l : HubLife). l.outputs) (run (coming ++ told (act.ToAll (kind.Name (codes "hi")) (192 ∷ [])))).lives ≡ (join t1 ∷ Frame (14 ∷ []) ∷ Frame hi ∷ Frame hi ∷ []) ∷ (join t2 ∷ []) ∷ [] ∷ []
unfolding digits reading percent_decode
they_are_told = refl

-- both are taken
messages_are_taken : map (λ (l : HubLife). takes_given flat l.outputs) (run (coming ++ told (act.ToAll (kind.Name (codes "hi")) (192 ∷ [])))).lives ≡ true ∷ true ∷ true ∷ []
unfolding digits reading state_reading percent_decode
messages_are_taken = refl

-- a message may come about a name that isn't UTF-8 or a number that isn't one of 32 bits; no program has such a kind
abbrev comes_with_kind : Act → Bool × Bool
comes_with_kind a = (may_come (event.Act r1 a), event_has_kept_kind (event.Act r1 a))

other_kinds : map comes_with_kind (act.Send s1 (kind.Name (255 ∷ [])) [] ∷ act.Raw s1 (kind.Name (255 ∷ [])) [] ∷ act.ToAll (kind.Num (pos 2147483648)) [] ∷ act.Send s1 (kind.Num (pos 2147483647)) [] ∷ [])
    ≡ (true, false) ∷ (true, false) ∷ (true, false) ∷ (true, true) ∷ []
unfolding reading
other_kinds = refl

-- no client takes the first of them: that is why the clients' law asks for kinds such as a program has
other_is_refused : map (λ (l : HubLife). takes_given flat l.outputs) (run (coming ++ told (act.ToAll (kind.Name (255 ∷ [])) []))).lives ≡ false ∷ true ∷ true ∷ []
unfolding digits reading state_reading percent_decode
other_is_refused = refl
