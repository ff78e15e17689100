-- Examples: lives of a room, with what each records and is given; worked out by hand.
use Rattle.std.specs.Prelude.{◌≡◌, ℕ, Bool, true, false, List, [], ◌∷◌, map, pos, Some, None, codes, refl}
use Rattle.state_model.specs.declared.row.RowEntry.{RowEntry}
use Rattle.state_model.specs.declared.row.Row.TheVariants.{Struct}
use Rattle.state_model.proofs.Examples as ex
use Rattle.wire_model.proofs.Opened.{reading}
use Rattle.frame_model.specs.declared.frame.MsgKind.TheVariants as kind
use Rattle.room_model.specs.declared.definition.RoomDef.{RoomDef}
use Rattle.room_model.specs.declared.event.Act.TheVariants as act
use Rattle.room_model.specs.declared.event.RoomEvent.{RoomEvent}
use Rattle.room_model.specs.declared.event.RoomEvent.TheVariants as event
use Rattle.room_model.specs.Room.{join_frame, unread_frame}
use Rattle.life_model.specs.Entries.{Record, Opened, Framed, Told, Ticked, Dropped, Kicked, Lapsed, Sending, Frame, Closing}
use Rattle.life_model.specs.Sent.{full_frame}
use Rattle.life_model.specs.RoomLives.{RoomLife, room_run}
use Rattle.room_promises.specs.RoomPromises.{CanPlay}
use Rattle.room_promises.proofs.TwoLives.{purse}

-- two places; a seat is kept for five seconds
abbrev def : RoomDef
def = record { name = codes "duel"; max = 2; seat = 15000; patch = 50; keep = 5000; filter = [] }

abbrev a : List ℕ
a = codes "aaaaaaaaa"

abbrev first : List ℕ
first = codes "token0001"

abbrev second : List ℕ
second = codes "token0002"

-- the bytes of the acknowledgement, and of the leave
abbrev ack : List ℕ
ack = 10 ∷ []

abbrev leave : List ℕ
leave = 12 ∷ []

-- the lives of a run: whether each goes on, what it records, and what it is given
abbrev lives : List RoomEvent → List RoomLife
lives events = (room_run purse def [] events).lives

abbrev go_on : List RoomEvent → List Bool
go_on events = map (λ (l : RoomLife). l.lasts) (lives events)

abbrev records : List RoomEvent → List Record
records events = map (λ (l : RoomLife). l.entries) (lives events)

abbrev given : List RoomEvent → List (List Sending)
given events = map (λ (l : RoomLife). l.outputs) (lives events)

-- ---- a session leaves, and its name is reserved again: two lives

abbrev left_and_back : List RoomEvent
left_and_back = event.Reserve a 15000 ∷ event.Enter a None first ∷ event.Frame a leave ∷ event.Reserve a 30000 ∷ event.Enter a None second ∷ []

left_can : CanPlay purse def [] left_and_back
unfolding reading
left_can = record { schema_kept = refl; follow = refl; worded = refl }

left_go_on : go_on left_and_back ≡ false ∷ true ∷ []
left_go_on = refl

left_records : records left_and_back ≡ (Opened first ∷ Framed leave ∷ []) ∷ (Opened second ∷ []) ∷ []
left_records = refl

left_given : given left_and_back ≡ (Frame (join_frame first) ∷ Closing 4000 ∷ []) ∷ (Frame (join_frame second) ∷ []) ∷ []
left_given = refl

-- ---- a reservation lapses, and so does a kept seat: two lives, of which the first is given nothing

abbrev lapsed_twice : List RoomEvent
lapsed_twice =
    event.Reserve a 15000 ∷ event.Moment 14999 ∷ event.Moment 15000
    ∷ event.Reserve a 30000 ∷ event.Enter a None first ∷ event.Lost a 20000 ∷ event.Moment 24999 ∷ event.Moment 25000 ∷ []

lapsed_can : CanPlay purse def [] lapsed_twice
unfolding reading
lapsed_can = record { schema_kept = refl; follow = refl; worded = refl }

lapsed_go_on : go_on lapsed_twice ≡ false ∷ false ∷ []
lapsed_go_on = refl

lapsed_records : records lapsed_twice ≡ (Lapsed ∷ []) ∷ (Opened first ∷ Dropped true ∷ Lapsed ∷ []) ∷ []
lapsed_records = refl

lapsed_given : given lapsed_twice ≡ [] ∷ (Frame (join_frame first) ∷ []) ∷ []
lapsed_given = refl

-- ---- a client is dropped and comes back: one life, which is given the whole state again

abbrev start : List RowEntry
start = ex.row 0 (Struct 0 []) ∷ []

abbrev back_again : List RoomEvent
back_again =
    event.Reserve a 15000 ∷ event.Enter a None first ∷ event.Frame a ack ∷ event.Tick
    ∷ event.Lost a 20000 ∷ event.Tick ∷ event.Enter a (Some first) second ∷ event.Frame a ack ∷ event.Tick ∷ []

back_can : CanPlay purse def [] back_again
unfolding reading
back_can = record { schema_kept = refl; follow = refl; worded = refl }

back_goes_on : go_on back_again ≡ true ∷ []
back_goes_on = refl

back_records : records back_again
    ≡ (Opened first ∷ Framed ack ∷ Ticked start start ∷ Dropped true ∷ Opened second ∷ Framed ack ∷ Ticked start start ∷ []) ∷ []
back_records = refl

back_given : given back_again
    ≡ (Frame (join_frame first) ∷ Frame (full_frame purse start start) ∷ Frame (join_frame second) ∷ Frame (full_frame purse start start) ∷ []) ∷ []
back_given = refl

-- ---- a kick: a closing with its code, where there is a connection; and where no seat is kept a drop ends the life

abbrev kicked_twice : List RoomEvent
kicked_twice =
    event.Reserve a 15000 ∷ event.Act (act.Kick a 4001)
    ∷ event.Reserve a 15000 ∷ event.Enter a None first ∷ event.Act act.Lock ∷ event.Act (act.Kick a 4002) ∷ event.Act act.Unlock
    ∷ event.Reserve a 15000 ∷ event.Enter a None second ∷ event.Act (act.Keep a 0) ∷ event.Lost a 20000 ∷ []

kicked_can : CanPlay purse def [] kicked_twice
unfolding reading
kicked_can = record { schema_kept = refl; follow = refl; worded = refl }

kicked_go_on : go_on kicked_twice ≡ false ∷ false ∷ false ∷ []
kicked_go_on = refl

kicked_records : records kicked_twice ≡ (Kicked 4001 ∷ []) ∷ (Opened first ∷ Kicked 4002 ∷ []) ∷ (Opened second ∷ Dropped false ∷ []) ∷ []
kicked_records = refl

kicked_given : given kicked_twice ≡ [] ∷ (Frame (join_frame first) ∷ Closing 4002 ∷ []) ∷ (Frame (join_frame second) ∷ []) ∷ []
kicked_given = refl

-- ---- messages: those told before the full state wait for it, and later ones are sent at once; a frame that can't be read is answered

abbrev first_told : List ℕ
first_told = 13 ∷ 7 ∷ 192 ∷ []

abbrev then_told : List ℕ
then_told = 13 ∷ 162 ∷ 104 ∷ 105 ∷ []

abbrev last_told : List ℕ
last_told = 17 ∷ 1 ∷ 250 ∷ 251 ∷ []

abbrev told_and_asked : List RoomEvent
told_and_asked =
    event.Reserve a 15000 ∷ event.Act (act.ToAll (kind.Num (pos 3)) []) ∷ event.Enter a None first
    ∷ event.Act (act.Send a (kind.Num (pos 7)) (192 ∷ [])) ∷ event.Frame a ack ∷ event.Act (act.ToAll (kind.Name (codes "hi")) [])
    ∷ event.Frame a (13 ∷ 5 ∷ []) ∷ event.Frame a (13 ∷ []) ∷ event.Tick ∷ event.Act (act.Raw a (kind.Num (pos 1)) (250 ∷ 251 ∷ [])) ∷ []

told_can : CanPlay purse def [] told_and_asked
unfolding reading
told_can = record { schema_kept = refl; follow = refl; worded = refl }

told_records : records told_and_asked
    ≡ (Opened first ∷ Told first_told ∷ Framed ack ∷ Told then_told ∷ Framed (13 ∷ 5 ∷ []) ∷ Framed (13 ∷ []) ∷ Ticked start start ∷ Told last_told ∷ []) ∷ []
unfolding reading
told_records = refl

told_given : given told_and_asked
    ≡ (Frame (join_frame first) ∷ Frame unread_frame ∷ Frame (full_frame purse start start) ∷ Frame first_told ∷ Frame then_told ∷ Frame last_told ∷ []) ∷ []
unfolding reading
told_given = refl
