-- Examples: what each event of a room adds to a life's record and to what it is given, by rooms before and after it; worked out by hand.
use Rattle.std.specs.Prelude.{◌≡◌, ℕ, Bool, true, false, List, [], ◌∷◌, ◌++◌, map, Option, Some, None, ℤ, pos, codes, refl}
use Rattle.std.specs.List.{flat_map, repeat}
use Rattle.schema_model.specs.Classes.{Schema}
use Rattle.schema_model.specs.declared.class.FieldDecl.{FieldDecl}
use Rattle.schema_model.specs.declared.class.Shape.TheVariants as shape
use Rattle.schema_model.specs.declared.class.Item.TheVariants as item
use Rattle.schema_model.specs.declared.scalar.ScalarKind.TheVariants as kind
use Rattle.schema_model.specs.declared.value.Value.TheVariants as value
use Rattle.state_model.specs.declared.row.Row.TheVariants.{Struct}
use Rattle.state_model.specs.declared.row.RowEntry.{RowEntry}
use Rattle.state_model.specs.declared.command.Command.TheVariants as command
use Rattle.state_model.specs.Members.{no_members}
use Rattle.frame_model.specs.declared.frame.MsgKind.TheVariants.{Name, Num}
use Rattle.room_model.specs.declared.definition.RoomDef.{RoomDef}
use Rattle.room_model.specs.declared.event.Act.{Act}
use Rattle.room_model.specs.declared.event.Act.TheVariants as act
use Rattle.room_model.specs.declared.event.RoomEvent.{RoomEvent}
use Rattle.room_model.specs.declared.event.RoomEvent.TheVariants as event
use Rattle.room_model.specs.declared.event.RoomOut.{RoomOut}
use Rattle.room_model.specs.declared.event.RoomOut.TheVariants as out
use Rattle.room_model.specs.declared.event.Stage.{Stage}
use Rattle.room_model.specs.declared.event.Stage.TheVariants as stage
use Rattle.room_model.specs.declared.refusal.Refusal.TheVariants as refusal
use Rattle.room_model.specs.declared.seat.Seat.TheVariants as seat
use Rattle.room_model.specs.Seats.{Seats, reserved_seat, seated}
use Rattle.room_model.specs.Sessions.{Session}
use Rattle.room_model.specs.Room.{RoomValue}
use Rattle.life_model.specs.Entries.{Entry, Opened, Framed, Told, Ticked, Dropped, Kicked, Lapsed, Sending, Frame, Closing}
use Rattle.life_model.specs.RoomLives.{RoomLife, room_entries, given_by, lived, begun}

-- ---- the rooms

-- one class of two numbers; the second is shown under the tag 1
abbrev number_field : List ℕ → Option ℤ → FieldDecl
number_field name tag = record { name = name; shape = shape.One (item.Scalar kind.Number); tag = tag }

abbrev schema : Schema
schema = record {
  classes = record { name = codes "State"; parent = None; own = number_field (codes "x") None ∷ number_field (codes "y") (Some (pos 1)) ∷ [] } ∷ [];
  root = 0;
}

-- the root alone; with the first number, which all see; with both
abbrev root : List RowEntry
root = record { who = 0; row = Struct 0 [] } ∷ []

abbrev one_number : ℕ → List RowEntry
one_number n = record { who = 0; row = Struct 0 (record { field = 0; value = value.Whole (pos n) } ∷ []) } ∷ []

abbrev both_numbers : ℕ → List RowEntry
both_numbers n =
    record {
      who = 0;
      row = Struct 0 (record { field = 0; value = value.Whole (pos n) } ∷ record { field = 1; value = value.Whole (pos 9) } ∷ []);
    } ∷ []

abbrev duel : RoomDef
duel = record { name = codes "duel"; max = 4; seat = 15000; patch = 50; keep = 0; filter = [] }

-- the life's session, and another one
abbrev mine : List ℕ
mine = codes "sess00001"

abbrev other : List ℕ
other = codes "sess00002"

-- the session at a stage, which sees the tag; and the other one, which doesn't
abbrev my_session : Stage → Session
my_session s = record {
  id = mine;
  stage = s;
  members = record { now = record { who = 0; tag = pos 1 } ∷ []; last = []; kept = [] };
  permitted = root;
  queue = [];
  keep = 0;
}

abbrev other_session : Session
other_session = record { id = other; stage = stage.Live; members = no_members; permitted = one_number 5; queue = []; keep = 0 }

-- the places: the other session has a seat, and the life's session what its stage takes
abbrev other_seat : Seats
other_seat = record {
  max = 4;
  locked = false;
  entries = record { session = other; seat = seat.Taken (codes "token0002") } ∷ [];
}

abbrev my_reservation : Seats
my_reservation = reserved_seat other_seat mine 15000

abbrev my_seat : Seats
my_seat = seated my_reservation mine (seat.Taken (codes "token0001"))

abbrev seats_at : Option Stage → Seats
seats_at None = other_seat
seats_at (Some stage.Reserved) = my_reservation
seats_at (Some stage.Kept) = seated my_seat mine (seat.Kept (codes "token0001") 20000)
seats_at (Some s) = my_seat

abbrev sessions_at : Option Stage → List Session
sessions_at None = other_session ∷ []
sessions_at (Some s) = other_session ∷ my_session s ∷ []

-- a room with a number
abbrev room_with : ℕ → Seats → List Session → RoomValue
room_with n seats sessions = record {
  schema = schema;
  def = duel;
  criteria = [];
  state = record { rows = both_numbers n; given = 0; counts = [] };
  shared = one_number n;
  seats = seats;
  sessions = sessions;
}

-- with the life's session at a stage, and without it
abbrev room_at : ℕ → Option Stage → RoomValue
room_at n s = room_with n (seats_at s) (sessions_at s)

abbrev there : Stage → RoomValue
there s = room_at 5 (Some s)

abbrev gone : RoomValue
gone = room_at 5 None

abbrev stages : List Stage
stages = stage.Reserved ∷ stage.Joining ∷ stage.Due ∷ stage.Live ∷ stage.Kept ∷ []

-- ---- what an event adds to the record

abbrev entries : RoomValue → RoomEvent → RoomValue → List Entry
entries before e after = room_entries before e after mine

-- at each stage, where the session stays at it
abbrev at_each : RoomEvent → List (List Entry)
at_each e = map (λ s. entries (there s) e (there s)) stages

-- no entry at any stage
abbrev none : List (List Entry)
none = repeat 5 ([] ∷ [])

-- ---- an opening

abbrev opening : RoomEvent
opening = event.Enter mine None (codes "token0003")

-- an opening that gives the session a connection, by its reservation or its kept seat
opened : map (λ s. entries (there s) opening (there stage.Joining)) (stage.Reserved ∷ stage.Kept ∷ [])
    ≡ repeat 2 ((Opened (codes "token0003") ∷ []) ∷ [])
opened = refl

-- one that doesn't: the session has none afterwards, had one before, or isn't there
unopened : at_each opening ++ entries gone opening gone ∷ [] ≡ repeat 6 ([] ∷ [])
unopened = refl

-- one that lets another session in
another_is_opened : map (λ s. entries (there s) (event.Enter other None (codes "token0003")) (there s)) stages ≡ none
another_is_opened = refl

-- ---- a frame

-- a frame of its own connection, where it has one
framed : at_each (event.Frame mine (12 ∷ [])) ≡ [] ∷ (Framed (12 ∷ []) ∷ []) ∷ (Framed (12 ∷ []) ∷ []) ∷ (Framed (12 ∷ []) ∷ []) ∷ [] ∷ []
framed = refl

-- a frame that ends it
last_frame : entries (there stage.Live) (event.Frame mine (12 ∷ [])) gone ≡ Framed (12 ∷ []) ∷ []
last_frame = refl

-- a frame of the other session
another_is_framed : at_each (event.Frame other (12 ∷ [])) ≡ none
another_is_framed = refl

-- ---- a message of the room

abbrev do_act : Act → RoomEvent
do_act a = event.Act a

-- an entry for the session while it is joining, due or live
abbrev while_open : Entry → List (List Entry)
while_open e = [] ∷ (e ∷ []) ∷ (e ∷ []) ∷ (e ∷ []) ∷ [] ∷ []

-- a message to the session
told : map (λ k. at_each (do_act (act.Send mine k (0xc3 ∷ [])))) (Name (codes "hi") ∷ Num (pos 5) ∷ [])
    ≡ while_open (Told (0x0d ∷ 0xa2 ∷ 0x68 ∷ 0x69 ∷ 0xc3 ∷ [])) ∷ while_open (Told (0x0d ∷ 0x05 ∷ 0xc3 ∷ [])) ∷ []
told = refl

-- a raw message to it
told_raw : map (λ k. at_each (do_act (act.Raw mine k (0xff ∷ [])))) (Name (codes "hi") ∷ Num (pos 5) ∷ [])
    ≡ while_open (Told (0x11 ∷ 0xa2 ∷ 0x68 ∷ 0x69 ∷ 0xff ∷ [])) ∷ while_open (Told (0x11 ∷ 0x05 ∷ 0xff ∷ [])) ∷ []
told_raw = refl

-- a message to all
told_to_all : map (λ k. at_each (do_act (act.ToAll k (0xc3 ∷ [])))) (Name (codes "hi") ∷ Num (pos 5) ∷ [])
    ≡ while_open (Told (0x0d ∷ 0xa2 ∷ 0x68 ∷ 0x69 ∷ 0xc3 ∷ [])) ∷ while_open (Told (0x0d ∷ 0x05 ∷ 0xc3 ∷ [])) ∷ []
told_to_all = refl

-- a message and a raw message to the other session
another_is_told : map (λ a. at_each (do_act a)) (act.Send other (Num (pos 5)) [] ∷ act.Raw other (Num (pos 5)) [] ∷ []) ≡ repeat 2 (none ∷ [])
another_is_told = refl

-- a message of each form
abbrev messages : List Act
messages = act.Send mine (Num (pos 5)) [] ∷ act.Raw mine (Num (pos 5)) [] ∷ act.ToAll (Num (pos 5)) [] ∷ []

-- the stage before the act counts
told_before : map (λ a. entries (there stage.Live) (do_act a) gone) messages
    ++ map (λ a. entries (there stage.Reserved) (do_act a) (there stage.Live)) messages
    ≡ (Told (0x0d ∷ 0x05 ∷ []) ∷ []) ∷ (Told (0x11 ∷ 0x05 ∷ []) ∷ []) ∷ (Told (0x0d ∷ 0x05 ∷ []) ∷ []) ∷ repeat 3 ([] ∷ [])
told_before = refl

-- messages where the session isn't there
nobody_is_told : map (λ a. entries gone (do_act a) gone) messages ≡ repeat 3 ([] ∷ [])
nobody_is_told = refl

-- ---- a tick

-- the stage after a tick
abbrev ticked_stage : Stage → Stage
ticked_stage stage.Due = stage.Live
ticked_stage s = s

-- a tick is seen while the session is due or live, with the shared rows and its own after it
ticked : map (λ s. entries (there s) event.Tick (room_at 6 (Some (ticked_stage s)))) stages
    ≡ [] ∷ [] ∷ (Ticked (one_number 6) (both_numbers 6) ∷ []) ∷ (Ticked (one_number 6) (both_numbers 6) ∷ []) ∷ [] ∷ []
ticked = refl

-- the other session sees what all see
another_ticked : room_entries (there stage.Live) event.Tick (room_at 6 (Some stage.Live)) other
    ≡ Ticked (one_number 6) (one_number 6) ∷ []
another_ticked = refl

-- the stage before the tick counts; a session that isn't there afterwards sees nothing
ticked_before : entries (there stage.Joining) event.Tick (room_at 6 (Some stage.Live)) ∷ entries (there stage.Live) event.Tick gone ∷ []
    ≡ repeat 2 ([] ∷ [])
ticked_before = refl

-- ---- a lost connection

-- the stages at which the session has a connection
abbrev open_stages : List Stage
open_stages = stage.Joining ∷ stage.Due ∷ stage.Live ∷ []

-- the seat is kept
dropped : map (λ s. entries (there s) (event.Lost mine 1000) (there stage.Kept)) open_stages ≡ repeat 3 ((Dropped true ∷ []) ∷ [])
dropped = refl

-- it isn't
dropped_for_good : map (λ s. entries (there s) (event.Lost mine 1000) gone) open_stages ≡ repeat 3 ((Dropped false ∷ []) ∷ [])
dropped_for_good = refl

-- it had none
not_dropped : map (λ s. entries (there s) (event.Lost mine 1000) (there s)) (stage.Reserved ∷ stage.Kept ∷ []) ≡ repeat 2 ([] ∷ [])
not_dropped = refl

-- the other session's connection is lost
another_is_dropped : at_each (event.Lost other 1000) ≡ none
another_is_dropped = refl

-- ---- a kick

-- a kick ends the session at each stage, with its code
kicked : map (λ s. entries (there s) (do_act (act.Kick mine 4003)) gone) stages ≡ repeat 5 ((Kicked 4003 ∷ []) ∷ [])
kicked = refl

-- a kick of the other session
another_is_kicked : at_each (do_act (act.Kick other 4003)) ≡ none
another_is_kicked = refl

-- ---- a moment

-- the session is gone afterwards
lapsed : map (λ s. entries (there s) (event.Moment 20000) gone) (stage.Reserved ∷ stage.Kept ∷ []) ≡ repeat 2 ((Lapsed ∷ []) ∷ [])
lapsed = refl

-- it stays
stayed : at_each (event.Moment 20000) ≡ none
stayed = refl

-- ---- what adds no entry

-- state commands
commanded : map (λ c. at_each (do_act (act.State c))) (command.Put 0 0 (value.Whole (pos 6)) ∷ command.Unset 0 0 ∷ command.Make 0 ∷ [])
    ≡ repeat 3 (none ∷ [])
commanded = refl

-- view edits
view_edited : map (λ a. at_each (do_act a))
    (act.ViewAdd mine (record { who = 0; tag = pos 1 }) ∷ act.ViewDel mine (record { who = 0; tag = pos 1 }) ∷ [])
    ≡ repeat 2 (none ∷ [])
view_edited = refl

-- lock, unlock, keep
marked : map (λ a. at_each (do_act a)) (act.Lock ∷ act.Unlock ∷ act.Keep mine 5000 ∷ []) ≡ repeat 3 (none ∷ [])
marked = refl

-- a reservation
reserved : at_each (event.Reserve mine 15000) ++ at_each (event.Reserve other 15000) ≡ none ++ none
reserved = refl

-- ---- what the life's connection is given

abbrev outputs : List RoomOut → List Sending
outputs outs = flat_map (given_by mine) outs

-- its own outputs in their order, without those of others
given_in_order : outputs (out.Send other (1 ∷ []) ∷ out.Send mine (2 ∷ []) ∷ out.Left other ∷ out.Close other 4003 ∷ out.Send mine (3 ∷ []) ∷ out.Close mine 4003 ∷ [])
    ≡ Frame (2 ∷ []) ∷ Frame (3 ∷ []) ∷ Closing 4003 ∷ []
given_in_order = refl

-- nothing of what isn't sent over the connection
lines_are_not_given :
    outputs
    (out.Entered mine ∷ out.Back mine ∷ out.NoSeat mine ∷ out.TokenInUse mine ∷ out.Message mine (Num (pos 5)) [] ∷ out.RawMessage mine (Num (pos 5)) [] ∷ out.Dropped mine
    ∷ out.Left mine ∷ out.Made 1 ∷ out.Refused refusal.NotHere ∷ [])
    ≡ []
lines_are_not_given = refl

-- ---- a life

abbrev a_life : Bool → List Entry → List Sending → List RowEntry → RoomLife
a_life lasts entries outputs view = record {
  session = mine;
  lasts = lasts;
  entries = Opened (codes "token0001") ∷ entries;
  outputs = Frame (10 ∷ []) ∷ outputs;
  view = view;
}

abbrev send_and_close : List RoomOut
send_and_close = out.Send mine (14 ∷ []) ∷ out.Close mine 4003 ∷ []

-- events of each kind
abbrev events : List RoomEvent
events =
    event.Moment 20000 ∷ event.Reserve mine 15000 ∷ opening ∷ event.Frame mine (12 ∷ []) ∷ event.Lost mine 1000 ∷ do_act (act.Kick mine 4003) ∷ event.Tick ∷ []

-- a life that has ended stays as it is, also where its session is there again
ended : map (λ e. lived (there stage.Live) e (gone, send_and_close) (a_life false [] [] root)) events
    ++ map (λ e. lived gone e (there stage.Live, send_and_close) (a_life false [] [] root)) events
    ≡ repeat 14 (a_life false [] [] root ∷ [])
ended = refl

-- one that goes on takes up what comes: a frame, a kick that ends it, a tick with its rows
went_on : lived (there stage.Live) (event.Frame mine (13 ∷ [])) (there stage.Live, out.Send mine (11 ∷ []) ∷ []) (a_life true [] [] root)
    ∷ lived (there stage.Live) (do_act (act.Kick mine 4003)) (gone, out.Close mine 4003 ∷ []) (a_life true [] [] root)
    ∷ lived (there stage.Live) event.Tick (room_at 6 (Some stage.Live), out.Send mine (15 ∷ []) ∷ []) (a_life true [] [] root) ∷ []
    ≡ a_life true (Framed (13 ∷ []) ∷ []) (Frame (11 ∷ []) ∷ []) root
    ∷ a_life false (Kicked 4003 ∷ []) (Closing 4003 ∷ []) root
    ∷ a_life true (Ticked (one_number 6) (both_numbers 6) ∷ []) (Frame (15 ∷ []) ∷ []) (both_numbers 6) ∷ []
went_on = refl

-- a life begins with a reservation of a session that isn't there
it_begins : begun gone (event.Reserve mine 15000) ≡ record { session = mine; lasts = true; entries = []; outputs = []; view = root } ∷ []
it_begins = refl

-- none begins where the session is there, or by another event
none_begins : begun (there stage.Reserved) (event.Reserve mine 15000) ∷ begun gone opening ∷ begun gone event.Tick ∷ [] ≡ repeat 3 ([] ∷ [])
none_begins = refl
