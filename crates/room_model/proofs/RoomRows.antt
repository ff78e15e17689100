-- Examples: what a room's step makes of each event, and what it gives; worked out by hand.
use Rattle.std.specs.Prelude.{◌≡◌, ℕ, true, false, List, [], ◌∷◌, ◌++◌, map, Some, None, Ok, Err, pos, negsuc, codes, refl}
use Rattle.std.specs.List.{repeat}
use Rattle.state_model.specs.declared.command.Command.TheVariants as command
use Rattle.state_model.specs.declared.command.TableFault.TheVariants.{NoRef}
use Rattle.schema_model.specs.declared.value.Value.TheVariants as value
use Rattle.schema_model.specs.declared.place.Pair.{Pair}
use Rattle.state_model.specs.Members.{no_members}
use Rattle.state_model.specs.declared.command.Command.{Command}
use Rattle.state_model.specs.declared.row.RowEntry.{RowEntry}
use Rattle.state_model.proofs.Examples.{flat, players}
use Rattle.frame_model.specs.declared.frame.MsgKind.TheVariants as kind
use Rattle.frame_model.proofs.Opened.{reading}
use Rattle.room_model.specs.declared.definition.RoomDef.{RoomDef}
use Rattle.room_model.specs.declared.event.Act.TheVariants as act
use Rattle.room_model.specs.declared.event.RoomEvent.{RoomEvent}
use Rattle.room_model.specs.declared.event.RoomEvent.TheVariants as event
use Rattle.room_model.specs.declared.event.RoomOut.{RoomOut}
use Rattle.room_model.specs.declared.event.RoomOut.TheVariants as out
use Rattle.room_model.specs.declared.event.Stage.TheVariants.{Due}
use Rattle.room_model.specs.declared.refusal.Refusal.TheVariants as refusal
use Rattle.room_model.specs.Sessions.{Session, told_to}
use Rattle.room_model.specs.Room.{RoomValue, new_room, room_step}

-- a room of two places, whose seats are kept for 20 seconds
abbrev def : RoomDef
def = record { name = codes "duel"; max = 2; seat = 15000; patch = 50; keep = 20000; filter = [] }

abbrev room : RoomValue
room = new_room flat def []

abbrev a : List ℕ
a = codes "aaaaaaaaa"

abbrev b : List ℕ
b = codes "bbbbbbbbb"

abbrev token : List ℕ
token = codes "token0001"

abbrev other : List ℕ
other = codes "token0002"

-- what each of these events gives, one after another
abbrev gives : RoomValue → List RoomEvent → List (List RoomOut)
gives r [] = []
gives r (e ∷ es) = (room_step r e).1 ∷ gives (room_step r e).0 es

-- the last of them
abbrev last_of : List (List RoomOut) → List RoomOut
last_of [] = []
last_of (x ∷ []) = x
last_of (x ∷ y ∷ xs) = last_of (y ∷ xs)

abbrev gives_last : List RoomEvent → List RoomOut
gives_last es = last_of (gives room es)

-- a client that reserved, one that opened, one that acknowledged, one that saw a tick, and one whose seat is kept
abbrev reserved : List RoomEvent
reserved = event.Reserve a 15000 ∷ []

abbrev joining : List RoomEvent
joining = reserved ++ event.Enter a None token ∷ []

abbrev due : List RoomEvent
due = joining ++ event.Frame a (10 ∷ []) ∷ []

abbrev live : List RoomEvent
live = due ++ event.Tick ∷ []

abbrev kept : List RoomEvent
kept = live ++ event.Lost a 100 ∷ []

abbrev at_each : RoomEvent → List (List RoomOut)
at_each e = map (λ es. gives_last (es ++ e ∷ [])) (reserved ∷ joining ∷ due ∷ live ∷ kept ∷ [])

-- JOIN_ROOM with a token
abbrev join : List ℕ → List ℕ
join t = 10 ∷ 9 ∷ t ++ 6 ∷ codes "schema"

-- ---- openings

a_client_comes : gives room live ≡ [] ∷ (out.Entered a ∷ out.Send a (join token) ∷ []) ∷ [] ∷ (out.Send a (14 ∷ []) ∷ []) ∷ []
a_client_comes = refl

a_kept_seat_is_taken_by_its_token : map (λ e. gives_last (kept ++ e ∷ []))
    (event.Enter a None other ∷ event.Enter a (Some other) other ∷ event.Enter a (Some token) token ∷ event.Enter a (Some token) other ∷ event.Enter b (Some token) other ∷ [])
    ≡ (out.NoSeat a ∷ []) ∷ (out.NoSeat a ∷ []) ∷ (out.TokenInUse a ∷ []) ∷ (out.Back a ∷ out.Send a (join other) ∷ []) ∷ (out.NoSeat b ∷ []) ∷ []
a_kept_seat_is_taken_by_its_token = refl

a_fresh_token_is_in_use : gives_last (live ++ event.Reserve b 15000 ∷ event.Enter b None token ∷ []) ≡ out.TokenInUse b ∷ []
a_fresh_token_is_in_use = refl

-- ---- frames

an_acknowledgement_says_nothing : at_each (event.Frame a (10 ∷ [])) ≡ [] ∷ [] ∷ [] ∷ [] ∷ [] ∷ []
an_acknowledgement_says_nothing = refl

a_client_leaves : at_each (event.Frame a (12 ∷ []))
    ≡ [] ∷ (out.Close a 4000 ∷ out.Left a ∷ []) ∷ (out.Close a 4000 ∷ out.Left a ∷ []) ∷ (out.Close a 4000 ∷ out.Left a ∷ []) ∷ [] ∷ []
a_client_leaves = refl

a_frame_cannot_be_read : gives_last (live ++ event.Frame a (99 ∷ []) ∷ []) ≡ out.Send a (11 ∷ 205 ∷ 121 ∷ 16 ∷ 175 ∷ codes "invalid payload") ∷ []
a_frame_cannot_be_read = refl

a_client_says_something : gives_last (live ++ event.Frame a (13 ∷ 164 ∷ codes "move" ++ 129 ∷ 161 ∷ 120 ∷ 1 ∷ []) ∷ [])
    ≡ out.Message a (kind.Name (codes "move")) (129 ∷ 161 ∷ 120 ∷ 1 ∷ []) ∷ []
unfolding reading
a_client_says_something = refl

-- ---- messages of the room

abbrev told : RoomEvent
told = event.Act (act.Send a (kind.Num (pos 5)) (192 ∷ []))

a_message_waits_or_is_sent : at_each told ≡ (out.Refused refusal.NotHere ∷ []) ∷ [] ∷ [] ∷ (out.Send a (13 ∷ 5 ∷ 192 ∷ []) ∷ []) ∷ (out.Refused refusal.NotHere ∷ []) ∷ []
a_message_waits_or_is_sent = refl

what_waited_comes_behind_the_full_state : gives_last (joining ++ told ∷ event.Frame a (10 ∷ []) ∷ event.Act (act.Raw a (kind.Num (pos 6)) (1 ∷ [])) ∷ event.Tick ∷ [])
    ≡ out.Send a (14 ∷ []) ∷ out.Send a (13 ∷ 5 ∷ 192 ∷ []) ∷ out.Send a (17 ∷ 6 ∷ 1 ∷ []) ∷ []
what_waited_comes_behind_the_full_state = refl

a_message_to_all : gives_last (live ++ event.Reserve b 15000 ∷ event.Enter b None other ∷ event.Act (act.ToAll (kind.Num (pos 5)) (192 ∷ [])) ∷ [])
    ≡ out.Send a (13 ∷ 5 ∷ 192 ∷ []) ∷ []
a_message_to_all = refl

-- a session that waits for its full state with so many messages
abbrev waiting : ℕ → Session
waiting n = record { id = a; stage = Due; members = no_members; permitted = []; queue = repeat n ([] ∷ []); keep = 0 }

the_queue_is_full : (told_to [] (waiting 255) ≡ Ok (record { session = waiting 256; outs = [] })) × (told_to [] (waiting 256) ≡ Err refusal.QueueFull)
the_queue_is_full = (refl, refl)

-- ---- losses and moments

a_seat_is_kept_or_ends : at_each (event.Lost a 100) ≡ [] ∷ (out.Dropped a ∷ []) ∷ (out.Dropped a ∷ []) ∷ (out.Dropped a ∷ []) ∷ [] ∷ []
a_seat_is_kept_or_ends = refl

what_waited_is_forgotten_at_a_loss : gives_last (joining ++ told ∷ event.Lost a 100 ∷ event.Enter a (Some token) other ∷ event.Frame a (10 ∷ []) ∷ event.Tick ∷ []) ≡ out.Send a (14 ∷ []) ∷ []
what_waited_is_forgotten_at_a_loss = refl

a_seat_without_time_ends : gives_last (live ++ event.Act (act.Keep a 0) ∷ event.Lost a 100 ∷ []) ≡ out.Left a ∷ []
a_seat_without_time_ends = refl

a_reservation_lapses_untold : gives room (reserved ++ event.Moment 14999 ∷ event.Moment 15000 ∷ event.Enter a None token ∷ []) ≡ [] ∷ [] ∷ [] ∷ (out.NoSeat a ∷ []) ∷ []
a_reservation_lapses_untold = refl

a_kept_seat_lapses : gives room (kept ++ event.Moment 20099 ∷ event.Moment 20100 ∷ event.Enter a (Some token) other ∷ [])
    ≡ gives room kept ++ [] ∷ (out.Left a ∷ []) ∷ (out.NoSeat a ∷ []) ∷ []
a_kept_seat_lapses = refl

-- ---- acts

a_kick_ends_a_session : at_each (event.Act (act.Kick a 4100))
    ≡ (out.Left a ∷ []) ∷ (out.Close a 4100 ∷ out.Left a ∷ []) ∷ (out.Close a 4100 ∷ out.Left a ∷ []) ∷ (out.Close a 4100 ∷ out.Left a ∷ []) ∷ (out.Left a ∷ []) ∷ []
a_kick_ends_a_session = refl

abbrev root_pair : Pair
root_pair = record { who = 0; tag = negsuc 0 }

abbrev lost_pair : Pair
lost_pair = record { who = 7; tag = negsuc 0 }

a_view_edit : at_each (event.Act (act.ViewAdd a root_pair)) ≡ (out.Refused refusal.NotHere ∷ []) ∷ [] ∷ [] ∷ [] ∷ [] ∷ []
a_view_edit = refl

a_view_edit_of_a_row_that_is_not_live : at_each (event.Act (act.ViewDel a lost_pair))
    ≡ (out.Refused refusal.NotHere ∷ []) ∷ (out.Refused (refusal.Table NoRef) ∷ []) ∷ (out.Refused (refusal.Table NoRef) ∷ []) ∷ (out.Refused (refusal.Table NoRef) ∷ []) ∷ (out.Refused (refusal.Table NoRef) ∷ []) ∷ []
a_view_edit_of_a_row_that_is_not_live = refl

a_keep_time : at_each (event.Act (act.Keep a 5)) ≡ (out.Refused refusal.NotHere ∷ []) ∷ [] ∷ [] ∷ [] ∷ [] ∷ []
a_keep_time = refl

an_unknown_session : map (λ x. gives_last (live ++ event.Act x ∷ []))
    (act.ViewAdd b root_pair ∷ act.ViewDel b root_pair ∷ act.Send b (kind.Num (pos 5)) [] ∷ act.Raw b (kind.Num (pos 5)) [] ∷ act.Kick b 4100 ∷ act.Keep b 5 ∷ [])
    ≡ repeat 6 ((out.Refused refusal.NoSession ∷ []) ∷ [])
an_unknown_session = refl

a_tick_tells_what_changed : gives_last (live ++ event.Act (act.State (command.Put 0 0 (value.Whole (pos 6)))) ∷ event.Tick ∷ []) ≡ out.Send a (15 ∷ 128 ∷ 6 ∷ []) ∷ []
a_tick_tells_what_changed = refl

a_tick_without_a_change : gives_last (live ++ event.Tick ∷ []) ≡ []
a_tick_without_a_change = refl

-- ---- several entries that lapse, and what stays over a drop

-- a room of three places
abbrev wide : RoomValue
wide = new_room flat (record { name = codes "crowd"; max = 3; seat = 15000; patch = 50; keep = 20000; filter = [] }) []

abbrev c : List ℕ
c = codes "ccccccccc"

-- two clients that came, and between them a reservation
abbrev three_came : List RoomEvent
three_came = event.Reserve a 15000 ∷ event.Reserve b 15000 ∷ event.Reserve c 15000 ∷ event.Enter a None token ∷ event.Enter c None other ∷ []

abbrev room_after : RoomValue → List RoomEvent → RoomValue
room_after r [] = r
room_after r (e ∷ es) = room_after (room_step r e).0 es

-- by lapse: the reservation untold, then who dropped first
a_moment_ends_entries_by_their_lapse : last_of (gives wide (three_came ++ event.Lost c 0 ∷ event.Lost a 5 ∷ event.Moment 20005 ∷ [])) ≡ out.Left c ∷ out.Left a ∷ []
a_moment_ends_entries_by_their_lapse = refl

-- at one moment by the order of reserving, whoever dropped first
entries_of_one_lapse_end_as_they_were_reserved : last_of (gives wide (three_came ++ event.Lost c 5 ∷ event.Lost a 5 ∷ event.Moment 20005 ∷ [])) ≡ out.Left a ∷ out.Left c ∷ []
entries_of_one_lapse_end_as_they_were_reserved = refl

-- only what has lapsed by then
a_moment_leaves_what_lapses_later : map (λ (s : Session). s.id) (room_after wide (three_came ++ event.Lost c 0 ∷ event.Lost a 5 ∷ event.Moment 20004 ∷ [])).sessions ≡ a ∷ []
a_moment_leaves_what_lapses_later = refl

-- a return takes the place in the order that the session had
a_return_keeps_the_order : map (λ (s : Session). s.id) (room_after wide (three_came ++ event.Lost a 0 ∷ event.Enter a (Some token) (codes "token0003") ∷ [])).sessions ≡ a ∷ b ∷ c ∷ []
a_return_keeps_the_order = refl

the_lock_is_set_and_taken_off : map (λ es. (room_after room es).seats.locked) ((event.Act act.Lock ∷ []) ∷ (event.Act act.Lock ∷ event.Act act.Unlock ∷ []) ∷ []) ≡ true ∷ false ∷ []
the_lock_is_set_and_taken_off = refl

locks_give_nothing : gives room (event.Act act.Lock ∷ event.Act act.Unlock ∷ []) ≡ [] ∷ [] ∷ []
locks_give_nothing = refl

-- a keep time is for the next drop: a seat that is kept has its lapse already
the_lapse_of_a_kept_seat_stays : gives room (kept ++ event.Act (act.Keep a 0) ∷ event.Moment 20099 ∷ event.Moment 20100 ∷ []) ≡ gives room kept ++ [] ∷ [] ∷ (out.Left a ∷ []) ∷ []
the_lapse_of_a_kept_seat_stays = refl

-- the members of a view stay over a drop and a return
members_stay_over_a_return : map (λ es. map (λ (s : Session). s.members.now) (room_after room (live ++ event.Act (act.ViewAdd a root_pair) ∷ es)).sessions)
    ([] ∷ (event.Lost a 100 ∷ []) ∷ (event.Lost a 100 ∷ event.Enter a (Some token) other ∷ []) ∷ [])
    ≡ repeat 3 (((root_pair ∷ []) ∷ []) ∷ [])
members_stay_over_a_return = refl

-- ---- a tick that frees rows

-- a room of two clients who watch a player, whose gold one of them sees
abbrev game : RoomValue
game = new_room players def []

abbrev gold : Pair
gold = record { who = 2; tag = negsuc 0 }

abbrev does : Command → RoomEvent
does x = event.Act (act.State x)

abbrev watched : List RoomEvent
watched =
    event.Reserve a 15000 ∷ event.Reserve b 15000 ∷ event.Enter a None token ∷ event.Enter b None other ∷ event.Frame a (10 ∷ []) ∷ event.Frame b (10 ∷ [])
    ∷ does (command.MakeFor (record { class = 0; field = 0 })) ∷ does (command.Put 0 0 (value.Link 1)) ∷ does (command.Make 1) ∷ does (command.Put 2 1 (value.Whole (pos 7)))
    ∷ does (command.PutKey 1 (codes "s1") (value.Link 2)) ∷ event.Act (act.ViewAdd a gold) ∷ event.Tick ∷ []

-- the player is taken out
abbrev taken_out : List RoomEvent
taken_out = watched ++ does (command.DelKey 1 (codes "s1")) ∷ []

-- whoever saw it is told that it goes
a_freed_row_goes_from_every_view : last_of (gives game (taken_out ++ event.Tick ∷ [])) ≡ out.Send a (15 ∷ 255 ∷ 1 ∷ 64 ∷ 0 ∷ []) ∷ out.Send b (15 ∷ 255 ∷ 1 ∷ 64 ∷ 0 ∷ []) ∷ []
a_freed_row_goes_from_every_view = refl

-- its pairs are gone behind the tick, and so is the row
the_pairs_of_a_freed_row_go : map (λ es. map (λ (s : Session). s.members.now) (room_after game es).sessions) (taken_out ∷ (taken_out ++ event.Tick ∷ []) ∷ [])
    ≡ ((gold ∷ []) ∷ [] ∷ []) ∷ ([] ∷ [] ∷ []) ∷ []
the_pairs_of_a_freed_row_go = refl

the_freed_row_is_gone : map (λ es. map (λ (e : RowEntry). e.who) (room_after game es).state.rows) (taken_out ∷ (taken_out ++ event.Tick ∷ []) ∷ []) ≡ (0 ∷ 1 ∷ 2 ∷ []) ∷ (0 ∷ 1 ∷ []) ∷ []
the_freed_row_is_gone = refl
