-- Which events may happen to a room, at each stage of a session and at the limits: examples worked out by hand.
use Rattle.std.specs.Prelude.{◌≡◌, ℕ, Bool, true, false, List, [], ◌∷◌, ◌++◌, map, None, pos, negsuc, codes, refl}
use Rattle.state_model.specs.declared.command.Command.TheVariants.{Clear}
use Rattle.state_model.proofs.Examples.{flat}
use Rattle.frame_model.specs.declared.frame.MsgKind.TheVariants as kind
use Rattle.room_model.specs.declared.event.Act.TheVariants as act
use Rattle.room_model.specs.declared.event.RoomEvent.{RoomEvent}
use Rattle.room_model.specs.declared.event.RoomEvent.TheVariants as event
use Rattle.room_model.specs.Room.{new_room}
use Rattle.room_laws.specs.Places.{is_moment, may_act, may_happen, room_after}

abbrev a : List ℕ
a = codes "aaaaaaaaa"

abbrev b : List ℕ
b = codes "bbbbbbbbb"

abbrev token : List ℕ
token = codes "token0001"

-- after these events of a room of two places, whose seats are kept for 20 seconds: whether a further one may happen
abbrev may : List RoomEvent → RoomEvent → Bool
may events e = may_happen (room_after (new_room flat (record { name = codes "duel"; max = 2; seat = 15000; patch = 50; keep = 20000; filter = [] }) []) events) e

-- none, a session that reserved, one that opened, one that acknowledged, one that saw a tick, and one whose seat is kept
abbrev reserved : List RoomEvent
reserved = event.Reserve a 15000 ∷ []

abbrev joining : List RoomEvent
joining = reserved ++ event.Enter a None token ∷ []

abbrev due : List RoomEvent
due = joining ++ event.Frame a (10 ∷ []) ∷ []

abbrev live : List RoomEvent
live = due ++ event.Tick ∷ []

abbrev kept : List RoomEvent
kept = live ++ event.Lost a 100 ∷ []

abbrev at_each : RoomEvent → List Bool
at_each e = map (λ es. may es e) ([] ∷ reserved ∷ joining ∷ due ∷ live ∷ kept ∷ [])

frames_and_losses_are_of_connected_sessions : (at_each (event.Frame a []) ≡ false ∷ false ∷ true ∷ true ∷ true ∷ false ∷ []) × (at_each (event.Lost a 0) ≡ false ∷ false ∷ true ∷ true ∷ true ∷ false ∷ [])
frames_and_losses_are_of_connected_sessions = (refl, refl)

a_session_is_reserved_once : at_each (event.Reserve a 15000) ≡ true ∷ false ∷ false ∷ false ∷ false ∷ false ∷ []
a_session_is_reserved_once = refl

-- in a room that is full, and in one that is locked
a_reservation_needs_a_place : map (λ es. may es (event.Reserve token 15000)) (kept ∷ (kept ++ event.Reserve b 15000 ∷ []) ∷ (event.Act act.Lock ∷ []) ∷ (event.Act act.Lock ∷ event.Act act.Unlock ∷ []) ∷ [])
    ≡ true ∷ false ∷ false ∷ true ∷ []
a_reservation_needs_a_place = refl

openings_and_ticks_may_always_come : (at_each (event.Enter a None token) ≡ true ∷ true ∷ true ∷ true ∷ true ∷ true ∷ []) × (at_each event.Tick ≡ true ∷ true ∷ true ∷ true ∷ true ∷ true ∷ [])
openings_and_ticks_may_always_come = (refl, refl)

-- moments and lapses are below 2^54
moments_are_below_their_bound : map is_moment (0 ∷ 18014398509481983 ∷ 18014398509481984 ∷ []) ≡ true ∷ true ∷ false ∷ []
moments_are_below_their_bound = refl

lapses_are_moments : map (may []) (event.Reserve a 18014398509481983 ∷ event.Reserve a 18014398509481984 ∷ event.Moment 18014398509481983 ∷ event.Moment 18014398509481984 ∷ [])
    ≡ true ∷ false ∷ true ∷ false ∷ []
lapses_are_moments = refl

losses_come_at_moments : map (may live) (event.Lost a 18014398509481983 ∷ event.Lost a 18014398509481984 ∷ []) ≡ true ∷ false ∷ []
losses_come_at_moments = refl

-- a seat is kept for an hour at most
keep_times_are_within_an_hour : map may_act (act.Keep a 0 ∷ act.Keep a 3600000 ∷ act.Keep a 3600001 ∷ []) ≡ true ∷ true ∷ false ∷ []
keep_times_are_within_an_hour = refl

acts_may_be_about_anyone : map may_act (act.State (Clear 9) ∷ act.ViewAdd b (record { who = 9; tag = negsuc 0 }) ∷ act.Kick b 4000 ∷ act.Lock ∷ act.Send b (kind.Num (pos 5)) [] ∷ act.ToAll (kind.Name (codes "hit")) [] ∷ [])
    ≡ true ∷ true ∷ true ∷ true ∷ true ∷ true ∷ []
acts_may_be_about_anyone = refl
