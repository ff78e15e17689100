-- Messages to clients: who hears one, and what it makes of them.
use Rattle.std.specs.Prelude.{◌≡◌, ℕ, List, [], ◌++◌, Option, Some, None, Ok, Err, IsOk, map}
use Rattle.std.specs.List.{flat_map}
use Rattle.room_model.specs.declared.event.RoomOut.{RoomOut}
use Rattle.room_model.specs.declared.refusal.Refusal.{Refusal}
use Rattle.room_model.specs.Room.{outs_after, session_after}
use Rattle.room_model.specs.Sessions.{Acted, Session, told_to}
use Rattle.room_core.specs.declared.client.Client.{Client}
use Rattle.room_core.specs.Values.{session_of_client}

-- a client but for the frames that wait
abbrev pub unqueued : Client → Client
unqueued c = record { id = c.id; stage = c.stage; members = c.members; view = c.view; queue = []; keep = c.keep }

-- these are the same but for the frames that wait
abbrev pub AreSameUnqueued : List Client → List Client → Type 0
AreSameUnqueued cs ds = map unqueued cs ≡ map unqueued ds

-- a client hears a message, or why it doesn't
abbrev pub Hears : Client → Option Refusal → Type 0
Hears c None = (frame : List ℕ) → IsOk (told_to frame (session_of_client c))
Hears c (Some f) = (frame : List ℕ) → told_to frame (session_of_client c) ≡ Err f

-- what a message makes of a client that hears it, and of the outputs so far
pub record IsTold (frame : List ℕ) (old new : Client) (so_far outs : List RoomOut) : Type 0 where
  pub after : Acted
  pub told : told_to frame (session_of_client old) ≡ Ok after
  pub session : session_of_client new ≡ after.session
  pub sent : outs ≡ so_far ++ after.outs

-- the session of a client after a message to all, and what that gives
abbrev pub told_session : List ℕ → Client → Session
told_session frame c = session_after (session_of_client c) (told_to frame (session_of_client c))

abbrev pub told_outs : List ℕ → Client → List RoomOut
told_outs frame c = outs_after (told_to frame (session_of_client c))

-- what a message to all makes of a client, and of the outputs so far
pub record IsToldAmong (frame : List ℕ) (old new : Client) (so_far outs : List RoomOut) : Type 0 where
  pub session : session_of_client new ≡ told_session frame old
  pub sent : outs ≡ so_far ++ told_outs frame old

-- and of all
pub record AreTold (frame : List ℕ) (old new : List Client) (outs : List RoomOut) : Type 0 where
  pub sessions : map session_of_client new ≡ map (told_session frame) old
  pub sent : outs ≡ flat_map (told_outs frame) old
