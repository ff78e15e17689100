-- The sessions of a room, and what is done to one: messages that wait or are sent, view edits, keep times.
-- After Colyseus 0.16 and the StateView of `@colyseus/schema` 3; the limits are ours.
use Rattle.std.specs.Prelude.{ℕ, Bool, true, false, List, [], ◌∷◌, ◌++◌, length, map, Option, Result, Ok, Err, nat_lt, not, filter, if◌then◌else◌}
use Rattle.std.specs.List.{find}
use Rattle.std.specs.Str.{bytes_eq}
use Rattle.room_model.specs.Limits.{most_queued}
use Rattle.schema_model.specs.Classes.{Schema}
use Rattle.schema_model.specs.declared.place.Pair.{Pair}
use Rattle.state_model.specs.declared.row.RowEntry.{RowEntry}
use Rattle.state_model.specs.declared.command.TableFault.TheVariants.{NoRef}
use Rattle.state_model.specs.Rows.{is_live}
use Rattle.state_model.specs.Members.{Members, view_added, view_removed, is_view_full}
use Rattle.room_model.specs.declared.event.RoomOut.{RoomOut}
use Rattle.room_model.specs.declared.event.RoomOut.TheVariants as out
use Rattle.room_model.specs.declared.event.Stage.{Stage}
use Rattle.room_model.specs.declared.event.Stage.TheVariants.{Reserved, Joining, Due, Live, Kept}
use Rattle.room_model.specs.declared.refusal.Refusal.{Refusal}
use Rattle.room_model.specs.declared.refusal.Refusal.TheVariants as refusal

-- a session: how far it is, the members of its view, its permitted rows at the last tick, the frames that wait for
-- its full state, and for how long its seat is kept
pub record Session : Type 0 where
  pub id : List ℕ
  pub stage : Stage
  pub members : Members
  pub permitted : List RowEntry
  pub queue : List (List ℕ)
  pub keep : ℕ

-- the session of this name
abbrev pub session_of : List Session → List ℕ → Option Session
session_of ss id = find (λ (s : Session). bytes_eq s.id id) ss

-- the sessions, each changed where it is this one
abbrev pub change_session : List ℕ → (Session → Session) → List Session → List Session
change_session id change ss = map (λ (s : Session). if bytes_eq s.id id then change s else s) ss

-- the sessions without this one
abbrev pub sessions_but : List ℕ → List Session → List Session
sessions_but id ss = filter (λ (s : Session). not (bytes_eq s.id id)) ss

-- a session has a connection
abbrev pub is_connected : Stage → Bool
is_connected Reserved = false
is_connected Joining = true
is_connected Due = true
is_connected Live = true
is_connected Kept = false

-- ---- a session with one part changed

abbrev pub at_stage : Stage → Session → Session
at_stage stage s = record { id = s.id; stage = stage; members = s.members; permitted = s.permitted; queue = s.queue; keep = s.keep }

abbrev pub with_members : Members → Session → Session
with_members members s = record { id = s.id; stage = s.stage; members = members; permitted = s.permitted; queue = s.queue; keep = s.keep }

abbrev pub with_queue : List (List ℕ) → Session → Session
with_queue queue s = record { id = s.id; stage = s.stage; members = s.members; permitted = s.permitted; queue = queue; keep = s.keep }

abbrev pub with_keep : ℕ → Session → Session
with_keep ms s = record { id = s.id; stage = s.stage; members = s.members; permitted = s.permitted; queue = s.queue; keep = ms }

-- ---- what an act on one session makes of it, or why it is refused

-- a session after an act, and what it gives
pub record Acted : Type 0 where
  pub session : Session
  pub outs : List RoomOut

abbrev pub acted : Session → List RoomOut → Result Acted Refusal
acted s outs = Ok (record { session = s; outs = outs })

-- a message waits for the full state, where not too many do
abbrev pub queued_for : List ℕ → Session → Result Acted Refusal
queued_for frame s = if nat_lt (length s.queue) most_queued then acted (with_queue (s.queue ++ frame ∷ []) s) [] else Err refusal.QueueFull

-- a message: it is sent at once to a live session
abbrev pub told_at : Stage → List ℕ → Session → Result Acted Refusal
told_at Joining frame s = queued_for frame s
told_at Due frame s = queued_for frame s
told_at Live frame s = acted s (out.Send s.id frame ∷ [])
told_at Reserved frame s = Err refusal.NotHere
told_at Kept frame s = Err refusal.NotHere

abbrev pub told_to : List ℕ → Session → Result Acted Refusal
told_to frame s = told_at s.stage frame s

-- an act that a session takes unless it is only reserved
abbrev pub unless_reserved : Stage → Result Acted Refusal → Result Acted Refusal
unless_reserved Reserved r = Err refusal.NotHere
unless_reserved Joining r = r
unless_reserved Due r = r
unless_reserved Live r = r
unless_reserved Kept r = r

-- the view with a row and what is behind it, where there is room for all of it
abbrev pub if_room : Members → Session → Result Acted Refusal
if_room members s = if is_view_full members then Err refusal.ViewFull else acted (with_members members s) []

abbrev pub view_added_to : Schema → List RowEntry → Pair → Session → Result Acted Refusal
view_added_to schema rows p s =
    unless_reserved s.stage (if is_live rows p.who then if_room (view_added schema rows p s.members) s else Err (refusal.Table NoRef))

-- the view without a row and what is behind it
abbrev pub view_removed_from : Schema → List RowEntry → Pair → Session → Result Acted Refusal
view_removed_from schema rows p s =
    unless_reserved s.stage (if is_live rows p.who then acted (with_members (view_removed schema rows p s.members) s) [] else Err (refusal.Table NoRef))

-- for how long a seat is kept at the next drop
abbrev pub keep_set : ℕ → Session → Result Acted Refusal
keep_set ms s = unless_reserved s.stage (acted (with_keep ms s) [])
