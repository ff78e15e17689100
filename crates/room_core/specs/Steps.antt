-- What events make of the parts of a room.
use Rattle.std.specs.Prelude.{◌≡◌, ℕ, List, [], ◌∷◌, Option, Some, None, Result, Ok, Err, IfOk, IsErr}
use Rattle.schema_model.specs.Classes.{Schema}
use Rattle.schema_model.specs.declared.place.Pair.{Pair}
use Rattle.state_model.specs.declared.row.RowEntry.{RowEntry}
use Rattle.room_model.specs.declared.event.RoomOut.{RoomOut}
use Rattle.room_model.specs.declared.event.RoomOut.TheVariants as out
use Rattle.room_model.specs.declared.event.Stage.{Stage}
use Rattle.room_model.specs.declared.event.Stage.TheVariants.{Reserved, Joining, Due, Live, Kept}
use Rattle.room_model.specs.declared.refusal.Refusal.{Refusal}
use Rattle.room_model.specs.declared.refusal.Refusal.TheVariants as refusal
use Rattle.room_model.specs.Sessions.{Session, Acted, acted, view_added_to, view_removed_from}
use Rattle.frame_model.specs.declared.fault.FrameFault.{FrameFault}
use Rattle.frame_model.specs.declared.fault.FrameFault.TheVariants as frame
use Rattle.room_model.specs.Room.{made_outs, unread_frame}
use Rattle.lists.specs.declared.memory.Memory.{Memory}
use Rattle.state_model.specs.declared.command.TableFault.{TableFault}
use Rattle.state_model.specs.declared.command.TableFault.TheVariants as table
use Rattle.view_counts.specs.Settled.{View, new_view}
use Rattle.view_edits.specs.declared.fault.EditFault.{EditFault}
use Rattle.view_edits.specs.declared.fault.EditFault.TheVariants as fault
use Rattle.room_core.specs.declared.client.Client.{Client}
use Rattle.room_core.specs.declared.view_edit.ViewEdit.{ViewEdit}
use Rattle.room_core.specs.declared.view_edit.ViewEdit.TheVariants.{Show, Hide}
use Rattle.room_core.specs.Values.{session_of_client}

-- a client at another stage
abbrev pub client_at : Stage → Client → Client
client_at stage c = record { id = c.id; stage = stage; members = c.members; view = c.view; queue = c.queue; keep = c.keep }

-- a client whose seat is kept, with a view and with frames that wait
abbrev pub client_seen : View → List (List ℕ) → Client → Client
client_seen view queue c = record { id = c.id; stage = Kept; members = c.members; view = view; queue = queue; keep = c.keep }

-- a client that dropped: only its members and its keep time stay
abbrev pub dropped_client : Schema → Client → Client
dropped_client schema c = client_seen (new_view schema) [] c

-- an acknowledged stage
abbrev pub acknowledged_stage : Stage → Stage
acknowledged_stage Joining = Due
acknowledged_stage Reserved = Reserved
acknowledged_stage Due = Due
acknowledged_stage Live = Live
acknowledged_stage Kept = Kept

-- what a frame gives that can't be read: out of memory nothing, any other fault the error that answers it
abbrev pub UnreadTells : List ℕ → FrameFault → Result (List RoomOut) Memory → Type 0
UnreadTells session frame.Memory r = IsErr r
UnreadTells session f r = IfOk r (λ outs. outs ≡ out.Send session unread_frame ∷ [])

-- what a fault of a command gives: out of memory nothing, any other its refusal
pub record FaultTells (f : TableFault) (r : Result (List RoomOut) Memory) : Type 0 where
  pub memory : f ≡ table.Memory → IsErr r
  pub refusal : (f ≡ table.Memory → ⊥) → IfOk r (λ outs. outs ≡ out.Refused (refusal.Table f) ∷ [])

-- what the answer to a command gives
abbrev pub AnswerTells : Result (Option ℕ) TableFault → Result (List RoomOut) Memory → Type 0
AnswerTells (Ok made) r = IfOk r (λ outs. outs ≡ made_outs made)
AnswerTells (Err f) r = FaultTells f r

-- what the answer to an edit of a client's view tells: it was done, or why it was refused and changed nothing
abbrev pub EditTells : Result Acted Refusal → Client → Client → Option Refusal → Type 0
EditTells does old new None = does ≡ acted (session_of_client new) []
EditTells does old new (Some f) = (does ≡ Err f) × (new ≡ old)

-- what an edit makes of a session
abbrev pub view_edited : ViewEdit → Schema → List RowEntry → Pair → Session → Result Acted Refusal
view_edited Show = view_added_to
view_edited Hide = view_removed_from

-- an edit changes the members alone, and not those of the last tick
pub record Edited (old new : Client) : Type 0 where
  pub id : new.id ≡ old.id
  pub stage : new.stage ≡ old.stage
  pub last : new.members.last ≡ old.members.last
  pub view : new.view ≡ old.view
  pub queue : new.queue ≡ old.queue

-- the refusal of an act
abbrev pub refused_outs : Option Refusal → List RoomOut
refused_outs None = []
refused_outs (Some f) = out.Refused f ∷ []

-- what the answer to an edit refuses; out of memory refuses nothing
abbrev pub Refuses : Result (Unit {0}) EditFault → Result (Option Refusal) Memory → Type 0
Refuses (Ok done) r = r ≡ Ok None
Refuses (Err fault.NoRef) r = r ≡ Ok (Some (refusal.Table table.NoRef))
Refuses (Err fault.ViewFull) r = r ≡ Ok (Some refusal.ViewFull)
Refuses (Err fault.Memory) r = IsErr r
