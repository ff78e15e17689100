-- What a life is sent: a machine that knows the schema and the life's record, and nothing else.
-- The frames are after Colyseus 0.16; the moment of the full state is ours.
use Rattle.std.specs.Prelude.{ℕ, Bool, true, false, List, [], ◌∷◌, ◌++◌, length, map, nat_lt, if◌then◌else◌, Result, Ok, Err}
use Rattle.std.specs.List.{fold}
use Rattle.room_model.specs.Limits.{most_queued}
use Rattle.schema_model.specs.Classes.{Schema}
use Rattle.state_model.specs.declared.row.RowEntry.{RowEntry}
use Rattle.wire_model.specs.Frame.{state_frame, full_state, has_operation}
use Rattle.frame_model.specs.Frames.{server_bytes}
use Rattle.frame_model.specs.Reading.{read_client}
use Rattle.frame_model.specs.declared.codes.TheConstants.{CONSENTED}
use Rattle.frame_model.specs.declared.frame.ServerFrame.TheVariants as server
use Rattle.frame_model.specs.declared.frame.ClientFrame.{ClientFrame}
use Rattle.frame_model.specs.declared.frame.ClientFrame.TheVariants as client
use Rattle.frame_model.specs.declared.fault.FrameFault.{FrameFault}
use Rattle.room_model.specs.Room.{join_frame, unread_frame}
use Rattle.life_model.specs.Entries.{Entry, Record, Asked, Opened, Framed, Told, Ticked, Dropped, Kicked, Lapsed, Sending, Frame, Closing}

-- how far a life is, with the messages that wait for its full state, or the rows of the last tick that it saw
pub data Standing : Type 0 where
  Reserved : Standing
  Joining : (queue : List (List ℕ)) → Standing
  Due : (queue : List (List ℕ)) → Standing
  Live : (shared : List RowEntry) (permitted : List RowEntry) → Standing
  Kept : Standing
  Gone : Standing

-- ---- an opening: JOIN_ROOM with the token

abbrev pub sent_opened : Standing → List ℕ → Standing × List Sending
sent_opened Reserved token = (Joining [], Frame (join_frame token) ∷ [])
sent_opened Kept token = (Joining [], Frame (join_frame token) ∷ [])
sent_opened s token = (s, [])

-- ---- a frame of the client

-- the acknowledgement leads on from joining, and a leave closes with 4000
abbrev pub sent_read : Standing → Result ClientFrame FrameFault → Standing × List Sending
sent_read (Joining queue) (Ok client.Ack) = (Due queue, [])
sent_read s (Ok client.Leave) = (Gone, Closing CONSENTED ∷ [])
sent_read s (Err f) = (s, Frame unread_frame ∷ [])
sent_read s r = (s, [])

abbrev pub sent_framed : Standing → List ℕ → Standing × List Sending
sent_framed (Joining queue) bytes = sent_read (Joining queue) (read_client bytes)
sent_framed (Due queue) bytes = sent_read (Due queue) (read_client bytes)
sent_framed (Live shared permitted) bytes = sent_read (Live shared permitted) (read_client bytes)
sent_framed s bytes = (s, [])

-- ---- a message of the room: it waits for the full state, where not too many do

abbrev pub queued : List ℕ → List (List ℕ) → List (List ℕ)
queued frame queue = if nat_lt (length queue) most_queued then queue ++ frame ∷ [] else queue

abbrev pub sent_told : Standing → List ℕ → Standing × List Sending
sent_told (Joining queue) frame = (Joining (queued frame queue), [])
sent_told (Due queue) frame = (Due (queued frame queue), [])
sent_told (Live shared permitted) frame = (Live shared permitted, Frame frame ∷ [])
sent_told s frame = (s, [])

-- ---- a tick: the full state where it is due, then what waited for it; later a patch exactly where it has an operation

abbrev pub full_frame : Schema → List RowEntry → List RowEntry → List ℕ
full_frame schema shared permitted = server_bytes (server.State (full_state schema shared permitted))

abbrev pub patch_frames : Schema → List RowEntry → List RowEntry → List RowEntry → List RowEntry → List Sending
patch_frames schema shared0 permitted0 shared1 permitted1 =
    if has_operation schema shared0 permitted0 shared1 permitted1
    then Frame (server_bytes (server.Patch (state_frame schema shared0 permitted0 shared1 permitted1))) ∷ []
    else []

abbrev pub sent_ticked : Schema → Standing → List RowEntry → List RowEntry → Standing × List Sending
sent_ticked schema (Due queue) shared permitted = (Live shared permitted, Frame (full_frame schema shared permitted) ∷ map Frame queue)
sent_ticked schema (Live shared0 permitted0) shared permitted =
    (Live shared permitted, patch_frames schema shared0 permitted0 shared permitted)
sent_ticked schema s shared permitted = (s, [])

-- ---- a loss, a kick, a lapse

-- the standing behind a lost connection
abbrev pub behind_loss : Bool → Standing
behind_loss true = Kept
behind_loss false = Gone

abbrev pub sent_dropped : Standing → Bool → Standing × List Sending
sent_dropped (Joining queue) kept = (behind_loss kept, [])
sent_dropped (Due queue) kept = (behind_loss kept, [])
sent_dropped (Live shared permitted) kept = (behind_loss kept, [])
sent_dropped s kept = (s, [])

-- a kick closes the connection, where there is one
abbrev pub sent_kicked : Standing → ℕ → Standing × List Sending
sent_kicked (Joining queue) code = (Gone, Closing code ∷ [])
sent_kicked (Due queue) code = (Gone, Closing code ∷ [])
sent_kicked (Live shared permitted) code = (Gone, Closing code ∷ [])
sent_kicked s code = (Gone, [])

abbrev pub sent_lapsed : Standing → Standing × List Sending
sent_lapsed Reserved = (Gone, [])
sent_lapsed Kept = (Gone, [])
sent_lapsed s = (s, [])

-- ---- an entry

abbrev pub sent_for : Schema → Standing → Entry → Standing × List Sending
sent_for schema s (Asked target body reply) = (s, [])
sent_for schema s (Opened token) = sent_opened s token
sent_for schema s (Framed bytes) = sent_framed s bytes
sent_for schema s (Told frame) = sent_told s frame
sent_for schema s (Ticked shared permitted) = sent_ticked schema s shared permitted
sent_for schema s (Dropped kept) = sent_dropped s kept
sent_for schema s (Kicked code) = sent_kicked s code
sent_for schema s Lapsed = sent_lapsed s

-- ---- a record

-- how far a life is, and what it was sent
pub record Progress : Type 0 where
  pub standing : Standing
  pub given : List Sending

-- with the answer to an entry
abbrev pub with_answer : List Sending → Standing × List Sending → Progress
with_answer given answer = record { standing = answer.0; given = given ++ answer.1 }

abbrev pub after_entry : Schema → Progress → Entry → Progress
after_entry schema p e = with_answer p.given (sent_for schema p.standing e)

-- a life begins with a reservation
abbrev pub life_start : Progress
life_start = record { standing = Reserved; given = [] }

-- how far a record leads
abbrev pub progress_of : Schema → Record → Progress
progress_of schema entries = fold (after_entry schema) life_start entries

-- what a record is sent
abbrev pub sent : Schema → Record → List Sending
sent schema entries = (progress_of schema entries).given
