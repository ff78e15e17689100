-- What holds of each life of a run at each point: its record leads as far as its session is, and where it is live its
-- frames decode to what it may see.
use Rattle.std.proofs.Common.{◌≡◌, ℕ, Bool, true, List, [], ◌∷◌, ◌++◌, Some, Ok, sym, ap}
use Rattle.schema_model.specs.Classes.{Schema}
use Rattle.schema_model.specs.declared.place.Pair.{Pair}
use Rattle.state_model.specs.declared.row.RowEntry.{RowEntry}
use Rattle.state_model.specs.Reached.{freed}
use Rattle.state_model.specs.Shown.{permitted, shared}
use Rattle.wire_model.specs.Decoded.{seen}
use Rattle.room_model.specs.declared.event.Stage.{Stage}
use Rattle.room_model.specs.declared.event.Stage.TheVariants as stage
use Rattle.room_model.specs.Sessions.{Session, session_of}
use Rattle.life_model.specs.Entries.{Entry, Record, Sending, Frame}
use Rattle.life_model.specs.LatestFrames.{with_sending, latest_frames}
use Rattle.life_model.specs.Sent as standing
use Rattle.life_model.specs.Sent.{Standing, Progress, progress_of, sent}
use Rattle.life_model.specs.RoomLives.{RoomLife}

-- what its life depends on of a session: how far it is, what waits, and its permitted rows and pairs at the last tick
pub record Held : Type 0 where
  pub stage : Stage
  pub queue : List (List ℕ)
  pub permitted : List RowEntry
  pub last : List Pair

abbrev pub held : Session → Held
held s = record { stage = s.stage; queue = s.queue; permitted = s.permitted; last = s.members.last }

-- how far the record of such a session leads, where these are the shared rows at the last tick
abbrev pub standing_at : Stage → List (List ℕ) → List RowEntry → List RowEntry → Standing
standing_at stage.Reserved queue shared permitted = standing.Reserved
standing_at stage.Joining queue shared permitted = standing.Joining queue
standing_at stage.Due queue shared permitted = standing.Due queue
standing_at stage.Live queue shared permitted = standing.Live shared permitted
standing_at stage.Kept queue shared permitted = standing.Kept

-- a frame that is no state frame
abbrev pub IsMessage : List ℕ → Type 0
IsMessage frame = (frames : List (List ℕ)) → with_sending frames (Frame frame) ≡ frames

-- so are those that wait
abbrev pub AreMessages : List (List ℕ) → Type 0
AreMessages [] = Unit {0}
AreMessages (f ∷ fs) = IsMessage f × AreMessages fs

abbrev pub QueueFits : Stage → List (List ℕ) → Type 0
QueueFits stage.Reserved queue = queue ≡ []
QueueFits stage.Joining queue = AreMessages queue
QueueFits stage.Due queue = AreMessages queue
QueueFits stage.Live queue = Unit {0}
QueueFits stage.Kept queue = queue ≡ []

-- a live client sees what it may see
pub record Sees (schema : Schema) (rows : List RowEntry) (h : Held) (outputs : List Sending) (view : List RowEntry) : Type 0 where
  pub is_permitted : h.permitted ≡ permitted schema rows h.last
  pub is_view : view ≡ h.permitted
  pub is_free : freed h.permitted ≡ h.permitted
  pub decodes : seen schema (latest_frames outputs) ≡ Ok h.permitted

abbrev pub SeesAt : Stage → Schema → List RowEntry → Held → List Sending → List RowEntry → Type 0
SeesAt stage.Reserved schema rows h outputs view = Unit {0}
SeesAt stage.Joining schema rows h outputs view = Unit {0}
SeesAt stage.Due schema rows h outputs view = Unit {0}
SeesAt stage.Live schema rows h outputs view = Sees schema rows h outputs view
SeesAt stage.Kept schema rows h outputs view = Unit {0}

-- how far the record leads
abbrev pub progress_at : List RowEntry → Held → List Sending → Progress
progress_at shared h outputs = record { standing = standing_at h.stage h.queue shared h.permitted; given = outputs }

-- a record, what was given and the view fit a session, where these are the rows at the last tick
pub record Fits (schema : Schema) (rows : List RowEntry) (h : Held) (entries : Record) (outputs : List Sending) (view : List RowEntry) : Type 0 where
  pub progress : progress_of schema entries ≡ progress_at (shared schema rows) h outputs
  pub queue : QueueFits h.stage h.queue
  pub sees : SeesAt h.stage schema rows h outputs view

-- a life that goes on has its session in the room
pub record GoesOn (schema : Schema) (rows : List RowEntry) (ss : List Session) (l : RoomLife) : Type 0 where
  pub session : Session
  pub there : session_of ss l.session ≡ Some session
  pub fits : Fits schema rows (held session) l.entries l.outputs l.view

-- each life was given what its record is sent, also where it has ended
pub record GoodLife (schema : Schema) (rows : List RowEntry) (ss : List Session) (l : RoomLife) : Type 0 where
  pub equal : l.outputs ≡ sent schema l.entries
  pub goes_on : l.lasts ≡ true → GoesOn schema rows ss l

pub good_life : (schema : Schema) (rows : List RowEntry) (ss : List Session) (l : RoomLife) → GoesOn schema rows ss l → GoodLife schema rows ss l
good_life schema rows ss l g = record { equal = sym (ap (λ (p : Progress). p.given) g.fits.progress); goes_on = λ h. g }

-- the life with more behind it
abbrev pub with_more : RoomLife → Bool → List Entry → List Sending → List RowEntry → RoomLife
with_more l lasts es os view = record { session = l.session; lasts = lasts; entries = l.entries ++ es; outputs = l.outputs ++ os; view = view }
