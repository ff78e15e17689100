-- The frames of a client, and what each makes of a life that goes on, by what it is read as.
use Rattle.std.proofs.Common.{◌≡◌, ℕ, Bool, true, false, cond, ◌&&◌, List, [], ◌∷◌, ◌++◌, Some, Result, Ok, Err, refl, sym, ap, subst, ◌∙◌}
use Rattle.std.specs.List.{flat_map}
use Rattle.std.specs.Str.{bytes_eq}
use Rattle.lists.proofs.SameBytes.{same_bytes}
use Rattle.schema_model.specs.Classes.{Schema}
use Rattle.state_model.specs.declared.row.RowEntry.{RowEntry}
use Rattle.state_model.specs.Shown.{shared}
use Rattle.frame_model.specs.Reading.{read_client}
use Rattle.frame_model.specs.declared.fault.FrameFault.{FrameFault}
use Rattle.frame_model.specs.declared.frame.MsgKind.{MsgKind}
use Rattle.frame_model.specs.declared.frame.ClientFrame.{ClientFrame}
use Rattle.frame_model.specs.declared.frame.ClientFrame.TheVariants as client
use Rattle.room_model.specs.declared.event.RoomOut.{RoomOut}
use Rattle.room_model.specs.declared.event.RoomOut.TheVariants as out
use Rattle.room_model.specs.declared.event.Stage.{Stage}
use Rattle.room_model.specs.declared.event.Stage.TheVariants.{Reserved, Joining, Due, Live, Kept}
use Rattle.room_model.specs.Sessions.{Session, session_of, change_session, is_connected, at_stage}
use Rattle.room_model.specs.Room.{RoomValue, after_read, after_frame, acknowledged, acknowledged_at, unread_frame}
use Rattle.room_laws.proofs.SessionNames.{acknowledged_name}
use Rattle.life_model.specs.Entries.{Entry, Record, Framed, Sending, Frame, Closing}
use Rattle.life_model.specs.Lives.{entry_if}
use Rattle.life_model.specs.Sent as standing
use Rattle.life_model.specs.Sent.{Standing, sent_for, sent_read, with_answer}
use Rattle.life_model.specs.RoomLives.{RoomLife, has_conn, given_by}
use Rattle.room_promises.proofs.GoodLives.{held, standing_at, Fits, GoesOn}
use Rattle.room_promises.proofs.GivenOwn.{sent_to}
use Rattle.room_promises.proofs.EventCases.{where_cases}
use Rattle.room_promises.proofs.LifeSteps.{recorded, Pass, fits_answered, goes_with, quiet, StepsGood, steps_good, ends_with, changed_here, changed_elsewhere, ended_own, ended_other, unheard, heard, overheard, one_session}

-- a record is sent for a frame what the standing is sent for what it is read as
framed_sent : (schema : Schema) (st : Stage) (queue : List (List ℕ)) (sh permitted : List RowEntry) (bytes : List ℕ) (x : Result ClientFrame FrameFault) → is_connected st ≡ true → read_client bytes ≡ x
    → sent_for schema (standing_at st queue sh permitted) (Framed bytes) ≡ sent_read (standing_at st queue sh permitted) x
framed_sent schema Reserved queue sh permitted bytes x h is = cc
framed_sent schema Joining queue sh permitted bytes x h is = ap (sent_read (standing_at Joining queue sh permitted)) is
framed_sent schema Due queue sh permitted bytes x h is = ap (sent_read (standing_at Due queue sh permitted)) is
framed_sent schema Live queue sh permitted bytes x h is = ap (sent_read (standing_at Live queue sh permitted)) is
framed_sent schema Kept queue sh permitted bytes x h is = cc

-- the record of a session whose connection gives an acknowledgement
fits_acknowledged : (schema : Schema) (rows : List RowEntry) (st : Stage) (s : Session) (bytes : List ℕ) (entries : Record) (outputs : List Sending) (view : List RowEntry) → is_connected st ≡ true
    → read_client bytes ≡ Ok client.Ack → Fits schema rows (held (at_stage st s)) entries outputs view → Fits schema rows (held (acknowledged_at st (at_stage st s))) (entries ++ Framed bytes ∷ []) (outputs ++ []) view
fits_acknowledged schema rows Reserved s bytes entries outputs view h is f = cc
fits_acknowledged schema rows Joining s bytes entries outputs view h is f = record {
  progress = recorded schema entries (Framed bytes) _ f.progress ∙ ap (with_answer outputs) (framed_sent schema Joining s.queue (shared schema rows) s.permitted bytes (Ok client.Ack) h is);
  queue = f.queue;
  sees = tt;
}
fits_acknowledged schema rows Due s bytes entries outputs view h is f =
    fits_answered schema rows (held (at_stage Due s)) entries (Framed bytes) outputs [] view f (framed_sent schema Due s.queue (shared schema rows) s.permitted bytes (Ok client.Ack) h is) (λ frames. refl)
fits_acknowledged schema rows Live s bytes entries outputs view h is f =
    fits_answered schema rows (held (at_stage Live s)) entries (Framed bytes) outputs [] view f (framed_sent schema Live s.queue (shared schema rows) s.permitted bytes (Ok client.Ack) h is) (λ frames. refl)
fits_acknowledged schema rows Kept s bytes entries outputs view h is f = cc

-- what a standing is sent for the other frames
message_sent : (s : Standing) (kind : MsgKind) (payload : List ℕ) → sent_read s (Ok (client.Msg kind payload)) ≡ (s, [])
message_sent (standing.Joining queue) kind payload = refl
message_sent s kind payload = refl

raw_sent : (s : Standing) (kind : MsgKind) (payload : List ℕ) → sent_read s (Ok (client.Raw kind payload)) ≡ (s, [])
raw_sent (standing.Joining queue) kind payload = refl
raw_sent s kind payload = refl

unread_sent : (s : Standing) (f : FrameFault) → sent_read s (Err f) ≡ (s, Frame unread_frame ∷ [])
unread_sent (standing.Joining queue) f = refl
unread_sent s f = refl

leave_sent : (s : Standing) → (sent_read s (Ok client.Leave)).1 ≡ Closing 4000 ∷ []
leave_sent (standing.Joining queue) = refl
leave_sent s = refl

module _ (schema : Schema) (rows : List RowEntry) (r : RoomValue) (l : RoomLife) (g : GoesOn schema rows r.sessions l) (id bytes : List ℕ) where
  -- what is recorded of it
  abbrev framing : List Entry
  framing = entry_if (bytes_eq id l.session && has_conn r l.session) (Framed bytes)

  -- how far the record is
  abbrev standing_now : Standing
  standing_now = standing_at g.session.stage g.session.queue (shared schema rows) g.session.permitted

  keeps : (q : List ℕ) (s : Session) → bytes_eq s.id q ≡ true → (acknowledged s).id ≡ s.id
  keeps q s e = acknowledged_name s.stage s

  -- what is given: a closing, or the answer to what can't be read, where it is the session's own
  closings : (b : Bool) → bytes_eq id l.session ≡ b → flat_map (given_by l.session) (out.Close id 4000 ∷ out.Left id ∷ []) ≡ cond b (Closing 4000 ∷ []) []
  closings true e = ap (λ b. cond b (Closing 4000 ∷ []) [] ++ []) e
  closings false e = ap (λ b. cond b (Closing 4000 ∷ []) [] ++ []) e

  answers : (b : Bool) → bytes_eq id l.session ≡ b → flat_map (given_by l.session) (out.Send id unread_frame ∷ []) ≡ cond b (Frame unread_frame ∷ []) []
  answers b e = sent_to l.session id (unread_frame ∷ []) ∙ ap (λ b. cond b (Frame unread_frame ∷ []) []) e

  -- ---- where its own connection gives it

  -- a frame that leaves the session as it is
  stays_on : (x : Result ClientFrame FrameFault) (outs : List RoomOut) (os : List Sending) → read_client bytes ≡ x → is_connected g.session.stage ≡ true → framing ≡ Framed bytes ∷ []
      → flat_map (given_by l.session) outs ≡ os → sent_read standing_now x ≡ (standing_now, os) → Pass os → StepsGood schema rows (r, outs) framing l
  stays_on x outs os is on one given answer pass =
      steps_good schema rows (r, outs) framing l
      (goes_with schema rows (r, outs) framing (Framed bytes ∷ []) os l g.session g.there one given
      (fits_answered schema rows (held g.session) l.entries (Framed bytes) l.outputs os l.view g.fits
      (framed_sent schema g.session.stage g.session.queue (shared schema rows) g.session.permitted bytes x on is ∙ answer) pass))

  own : (x : Result ClientFrame FrameFault) → read_client bytes ≡ x → bytes_eq id l.session ≡ true → is_connected g.session.stage ≡ true → framing ≡ Framed bytes ∷ [] → StepsGood schema rows (after_read r id x) framing l
  own (Ok client.Ack) is e on one =
      let now : session_of (change_session id acknowledged r.sessions) l.session ≡ Some (acknowledged g.session) =
      subst (λ n. session_of (change_session n acknowledged r.sessions) l.session ≡ Some (acknowledged g.session)) (sym (same_bytes id l.session e))
      (changed_here l.session acknowledged r.sessions g.session (keeps l.session) g.there) in
      steps_good schema rows (after_read r id (Ok client.Ack)) framing l
      (goes_with schema rows (after_read r id (Ok client.Ack)) framing (Framed bytes ∷ []) [] l (acknowledged g.session) now one refl
      (fits_acknowledged schema rows g.session.stage g.session bytes l.entries l.outputs l.view on is g.fits))
  own (Ok client.Leave) is e on one =
      ends_with schema rows r.sessions (after_read r id (Ok client.Leave)) framing (Framed bytes) (Closing 4000 ∷ []) l g (ended_own r id l.session e) one (closings true e)
      (ap (λ (a : Standing × List Sending). a.1) (framed_sent schema g.session.stage g.session.queue (shared schema rows) g.session.permitted bytes (Ok client.Leave) on is) ∙ leave_sent standing_now)
  own (Ok (client.Msg kind payload)) is e on one =
      stays_on (Ok (client.Msg kind payload)) (out.Message id kind payload ∷ []) [] is on one refl (message_sent standing_now kind payload) (λ frames. refl)
  own (Ok (client.Raw kind payload)) is e on one =
      stays_on (Ok (client.Raw kind payload)) (out.RawMessage id kind payload ∷ []) [] is on one refl (raw_sent standing_now kind payload) (λ frames. refl)
  own (Err f) is e on one = stays_on (Err f) (out.Send id unread_frame ∷ []) (Frame unread_frame ∷ []) is on one (answers true e) (unread_sent standing_now f) (λ frames. refl)

  -- ---- where another session's does

  unchanged : (x : Result ClientFrame FrameFault) → bytes_eq id l.session ≡ false → session_of (after_read r id x).0.sessions l.session ≡ Some g.session
  unchanged (Ok client.Ack) e = changed_elsewhere id l.session acknowledged r.sessions g.session (keeps id) e g.there
  unchanged (Ok client.Leave) e = ended_other r id l.session g.session e g.there
  unchanged (Ok (client.Msg kind payload)) e = g.there
  unchanged (Ok (client.Raw kind payload)) e = g.there
  unchanged (Err f) e = g.there

  ungiven : (x : Result ClientFrame FrameFault) → bytes_eq id l.session ≡ false → flat_map (given_by l.session) (after_read r id x).1 ≡ []
  ungiven (Ok client.Ack) e = refl
  ungiven (Ok client.Leave) e = closings false e
  ungiven (Ok (client.Msg kind payload)) e = refl
  ungiven (Ok (client.Raw kind payload)) e = refl
  ungiven (Err f) e = answers false e

  -- ---- any frame

  pub frame_on : StepsGood schema rows (after_frame r id bytes) framing l
  frame_on =
      where_cases (λ x. StepsGood schema rows x framing l) r (session_of r.sessions id) (λ s. after_read r id (read_client bytes))
      (λ off. steps_good schema rows (r, []) framing l (quiet schema rows r.sessions (r, []) framing l g g.session g.there refl (unheard r id l.session (Framed bytes) off) refl))
      (λ s found on. by_name s found on (bytes_eq id l.session) refl)
    where
      by_name : (s : Session) → session_of r.sessions id ≡ Some s → is_connected s.stage ≡ true → (b : Bool) → bytes_eq id l.session ≡ b → StepsGood schema rows (after_read r id (read_client bytes)) framing l
      by_name s found on true e =
          let one : s ≡ g.session = one_session r.sessions id l.session s g.session e found g.there in
          own (read_client bytes) refl e (subst (λ (s : Session). is_connected s.stage ≡ true) one on) (heard r id l.session s (Framed bytes) e found on)
      by_name s found on false e =
          let x : RoomValue × List RoomOut = after_read r id (read_client bytes) in
          steps_good schema rows x framing l
          (quiet schema rows r.sessions x framing l g g.session (unchanged (read_client bytes) e) refl (overheard r id l.session (Framed bytes) e) (ungiven (read_client bytes) e))
