-- The client that follows a life in a room, behind an event of the room.
use Rattle.std.proofs.Common.{◌≡◌, ℕ, Bool, true, false, cond, List, [], ◌++◌, Option, Some, None, refl, sym, ap, subst, ◌∙◌, append-nil}
use Rattle.std.proofs.lemmas.Bool.{and_parts}
use Rattle.schema_model.specs.Classes.{Schema, is_kept}
use Rattle.state_model.specs.declared.row.RowEntry.{RowEntry}
use Rattle.state_model.specs.State.{State, swept}
use Rattle.state_model.specs.Shown.{shared}
use Rattle.frame_model.specs.Frames.{server_bytes}
use Rattle.frame_model.specs.declared.frame.ServerFrame.TheVariants as server
use Rattle.room_model.specs.Acts.{may_act, has_kept_kind}
use Rattle.room_model.specs.declared.event.Act.{Act}
use Rattle.room_model.specs.declared.event.Act.TheVariants as act
use Rattle.room_model.specs.declared.event.RoomEvent.{RoomEvent}
use Rattle.room_model.specs.declared.event.RoomEvent.TheVariants as event
use Rattle.room_model.specs.declared.event.Stage.{Stage}
use Rattle.room_model.specs.declared.event.Stage.TheVariants.{Reserved, Joining, Due, Live, Kept}
use Rattle.room_model.specs.Sessions.{Session, session_of, at_stage}
use Rattle.room_model.specs.Room.{RoomValue, room_step}
use Rattle.room_laws.specs.Places.{may_happen}
use Rattle.life_model.specs.Entries.{Entry, Record, Opened, Framed, Told, Ticked, Dropped, Kicked, Lapsed, Sending}
use Rattle.life_model.specs.Followed.{client_given}
use Rattle.life_model.specs.Lives.{entry_if, act_entries, tick_entries, is_at, is_live_stage, sees_ticks}
use Rattle.life_model.specs.RoomLives.{RoomLife, rows_for, room_entries, is_live}
use Rattle.life_model.specs.Sent.{Progress, progress_of}
use Rattle.room_promises.proofs.GoodLives.{Held, held, standing_at, SeesAt, Fits, GoesOn, GoodLife}
use Rattle.room_promises.proofs.RoomSteps.{GoodRoom, is_tick}
use Rattle.room_promises.proofs.TickFits.{TickDecodes, seen_by, entries_at, patch_leads, patch_stays}
use Rattle.room_promises.proofs.TickSteps.{entries_now}
use Rattle.room_promises.proofs.TickBytes.{tick_decodes}
use Rattle.room_promises.proofs.Turns.{message_taken, raw_taken}
use Rattle.room_promises.proofs.Follows.{Follows, Followed, Suits, followed_none, followed_more}

-- a record without more
pub followed_same : (schema : Schema) (entries : Record) → Followed schema entries → Followed schema (entries ++ [])
followed_same schema entries f = subst (Followed schema) (sym (append-nil entries)) f

-- an entry, where there is one
followed_if : (schema : Schema) (entries : Record) (b : Bool) (e : Entry) → Suits schema (progress_of schema entries).standing e → Followed schema entries → Followed schema (entries ++ entry_if b e)
followed_if schema entries true e suits f = followed_more schema entries e suits f
followed_if schema entries false e suits f = followed_same schema entries f

-- ---- an act

act_follows : (schema : Schema) (entries : Record) (session : List ℕ) (s : Option Session) (a : Act) → may_act a ≡ true → has_kept_kind a ≡ true → Followed schema entries → Followed schema (entries ++ act_entries session s a)
act_follows schema entries session s (act.Send id kind payload) may good f = followed_if schema entries _ (Told (server_bytes (server.Msg kind payload))) (message_taken schema kind payload may good) f
act_follows schema entries session s (act.Raw id kind payload) may good f = followed_if schema entries _ (Told (server_bytes (server.Raw kind payload))) (raw_taken schema kind payload may good) f
act_follows schema entries session s (act.ToAll kind payload) may good f = followed_if schema entries _ (Told (server_bytes (server.Msg kind payload))) (message_taken schema kind payload may good) f
act_follows schema entries session s (act.Kick id code) may good f = followed_if schema entries _ (Kicked code) tt f
act_follows schema entries session s a may good f = followed_same schema entries f

-- ---- any event but a tick

-- the message of an event's act is about such a kind as a program has
abbrev pub tells_kept_kind : RoomEvent → Bool
tells_kept_kind (event.Act a) = has_kept_kind a
tells_kept_kind e = true

pub event_follows : (schema : Schema) (r : RoomValue) (e : RoomEvent) (after : RoomValue) (session : List ℕ) (entries : Record) → is_tick e ≡ false → tells_kept_kind e ≡ true → may_happen r e ≡ true → Followed schema entries
    → Followed schema (entries ++ room_entries r e after session)
event_follows schema r (event.Reserve id lapse) after session entries other good may f = followed_same schema entries f
event_follows schema r (event.Enter id token fresh) after session entries other good may f = followed_if schema entries _ (Opened fresh) tt f
event_follows schema r (event.Frame id bytes) after session entries other good may f = followed_if schema entries _ (Framed bytes) tt f
event_follows schema r (event.Lost id now) after session entries other good may f = followed_if schema entries _ (Dropped _) tt f
event_follows schema r (event.Moment now) after session entries other good may f = followed_if schema entries _ Lapsed tt f
event_follows schema r (event.Act a) after session entries other good may f = act_follows schema entries session (session_of r.sessions session) a may good f
event_follows schema r event.Tick after session entries other good may f = cc

-- ---- a tick

module _ (schema : Schema) (before after : List RowEntry) (d : TickDecodes schema before after) where
  -- what a session sees of it suits its record
  seen_follows : (st : Stage) (s : Session) (entries : Record) (outputs : List Sending) (view : List RowEntry) → Fits schema before (held (at_stage st s)) entries outputs view → Followed schema entries
      → Followed schema (entries ++ entries_at schema before after d st s)
  seen_follows Reserved s entries outputs view fits f = followed_same schema entries f
  seen_follows Joining s entries outputs view fits f = followed_same schema entries f
  seen_follows Kept s entries outputs view fits f = followed_same schema entries f
  seen_follows Due s entries outputs view fits f =
      followed_more schema entries (Ticked (shared schema after) (seen_by schema before after d s))
      (subst (λ (p : Progress). Suits schema p.standing (Ticked (shared schema after) (seen_by schema before after d s))) (sym fits.progress) (d.whole _)) f
  seen_follows Live s entries outputs view fits f =
      followed_more schema entries (Ticked (shared schema after) (seen_by schema before after d s))
      (subst (λ (p : Progress). Suits schema p.standing (Ticked (shared schema after) (seen_by schema before after d s))) (sym fits.progress)
      (patch_leads schema before after d s outputs view fits.sees, patch_stays schema before after d s outputs view fits.sees)) f

-- a life that goes on
pub tick_follows : (schema : Schema) (last : State) (r : RoomValue) (l : RoomLife) → is_kept schema ≡ true → GoodRoom schema last r → GoesOn schema last.rows r.sessions l → Followed schema l.entries
    → Followed schema (l.entries ++ room_entries r event.Tick (room_step r event.Tick).0 l.session)
tick_follows schema last r l kept room on f = steps on f
  where
    -- of the room's own schema
    own : GoesOn r.schema last.rows r.sessions l → Followed r.schema l.entries → Followed r.schema (l.entries ++ room_entries r event.Tick (room_step r event.Tick).0 l.session)
    own on f =
        let was : r.shared ≡ shared r.schema last.rows = subst (λ s. r.shared ≡ shared s last.rows) (sym room.schema_is) room.shared_is in
        let d : TickDecodes r.schema last.rows (swept r.state).rows = subst (λ s. TickDecodes s last.rows (swept r.state).rows) (sym room.schema_is) (tick_decodes schema last r.state kept room.states) in
        subst (λ es. Followed r.schema (l.entries ++ es)) (sym (entries_now last.rows r l on room.placed.distinct was d))
        (seen_follows r.schema last.rows (swept r.state).rows d on.session.stage on.session l.entries l.outputs l.view on.fits f)

    steps : GoesOn schema last.rows r.sessions l → Followed schema l.entries → Followed schema (l.entries ++ room_entries r event.Tick (room_step r event.Tick).0 l.session)
    steps = subst (λ s. GoesOn s last.rows r.sessions l → Followed s l.entries → Followed s (l.entries ++ room_entries r event.Tick (room_step r event.Tick).0 l.session)) room.schema_is own

-- and one that begins
pub begun_ticked : (schema : Schema) (r after : RoomValue) (session : List ℕ) → Followed schema ([] ++ room_entries r event.Tick after session)
begun_ticked schema r after session = by_test (is_at sees_ticks (session_of r.sessions session)) (rows_for after session)
  where
    by_rows : (rows : Option (List RowEntry × List RowEntry)) → Followed schema (tick_entries rows)
    by_rows None = followed_none schema
    by_rows (Some rows) = record { taken = refl; not_closed = refl; stands = tt; queue = tt }

    by_test : (b : Bool) (rows : Option (List RowEntry × List RowEntry)) → Followed schema (cond b (tick_entries rows) [])
    by_test true rows = by_rows rows
    by_test false rows = followed_none schema

-- ---- a live life

live_follows : (st : Stage) (schema : Schema) (rows : List RowEntry) (h : Held) (outputs : List Sending) (view : List RowEntry) → is_live_stage st ≡ true → SeesAt st schema rows h outputs view
    → Follows schema (record { standing = standing_at st h.queue (shared schema rows) h.permitted; given = outputs }) → (client_given schema outputs).rows ≡ view
live_follows Live schema rows h outputs view is s f = f.stands.1 ∙ sym s.is_view
live_follows Reserved schema rows h outputs view is s f = cc
live_follows Joining schema rows h outputs view is s f = cc
live_follows Due schema rows h outputs view is s f = cc
live_follows Kept schema rows h outputs view is s f = cc

-- the client that follows it has the rows that it may see
pub life_follows : (schema : Schema) (rows : List RowEntry) (r : RoomValue) (l : RoomLife) → GoodLife schema rows r.sessions l → Followed schema l.entries → is_live r l ≡ true → (client_given schema l.outputs).rows ≡ l.view
life_follows schema rows r l g f live =
    let both = and_parts l.lasts (is_at is_live_stage (session_of r.sessions l.session)) live in
    let on : GoesOn schema rows r.sessions l = g.goes_on both.0 in
    live_follows on.session.stage schema rows (held on.session) l.outputs l.view (sym (ap (is_at is_live_stage) on.there) ∙ both.1) on.fits.sees (subst (Follows schema) on.fits.progress f)
