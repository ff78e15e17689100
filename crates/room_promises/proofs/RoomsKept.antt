-- Rooms keep their promises, over every list of events that may happen.
use Rattle.std.proofs.Common.{◌≡◌, ◌≤◌, true, List, [], ◌∷◌, Ok, refl, sym, ap, subst, ◌∙◌}
use Rattle.std.specs.List.{fold}
use Rattle.std.proofs.lemmas.Bool.{and_parts}
use Rattle.std.proofs.lemmas.List.Elements.{All-nil, All-contains}
use Rattle.schema_model.specs.Classes.{Schema}
use Rattle.state_model.specs.declared.row.RowEntry.{RowEntry}
use Rattle.state_model.specs.State.{new_state}
use Rattle.wire_model.specs.Decoded.{seen}
use Rattle.room_model.specs.declared.definition.RoomDef.{RoomDef}
use Rattle.room_model.specs.declared.event.RoomEvent.{RoomEvent}
use Rattle.room_model.specs.declared.event.Stage.{Stage}
use Rattle.room_model.specs.declared.event.Stage.TheVariants.{Reserved, Joining, Due, Live, Kept}
use Rattle.room_model.specs.Seats.{in_use}
use Rattle.room_model.specs.Sessions.{session_of}
use Rattle.room_model.specs.Room.{RoomValue, new_room}
use Rattle.room_laws.specs.Places.{room_after}
use Rattle.room_laws.proofs.RoomPlaces.{rooms_keep_places}
use Rattle.life_model.specs.Entries.{Sending}
use Rattle.life_model.specs.Lives.{is_at, is_live_stage}
use Rattle.life_model.specs.LatestFrames.{latest_frames}
use Rattle.life_model.specs.Sent.{sent}
use Rattle.life_model.specs.RoomLives.{RoomLife, RoomRun, run_step, room_run, is_live}
use Rattle.room_promises.specs.RoomPromises.{Keeps, RoomsKeep, EqualRecordsEqualBytes}
use Rattle.room_promises.proofs.GoodLives.{Held, held, SeesAt, GoesOn, GoodLife}
use Rattle.room_promises.proofs.RoomSteps.{new_good}
use Rattle.room_promises.proofs.RunSteps.{GoodRun, runs_good}

-- a good run keeps the promises

live_sees : (st : Stage) (schema : Schema) (rows : List RowEntry) (h : Held) (outputs : List Sending) (view : List RowEntry) → is_live_stage st ≡ true → SeesAt st schema rows h outputs view → seen schema (latest_frames outputs) ≡ Ok view
live_sees Live schema rows h outputs view is s = s.decodes ∙ ap Ok (sym s.is_view)
live_sees Reserved schema rows h outputs view is s = cc
live_sees Joining schema rows h outputs view is s = cc
live_sees Due schema rows h outputs view is s = cc
live_sees Kept schema rows h outputs view is s = cc

pub life_sees : (schema : Schema) (rows : List RowEntry) (x : RoomRun) (l : RoomLife) → GoodLife schema rows x.room.sessions l → is_live x.room l ≡ true → seen schema (latest_frames l.outputs) ≡ Ok l.view
life_sees schema rows x l g live =
    let both = and_parts l.lasts (is_at is_live_stage (session_of x.room.sessions l.session)) live in
    let on : GoesOn schema rows x.room.sessions l = g.goes_on both.0 in
    live_sees on.session.stage schema rows (held on.session) l.outputs l.view (sym (ap (is_at is_live_stage) on.there) ∙ both.1) on.fits.sees

good_keeps : (schema : Schema) (def : RoomDef) (x : RoomRun) → GoodRun schema x → in_use x.room.seats ≤ x.room.seats.max → Keeps schema def x
good_keeps schema def x g within = record {
  sees = λ l there live. life_sees schema g.last.rows x l (All-contains (GoodLife schema g.last.rows x.room.sessions) x.lives l g.lives there) live;
  equal = λ l there. (All-contains (GoodLife schema g.last.rows x.room.sessions) x.lives l g.lives there).equal;
  places = within;
}

-- its room is the one after the events
pub run_room : (x : RoomRun) (events : List RoomEvent) → (fold run_step x events).room ≡ room_after x.room events
run_room x [] = refl
run_room x (e ∷ es) = run_room (run_step x e) es

-- so does every run from a new room
pub rooms_keep : RoomsKeep
rooms_keep schema def criteria events can =
    good_keeps schema def (room_run schema def criteria events)
    (runs_good schema (record { room = new_room schema def criteria; lives = [] }) events can.schema_kept can.worded can.follow
    (record { last = new_state schema; room = new_good schema def criteria can.schema_kept; lives = All-nil _ }))
    (subst (λ (r : RoomValue). in_use r.seats ≤ r.seats.max) (sym (run_room (record { room = new_room schema def criteria; lives = [] }) events)) (rooms_keep_places schema def criteria events can.follow))

pub equal_records_equal_bytes : EqualRecordsEqualBytes
equal_records_equal_bytes schema def other criteria others events happened can may k l there here same =
    (rooms_keep schema def criteria events can).equal k there
    ∙ (ap (sent schema) same ∙ sym ((rooms_keep schema other others happened may).equal l here))
