-- A tick of a room, and what it makes of a life that goes on.
use Rattle.std.proofs.Common.{◌≡◌, ℕ, cond, List, [], ◌∷◌, ◌++◌, map, Some, refl, sym, ap, ap₂, subst, ◌∙◌}
use Rattle.std.specs.List.{flat_map}
use Rattle.std.specs.Option.{option_map, option_map_or}
use Rattle.state_model.specs.declared.row.RowEntry.{RowEntry}
use Rattle.state_model.specs.State.{swept}
use Rattle.state_model.specs.Shown.{permitted, shared}
use Rattle.room_model.specs.declared.event.RoomOut.{RoomOut}
use Rattle.room_model.specs.declared.event.RoomEvent.TheVariants as event
use Rattle.room_model.specs.declared.event.Stage.{Stage}
use Rattle.room_model.specs.declared.event.Stage.TheVariants.{Reserved, Joining, Due, Live, Kept}
use Rattle.room_model.specs.Sessions.{Session, session_of}
use Rattle.room_model.specs.Room.{RoomValue, after_tick, tick_outs, frames_at, ticked_at, session_swept}
use Rattle.room_laws.specs.Placed.{AreDistinct}
use Rattle.room_laws.proofs.SessionLists.{session_mapped, distinct_mapped}
use Rattle.room_laws.proofs.SessionNames.{ticked_name}
use Rattle.life_model.specs.Entries.{Ticked, Frame}
use Rattle.life_model.specs.Lives.{is_at, sees_ticks, tick_entries}
use Rattle.life_model.specs.RoomLives.{RoomLife, is_in, rows_for, room_entries, view_after, given_by}
use Rattle.room_promises.proofs.GoodLives.{held, Fits, GoesOn, with_more}
use Rattle.room_promises.proofs.GivenOwn.{own_frames}
use Rattle.room_promises.proofs.TickFits.{TickDecodes, entries_at, fits_tick}

ticked_now : (st : Stage) (rows : List RowEntry) (s : Session) → (ticked_at st rows s).members.now ≡ s.members.now
ticked_now Reserved rows s = refl
ticked_now Joining rows s = refl
ticked_now Due rows s = refl
ticked_now Live rows s = refl
ticked_now Kept rows s = refl

-- the rows of a tick
abbrev pub ticked_rows : RoomValue → List RowEntry
ticked_rows r = (swept r.state).rows

-- what a session sees at a tick, and the session behind it
abbrev pub sees_now : RoomValue → Session → List RowEntry
sees_now r t = permitted r.schema (ticked_rows r) t.members.now

abbrev ticks : RoomValue → Session → Session
ticks r t = ticked_at t.stage (sees_now r t) t

-- the frames of a session
abbrev pub frames_now : RoomValue → List RowEntry → Session → List (List ℕ)
frames_now r shared0 t = frames_at t.stage r.schema shared0 (shared r.schema (ticked_rows r)) (sees_now r t) t

-- its session swept
abbrev pub clean_of : RoomValue → Session → Session
clean_of r s = session_swept (ticked_rows r) s

swept_of : (r : RoomValue) (q : List ℕ) (s : Session) → session_of r.sessions q ≡ Some s → session_of (map (session_swept (ticked_rows r)) r.sessions) q ≡ Some (clean_of r s)
swept_of r q s there = session_mapped q (session_swept (ticked_rows r)) r.sessions (λ s. refl) ∙ ap (option_map (session_swept (ticked_rows r))) there

-- what a session's connection is given by a tick
pub tick_given : (r : RoomValue) (q : List ℕ) (s : Session) → AreDistinct r.sessions → session_of r.sessions q ≡ Some s → flat_map (given_by q) (after_tick r).1 ≡ map Frame (frames_now r r.shared (clean_of r s))
tick_given r q s distinct there =
    own_frames q (tick_outs r.schema r.shared (ticked_rows r)) (frames_now r r.shared) (map (session_swept (ticked_rows r)) r.sessions) (λ s. refl) (distinct_mapped (session_swept (ticked_rows r)) r.sessions (λ s. refl) distinct)
    ∙ ap (λ o. option_map_or (λ (s : Session). map Frame (frames_now r r.shared s)) o []) (swept_of r q s there)

module _ (before : List RowEntry) (r : RoomValue) (l : RoomLife) (g : GoesOn r.schema before r.sessions l) (distinct : AreDistinct r.sessions) (was : r.shared ≡ shared r.schema before)
    (d : TickDecodes r.schema before (swept r.state).rows) where
  abbrev after : RoomValue × List RoomOut
  after = after_tick r

  -- its session swept, and behind the tick
  abbrev clean : Session
  clean = clean_of r g.session

  now : session_of after.0.sessions l.session ≡ Some (ticks r clean)
  now = session_mapped l.session (ticks r) (map (session_swept (ticked_rows r)) r.sessions) (λ s. ticked_name s.stage (sees_now r s) s) ∙ ap (option_map (ticks r)) (swept_of r l.session g.session g.there)

  rows_now : rows_for after.0 l.session ≡ Some (shared r.schema (ticked_rows r), sees_now r clean)
  rows_now =
      ap (option_map (λ (s : Session). (shared r.schema (ticked_rows r), permitted r.schema (ticked_rows r) s.members.now))) now
      ∙ ap (λ ps. Some (shared r.schema (ticked_rows r), permitted r.schema (ticked_rows r) ps)) (ticked_now clean.stage (sees_now r clean) clean)

  pub entries_now : room_entries r event.Tick after.0 l.session ≡ cond (sees_ticks g.session.stage) (Ticked (shared r.schema (ticked_rows r)) (sees_now r clean) ∷ []) []
  entries_now = ap₂ (λ o p. cond (is_at sees_ticks o) (tick_entries p) []) g.there rows_now

  outs_now : flat_map (given_by l.session) after.1 ≡ map Frame (frames_now r (shared r.schema before) clean)
  outs_now = tick_given r l.session g.session distinct g.there ∙ ap (λ sh. map Frame (frames_now r sh clean)) was

  pub tick_on : GoesOn r.schema (swept r.state).rows after.0.sessions (with_more l (is_in after.0 l.session) (room_entries r event.Tick after.0 l.session) (flat_map (given_by l.session) after.1) (view_after event.Tick after.0 l))
  tick_on = record {
    session = ticks r clean;
    there = now;
    fits =
        subst (λ es. Fits r.schema (ticked_rows r) (held (ticks r clean)) (l.entries ++ es) (l.outputs ++ flat_map (given_by l.session) after.1) (view_after event.Tick after.0 l)) (sym entries_now)
        (subst (λ os. Fits r.schema (ticked_rows r) (held (ticks r clean)) (l.entries ++ entries_at r.schema before (ticked_rows r) d g.session.stage g.session) (l.outputs ++ os) (view_after event.Tick after.0 l)) (sym outs_now)
        (subst (λ o. Fits r.schema (ticked_rows r) (held (ticks r clean)) (l.entries ++ entries_at r.schema before (ticked_rows r) d g.session.stage g.session)
        (l.outputs ++ map Frame (frames_now r (shared r.schema before) clean)) (option_map_or (λ (rows : List RowEntry × List RowEntry). rows.1) o l.view)) (sym rows_now)
        (fits_tick r.schema before (ticked_rows r) d g.session.stage g.session l.entries l.outputs l.view g.fits)));
  }
