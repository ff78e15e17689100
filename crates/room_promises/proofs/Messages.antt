-- Messages of a room, to one session or to all, and what they make of a life that goes on.
use Rattle.std.proofs.Common.{◌≡◌, ℕ, Bool, true, false, cond, ◌&&◌, List, [], ◌∷◌, ◌++◌, map, length, Some, Ok, Err, refl, sym, ap, subst, ◌∙◌}
use Rattle.std.specs.Prelude.{nat_lt}
use Rattle.std.specs.List.{flat_map}
use Rattle.std.specs.Option.{option_map, option_map_or}
use Rattle.std.specs.Str.{bytes_eq}
use Rattle.lists.proofs.SameBytes.{bytes_eq_self}
use Rattle.schema_model.specs.Classes.{Schema}
use Rattle.state_model.specs.declared.row.RowEntry.{RowEntry}
use Rattle.state_model.specs.Shown.{shared}
use Rattle.room_model.specs.declared.event.RoomOut.TheVariants as out
use Rattle.room_model.specs.declared.event.Stage.{Stage}
use Rattle.room_model.specs.declared.event.Stage.TheVariants.{Reserved, Joining, Due, Live, Kept}
use Rattle.room_model.specs.declared.refusal.Refusal.TheVariants as refusal
use Rattle.room_model.specs.Limits.{most_queued}
use Rattle.room_model.specs.Sessions.{Session, session_of, at_stage, with_queue, queued_for, told_at, told_to}
use Rattle.room_model.specs.Room.{RoomValue, on_session, told_all, session_after, outs_after}
use Rattle.room_laws.specs.Placed.{AreDistinct}
use Rattle.room_laws.proofs.PlacedSteps.{told_stays}
use Rattle.room_laws.proofs.SessionLists.{named_key, session_mapped}
use Rattle.room_laws.proofs.SessionNames.{told_name}
use Rattle.life_model.specs.Entries.{Record, Told, Sending, Frame}
use Rattle.life_model.specs.Lives.{entry_if, is_at, is_open}
use Rattle.life_model.specs.Sent.{progress_of}
use Rattle.life_model.specs.RoomLives.{RoomLife, has_conn, given_by}
use Rattle.room_promises.proofs.GoodLives.{held, IsMessage, AreMessages, progress_at, Fits, GoesOn}
use Rattle.room_promises.proofs.GivenOwn.{sent_to, own_frames}
use Rattle.room_promises.proofs.LifeSteps.{recorded, fits_still, fits_answered, StepsOn, goes_with}
use Rattle.room_promises.proofs.Acts.{acted_own, acted_other}

-- ---- a session

-- a session behind a message, whether it is told or refused
abbrev told : Stage → List ℕ → Session → Session
told st frame s = session_after s (told_at st frame s)

-- the frames that it is sent at once
abbrev frames_told : Stage → List ℕ → List (List ℕ)
frames_told Reserved frame = []
frames_told Joining frame = []
frames_told Due frame = []
frames_told Live frame = frame ∷ []
frames_told Kept frame = []

queued_outs : (frame : List ℕ) (s : Session) → outs_after (queued_for frame s) ≡ []
queued_outs frame s =
    let go : (b : Bool) → outs_after (cond b (Ok (record { session = with_queue (s.queue ++ frame ∷ []) s; outs = [] })) (Err refusal.QueueFull)) ≡ [] = elim [ true ↦ refl | false ↦ refl ] in
    go (nat_lt (length s.queue) most_queued)

told_outs : (st : Stage) (frame : List ℕ) (s : Session) → outs_after (told_at st frame s) ≡ map (out.Send s.id) (frames_told st frame)
told_outs Reserved frame s = refl
told_outs Joining frame s = queued_outs frame s
told_outs Due frame s = queued_outs frame s
told_outs Live frame s = refl
told_outs Kept frame s = refl

-- ---- its record

-- one message more that waits
one_more : (queue : List (List ℕ)) (frame : List ℕ) → AreMessages queue → IsMessage frame → AreMessages (queue ++ frame ∷ [])
one_more [] frame m is = (is, tt)
one_more (f ∷ fs) frame m is = (m.0, one_more fs frame m.1 is)

-- where it waits, and where too many do
module _ (schema : Schema) (rows : List RowEntry) (s : Session) (frame : List ℕ) (is : IsMessage frame) (entries : Record) (outputs : List Sending) (view : List RowEntry) where
  -- the session behind it
  abbrev waiting : Stage → Bool → Session
  waiting st b = session_after (at_stage st s) (cond b (Ok (record { session = with_queue (s.queue ++ frame ∷ []) (at_stage st s); outs = [] })) (Err refusal.QueueFull))

  -- how far the record is
  abbrev leads : Stage → Bool → Type 0
  leads st b = progress_of schema (entries ++ Told frame ∷ []) ≡ progress_at (shared schema rows) (held (with_queue (cond b (s.queue ++ frame ∷ []) s.queue) (at_stage st s))) (outputs ++ [])

  fits_joining : (b : Bool) → AreMessages s.queue → leads Joining b → Fits schema rows (held (waiting Joining b)) (entries ++ Told frame ∷ []) (outputs ++ []) view
  fits_joining true m p = record { progress = p; queue = one_more s.queue frame m is; sees = tt }
  fits_joining false m p = record { progress = p; queue = m; sees = tt }

  fits_due : (b : Bool) → AreMessages s.queue → leads Due b → Fits schema rows (held (waiting Due b)) (entries ++ Told frame ∷ []) (outputs ++ []) view
  fits_due true m p = record { progress = p; queue = one_more s.queue frame m is; sees = tt }
  fits_due false m p = record { progress = p; queue = m; sees = tt }

  -- at any stage
  fits_told : (st : Stage) → Fits schema rows (held (at_stage st s)) entries outputs view
      → Fits schema rows (held (told st frame (at_stage st s))) (entries ++ entry_if (is_open st) (Told frame)) (outputs ++ map Frame (frames_told st frame)) view
  fits_told Reserved f = fits_still schema rows (held (at_stage Reserved s)) (held (at_stage Reserved s)) entries [] outputs [] view f refl refl refl
  fits_told Joining f = fits_joining (nat_lt (length s.queue) most_queued) f.queue (recorded schema entries (Told frame) _ f.progress)
  fits_told Due f = fits_due (nat_lt (length s.queue) most_queued) f.queue (recorded schema entries (Told frame) _ f.progress)
  fits_told Live f = fits_answered schema rows (held (at_stage Live s)) entries (Told frame) outputs (Frame frame ∷ []) view f refl is
  fits_told Kept f = fits_still schema rows (held (at_stage Kept s)) (held (at_stage Kept s)) entries [] outputs [] view f refl refl refl

-- ---- a life

module _ (schema : Schema) (rows : List RowEntry) (r : RoomValue) (l : RoomLife) (g : GoesOn schema rows r.sessions l) (frame : List ℕ) (is : IsMessage frame) where
  -- what is given of what a session of another name gives, or of the same
  told_given : (s : Session) (b : Bool) → bytes_eq s.id l.session ≡ b → flat_map (given_by l.session) (outs_after (told_to frame s)) ≡ cond b (map Frame (frames_told s.stage frame)) []
  told_given s b e =
      ap (flat_map (given_by l.session)) (told_outs s.stage frame s)
      ∙ (sent_to l.session s.id (frames_told s.stage frame) ∙ ap (λ b. cond b (map Frame (frames_told s.stage frame)) []) e)

  -- behind it its own session fits
  fits_now : Fits schema rows (held (told g.session.stage frame g.session)) (l.entries ++ entry_if (is_open g.session.stage) (Told frame)) (l.outputs ++ map Frame (frames_told g.session.stage frame)) l.view
  fits_now = fits_told schema rows g.session frame is l.entries l.outputs l.view g.session.stage g.fits

  recorded_now : entry_if (has_conn r l.session) (Told frame) ≡ entry_if (is_open g.session.stage) (Told frame)
  recorded_now = ap (λ o. entry_if (is_at is_open o) (Told frame)) g.there

  -- to one session
  pub told_on : (id : List ℕ) → StepsOn schema rows (on_session r id (told_to frame)) (entry_if (bytes_eq id l.session && has_conn r l.session) (Told frame)) l
  told_on id = by_name (bytes_eq id l.session) refl
    where
      named : g.session.id ≡ l.session
      named = named_key (λ (s : Session). s.id) l.session r.sessions g.session g.there

      by_name : (b : Bool) → bytes_eq id l.session ≡ b → StepsOn schema rows (on_session r id (told_to frame)) (entry_if (b && has_conn r l.session) (Told frame)) l
      by_name true e =
          subst (λ es. StepsOn schema rows (on_session r id (told_to frame)) es l) (sym recorded_now)
          (acted_own schema rows r l g id (told_to frame) (entry_if (is_open g.session.stage) (Told frame)) (map Frame (frames_told g.session.stage frame)) e (told_stays g.session.stage frame g.session)
          (told_given g.session true (ap (λ n. bytes_eq n l.session) named ∙ bytes_eq_self l.session)) fits_now)
      by_name false e =
          acted_other schema rows r l g id (told_to frame) e (λ s. told_stays s.stage frame s)
          (λ s name. told_given s false (ap (λ n. bytes_eq n l.session) name ∙ e))

  -- to all
  pub all_told_on : AreDistinct r.sessions → StepsOn schema rows (told_all r frame) (entry_if (has_conn r l.session) (Told frame)) l
  all_told_on distinct =
      goes_with schema rows (told_all r frame) (entry_if (has_conn r l.session) (Told frame)) (entry_if (is_open g.session.stage) (Told frame)) (map Frame (frames_told g.session.stage frame)) l
      (told g.session.stage frame g.session) now recorded_now given fits_now
    where
      now : session_of (told_all r frame).0.sessions l.session ≡ Some (told g.session.stage frame g.session)
      now =
          session_mapped l.session (λ (s : Session). session_after s (told_to frame s)) r.sessions (λ s. told_name s (told_to frame s) (told_stays s.stage frame s))
          ∙ ap (option_map (λ (s : Session). session_after s (told_to frame s))) g.there

      given : flat_map (given_by l.session) (told_all r frame).1 ≡ map Frame (frames_told g.session.stage frame)
      given =
          own_frames l.session (λ (s : Session). outs_after (told_to frame s)) (λ (s : Session). frames_told s.stage frame) r.sessions (λ s. told_outs s.stage frame s) distinct
          ∙ ap (λ o. option_map_or (λ (s : Session). map Frame (frames_told s.stage frame)) o []) g.there
