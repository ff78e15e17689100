-- A tick that a session sees: how far its record leads, and what its frames decode to.
use Rattle.std.proofs.Common.{◌≡◌, ℕ, Bool, true, false, cond, List, [], ◌∷◌, ◌++◌, map, Option, Some, None, Result, Ok, Err, refl, sym, ap, subst, ◌∙◌, append-nil}
use Rattle.std.specs.List.{fold}
use Rattle.std.proofs.lemmas.List.Sums.{fold-append}
use Rattle.schema_model.specs.Classes.{Schema}
use Rattle.schema_model.specs.declared.place.Pair.{Pair}
use Rattle.state_model.specs.declared.row.RowEntry.{RowEntry}
use Rattle.state_model.specs.Rows.{root_alone}
use Rattle.state_model.specs.Reached.{freed}
use Rattle.state_model.specs.Members.{live_members}
use Rattle.state_model.specs.Shown.{permitted, shared}
use Rattle.state_laws.proofs.FreedParts.{freed_freed}
use Rattle.wire_model.specs.declared.fault.OpFault.{OpFault}
use Rattle.wire_model.specs.Frame.{state_frame, full_state, has_operation}
use Rattle.wire_model.specs.Grammar.{read_blocks}
use Rattle.wire_model.specs.Decoded.{decoded, ended_by, run_blocks, seen, after_frame}
use Rattle.frame_model.specs.Frames.{server_bytes}
use Rattle.frame_model.specs.declared.frame.ServerFrame.TheVariants as server
use Rattle.room_model.specs.declared.event.Stage.{Stage}
use Rattle.room_model.specs.declared.event.Stage.TheVariants.{Reserved, Joining, Due, Live, Kept}
use Rattle.room_model.specs.Sessions.{Session, at_stage}
use Rattle.room_model.specs.Room.{frames_at, ticked_at, session_swept}
use Rattle.life_model.specs.Entries.{Entry, Record, Ticked, Sending, Frame}
use Rattle.life_model.specs.Lives.{sees_ticks}
use Rattle.life_model.specs.LatestFrames.{with_sending, latest_frames}
use Rattle.life_model.specs.Sent as standing
use Rattle.life_model.specs.Sent.{Standing, Progress, progress_of, after_entry}
use Rattle.room_promises.proofs.GoodLives.{held, AreMessages, Fits, Sees}
use Rattle.room_promises.proofs.LifeSteps.{recorded, Pass}

-- the bytes of a tick's frames are decoded to what is permitted, and where a frame has no operation the rows are that
pub record TickDecodes (schema : Schema) (before after : List RowEntry) : Type 0 where
  pub whole : (now : List Pair) → decoded schema (full_state schema (shared schema after) (permitted schema after now)) (root_alone schema) ≡ Ok (permitted schema after now)
  pub between : (last now : List Pair)
      → decoded schema (state_frame schema (shared schema before) (permitted schema before last) (shared schema after) (permitted schema after now)) (permitted schema before last) ≡ Ok (permitted schema after now)
  pub silent : (last now : List Pair) → has_operation schema (shared schema before) (permitted schema before last) (shared schema after) (permitted schema after now) ≡ false
      → freed (permitted schema before last) ≡ permitted schema after now

-- what bytes are decoded to holds no row that nothing holds
decoded_free : (schema : Schema) (bytes : List ℕ) (rows new : List RowEntry) → decoded schema bytes rows ≡ Ok new → freed new ≡ new
decoded_free schema bytes rows new h = by_end (read_blocks schema rows bytes).fault (run_blocks (read_blocks schema rows bytes).blocks rows) h
  where
    by_end : (f : Option OpFault) (x : Result (List RowEntry) OpFault) → ended_by f x ≡ Ok new → freed new ≡ new
    by_end f (Err missed) h = cc
    by_end (Some f) (Ok rows) h = cc
    by_end None (Ok rows) h =
        let is : freed rows ≡ new = cc in
        subst (λ (l : List RowEntry). freed l ≡ l) is (freed_freed rows)

-- messages are no state frames
messages_pass : (queue : List (List ℕ)) → AreMessages queue → Pass (map Frame queue)
messages_pass [] m frames = refl
messages_pass (f ∷ fs) m frames = ap (λ x. fold with_sending x (map Frame fs)) (m.0 frames) ∙ messages_pass fs m.1 frames

-- frames with a full state behind them, and what waited for it, begin anew
full_latest : (outputs : List Sending) (bytes : List ℕ) (queue : List (List ℕ)) → AreMessages queue → latest_frames (outputs ++ Frame (14 ∷ bytes) ∷ map Frame queue) ≡ (14 ∷ bytes) ∷ []
full_latest outputs bytes queue m = fold-append with_sending [] outputs (Frame (14 ∷ bytes) ∷ map Frame queue) ∙ messages_pass queue m ((14 ∷ bytes) ∷ [])

-- frames with a patch behind them
patch_latest : (outputs : List Sending) (bytes : List ℕ) → latest_frames (outputs ++ Frame (15 ∷ bytes) ∷ []) ≡ latest_frames outputs ++ (15 ∷ bytes) ∷ []
patch_latest outputs bytes = fold-append with_sending [] outputs (Frame (15 ∷ bytes) ∷ [])

-- what frames make of the rows, with one frame more
seen_more : (schema : Schema) (frames : List (List ℕ)) (frame : List ℕ) → seen schema (frames ++ frame ∷ []) ≡ after_frame schema (seen schema frames) frame
seen_more schema frames frame = fold-append (after_frame schema) (Ok (root_alone schema)) frames (frame ∷ [])

-- a frame, where there is one
frame_if : (b : Bool) (f : List ℕ) → cond b (Frame f ∷ []) [] ≡ map Frame (cond b (f ∷ []) [])
frame_if true f = refl
frame_if false f = refl

module _ (schema : Schema) (before after : List RowEntry) (d : TickDecodes schema before after) where
  -- what a session may see at the tick
  abbrev pub seen_by : Session → List RowEntry
  seen_by s = permitted schema after (live_members after s.members).now

  -- the session behind the tick
  abbrev pub behind : Stage → Session → Session
  behind st s = ticked_at st (seen_by s) (session_swept after (at_stage st s))

  abbrev pub entries_at : Stage → Session → List Entry
  entries_at st s = cond (sees_ticks st) (Ticked (shared schema after) (seen_by s) ∷ []) []

  abbrev pub frames_of : Stage → Session → List (List ℕ)
  frames_of st s = frames_at st schema (shared schema before) (shared schema after) (seen_by s) (session_swept after (at_stage st s))

  -- a record that the tick leaves as it is
  unmoved : (entries : Record) (outputs : List Sending) (st : Standing) → progress_of schema entries ≡ record { standing = st; given = outputs } → progress_of schema (entries ++ []) ≡ record { standing = st; given = outputs ++ [] }
  unmoved entries outputs st h =
      let at : List Sending → Progress = λ (os : List Sending). record { standing = st; given = os } in
      ap (progress_of schema) (append-nil entries) ∙ (h ∙ ap at (sym (append-nil outputs)))

  -- a client that is due sees the full state
  sees_full : (s : Session) (outputs : List Sending) → AreMessages s.queue → Sees schema after (held (behind Due s)) (outputs ++ map Frame (frames_of Due s)) (seen_by s)
  sees_full s outputs m =
      let bytes = full_state schema (shared schema after) (seen_by s) in
      let now = (live_members after s.members).now in
      record {
        is_permitted = refl;
        is_view = refl;
        is_free = decoded_free schema bytes (root_alone schema) (seen_by s) (d.whole now);
        decodes = ap (seen schema) (full_latest outputs bytes s.queue m) ∙ d.whole now;
      }

  -- the bytes of a live client's patch
  abbrev patch_of : Session → List ℕ
  patch_of s = state_frame schema (shared schema before) s.permitted (shared schema after) (seen_by s)

  -- they lead to what it may see
  pub patch_leads : (s : Session) (outputs : List Sending) (view : List RowEntry) → Sees schema before (held (at_stage Live s)) outputs view → decoded schema (patch_of s) s.permitted ≡ Ok (seen_by s)
  patch_leads s outputs view was =
      subst (λ (p : List RowEntry). decoded schema (state_frame schema (shared schema before) p (shared schema after) (seen_by s)) p ≡ Ok (seen_by s)) (sym was.is_permitted)
      (d.between s.members.last (live_members after s.members).now)

  -- without a frame the rows stay as they are
  pub patch_stays : (s : Session) (outputs : List Sending) (view : List RowEntry) → Sees schema before (held (at_stage Live s)) outputs view
      → has_operation schema (shared schema before) s.permitted (shared schema after) (seen_by s) ≡ false → s.permitted ≡ seen_by s
  patch_stays s outputs view was none =
      sym was.is_free
      ∙ subst (λ (p : List RowEntry). has_operation schema (shared schema before) p (shared schema after) (seen_by s) ≡ false → freed p ≡ seen_by s) (sym was.is_permitted)
      (d.silent s.members.last (live_members after s.members).now) none

  -- and one that is live its patch
  sees_patch : (s : Session) (outputs : List Sending) (view : List RowEntry) → Sees schema before (held (at_stage Live s)) outputs view → Sees schema after (held (behind Live s)) (outputs ++ map Frame (frames_of Live s)) (seen_by s)
  sees_patch s outputs view was = record {
    is_permitted = refl;
    is_view = refl;
    is_free = decoded_free schema (patch_of s) s.permitted (seen_by s) leads;
    decodes =
        by_operation (has_operation schema (shared schema before) s.permitted (shared schema after) (seen_by s)) refl;
  }
    where
      leads : decoded schema (patch_of s) s.permitted ≡ Ok (seen_by s)
      leads = patch_leads s outputs view was

      by_operation : (b : Bool) → has_operation schema (shared schema before) s.permitted (shared schema after) (seen_by s) ≡ b
          → seen schema (latest_frames (outputs ++ map Frame (cond b (server_bytes (server.Patch (patch_of s)) ∷ []) []))) ≡ Ok (seen_by s)
      by_operation true is =
          ap (seen schema) (patch_latest outputs (patch_of s)) ∙ (seen_more schema (latest_frames outputs) (15 ∷ patch_of s) ∙ (ap (λ r. after_frame schema r (15 ∷ patch_of s)) was.decodes ∙ leads))
      by_operation false is =
          ap (λ os. seen schema (latest_frames os)) (append-nil outputs) ∙ (was.decodes ∙ ap Ok (patch_stays s outputs view was is))

  pub fits_tick : (st : Stage) (s : Session) (entries : Record) (outputs : List Sending) (view : List RowEntry) → Fits schema before (held (at_stage st s)) entries outputs view
      → Fits schema after (held (behind st s)) (entries ++ entries_at st s) (outputs ++ map Frame (frames_of st s)) (seen_by s)
  fits_tick Reserved s entries outputs view f = record { progress = unmoved entries outputs standing.Reserved f.progress; queue = f.queue; sees = tt }
  fits_tick Joining s entries outputs view f = record { progress = unmoved entries outputs (standing.Joining s.queue) f.progress; queue = f.queue; sees = tt }
  fits_tick Kept s entries outputs view f = record { progress = unmoved entries outputs standing.Kept f.progress; queue = f.queue; sees = tt }
  fits_tick Due s entries outputs view f = record {
    progress = recorded schema entries (Ticked (shared schema after) (seen_by s)) _ f.progress;
    queue = tt;
    sees = sees_full s outputs f.queue;
  }
  fits_tick Live s entries outputs view f = record {
    progress = recorded schema entries (Ticked (shared schema after) (seen_by s)) _ f.progress ∙ ap given (frame_if (has_operation schema (shared schema before) s.permitted (shared schema after) (seen_by s)) _);
    queue = tt;
    sees = sees_patch s outputs view f.sees;
  }
    where
      given : List Sending → Progress
      given os = record { standing = standing.Live (shared schema after) (seen_by s); given = outputs ++ os }
