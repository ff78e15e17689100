-- A client that follows all that a record is sent: it refuses no frame, and while the life is live its rows are those of the last tick.
use Rattle.std.proofs.Common.{◌≡◌, ℕ, Bool, true, false, cond, ◌&&◌, List, [], ◌∷◌, ◌++◌, map, length, Result, Ok, Err, refl, sym, ap, subst, ◌∙◌}
use Rattle.std.specs.Prelude.{nat_lt}
use Rattle.std.proofs.lemmas.List.Sums.{fold-append}
use Rattle.schema_model.specs.Classes.{Schema}
use Rattle.state_model.specs.declared.row.RowEntry.{RowEntry}
use Rattle.state_model.specs.Rows.{root_alone}
use Rattle.wire_model.specs.Frame.{state_frame, full_state, has_operation}
use Rattle.wire_model.specs.Decoded.{decoded}
use Rattle.frame_model.specs.Frames.{server_bytes}
use Rattle.frame_model.specs.Reading.{read_client}
use Rattle.frame_model.specs.declared.fault.FrameFault.{FrameFault}
use Rattle.frame_model.specs.declared.frame.ClientFrame.{ClientFrame}
use Rattle.frame_model.specs.declared.frame.ClientFrame.TheVariants as client
use Rattle.frame_model.specs.declared.frame.ServerFrame.TheVariants as server
use Rattle.room_model.specs.Limits.{most_queued}
use Rattle.room_model.specs.Room.{join_frame, unread_frame}
use Rattle.life_model.specs.Clients.{Client, client_turn, client_after, joined, new_client}
use Rattle.life_model.specs.Entries.{Entry, Record, Asked, Opened, Framed, Told, Ticked, Dropped, Kicked, Lapsed, Sending, Frame, Closing}
use Rattle.life_model.specs.Followed.{frames_given, takes_all, takes_given, client_given}
use Rattle.life_model.specs.Sent.{Standing, Reserved, Joining, Due, Live, Kept, Gone, Progress, with_answer, progress_of, sent_for, sent_read, queued, full_frame, behind_loss}
use Rattle.room_promises.proofs.LifeSteps.{recorded}
use Rattle.room_promises.proofs.Turns.{Takes, IsTaken, unread_taken, join_taken, full_taken, patch_taken, AreTaken, Leaves, all_taken, more_taken, takes_append, given_append, given_frames}

-- a live life's client has had its full state, and has the rows of the last tick
abbrev pub ClientAt : Standing → Client → Type 0
ClientAt (Live shared permitted) c = (c.ready ≡ true) × (c.rows ≡ permitted)
ClientAt s c = Unit {0}

-- what waits will be taken
abbrev pub QueueAt : Schema → Standing → Type 0
QueueAt schema (Joining queue) = AreTaken schema queue
QueueAt schema (Due queue) = AreTaken schema queue
QueueAt schema s = Unit {0}

-- the client that follows what was given so far
pub record Follows (schema : Schema) (p : Progress) : Type 0 where
  pub taken : takes_given schema p.given ≡ true
  pub not_closed : (client_given schema p.given).closed ≡ false
  pub stands : ClientAt p.standing (client_given schema p.given)
  pub queue : QueueAt schema p.standing

-- that of a record
abbrev pub Followed : Schema → Record → Type 0
Followed schema entries = Follows schema (progress_of schema entries)

pub followed_none : (schema : Schema) → Followed schema []
followed_none schema = record { taken = refl; not_closed = refl; stands = tt; queue = tt }

-- ---- frames more

-- a client takes frames, and stands so then
record Gives (schema : Schema) (s : Standing) (c : Client) (frames : List (List ℕ)) : Type 0 where
  taken : takes_all schema c frames ≡ true
  not_closed : (client_after schema c frames).closed ≡ false
  stands : ClientAt s (client_after schema c frames)

module _ (schema : Schema) (given : List Sending) where
  abbrev so_far : Client
  so_far = client_given schema given

  follows_more : (s : Standing) (os : List Sending) (frames : List (List ℕ)) → takes_given schema given ≡ true → frames_given os ≡ frames → Gives schema s so_far frames → QueueAt schema s
      → Follows schema (record { standing = s; given = given ++ os })
  follows_more s os frames taken are g queue =
      let all : frames_given (given ++ os) ≡ frames_given given ++ frames = given_append given os ∙ ap (λ fs. frames_given given ++ fs) are in
      let client : client_given schema (given ++ os) ≡ client_after schema so_far frames = ap (client_after schema (new_client schema)) all
      ∙ fold-append (λ (c : Client) bytes. (client_turn schema c bytes).client) (new_client schema) (frames_given given) frames in
      record {
        taken = ap (takes_all schema (new_client schema)) all ∙ (takes_append schema (new_client schema) (frames_given given) frames ∙ rw (taken, g.taken) refl);
        not_closed = ap (λ (c : Client). c.closed) client ∙ g.not_closed;
        stands = subst (ClientAt s) (sym client) g.stands;
        queue = queue;
      }

  -- no frame more
  follows_still : (s t : Standing) (os : List Sending) → frames_given os ≡ [] → Follows schema (record { standing = s; given = given }) → ClientAt t so_far → QueueAt schema t → Follows schema (record { standing = t; given = given ++ os })
  follows_still s t os none f stands queue = follows_more t os [] f.taken none (record { taken = refl; not_closed = f.not_closed; stands = stands }) queue

  unmoved : (s : Standing) → Follows schema (record { standing = s; given = given }) → Follows schema (record { standing = s; given = given ++ [] })
  unmoved s f = follows_still s s [] refl f f.stands f.queue

  -- one frame more
  follows_one : (t : Standing) (frame : List ℕ) (d : Client) → takes_given schema given ≡ true → Takes schema so_far frame d → d.closed ≡ false → ClientAt t d → QueueAt schema t
      → Follows schema (record { standing = t; given = given ++ Frame frame ∷ [] })
  follows_one t frame d taken turn not_closed stands queue =
      follows_more t (Frame frame ∷ []) (frame ∷ []) taken refl
      (record { taken = rw turn.ok refl; not_closed = ap (λ (c : Client). c.closed) turn.is ∙ not_closed; stands = subst (ClientAt t) (sym turn.is) stands }) queue

  -- ---- a frame of the client

  answered : (s : Standing) → Follows schema (record { standing = s; given = given }) → Follows schema (record { standing = s; given = given ++ Frame unread_frame ∷ [] })
  answered s f = follows_one s unread_frame so_far f.taken (unread_taken schema so_far f.not_closed) f.not_closed f.stands f.queue

  left : (s : Standing) (code : ℕ) → Follows schema (record { standing = s; given = given }) → Follows schema (record { standing = Gone; given = given ++ Closing code ∷ [] })
  left s code f = follows_still s Gone (Closing code ∷ []) refl f tt tt

  follows_read : (s : Standing) (x : Result ClientFrame FrameFault) → Follows schema (record { standing = s; given = given }) → Follows schema (with_answer given (sent_read s x))
  follows_read (Joining queue) (Ok client.Ack) f = follows_still (Joining queue) (Due queue) [] refl f tt f.queue
  follows_read (Joining queue) (Ok client.Leave) f = left (Joining queue) 4000 f
  follows_read (Joining queue) (Ok (client.Msg kind payload)) f = unmoved (Joining queue) f
  follows_read (Joining queue) (Ok (client.Raw kind payload)) f = unmoved (Joining queue) f
  follows_read (Joining queue) (Err fault) f = answered (Joining queue) f
  follows_read s (Ok client.Ack) f = unmoved s f
  follows_read s (Ok client.Leave) f = left s 4000 f
  follows_read s (Ok (client.Msg kind payload)) f = unmoved s f
  follows_read s (Ok (client.Raw kind payload)) f = unmoved s f
  follows_read s (Err fault) f = answered s f

  -- ---- a message, which waits or is sent

  queued_taken : (frame : List ℕ) (queue : List (List ℕ)) → AreTaken schema queue → IsTaken schema frame → AreTaken schema (queued frame queue)
  queued_taken frame queue m is =
      let go : (b : Bool) → AreTaken schema (cond b (queue ++ frame ∷ []) queue) = elim [ true ↦ more_taken schema queue frame m is | false ↦ m ] in
      go (nat_lt (length queue) most_queued)

  -- ---- a tick

  -- the full state, and what waited for it
  follows_full : (queue : List (List ℕ)) (shared permitted : List RowEntry) → Follows schema (record { standing = Due queue; given = given })
      → decoded schema (full_state schema shared permitted) (root_alone schema) ≡ Ok permitted
      → Follows schema (record { standing = Live shared permitted; given = given ++ (Frame (full_frame schema shared permitted) ∷ map Frame queue) })
  follows_full queue shared permitted f leads =
      let d : Client = record { rows = permitted; ready = true; closed = so_far.closed } in
      let turn : Takes schema so_far (full_frame schema shared permitted) d = full_taken schema (full_state schema shared permitted) permitted so_far f.not_closed leads in
      let rest : Leaves schema d queue = all_taken schema d queue f.not_closed f.queue in
      let behind : client_after schema (client_turn schema so_far (full_frame schema shared permitted)).client queue ≡ d = ap (λ c. client_after schema c queue) turn.is ∙ rest.is in
      follows_more (Live shared permitted) (Frame (full_frame schema shared permitted) ∷ map Frame queue) (full_frame schema shared permitted ∷ queue) f.taken
      (ap (λ fs. full_frame schema shared permitted ∷ fs) (given_frames queue))
      (record {
        taken = ap (λ b. b && takes_all schema (client_turn schema so_far (full_frame schema shared permitted)).client queue) turn.ok ∙ (ap (λ c. takes_all schema c queue) turn.is ∙ rest.taken);
        not_closed = ap (λ (c : Client). c.closed) behind ∙ f.not_closed;
        stands = subst (ClientAt (Live shared permitted)) (sym behind) (refl, refl);
      }) tt

  -- a patch, or nothing where it has no operation
  follows_patch : (shared0 permitted0 shared permitted : List RowEntry) (b : Bool) → Follows schema (record { standing = Live shared0 permitted0; given = given })
      → decoded schema (state_frame schema shared0 permitted0 shared permitted) permitted0 ≡ Ok permitted → (b ≡ false → permitted0 ≡ permitted)
      → Follows schema (record { standing = Live shared permitted; given = given ++ cond b (Frame (server_bytes (server.Patch (state_frame schema shared0 permitted0 shared permitted))) ∷ []) [] })
  follows_patch shared0 permitted0 shared permitted true f leads stays =
      let bytes = state_frame schema shared0 permitted0 shared permitted in
      let d : Client = record { rows = permitted; ready = true; closed = so_far.closed } in
      follows_one (Live shared permitted) (server_bytes (server.Patch bytes)) d f.taken
      (patch_taken schema bytes permitted so_far f.not_closed f.stands.0 (ap (decoded schema bytes) f.stands.1 ∙ leads)) f.not_closed (refl, refl) tt
  follows_patch shared0 permitted0 shared permitted false f leads stays =
      follows_still (Live shared0 permitted0) (Live shared permitted) [] refl f (f.stands.0, f.stands.1 ∙ stays refl) tt

-- ---- an entry

-- the frames of a tick are decoded to what is permitted; where a patch has no operation the rows are that
abbrev pub Decodes : Schema → Standing → List RowEntry → List RowEntry → Type 0
Decodes schema (Due queue) shared permitted = decoded schema (full_state schema shared permitted) (root_alone schema) ≡ Ok permitted
Decodes schema (Live shared0 permitted0) shared permitted =
    (decoded schema (state_frame schema shared0 permitted0 shared permitted) permitted0 ≡ Ok permitted) × (has_operation schema shared0 permitted0 shared permitted ≡ false → permitted0 ≡ permitted)
Decodes schema s shared permitted = Unit {0}

-- what an entry is sent will be taken
abbrev pub Suits : Schema → Standing → Entry → Type 0
Suits schema s (Told frame) = IsTaken schema frame
Suits schema s (Ticked shared permitted) = Decodes schema s shared permitted
Suits schema s e = Unit {0}

module _ (schema : Schema) (given : List Sending) where
  abbrev At : Standing → Type 0
  At s = Follows schema (record { standing = s; given = given })

  abbrev Behind : Standing → Entry → Type 0
  Behind s e = Follows schema (with_answer given (sent_for schema s e))

  opened_follows : (s : Standing) (token : List ℕ) → At s → Behind s (Opened token)
  opened_follows Reserved token f = follows_one schema given (Joining []) (join_frame token) (joined (client_given schema given)) f.taken (join_taken schema token (client_given schema given) f.not_closed) f.not_closed tt tt
  opened_follows Kept token f = follows_one schema given (Joining []) (join_frame token) (joined (client_given schema given)) f.taken (join_taken schema token (client_given schema given) f.not_closed) f.not_closed tt tt
  opened_follows (Joining queue) token f = unmoved schema given (Joining queue) f
  opened_follows (Due queue) token f = unmoved schema given (Due queue) f
  opened_follows (Live shared permitted) token f = unmoved schema given (Live shared permitted) f
  opened_follows Gone token f = unmoved schema given Gone f

  framed_follows : (s : Standing) (bytes : List ℕ) → At s → Behind s (Framed bytes)
  framed_follows (Joining queue) bytes f = follows_read schema given (Joining queue) (read_client bytes) f
  framed_follows (Due queue) bytes f = follows_read schema given (Due queue) (read_client bytes) f
  framed_follows (Live shared permitted) bytes f = follows_read schema given (Live shared permitted) (read_client bytes) f
  framed_follows Reserved bytes f = unmoved schema given Reserved f
  framed_follows Kept bytes f = unmoved schema given Kept f
  framed_follows Gone bytes f = unmoved schema given Gone f

  told_follows : (s : Standing) (frame : List ℕ) → IsTaken schema frame → At s → Behind s (Told frame)
  told_follows (Joining queue) frame is f = follows_still schema given (Joining queue) (Joining (queued frame queue)) [] refl f tt (queued_taken schema given frame queue f.queue is)
  told_follows (Due queue) frame is f = follows_still schema given (Due queue) (Due (queued frame queue)) [] refl f tt (queued_taken schema given frame queue f.queue is)
  told_follows (Live shared permitted) frame is f =
      follows_one schema given (Live shared permitted) frame (client_given schema given) f.taken (is (client_given schema given) f.not_closed) f.not_closed f.stands tt
  told_follows Reserved frame is f = unmoved schema given Reserved f
  told_follows Kept frame is f = unmoved schema given Kept f
  told_follows Gone frame is f = unmoved schema given Gone f

  ticked_follows : (s : Standing) (shared permitted : List RowEntry) → Decodes schema s shared permitted → At s → Behind s (Ticked shared permitted)
  ticked_follows (Due queue) shared permitted d f = follows_full schema given queue shared permitted f d
  ticked_follows (Live shared0 permitted0) shared permitted d f = follows_patch schema given shared0 permitted0 shared permitted (has_operation schema shared0 permitted0 shared permitted) f d.0 d.1
  ticked_follows Reserved shared permitted d f = unmoved schema given Reserved f
  ticked_follows (Joining queue) shared permitted d f = unmoved schema given (Joining queue) f
  ticked_follows Kept shared permitted d f = unmoved schema given Kept f
  ticked_follows Gone shared permitted d f = unmoved schema given Gone f

  lost_follows : (s : Standing) (kept : Bool) → At s → Follows schema (record { standing = behind_loss kept; given = given ++ [] })
  lost_follows s true f = follows_still schema given s Kept [] refl f tt tt
  lost_follows s false f = follows_still schema given s Gone [] refl f tt tt

  dropped_follows : (s : Standing) (kept : Bool) → At s → Behind s (Dropped kept)
  dropped_follows (Joining queue) kept f = lost_follows (Joining queue) kept f
  dropped_follows (Due queue) kept f = lost_follows (Due queue) kept f
  dropped_follows (Live shared permitted) kept f = lost_follows (Live shared permitted) kept f
  dropped_follows Reserved kept f = unmoved schema given Reserved f
  dropped_follows Kept kept f = unmoved schema given Kept f
  dropped_follows Gone kept f = unmoved schema given Gone f

  kicked_follows : (s : Standing) (code : ℕ) → At s → Behind s (Kicked code)
  kicked_follows (Joining queue) code f = left schema given (Joining queue) code f
  kicked_follows (Due queue) code f = left schema given (Due queue) code f
  kicked_follows (Live shared permitted) code f = left schema given (Live shared permitted) code f
  kicked_follows Reserved code f = follows_still schema given Reserved Gone [] refl f tt tt
  kicked_follows Kept code f = follows_still schema given Kept Gone [] refl f tt tt
  kicked_follows Gone code f = follows_still schema given Gone Gone [] refl f tt tt

  lapsed_follows : (s : Standing) → At s → Behind s Lapsed
  lapsed_follows Reserved f = follows_still schema given Reserved Gone [] refl f tt tt
  lapsed_follows Kept f = follows_still schema given Kept Gone [] refl f tt tt
  lapsed_follows (Joining queue) f = unmoved schema given (Joining queue) f
  lapsed_follows (Due queue) f = unmoved schema given (Due queue) f
  lapsed_follows (Live shared permitted) f = unmoved schema given (Live shared permitted) f
  lapsed_follows Gone f = unmoved schema given Gone f

  entry_follows : (s : Standing) (e : Entry) → Suits schema s e → At s → Behind s e
  entry_follows s (Asked target body reply) suits f = unmoved schema given s f
  entry_follows s (Opened token) suits f = opened_follows s token f
  entry_follows s (Framed bytes) suits f = framed_follows s bytes f
  entry_follows s (Told frame) suits f = told_follows s frame suits f
  entry_follows s (Ticked shared permitted) suits f = ticked_follows s shared permitted suits f
  entry_follows s (Dropped kept) suits f = dropped_follows s kept f
  entry_follows s (Kicked code) suits f = kicked_follows s code f
  entry_follows s Lapsed suits f = lapsed_follows s f

-- a record that is followed stays so with an entry more that suits it
pub followed_more : (schema : Schema) (entries : Record) (e : Entry) → Suits schema (progress_of schema entries).standing e → Followed schema entries → Followed schema (entries ++ e ∷ [])
followed_more schema entries e suits f =
    subst (Follows schema) (sym (recorded schema entries e (progress_of schema entries) refl))
    (entry_follows schema (progress_of schema entries).given (progress_of schema entries).standing e suits f)
