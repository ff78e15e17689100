-- What messages make of a room, by the clients that are told.
use Rattle.std.proofs.Common.{◌≡◌, ℕ, Bool, true, false, cond, List, [], ◌∷◌, ◌++◌, All, map, set, length, Some, None, Result, Err, Ok, refl, sym, ap, subst, ◌∙◌, append-nil}
use Rattle.std.specs.Prelude.{slice_get, is_ok, nat_lt, IfOk, IsOk, OnOk, if◌then◌else◌}
use Rattle.std.specs.List.{flat_map}
use Rattle.std.proofs.lemmas.List.Elements.{All-cons, All-head, All-map, All-nil, All-tail, All-weaker}
use Rattle.std.proofs.lemmas.List.Folds.{flat_map-map}
use Rattle.lists.specs.declared.memory.Memory.{Memory}
use Rattle.schema_model.specs.Classes.{Schema}
use Rattle.state_model.specs.declared.row.RowEntry.{RowEntry}
use Rattle.room_model.specs.declared.definition.RoomDef.{RoomDef}
use Rattle.room_model.specs.declared.event.RoomOut.{RoomOut}
use Rattle.room_model.specs.declared.event.RoomOut.TheVariants as out
use Rattle.room_model.specs.declared.event.Stage.{Stage}
use Rattle.room_model.specs.declared.event.Stage.TheVariants.{Reserved, Joining, Due, Live, Kept}
use Rattle.room_model.specs.declared.refusal.Refusal.{Refusal}
use Rattle.room_model.specs.declared.refusal.Refusal.TheVariants as refusal
use Rattle.room_model.specs.Limits.{most_queued}
use Rattle.room_model.specs.Seats.{Seats}
use Rattle.room_model.specs.Sessions.{Session, Acted, acted, told_at, told_to, with_queue}
use Rattle.room_model.specs.Room.{RoomValue, with_sessions, acted_on, on_session, session_after, outs_after}
use Rattle.room_laws.specs.Placed.{AreDistinct}
use Rattle.live_state.specs.Live.{Live as State-now, schema_of, rows_of}
use Rattle.view_counts.specs.Settled.{View}
use Rattle.room_core.specs.declared.client.Client.{Client}
use Rattle.room_core.specs.Clients.{TellTheSame, client_tells}
use Rattle.room_core.specs.Messages.{AreSameUnqueued, Hears, IsTold, told_outs, told_session, unqueued}
use Rattle.room_core.specs.Stands.{ClientStands, Stands}
use Rattle.room_core.specs.Values.{room_with, session_of_client}
use Rattle.room_core.proofs.ClientLists.{changed_there}
use Rattle.room_core.proofs.Edited.{step_is}
use Rattle.room_core.proofs.StandsLaws.{stands_with}

-- ---- clients that are the same but for what waits

-- one tells the same
pub unqueued_tells : (c d : Client) → unqueued d ≡ unqueued c → client_tells d ≡ client_tells c
unqueued_tells c d same = ap client_tells same

-- and stands as before
pub unqueued_stands : (schema : Schema) (last rows : List RowEntry) (c d : Client) → unqueued d ≡ unqueued c → ClientStands schema last rows c → ClientStands schema last rows d
unqueued_stands schema last rows c d same s =
    let but : ClientStands schema last rows (unqueued c) = record { view_stands = s.view_stands; pairs = s.pairs } in
    let so : ClientStands schema last rows (unqueued d) = subst (ClientStands schema last rows) (sym same) but in
    record { view_stands = so.view_stands; pairs = so.pairs }

-- so do all
pub all_unqueued_stand : (live : State-now) (shared : View) (cs ds : List Client) → AreSameUnqueued ds cs → Stands live shared cs → Stands live shared ds
all_unqueued_stand live shared cs ds same s = stands_with live shared cs ds s
    (back ds (subst (All P) (sym same) (All-map P unqueued cs (All-weaker P (λ (c : Client). P (unqueued c)) (λ c h. record { view_stands = h.view_stands; pairs = h.pairs }) cs s.each))))
  where
    P : Client → Type 0
    P = ClientStands (schema_of live) s.last.rows (rows_of live)

    back : (xs : List Client) → All P (map unqueued xs) → All P xs
    back [] h = All-nil P
    back (x ∷ xs) h =
        let one : P (unqueued x) = All-head P (unqueued x) (map unqueued xs) h in
        All-cons P x xs (record { view_stands = one.view_stands; pairs = one.pairs }) (back xs (All-tail P (unqueued x) (map unqueued xs) h))

pub all_unqueued_tell : (cs ds : List Client) → AreSameUnqueued ds cs → TellTheSame ds cs
all_unqueued_tell cs ds same = tells ds ∙ (ap (map client_tells) same ∙ sym (tells cs))
  where
    tells : (xs : List Client) → map client_tells xs ≡ map client_tells (map unqueued xs)
    tells [] = refl
    tells (x ∷ xs) = ap (λ ts. client_tells x ∷ ts) (tells xs)

-- ---- a client that hears a message

-- a live one is sent it
pub live_told : (frame : List ℕ) (c : Client) (so_far outs : List RoomOut) (r : Result (Unit {0}) Memory) → c.stage ≡ Live → outs ≡ (if is_ok r then so_far ++ out.Send c.id frame ∷ [] else so_far) → OnOk r (IsTold frame c c so_far outs)
live_told frame c so_far outs (Ok done) is sent = record {
  after = record { session = session_of_client c; outs = out.Send c.id frame ∷ [] };
  told = ap (λ (st : Stage). told_at st frame (session_of_client c)) is;
  session = refl;
  sent = sent;
}
live_told frame c so_far outs (Err f) is sent = tt

-- for another one it waits
waits : (frame : List ℕ) (c : Client) → Hears c None → (c.stage ≡ Live → ⊥) → told_to frame (session_of_client c) ≡ acted (with_queue (c.queue ++ frame ∷ []) (session_of_client c)) []
waits frame c hears other = by_stage c.stage refl
  where
    s : Session
    s = session_of_client c

    by_room : (b : Bool) → IsOk (cond b (acted (with_queue (c.queue ++ frame ∷ []) s) []) (Err refusal.QueueFull)) → cond b (acted (with_queue (c.queue ++ frame ∷ []) s) []) (Err refusal.QueueFull) ≡ acted (with_queue (c.queue ++ frame ∷ []) s) []
    by_room true ok = refl
    by_room false ok = absurd (cc)

    heard : (st : Stage) → c.stage ≡ st → IsOk (told_at st frame s)
    heard st is = subst (λ (x : Stage). IsOk (told_at x frame s)) is (hears frame)

    by_stage : (st : Stage) → c.stage ≡ st → told_at st frame s ≡ acted (with_queue (c.queue ++ frame ∷ []) s) []
    by_stage Joining is = by_room (nat_lt (length c.queue) most_queued) (heard Joining is)
    by_stage Due is = by_room (nat_lt (length c.queue) most_queued) (heard Due is)
    by_stage Live is = absurd (other is)
    by_stage Reserved is = let ok = heard Reserved is in absurd (cc)
    by_stage Kept is = let ok = heard Kept is in absurd (cc)

pub queue_told : (frame : List ℕ) (c : Client) (queue : List (List ℕ)) (so_far : List RoomOut) (r : Result (Unit {0}) Memory) → Hears c None → (c.stage ≡ Live → ⊥) → queue ≡ (if is_ok r then c.queue ++ frame ∷ [] else c.queue)
    → OnOk r (IsTold frame c (record { id = c.id; stage = c.stage; members = c.members; view = c.view; queue = queue; keep = c.keep }) so_far so_far)
queue_told frame c queue so_far (Ok done) hears other now = record {
  after = record { session = with_queue (c.queue ++ frame ∷ []) (session_of_client c); outs = [] };
  told = waits frame c hears other;
  session = ap (λ q. with_queue q (session_of_client c)) now;
  sent = sym (append-nil so_far);
}
queue_told frame c queue so_far (Err f) hears other now = tt

-- ---- a message to one client

module _ (def : RoomDef) (criteria : List (List ℕ)) (live : State-now) (shared : View) (places : Seats) (cs : List Client) (id frame : List ℕ) (distinct : AreDistinct (map session_of_client cs)) (at : ℕ) (c d : Client)
    (there : slice_get cs at ≡ Some c) (name : c.id ≡ id) where
  abbrev room : RoomValue
  room = room_with def criteria live shared places cs

  -- one that isn't heard
  pub deaf_step : (f : Refusal) → told_to frame (session_of_client c) ≡ Err f → on_session room id (told_to frame) ≡ (room, out.Refused f ∷ [])
  deaf_step f deaf = step_is def criteria live shared places cs id (told_to frame) distinct at c d there name ∙ ap (λ a. acted_on room id (Some a)) deaf

  -- one that is
  heard_step : (a : Acted) → told_to frame (session_of_client c) ≡ Ok a → on_session room id (told_to frame) ≡ acted_on room id (Some (Ok a))
  heard_step a told = step_is def criteria live shared places cs id (told_to frame) distinct at c d there name ∙ ap (λ x. acted_on room id (Some x)) told

  pub heard_outs : (a : Acted) → told_to frame (session_of_client c) ≡ Ok a → a.outs ≡ (on_session room id (told_to frame)).1
  heard_outs a told = sym (ap (λ (x : RoomValue × List RoomOut). x.1) (heard_step a told))

  pub heard_room : (a : Acted) → told_to frame (session_of_client c) ≡ Ok a → session_of_client d ≡ a.session → room_with def criteria live shared places (set cs at d) ≡ (on_session room id (told_to frame)).0
  heard_room a told session =
      ap (λ ss. with_sessions room ss) (changed_there id (λ s. a.session) cs at c d distinct there name session)
      ∙ sym (ap (λ (x : RoomValue × List RoomOut). x.0) (heard_step a told))

-- ---- a message to all

pub all_told_sessions : (frame : List ℕ) (cs : List Client) → map (told_session frame) cs ≡ map (λ (s : Session). session_after s (told_to frame s)) (map session_of_client cs)
all_told_sessions frame [] = refl
all_told_sessions frame (c ∷ cs) = ap (λ ss. told_session frame c ∷ ss) (all_told_sessions frame cs)

pub all_told_outs : (frame : List ℕ) (cs : List Client) → flat_map (told_outs frame) cs ≡ flat_map (λ (s : Session). outs_after (told_to frame s)) (map session_of_client cs)
all_told_outs frame cs = sym (flat_map-map (λ (s : Session). outs_after (told_to frame s)) session_of_client cs)

pub if_ok_on : {X E : Type 0} (P : X → Type 0) (T : Type 0) (r : Result X E) → ((x : X) → P x → T) → IfOk r P → OnOk r T
if_ok_on P T (Ok x) f h = f x h
if_ok_on P T (Err e) f h = tt
