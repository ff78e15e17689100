-- What a view edit makes of a room, by the client that it changes.
use Rattle.std.proofs.Common.{◌≡◌, ℕ, List, map, set, Option, Some, None, Result, Ok, Err, refl, sym, ap, ◌∙◌}
use Rattle.std.specs.Prelude.{IfOk, slice_get}
use Rattle.room_model.specs.declared.definition.RoomDef.{RoomDef}
use Rattle.room_model.specs.declared.event.RoomOut.{RoomOut}
use Rattle.room_model.specs.declared.refusal.Refusal.{Refusal}
use Rattle.room_model.specs.Sessions.{Session, Acted, session_of}
use Rattle.room_model.specs.Room.{RoomValue, with_sessions, acted_on, on_session}
use Rattle.room_laws.specs.Placed.{AreDistinct}
use Rattle.live_state.specs.Live.{Live}
use Rattle.view_counts.specs.Settled.{View}
use Rattle.room_core.specs.declared.client.Client.{Client}
use Rattle.room_model.specs.Seats.{Seats}
use Rattle.room_core.specs.Steps.{EditTells, refused_outs}
use Rattle.room_core.specs.Values.{room_with, session_of_client}
use Rattle.std.specs.Option.{option_map}
use Rattle.room_core.proofs.ClientLists.{named_there, changed_there, set_same}

-- ---- results

pub if_ok_same : {X E : Type 0} (r : Result X E) (a b : X) → a ≡ b → IfOk r (λ o. o ≡ a) → IfOk r (λ o. o ≡ b)
if_ok_same (Ok x) a b same h = h ∙ same
if_ok_same (Err e) a b same h = h

-- ---- a room with these clients

module _ (def : RoomDef) (criteria : List (List ℕ)) (live : Live) (shared : View) (places : Seats) (cs : List Client) (id : List ℕ) (does : Session → Result Acted Refusal) where
  abbrev room_at : List Client → RoomValue
  room_at clients = room_with def criteria live shared places clients

  -- where no client has the name
  pub missed_step : session_of (map session_of_client cs) id ≡ None → on_session (room_at cs) id does ≡ acted_on (room_at cs) id None
  missed_step missed = ap (λ o. acted_on (room_at cs) id (option_map does o)) missed

  -- where one does
  module _ (distinct : AreDistinct (map session_of_client cs)) (at : ℕ) (c d : Client) (there : slice_get cs at ≡ Some c) (name : c.id ≡ id) where
    pub step_is : on_session (room_at cs) id does ≡ acted_on (room_at cs) id (Some (does (session_of_client c)))
    step_is = ap (λ o. acted_on (room_at cs) id (option_map does o)) (named_there id cs at c distinct there name)

    pub edited_outs : (refusal : Option Refusal) → EditTells (does (session_of_client c)) c d refusal → (on_session (room_at cs) id does).1 ≡ refused_outs refusal
    edited_outs None tells = ap (λ (x : RoomValue × List RoomOut). x.1) step_is ∙ ap (λ a. (acted_on (room_at cs) id (Some a)).1) tells
    edited_outs (Some f) tells = ap (λ (x : RoomValue × List RoomOut). x.1) step_is ∙ ap (λ a. (acted_on (room_at cs) id (Some a)).1) tells.0

    pub edited_room : (refusal : Option Refusal) → EditTells (does (session_of_client c)) c d refusal → room_at (set cs at d) ≡ (on_session (room_at cs) id does).0
    edited_room None tells =
        ap (λ ss. with_sessions (room_at cs) ss) (changed_there id (λ s. session_of_client d) cs at c d distinct there name refl)
        ∙ sym (ap (λ (x : RoomValue × List RoomOut). x.0) step_is ∙ ap (λ a. (acted_on (room_at cs) id (Some a)).0) tells)
    edited_room (Some f) tells =
        ap (λ x. room_at (set cs at x)) tells.1 ∙ ap room_at (set_same cs at c there)
        ∙ sym (ap (λ (x : RoomValue × List RoomOut). x.0) step_is ∙ ap (λ a. (acted_on (room_at cs) id (Some a)).0) tells.0)
