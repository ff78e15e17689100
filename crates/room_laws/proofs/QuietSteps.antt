-- Quiet events that end nothing leave the places.
use Rattle.std.proofs.Common.{◌≡◌, ℕ, true, false, Bool, cond, List, [], Option, Some, None, refl}
use Rattle.std.specs.Prelude.{Result, Ok, Err}
use Rattle.std.specs.List.{list_any}
use Rattle.std.specs.Option.{option_map}
use Rattle.frame_model.specs.Reading.{read_client}
use Rattle.frame_model.specs.declared.frame.ClientFrame.{ClientFrame}
use Rattle.frame_model.specs.declared.frame.ClientFrame.TheVariants as client
use Rattle.frame_model.specs.declared.fault.FrameFault.{FrameFault}
use Rattle.state_model.specs.Commands.{do_command}
use Rattle.state_model.specs.State.{State}
use Rattle.state_model.specs.declared.command.TableFault.{TableFault}
use Rattle.room_model.specs.declared.event.Act.{Act}
use Rattle.room_model.specs.declared.event.Act.TheVariants as act
use Rattle.room_model.specs.declared.event.RoomEvent.{RoomEvent}
use Rattle.room_model.specs.declared.event.RoomEvent.TheVariants as event
use Rattle.room_model.specs.declared.refusal.Refusal.{Refusal}
use Rattle.room_model.specs.Room.{RoomValue, acted_on, after_act, after_answer, after_frame, after_read, on_session, room_step, where_connected}
use Rattle.room_model.specs.Sessions.{Acted, Session, is_connected, session_of}
use Rattle.room_laws.specs.Quiet.{KeepsPlaces, is_ending, is_quiet_act}

module _ (r : RoomValue) where
  acted_keeps : (id : List ℕ) (o : Option (Result Acted Refusal)) → (acted_on r id o).0.seats ≡ r.seats
  acted_keeps id None = refl
  acted_keeps id (Some (Ok a)) = refl
  acted_keeps id (Some (Err f)) = refl

  on_keeps : (id : List ℕ) (does : Session → Result Acted Refusal) → (on_session r id does).0.seats ≡ r.seats
  on_keeps id does = acted_keeps id (option_map does (session_of r.sessions id))

  answer_keeps : (a : Result (State × Option ℕ) TableFault) → (after_answer r a).0.seats ≡ r.seats
  answer_keeps (Ok a) = refl
  answer_keeps (Err f) = refl

  read_keeps : (session : List ℕ) (f : Result ClientFrame FrameFault) → list_any is_ending (after_read r session f).1 ≡ false → (after_read r session f).0.seats ≡ r.seats
  read_keeps session (Ok client.Ack) none = refl
  read_keeps session (Ok client.Leave) none = cc
  read_keeps session (Ok (client.Msg kind payload)) none = refl
  read_keeps session (Ok (client.Raw kind payload)) none = refl
  read_keeps session (Err f) none = refl

  frame_keeps : (session bytes : List ℕ) → list_any is_ending (after_frame r session bytes).1 ≡ false → (after_frame r session bytes).0.seats ≡ r.seats
  frame_keeps session bytes = go (session_of r.sessions session)
    where
      here : (b : Bool) → let x : RoomValue × _ = cond b (after_read r session (read_client bytes)) (r, []) in list_any is_ending x.1 ≡ false → x.0.seats ≡ r.seats
      here true none = read_keeps session (read_client bytes) none
      here false none = refl

      go : (o : Option Session) → list_any is_ending (where_connected r o (λ s. after_read r session (read_client bytes))).1 ≡ false
          → (where_connected r o (λ s. after_read r session (read_client bytes))).0.seats ≡ r.seats
      go None none = refl
      go (Some s) none = here (is_connected s.stage) none

  act_keeps : (a : Act) → is_quiet_act a ≡ true → (after_act r a).0.seats ≡ r.seats
  act_keeps (act.State command) quiet = answer_keeps (do_command r.schema r.state command)
  act_keeps (act.ViewAdd id p) quiet = on_keeps id _
  act_keeps (act.ViewDel id p) quiet = on_keeps id _
  act_keeps (act.Send id kind bytes) quiet = on_keeps id _
  act_keeps (act.Raw id kind bytes) quiet = on_keeps id _
  act_keeps (act.ToAll kind bytes) quiet = refl
  act_keeps (act.Kick id code) quiet = cc
  act_keeps act.Lock quiet = cc
  act_keeps act.Unlock quiet = cc
  act_keeps (act.Keep id ms) quiet = on_keeps id _

  pub step_quiet : (e : RoomEvent) → KeepsPlaces r e (room_step r e)
  step_quiet (event.Reserve session lapse) quiet none = cc
  step_quiet (event.Enter session token fresh) quiet none = cc
  step_quiet (event.Frame session bytes) quiet none = frame_keeps session bytes none
  step_quiet (event.Lost session now) quiet none = cc
  step_quiet (event.Moment now) quiet none = cc
  step_quiet (event.Act a) quiet none = act_keeps a quiet
  step_quiet event.Tick quiet none = refl
