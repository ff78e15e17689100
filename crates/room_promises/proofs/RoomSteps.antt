-- What holds of a room at each point of a run, and after each event.
use Rattle.std.proofs.Common.{◌≡◌, ℕ, Bool, true, false, List, Option, Some, None, Result, Ok, Err, refl, sym, ap, subst, ◌∙◌, zero-le}
use Rattle.std.specs.Option.{option_map}
use Rattle.schema_model.specs.Classes.{Schema, is_kept}
use Rattle.state_model.specs.declared.command.Command.{Command}
use Rattle.state_model.specs.declared.command.TableFault.{TableFault}
use Rattle.state_model.specs.State.{State, new_state, swept}
use Rattle.state_model.specs.Shown.{shared}
use Rattle.state_model.specs.Commands.{do_command}
use Rattle.state_model.specs.Worded.{is_worded_command}
use Rattle.frame_model.specs.Frames.{server_bytes}
use Rattle.frame_model.specs.Reading.{read_client}
use Rattle.frame_model.specs.declared.fault.FrameFault.{FrameFault}
use Rattle.frame_model.specs.declared.frame.ClientFrame.{ClientFrame}
use Rattle.frame_model.specs.declared.frame.ClientFrame.TheVariants as client
use Rattle.frame_model.specs.declared.frame.ServerFrame.TheVariants as server
use Rattle.room_model.specs.declared.definition.RoomDef.{RoomDef}
use Rattle.room_model.specs.declared.event.Act.TheVariants as act
use Rattle.room_model.specs.declared.event.RoomEvent.{RoomEvent}
use Rattle.room_model.specs.declared.event.RoomEvent.TheVariants as event
use Rattle.room_model.specs.declared.refusal.Refusal.{Refusal}
use Rattle.room_model.specs.Sessions.{Acted, session_of, told_to, view_added_to, view_removed_from, keep_set}
use Rattle.room_model.specs.Room.{RoomValue, new_room, room_step, after_read, after_frame, after_enter, after_loss, after_moment, after_kick, after_answer, acted_on}
use Rattle.room_laws.specs.Ledgers.{Within}
use Rattle.room_laws.specs.Placed.{Placed}
use Rattle.room_laws.specs.Places.{may_happen}
use Rattle.room_laws.proofs.RoomPlaces.{step_keeps}
use Rattle.room_laws.proofs.RoomPlaced.{step_placed, new_placed}
use Rattle.room_like.specs.Worded.{is_worded_event}
use Rattle.room_promises.proofs.EventCases.{enter_cases, where_cases, loss_cases, moment_cases, kick_cases}
use Rattle.room_promises.proofs.StateFacts.{GoodStates, new_states, command_states, swept_states}

-- a room of the schema: its places and sessions tell the same, and its state is a later one than that of the last tick
pub record GoodRoom (schema : Schema) (last : State) (r : RoomValue) : Type 0 where
  pub schema_is : r.schema ≡ schema
  pub placed : Placed r
  pub within : Within r.seats
  pub states : GoodStates schema last r.state
  pub shared_is : r.shared ≡ shared schema last.rows

-- a new room
pub new_good : (schema : Schema) (def : RoomDef) (criteria : List (List ℕ)) → is_kept schema ≡ true → GoodRoom schema (new_state schema) (new_room schema def criteria)
new_good schema def criteria kept = record { schema_is = refl; placed = new_placed schema def criteria; within = zero-le; states = new_states schema kept; shared_is = refl }

-- an event is a tick
abbrev pub is_tick : RoomEvent → Bool
is_tick event.Tick = true
is_tick e = false

-- ---- events that leave the state as it is

record Same (r t : RoomValue) : Type 0 where
  schema : t.schema ≡ r.schema
  state : t.state ≡ r.state
  shared : t.shared ≡ r.shared

same_room : (r : RoomValue) → Same r r
same_room r = record { schema = refl; state = refl; shared = refl }

same_entered : (r : RoomValue) (session : List ℕ) (token : Option (List ℕ)) (fresh : List ℕ) → Same r (after_enter r session token fresh).0
same_entered r session token fresh =
    enter_cases (λ x. Same r x.0) r session fresh token (same_room r) (same_room r) (λ lapse at new. record { schema = refl; state = refl; shared = refl }) (λ t lapse is at new. record { schema = refl; state = refl; shared = refl })

same_read : (r : RoomValue) (id : List ℕ) (x : Result ClientFrame FrameFault) → Same r (after_read r id x).0
same_read r id (Ok client.Ack) = record { schema = refl; state = refl; shared = refl }
same_read r id (Ok client.Leave) = record { schema = refl; state = refl; shared = refl }
same_read r id (Ok (client.Msg kind payload)) = same_room r
same_read r id (Ok (client.Raw kind payload)) = same_room r
same_read r id (Err f) = same_room r

same_framed : (r : RoomValue) (id bytes : List ℕ) → Same r (after_frame r id bytes).0
same_framed r id bytes = where_cases (λ x. Same r x.0) r (session_of r.sessions id) (λ s. after_read r id (read_client bytes)) (λ off. same_room r) (λ s found is. same_read r id (read_client bytes))

same_lost : (r : RoomValue) (id : List ℕ) (now : ℕ) → Same r (after_loss r id now).0
same_lost r id now =
    loss_cases (λ x. Same r x.0) r id now (λ off. same_room r) (λ s lapse found is. record { schema = refl; state = refl; shared = refl }) (λ s found is. record { schema = refl; state = refl; shared = refl })

same_lapsed : (r : RoomValue) (now : ℕ) → Same r (after_moment r now).0
same_lapsed r now = moment_cases (λ x. Same r x.0) r now (same_room r) (λ x id h. record { schema = h.schema; state = h.state; shared = h.shared })

same_kicked : (r : RoomValue) (id : List ℕ) (code : ℕ) → Same r (after_kick r code (session_of r.sessions id)).0
same_kicked r id code = kick_cases (λ x. Same r x.0) r id code (λ f nobody. same_room r) (λ s found. record { schema = refl; state = refl; shared = refl })

same_acted : (r : RoomValue) (id : List ℕ) (x : Option (Result Acted Refusal)) → Same r (acted_on r id x).0
same_acted r id None = same_room r
same_acted r id (Some (Err f)) = same_room r
same_acted r id (Some (Ok a)) = record { schema = refl; state = refl; shared = refl }

stays_good : (schema : Schema) (last : State) (r t : RoomValue) → GoodRoom schema last r → Placed t → Within t.seats → Same r t → GoodRoom schema last t
stays_good schema last r t g placed within same = record {
  schema_is = same.schema ∙ g.schema_is;
  placed = placed;
  within = within;
  states = subst (λ (s : State). GoodStates schema last s) (sym same.state) g.states;
  shared_is = same.shared ∙ g.shared_is;
}

-- ---- a command

answered_good : (schema : Schema) (last : State) (r : RoomValue) (c : Command) (x : Result (State × Option ℕ) TableFault) → is_kept schema ≡ true → is_worded_command c ≡ true → GoodRoom schema last r → do_command schema r.state c ≡ x
    → Placed (after_answer r x).0 → Within (after_answer r x).0.seats → GoodRoom schema last (after_answer r x).0
answered_good schema last r c (Ok x) kept words g does placed within = record {
  schema_is = g.schema_is;
  placed = placed;
  within = within;
  states = command_states schema last r.state c x.0 x.1 kept words g.states does;
  shared_is = g.shared_is;
}
answered_good schema last r c (Err f) kept words g does placed within = g

-- ---- a tick

pub tick_good : (schema : Schema) (last : State) (r : RoomValue) → GoodRoom schema last r → GoodRoom schema (swept r.state) (room_step r event.Tick).0
tick_good schema last r g = record {
  schema_is = g.schema_is;
  placed = step_placed r event.Tick g.placed refl;
  within = (step_keeps r event.Tick g.within refl).0;
  states = swept_states schema last r.state g.states;
  shared_is = ap (λ s. shared s (swept r.state).rows) g.schema_is;
}

-- ---- any event but a tick

pub step_good : (schema : Schema) (last : State) (r : RoomValue) (e : RoomEvent) → is_kept schema ≡ true → is_tick e ≡ false → is_worded_event e ≡ true → may_happen r e ≡ true → GoodRoom schema last r
    → GoodRoom schema last (room_step r e).0
step_good schema last r e kept other words may g = by_event e other words (step_placed r e g.placed may) (step_keeps r e g.within may).0
  where
    by_event : (e : RoomEvent) → is_tick e ≡ false → is_worded_event e ≡ true → Placed (room_step r e).0 → Within (room_step r e).0.seats → GoodRoom schema last (room_step r e).0
    by_event (event.Reserve session lapse) other words placed within = stays_good schema last r _ g placed within (record { schema = refl; state = refl; shared = refl })
    by_event (event.Enter session token fresh) other words placed within = stays_good schema last r _ g placed within (same_entered r session token fresh)
    by_event (event.Frame session bytes) other words placed within = stays_good schema last r _ g placed within (same_framed r session bytes)
    by_event (event.Lost session now) other words placed within = stays_good schema last r _ g placed within (same_lost r session now)
    by_event (event.Moment now) other words placed within = stays_good schema last r _ g placed within (same_lapsed r now)
    by_event (event.Act (act.State c)) other words placed within =
        answered_good schema last r c (do_command r.schema r.state c) kept words g (ap (λ s. do_command s r.state c) (sym g.schema_is)) placed within
    by_event (event.Act (act.ViewAdd id pair)) other words placed within = stays_good schema last r _ g placed within (same_acted r id (option_map (view_added_to r.schema r.state.rows pair) (session_of r.sessions id)))
    by_event (event.Act (act.ViewDel id pair)) other words placed within = stays_good schema last r _ g placed within (same_acted r id (option_map (view_removed_from r.schema r.state.rows pair) (session_of r.sessions id)))
    by_event (event.Act (act.Send id kind payload)) other words placed within = stays_good schema last r _ g placed within (same_acted r id (option_map (told_to (server_bytes (server.Msg kind payload))) (session_of r.sessions id)))
    by_event (event.Act (act.Raw id kind payload)) other words placed within = stays_good schema last r _ g placed within (same_acted r id (option_map (told_to (server_bytes (server.Raw kind payload))) (session_of r.sessions id)))
    by_event (event.Act (act.ToAll kind payload)) other words placed within = stays_good schema last r _ g placed within (record { schema = refl; state = refl; shared = refl })
    by_event (event.Act (act.Kick id code)) other words placed within = stays_good schema last r _ g placed within (same_kicked r id code)
    by_event (event.Act act.Lock) other words placed within = stays_good schema last r _ g placed within (record { schema = refl; state = refl; shared = refl })
    by_event (event.Act act.Unlock) other words placed within = stays_good schema last r _ g placed within (record { schema = refl; state = refl; shared = refl })
    by_event (event.Act (act.Keep id ms)) other words placed within = stays_good schema last r _ g placed within (same_acted r id (option_map (keep_set ms) (session_of r.sessions id)))
    by_event event.Tick other words placed within = cc
