-- Events of a connection and of a room, as a hub's step has them.
use Rattle.std.proofs.Common.{◌≡◌, ℕ, ◌==◌, ◌&&◌, ◌++◌, Bool, true, false, not, List, [], ◌∷◌, Option, Some, None, IfSome, IsTrue, Result, Ok, Err, OnOk, filter, refl, sym, ap, subst, ◌∙◌, cond, arith}
use Rattle.std.specs.Prelude.{is_some}
use Rattle.std.specs.List.{find, list_all}
use Rattle.std.specs.Option.{option_map, option_map_or}
use Rattle.std.proofs.lemmas.Bool.{and_parts}
use Rattle.std.proofs.lemmas.Bool.Decides.{nat_tests}
use Rattle.lists.specs.Rising.{find as find_by}
use Rattle.room_model.specs.declared.event.Act.{Act}
use Rattle.room_model.specs.declared.event.RoomEvent.{RoomEvent}
use Rattle.room_model.specs.declared.event.RoomEvent.TheVariants as event
use Rattle.room_model.specs.declared.refusal.Refusal.TheVariants as refusal
use Rattle.room_model.specs.Room.{RoomValue}
use Rattle.room_model.specs.Sessions.{Session, is_connected, session_of}
use Rattle.room_laws.specs.Places.{is_connected_in, is_moment, may_happen}
use Rattle.room_laws.specs.StepLaws.{connected}
use Rattle.hub_model.specs.declared.conn.HubConn.{HubConn}
use Rattle.hub_model.specs.declared.event.HubEvent.{HubEvent}
use Rattle.hub_model.specs.declared.event.HubEvent.TheVariants as happened
use Rattle.hub_model.specs.declared.event.HubOut.{HubOut}
use Rattle.hub_model.specs.declared.event.HubOut.TheVariants as out
use Rattle.hub_model.specs.Dealt.{RoomStep}
use Rattle.hub_model.specs.HubStep.{Rules, event_if, event_of_conn, hub_step, is_needed}
use Rattle.hub_model.specs.HubValues.{HubRoom, HubValue, conn_number, conn_of, is_named, room_of}
use Rattle.hub_core.specs.declared.parts.Parts.{Parts}
use Rattle.hub_core.specs.declared.entry.RoomEntry.{RoomEntry}
use Rattle.hub_core.specs.Hubs.{Stands, hub_of, is_of_one}
use Rattle.hub_core.specs.Handled.{handled_in}
use Rattle.hub_core.specs.RoomEntry.{AreOrdered, has_id, room_in, rooms_in}
use Rattle.hub_core.specs.Takes.{Takes, rules_of}
use Rattle.hub_core.proofs.IdleLaws.{idle_step, handled_step}
use Rattle.hub_core.proofs.HandleLaws.{room_found}
use Rattle.hub_core.proofs.UnhandledLaws.{all_stay, none_go}

-- ---- the session of a connection

found_one : (q : HubConn → Bool) (n : ℕ) (cs : List HubConn) (c : HubConn) → list_all q cs ≡ true → find_by conn_number n cs ≡ Some c → q c ≡ true
found_one q n [] c all found = absurd cc
found_one q n (x ∷ cs) c all found = by_first (conn_number x == n) found (λ rest. found_one q n cs c (and_parts (q x) (list_all q cs) all).1 rest)
  where
    by_first : (b : Bool) → cond b (Some x) (find_by conn_number n cs) ≡ Some c → (find_by conn_number n cs ≡ Some c → q c ≡ true) → q c ≡ true
    by_first true is rest = (let one : x ≡ c = cc in subst (λ y. q y ≡ true) one (and_parts (q x) (list_all q cs) all).0)
    by_first false is rest = rest is

connected_is : (r : RoomValue) (id : List ℕ) → is_connected_in r id ≡ connected r id
connected_is r id = by_found (session_of r.sessions id)
  where
    by_found : (o : Option Session) → option_map_or (λ (s : Session). is_connected s.stage) o false ≡ option_map_or is_connected (option_map (λ (s : Session). s.stage) o) false
    by_found None = refl
    by_found (Some s) = refl

one_connected : {R : Type 0} (room : R → RoomValue) (session : List ℕ) (o : Option (RoomEntry R)) → option_map_or (λ s. connected (room s.room) session) o false ≡ true → IfSome o (λ s. is_connected_in (room s.room) session ≡ true)
one_connected room session None h = tt
one_connected room session (Some s) h = connected_is (room s.room) session ∙ h

module _ {R : Type 0} (room : R → RoomValue) (Holds : RoomValue → Type 0) (p : Parts R) (entry : Stands room Holds p) (conn : ℕ) (c : HubConn) (found : Some c ≡ find_by conn_number conn p.conns) where
  own : is_of_one room p.registry.rooms c ≡ true
  own = found_one (is_of_one room p.registry.rooms) conn p.conns c entry.order.conns (sym found)

  pub may_frame : (bytes : List ℕ) → IfSome (find (has_id c.room) p.registry.rooms) (λ s. IsTrue (may_happen (room s.room) (event.Frame c.session bytes)))
  may_frame bytes = one_connected room c.session (find (has_id c.room) p.registry.rooms) own

  pub may_lose : IfSome (find (has_id c.room) p.registry.rooms) (λ s. IsTrue (may_happen (room s.room) (event.Lost c.session p.moment)))
  may_lose = by_found (find (has_id c.room) p.registry.rooms) (one_connected room c.session (find (has_id c.room) p.registry.rooms) own)
    where
      early : is_moment p.moment ≡ true
      early = let low = entry.order.early in grind (arith, nat_tests, low)

      by_found : (o : Option (RoomEntry R)) → IfSome o (λ s. is_connected_in (room s.room) c.session ≡ true) → IfSome o (λ s. (is_moment p.moment && is_connected_in (room s.room) c.session) ≡ true)
      by_found None h = tt
      by_found (Some s) h = rw (early, h) refl

  pub room_there : is_some (room_of (hub_of room p) c.room) ≡ true
  room_there = ap is_some (room_found room c.room p.registry.rooms) ∙ by_found (find (has_id c.room) p.registry.rooms) own
    where
      by_found : (o : Option (RoomEntry R)) → option_map_or (λ s. connected (room s.room) c.session) o false ≡ true → is_some (option_map (room_in room) o) ≡ true
      by_found None h = absurd cc
      by_found (Some s) h = refl

-- acts within the limits, and ticks, may come to every room
pub may_do : {R : Type 0} (room : R → RoomValue) (e : RoomEvent) (o : Option (RoomEntry R)) → ((r : RoomValue) → may_happen r e ≡ true) → IfSome o (λ s. IsTrue (may_happen (room s.room) e))
may_do room e None may = tt
may_do room e (Some s) may = may (room s.room)

-- ---- steps

event_there : (r : HubRoom) (make : List ℕ → RoomEvent) (o : Option HubConn) (c : HubConn) → o ≡ Some c → event_of_conn r make o ≡ event_if (is_named c.room r) (make c.session)
event_there r make o c is = ap (event_of_conn r make) is

-- an event of a connection's session
pub frame_step : (rules : Rules) (h : HubValue) (conn : ℕ) (bytes : List ℕ) (c : HubConn) → conn_of h conn ≡ Some c → is_some (room_of h c.room) ≡ true
    → hub_step rules h (happened.Frame conn bytes) ≡ handled_in rules.step h c.room (event.Frame c.session bytes)
frame_step rules h conn bytes c is there =
    handled_step rules h (happened.Frame conn bytes) c.room (event.Frame c.session bytes) (λ r. event_there r (λ s. event.Frame s bytes) (conn_of h conn) c is) refl refl (λ ds. refl) (λ cs d. refl)
    (ap (λ (o : Option HubConn). cond (is_some o) [] (out.Refused refusal.NoConn ∷ [])) is ∙ sym (ap (λ b. cond b [] (out.Refused refusal.NoRoom ∷ [])) there)) (λ ds. refl)

pub lost_step : (rules : Rules) (h : HubValue) (conn : ℕ) (c : HubConn) → conn_of h conn ≡ Some c → is_some (room_of h c.room) ≡ true → hub_step rules h (happened.Lost conn) ≡ handled_in rules.step h c.room (event.Lost c.session h.now)
lost_step rules h conn c is there =
    handled_step rules h (happened.Lost conn) c.room (event.Lost c.session h.now) (λ r. event_there r (λ s. event.Lost s h.now) (conn_of h conn) c is) refl refl (λ ds. refl) (λ cs d. refl)
    (ap (λ (o : Option HubConn). cond (is_some o) [] (out.Refused refusal.NoConn ∷ [])) is ∙ sym (ap (λ b. cond b [] (out.Refused refusal.NoRoom ∷ [])) there)) (λ ds. refl)

pub act_step : (rules : Rules) (h : HubValue) (room : List ℕ) (a : Act) → hub_step rules h (happened.Act room a) ≡ handled_in rules.step h room (event.Act a)
act_step rules h room a = handled_step rules h (happened.Act room a) room (event.Act a) (λ r. refl) refl refl (λ ds. refl) (λ cs d. refl) refl (λ ds. refl)

pub tick_step : (rules : Rules) (h : HubValue) (room : List ℕ) → hub_step rules h (happened.Tick room) ≡ handled_in rules.step h room event.Tick
tick_step rules h room = handled_step rules h (happened.Tick room) room event.Tick (λ r. refl) refl refl (λ ds. refl) (λ cs d. refl) refl (λ ds. refl)

-- no event of a room
module _ {R : Type 0} (room : R → RoomValue) (Holds : RoomValue → Type 0) (step : RoomStep) (p : Parts R) (entry : Stands room Holds p) (ordered : AreOrdered p.registry.rooms) where
  stay : filter is_needed (rooms_in room p.registry.rooms) ≡ rooms_in room p.registry.rooms
  stay = all_stay room 0 p.registry.rooms ordered.0 entry.needed

  gone : filter (λ r. not (is_needed r)) (rooms_in room p.registry.rooms) ≡ []
  gone = none_go room 0 p.registry.rooms ordered.0 entry.needed

  -- a refusal is all that it gives
  refused : (e : HubEvent) (o : HubOut) (before after : List HubOut) → hub_step (rules_of step) (hub_of room p) e ≡ (hub_of room p, o ∷ []) → after ≡ before ++ o ∷ [] → Takes room Holds step e p p before after
  refused e o before after is outs = record {
    hub = sym (ap (λ x. x.0) is);
    outs = outs ∙ sym (ap (λ x. before ++ x.1) is);
    stands = entry;
  }

  pub no_frame : (conn : ℕ) (bytes : List ℕ) (before after : List HubOut) → None ≡ find_by conn_number conn p.conns → after ≡ before ++ out.Refused refusal.NoConn ∷ [] → Takes room Holds step (happened.Frame conn bytes) p p before after
  no_frame conn bytes before after none outs =
      refused (happened.Frame conn bytes) (out.Refused refusal.NoConn) before after
      (idle_step (rules_of step) (hub_of room p) (happened.Frame conn bytes) (λ r. ap (event_of_conn r (λ s. event.Frame s bytes)) (sym none)) refl stay gone refl
      ∙ ap (λ (o : Option HubConn). (hub_of room p, cond (is_some o) [] (out.Refused refusal.NoConn ∷ []) ++ [])) (sym none)) outs

  pub no_loss : (conn : ℕ) (before after : List HubOut) → None ≡ find_by conn_number conn p.conns → after ≡ before ++ out.Refused refusal.NoConn ∷ [] → Takes room Holds step (happened.Lost conn) p p before after
  no_loss conn before after none outs =
      refused (happened.Lost conn) (out.Refused refusal.NoConn) before after
      (idle_step (rules_of step) (hub_of room p) (happened.Lost conn) (λ r. ap (event_of_conn r (λ s. event.Lost s p.moment)) (sym none)) refl stay gone refl
      ∙ ap (λ (o : Option HubConn). (hub_of room p, cond (is_some o) [] (out.Refused refusal.NoConn ∷ []) ++ [])) (sym none)) outs

  pub no_request : (conn : ℕ) (before after : List HubOut) → after ≡ before ++ out.Close conn 1002 ∷ [] → Takes room Holds step (happened.Bad conn) p p before after
  no_request conn before after outs =
      refused (happened.Bad conn) (out.Close conn 1002) before after (idle_step (rules_of step) (hub_of room p) (happened.Bad conn) (λ r. refl) refl stay gone refl) outs

-- what a call for a room's event comes to
pub takes_handled : {R A E : Type 0} (room : R → RoomValue) (Holds : RoomValue → Type 0) (step : RoomStep) (e : HubEvent) (old new : Parts R) (before after : List HubOut) (id : List ℕ) (ev : RoomEvent) (r : Result A E)
    → hub_step (rules_of step) (hub_of room old) e ≡ handled_in step (hub_of room old) id ev → OnOk r (hub_of room new ≡ (handled_in step (hub_of room old) id ev).0) → OnOk r (after ≡ before ++ (handled_in step (hub_of room old) id ev).1)
    → OnOk r (Stands room Holds new) → OnOk r (Takes room Holds step e old new before after)
takes_handled room Holds step e old new before after id ev (Ok a) is hub outs stands = record { hub = hub ∙ sym (ap (λ x. x.0) is); outs = outs ∙ sym (ap (λ x. before ++ x.1) is); stands = stands }
takes_handled room Holds step e old new before after id ev (Err f) is hub outs stands = tt
