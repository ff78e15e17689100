-- The events that a hub's event deals to rooms have lines, and so has what each room gives for them.
use Rattle.std.proofs.Common.{◌≡◌, ℕ, ◌+◌, ◌<◌, ◌&&◌, Bool, true, false, List, [], ◌∷◌, length, Option, Some, None, refl, sym, ap, subst, ◌∙◌, inl, inr}
use Rattle.std.specs.List.{list_all}
use Rattle.std.proofs.lemmas.Bool.{and_parts, and_from}
use Rattle.schema_model.specs.Classes.{Schema, is_kept}
use Rattle.schema_model.specs.Ids.{is_id}
use Rattle.state_model.specs.State.{State, swept}
use Rattle.room_model.specs.declared.definition.RoomDef.{RoomDef}
use Rattle.room_model.specs.declared.event.RoomEvent.{RoomEvent}
use Rattle.room_model.specs.declared.event.RoomEvent.TheVariants as happened
use Rattle.room_model.specs.Room.{room_step}
use Rattle.room_laws.specs.Places.{may_happen}
use Rattle.room_like.specs.Worded.{is_worded_event}
use Rattle.hub_model.specs.declared.conn.HubConn.{HubConn}
use Rattle.hub_model.specs.declared.event.HubEvent.{HubEvent}
use Rattle.hub_model.specs.declared.event.HubEvent.TheVariants.{At, Ask, Bad, Opening, Frame, Lost, Act as Acted, Tick}
use Rattle.hub_model.specs.declared.request.Opening.{Opening as Opens}
use Rattle.hub_model.specs.Dealt.{Dealt, dealt}
use Rattle.hub_model.specs.HubStep.{Rules, deals, decided, event_if, event_in, event_of_conn, event_of_opening, lapses_by, moment_at, opened_by, reserved_in}
use Rattle.hub_model.specs.HubValues.{HubRoom, HubValue, conn_of, def_of_room, is_named}
use Rattle.room_promises.proofs.RoomSteps.{GoodRoom, step_good, tick_good}
use Rattle.hub_promises.proofs.Deals.{Few}
use Rattle.text_model.specs.Acts.{is_act}
use Rattle.text_model.specs.Events.{is_event, is_number}
use Rattle.text_model.specs.WordForms.{are_bytes, is_text}
use Rattle.print_laws.proofs.RoomSteps.{is_told_event, step_neat, tick_neat}
use Rattle.print_laws.proofs.Sessions.{Neat, fits_out}

-- ---- the parts of an event

-- of a request
pub record AskParts (conn : ℕ) (room session : List ℕ) : Type 0 where
  pub number : is_number conn ≡ true
  pub room_id : is_id room ≡ true
  pub session_id : is_id session ≡ true

pub ask_parts : (conn : ℕ) (target body room session : List ℕ) → is_event (Ask conn target body room session) ≡ true → AskParts conn room session
ask_parts conn target body room session h =
    let a = and_parts (is_number conn) (is_text target && (are_bytes body && (is_id room && is_id session))) h in
    let b = and_parts (is_text target) (are_bytes body && (is_id room && is_id session)) a.1 in
    let c = and_parts (are_bytes body) (is_id room && is_id session) b.1 in
    let d = and_parts (is_id room) (is_id session) c.1 in
    record { number = a.0; room_id = d.0; session_id = d.1 }

-- of an opening
pub fresh_id : (conn : ℕ) (target fresh : List ℕ) → is_event (Opening conn target fresh) ≡ true → is_id fresh ≡ true
fresh_id conn target fresh h = (and_parts (is_text target) (is_id fresh) (and_parts (is_number conn) (is_text target && is_id fresh) h).1).1

-- ---- what is dealt

told_if : (b : Bool) (x : RoomEvent) → is_told_event x ≡ true → list_all is_told_event (event_if b x) ≡ true
told_if true x h = and_from (is_told_event x) true h refl
told_if false x h = refl

told_in : (id : Option (List ℕ)) (r : HubRoom) (x : RoomEvent) → is_told_event x ≡ true → list_all is_told_event (event_in id r x) ≡ true
told_in None r x h = refl
told_in (Some id) r x h = told_if (is_named id r) x h

told_of_conn : (r : HubRoom) (x : List ℕ → RoomEvent) (c : Option HubConn) → ((s : List ℕ) → is_told_event (x s) ≡ true) → list_all is_told_event (event_of_conn r x c) ≡ true
told_of_conn r x None h = refl
told_of_conn r x (Some c) h = told_if (is_named c.room r) (x c.session) (h c.session)

told_of_opening : (r : HubRoom) (fresh : List ℕ) (o : Option Opens) → is_id fresh ≡ true → list_all is_told_event (event_of_opening r fresh o) ≡ true
told_of_opening r fresh None h = refl
told_of_opening r fresh (Some o) h = told_if (is_named o.room r) (happened.Enter o.session o.token fresh) h

pub told_dealt : (rules : Rules) (h : HubValue) (e : HubEvent) (r : HubRoom) → is_event e ≡ true → list_all is_told_event (deals rules h e r) ≡ true
told_dealt rules h (At now) r is = told_if (lapses_by (moment_at h now) r) (happened.Moment (moment_at h now)) refl
told_dealt rules h (Ask conn target body room session) r is =
    told_in (reserved_in h room (decided rules h target body room session)) r (happened.Reserve session (h.now + (def_of_room h.defs r).seat)) (ask_parts conn target body room session is).session_id
told_dealt rules h (Bad conn) r is = refl
told_dealt rules h (Opening conn target fresh) r is = told_of_opening r fresh (opened_by h conn target) (fresh_id conn target fresh is)
told_dealt rules h (Frame conn bytes) r is = told_of_conn r (λ s. happened.Frame s bytes) (conn_of h conn) (λ s. (and_parts (is_number conn) (are_bytes bytes) is).1)
told_dealt rules h (Lost conn) r is = told_of_conn r (λ s. happened.Lost s h.now) (conn_of h conn) (λ s. refl)
told_dealt rules h (Acted room a) r is = told_if (is_named room r) (happened.Act a) (and_parts (is_id room) (is_act a) is).1
told_dealt rules h (Tick room) r is = told_if (is_named room r) happened.Tick refl

-- ---- a room of a hub

-- it is named by an id, its definition is there, and it is such as to give what has a line
pub record Place (schema : Schema) (defs : List RoomDef) (r : HubRoom) : Type 0 where
  pub named : is_id r.id ≡ true
  pub def_is : r.def < length defs
  pub last : State
  pub good : GoodRoom schema last r.room
  pub neat : Neat last r.room

-- behind its events, and what it gave
pub record Given (schema : Schema) (defs : List RoomDef) (d : Dealt) : Type 0 where
  pub place : Place schema defs d.room
  pub outs : list_all fits_out d.outs ≡ true

module _ (schema : Schema) (defs : List RoomDef) (r : HubRoom) (kept : is_kept schema ≡ true) (p : Place schema defs r) where
  own_kept : is_kept r.room.schema ≡ true
  own_kept = ap is_kept p.good.schema_is ∙ kept

  own_good : GoodRoom r.room.schema p.last r.room
  own_good = subst (λ (s : Schema). GoodRoom s p.last r.room) (sym p.good.schema_is) p.good

  moved : (x : RoomEvent) → may_happen r.room x ≡ true → is_worded_event x ≡ true → is_told_event x ≡ true → Given schema defs (dealt room_step r (x ∷ []))
  moved happened.Tick may words told =
      let after = tick_neat p.last r.room p.neat own_kept own_good in
      record { place = record { named = p.named; def_is = p.def_is; last = swept r.room.state; good = tick_good schema p.last r.room p.good; neat = after.neat }; outs = after.outs }
  moved x may words told =
      let after = step_neat p.last r.room p.neat x own_kept own_good refl told in
      record { place = record { named = p.named; def_is = p.def_is; last = p.last; good = step_good schema p.last r.room x kept refl words may p.good; neat = after.neat }; outs = after.outs }

  pub dealt_given : (es : List RoomEvent) → Few r.room es → list_all is_told_event es ≡ true → Given schema defs (dealt room_step r es)
  dealt_given es (inl none) told = subst (λ es. Given schema defs (dealt room_step r es)) (sym none) (record { place = p; outs = refl })
  dealt_given es (inr one) told =
      let own = and_parts (is_told_event one.event) true (sym (ap (list_all is_told_event) one.is) ∙ told) in
      subst (λ es. Given schema defs (dealt room_step r es)) (sym one.is) (moved one.event one.may one.worded own.0)
