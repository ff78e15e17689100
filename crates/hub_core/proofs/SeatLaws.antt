-- A reservation in one of a hub's rooms, and a room that is made: what the calls come to.
use Rattle.std.proofs.Common.{◌≡◌, ℕ, ◌+◌, ◌^◌, ◌<◌, ◌==◌, ◌++◌, Bool, true, false, List, [], ◌∷◌, Option, Some, None, IfSome, filter, get_or, length, map, refl, sym, ap, ap₂, subst, ◌∙◌, arith, cond, append_assoc}
use Rattle.std.specs.Prelude.{is_some, slice_get, if◌then◌else◌}
use Rattle.std.specs.List.{find, flat_map, list_all}
use Rattle.std.specs.Option.{option_map, option_map_or, option_or}
use Rattle.std.specs.Str.{bytes_eq}
use Rattle.std.proofs.lemmas.Bool.{and_parts, and_from}
use Rattle.std.proofs.lemmas.Bool.Decides.{nat_tests}
use Rattle.std.proofs.lemmas.List.Folds.{find-append}
use Rattle.std.proofs.lemmas.Option.{slice_get-get_or}
use Rattle.lists.specs.Rising.{IsAbove, find as find_by, put, remove}
use Rattle.lists.proofs.SameBytes.{bytes_eq_self}
use Rattle.room_model.specs.declared.definition.RoomDef.{RoomDef}
use Rattle.room_model.specs.declared.event.RoomEvent.{RoomEvent}
use Rattle.room_model.specs.declared.event.RoomEvent.TheVariants as event
use Rattle.room_model.specs.declared.event.RoomOut.{RoomOut}
use Rattle.room_model.specs.Room.{RoomValue, new_room}
use Rattle.room_laws.specs.Names.{has_session}
use Rattle.room_laws.specs.Places.{has_place_for, is_moment, may_happen}
use Rattle.room_laws.specs.StepLaws.{connected}
use Rattle.schema_model.specs.Classes.{Schema}
use Rattle.hub_model.specs.declared.conn.HubConn.{HubConn}
use Rattle.hub_model.specs.declared.event.HubOut.{HubOut}
use Rattle.hub_model.specs.declared.event.HubOut.TheVariants as out
use Rattle.hub_model.specs.Dealt.{Dealt, RoomStep, conns_left, told_out}
use Rattle.hub_model.specs.HubStep.{disposals, event_if, is_needed, room_made, seat_text}
use Rattle.hub_model.specs.HubValues.{HubRoom, HubValue, def_of_room}
use Rattle.hub_model.specs.declared.request.Listing.{Listing}
use Rattle.schema_model.specs.Ids.{is_id}
use Rattle.hub_model.specs.Replies.{seat_reply}
use Rattle.hub_core.specs.declared.parts.Parts.{Parts}
use Rattle.hub_core.specs.declared.registry.Registry.{Registry}
use Rattle.hub_core.specs.declared.entry.RoomEntry.{RoomEntry}
use Rattle.hub_core.specs.SessionRooms.{IsHoused}
use Rattle.hub_core.specs.Hubs.{InOrder, IsGood, IsNeeded, hub_of, is_of_one}
use Rattle.hub_core.specs.Lapsed.{told_of}
use Rattle.hub_core.specs.Lawful.{Lawful}
use Rattle.hub_core.specs.Outcome.{listed}
use Rattle.hub_core.specs.Registered.{IsKept}
use Rattle.hub_core.specs.Seated.{Seated, reserved_for, reserved_to, seat_out}
use Rattle.hub_core.specs.RoomEntry.{AreOrdered, Each, has_id, room_in, rooms_in, serial_of}
use Rattle.hub_core.specs.Turned.{Turned}
use Rattle.hub_core.proofs.AddedLaws.{Each-last}
use Rattle.hub_core.proofs.DealtLaws.{AreNeeded, AreQuiet}
use Rattle.hub_core.proofs.EachLaws.{of_there}
use Rattle.hub_core.proofs.LapsedLaws.{Apart, are_apart}
use Rattle.hub_core.proofs.HandleLaws.{room_found}
use Rattle.hub_core.proofs.RegisteredLaws.{stepped_found}
use Rattle.hub_core.proofs.StandsLaws.{find_put, remove-put, stands_left}
use Rattle.hub_core.proofs.SteppedLaws as stepped
use Rattle.hub_core.proofs.SteppedLaws.{needed_others}
use Rattle.hub_core.proofs.TurnLaws as turn

-- ---- the definition of a room

pub def_there : (defs : List RoomDef) (at : ℕ) (own other : RoomDef) → at < length defs → own ≡ get_or defs at own → own ≡ get_or defs at other
def_there defs at own other less is =
    let both : Some (get_or defs at own) ≡ Some (get_or defs at other) = sym (slice_get-get_or defs at own less) ∙ slice_get-get_or defs at other less in
    let same : get_or defs at own ≡ get_or defs at other = cc in
    is ∙ same

pub def_taken : (defs : List RoomDef) (at : ℕ) (own d : RoomDef) → at < length defs → own ≡ get_or defs at own → slice_get defs at ≡ Some d → own ≡ d
def_taken defs at own d less is there =
    let both : Some (get_or defs at own) ≡ Some d = sym (slice_get-get_or defs at own less) ∙ there in
    let same : get_or defs at own ≡ d = cc in
    is ∙ same

pub def_within : {R : Type 0} (room : R → RoomValue) (Holds : RoomValue → Type 0) (p : Parts R) (n : ℕ) (s : RoomEntry R) → InOrder room Holds p → find_by serial_of n p.registry.rooms ≡ Some s → s.def < length p.defs
def_within room Holds p n s order is = subst (λ k. s.def < k) order.opens (of_there (find_by serial_of n p.registry.rooms) s (λ s. s.def < length p.registry.open_rooms.items) is (order.kept.defs n))

-- the reply's text, by a room as its request sees it
pub reply_same : (h : HubValue) (r : HubRoom) (session name : List ℕ) (l : Listing) → l ≡ listed r → name ≡ (def_of_room h.defs r).name → seat_reply l.in_use l.max name h.process l.id session ≡ seat_text h session r
reply_same h r session name l is named = ap₂ (λ (l : Listing) n. seat_reply l.in_use l.max n h.process l.id session) is named

-- ---- a room that is made

module _ {R : Type 0} (room : R → RoomValue) (Holds : RoomValue → Type 0) (begins : (schema : Schema) (def : RoomDef) (criteria : List (List ℕ)) → Holds (new_room schema def criteria))
    (d : RoomDef) (at : ℕ) (criteria : List (List ℕ)) (id : List ℕ) (old : Parts R) (order : InOrder room Holds old) (it : RoomEntry R)
    (is : room_in room it ≡ room_made (hub_of room old) criteria id at d) (above : IsAbove serial_of it.serial old.registry.rooms) (named : is_id id ≡ true) where
  pub free_made : (n : List ℕ) → has_session (room it.room) n ≡ false
  free_made n = ap (λ (r : HubRoom). has_session r.room n) is

  made_good : IsGood room Holds it
  made_good = record {
    holds = subst Holds (sym (ap (λ (r : HubRoom). r.room) is)) (begins old.schema d criteria);
    named = ap (λ (r : HubRoom). is_id r.id) is ∙ named;
    sessions = λ n h. absurd (let none : has_session (room it.room) n ≡ false = free_made n in cc);
  }

  -- connections stay those of connected sessions
  still_of : (c : HubConn) → is_of_one room old.registry.rooms c ≡ true → is_of_one room (old.registry.rooms ++ it ∷ []) c ≡ true
  still_of c was = ap one_of (find-append (has_id c.room) old.registry.rooms (it ∷ [])) ∙ by_found (find (has_id c.room) old.registry.rooms) was
    where
      one_of : Option (RoomEntry R) → Bool
      one_of o = option_map_or (λ s. connected (room s.room) c.session) o false

      by_found : (o : Option (RoomEntry R)) → one_of o ≡ true → one_of (option_or o (find (has_id c.room) (it ∷ []))) ≡ true
      by_found None h = absurd cc
      by_found (Some s) h = h

  all_of : (cs : List HubConn) → list_all (is_of_one room old.registry.rooms) cs ≡ true → list_all (is_of_one room (old.registry.rooms ++ it ∷ [])) cs ≡ true
  all_of [] h = refl
  all_of (c ∷ cs) h =
      let parts = and_parts (is_of_one room old.registry.rooms c) (list_all (is_of_one room old.registry.rooms) cs) h in
      rw (still_of c parts.0) (all_of cs parts.1)

  pub order_added : (new : Parts R) → new.registry.rooms ≡ old.registry.rooms ++ it ∷ [] → IsKept room new.registry → length new.registry.open_rooms.items ≡ length old.registry.open_rooms.items
      → new.conns ≡ old.conns → new.moment ≡ old.moment → new.defs ≡ old.defs → new.process ≡ old.process → new.session_rooms ≡ old.session_rooms → InOrder room Holds new
  order_added new rooms kept count conns moment defs process session_rooms = record {
    kept = kept;
    opens = count ∙ (order.opens ∙ ap length (sym defs));
    rooms = subst (Each (IsGood room Holds)) (sym rooms) (Each-last (IsGood room Holds) it old.registry.rooms above order.rooms made_good);
    conns = ap₂ (λ ss cs. list_all (is_of_one room ss) cs) rooms conns ∙ all_of old.conns order.conns;
    early = rw moment order.early;
    few = rw defs order.few;
    forms = rw defs order.forms;
    process = rw process order.process;
    housed = subst (Each (IsHoused room new.session_rooms)) (sym rooms)
        (subst (λ hs. Each (IsHoused room hs) (old.registry.rooms ++ it ∷ [])) (sym session_rooms)
        (Each-last (IsHoused room old.session_rooms) it old.registry.rooms above order.housed (λ n h. absurd (let none : has_session (room it.room) n ≡ false = free_made n in cc))));
  }

-- ---- a reservation

quiet_named : {R : Type 0} (room : R → RoomValue) (step : RoomStep) (h : HubValue) (session id : List ℕ) (n : ℕ) (ss : List (RoomEntry R)) → Apart n id ss → AreQuiet room step (reserved_for h session id) n ss
quiet_named room step h session id n [] apart = tt
quiet_named room step h session id n (x ∷ ss) apart =
    (λ other. ap (λ b. event_if b (event.Reserve session (h.now + (def_of_room h.defs (room_in room x)).seat))) (apart.0 other), quiet_named room step h session id n ss apart.1)

pub may_reserve : (r : RoomValue) (session : List ℕ) (lapse : ℕ) → lapse < 2 ^ 54 → has_place_for r session ≡ true → may_happen r (event.Reserve session lapse) ≡ true
may_reserve r session lapse early place = and_from (is_moment lapse) (has_place_for r session) (grind (arith, nat_tests, early)) place

module _ {R : Type 0} (room : R → RoomValue) (is_spent : R → Bool) (Holds : RoomValue → Type 0) (handled : RoomStep) (laws : Lawful Holds handled) (session : List ℕ) (lapse n conn : ℕ)
    (old mid : Parts R) (left : Registry R) (before middle replied : List HubOut)
    (order : InOrder room Holds old) (needed : Each (λ s. (s.serial == n) ≡ false → IsNeeded room s) old.registry.rooms) (ordered : AreOrdered old.registry.rooms) (s : RoomEntry R) (at : find_by serial_of n old.registry.rooms ≡ Some s)
    (lapse_is : lapse ≡ old.moment + (def_of_room old.defs (room_in room s)).seat) (may : may_happen (room s.room) (event.Reserve session lapse) ≡ true) (turned : Turned room is_spent handled (event.Reserve session lapse) s old mid before middle)
    (replied_is : IfSome (find_by serial_of n mid.registry.rooms) (λ t. replied ≡ middle ++ out.Reply conn (seat_text (hub_of room mid) session (room_in room t)) ∷ []))
    (left_are : IfSome (find_by serial_of n mid.registry.rooms) (λ t. left.rooms ≡ (if is_needed (room_in room t) then mid.registry.rooms else remove serial_of n mid.registry.rooms))) where
  abbrev ev : RoomEvent
  ev = event.Reserve session lapse

  abbrev h : HubValue
  h = hub_of room old

  abbrev es : HubRoom → List RoomEvent
  es = reserved_for h session s.id

  abbrev ds : List Dealt
  ds = reserved_to handled h session s.id

  abbrev t : RoomEntry R
  t = turned.stepped.now

  abbrev outs : List RoomOut
  outs = (handled (room s.room) ev).1

  number : s.serial ≡ n
  number = turn.number room is_spent Holds handled laws ev n old order ordered s at may mid.registry turned.stepped

  own_at : find_by serial_of s.serial old.registry.rooms ≡ Some s
  own_at = subst (λ k. find_by serial_of k old.registry.rooms ≡ Some s) (sym number) at

  there_is : find_by serial_of t.serial old.registry.rooms ≡ Some s
  there_is = turn.there_is room is_spent Holds handled laws ev n old order ordered s at may mid.registry turned.stepped

  same : s.id ≡ t.id
  same = turn.same room is_spent Holds handled laws ev n old order ordered s at may mid.registry turned.stepped

  found : find (has_id s.id) old.registry.rooms ≡ Some s
  found = turn.found room is_spent Holds handled laws ev n old order ordered s at may mid.registry turned.stepped

  now_at : find_by serial_of n mid.registry.rooms ≡ Some t
  now_at = stepped_found room is_spent n s old.registry.rooms mid.registry.rooms (handled (room s.room) ev).0 turned.stepped at

  quiet : AreQuiet room handled es s.serial old.registry.rooms
  quiet = quiet_named room handled h session s.id s.serial old.registry.rooms (are_apart s.serial s old.registry.rooms ordered.1 own_at found)

  own : es (room_in room s) ≡ ev ∷ []
  own = ap₂ (λ b l. event_if b (event.Reserve session l)) (bytes_eq_self s.id) (sym lapse_is)

  others : Each (λ s. (s.serial == n) ≡ false → IsNeeded room s) mid.registry.rooms
  others = turn.others_needed room is_spent Holds handled laws ev n old order ordered s at may mid.registry turned.stepped needed

  t_number : t.serial ≡ n
  t_number = turned.stepped.serial ∙ number

  needed_but : AreNeeded room t.serial old.registry.rooms
  needed_but = needed_others room t.serial 0 old.registry.rooms ordered.0 (subst (λ k. Each (λ s. (s.serial == k) ≡ false → IsNeeded room s) old.registry.rooms) (sym t_number) needed)

  left_is : left.rooms ≡ (if is_needed (room_in room t) then put serial_of t old.registry.rooms else remove serial_of t.serial old.registry.rooms)
  left_is = of_there (find_by serial_of n mid.registry.rooms) t (λ t. left.rooms ≡ (if is_needed (room_in room t) then mid.registry.rooms else remove serial_of n mid.registry.rooms)) now_at left_are ∙ by_need (is_needed (room_in room t))
    where
      by_need : (b : Bool) → (if b then mid.registry.rooms else remove serial_of n mid.registry.rooms) ≡ (if b then put serial_of t old.registry.rooms else remove serial_of t.serial old.registry.rooms)
      by_need true = turned.stepped.rooms
      by_need false = ap₂ (λ k l. remove serial_of k l) (sym t_number) turned.stepped.rooms ∙ remove-put serial_of t old.registry.rooms

  rooms_left : rooms_in room left.rooms ≡ filter is_needed (map (λ (d : Dealt). d.room) ds)
  rooms_left = ap (rooms_in room) left_is ∙ sym (stepped.left_behind room handled es ev s old.registry.rooms ordered own_at quiet own t turned.stepped.serial turned.stepped.is needed_but)

  conns_are : mid.conns ≡ conns_left ds old.conns
  conns_are = turned.conns ∙ sym (stepped.conns_behind room handled es ev s old.registry.rooms ordered own_at quiet own old.conns)

  told_is : flat_map (told_out old.conns s.id) outs ≡ told_of old.conns ds
  told_is = sym (stepped.told_behind room handled es ev s old.registry.rooms ordered own_at quiet own (told_out old.conns))

  reply_is : out.Reply conn (seat_text (hub_of room mid) session (room_in room t)) ≡ seat_out h conn session s.id (map (λ (d : Dealt). d.room) ds)
  reply_is =
      let found_now : find (has_id s.id) (put serial_of t old.registry.rooms) ≡ Some t = find_put 0 s t old.registry.rooms s.id ordered.0 ordered.1 there_is same
      ∙ ap (λ k. cond (bytes_eq k s.id) (Some t) (find (has_id s.id) old.registry.rooms)) (sym same) ∙ ap (λ b. cond b (Some t) (find (has_id s.id) old.registry.rooms)) (bytes_eq_self s.id) in
      ap₂ (λ ds p. out.Reply conn (seat_text (record { now = h.now; schema = h.schema; process = p; defs = ds; rooms = h.rooms; conns = h.conns }) session (room_in room t))) turned.defs turned.process
      ∙ ap (λ o. out.Reply conn (option_map_or (seat_text h session) o [])) (sym (room_found room s.id (put serial_of t old.registry.rooms) ∙ ap (option_map (room_in room)) found_now))
      ∙ ap (seat_out h conn session s.id) (sym (stepped.rooms_behind room handled es ev s old.registry.rooms ordered own_at quiet own t turned.stepped.serial turned.stepped.is))

  disposed_is : disposals (room_in room t ∷ []) ≡ disposals (map (λ (d : Dealt). d.room) ds)
  disposed_is = sym (stepped.disposed_behind room handled es ev s old.registry.rooms ordered own_at quiet own t turned.stepped.serial turned.stepped.is needed_but)

  pub seated : (new : Parts R) (after : List HubOut) → IfSome (find_by serial_of n mid.registry.rooms) (λ t. after ≡ replied ++ disposals (room_in room t ∷ [])) → InOrder room Holds mid
      → AreOrdered mid.registry.rooms → IsKept room left → length left.open_rooms.items ≡ length mid.registry.open_rooms.items
      → new.registry ≡ left → new.conns ≡ mid.conns → new.moment ≡ mid.moment → new.schema ≡ mid.schema → new.process ≡ mid.process → new.defs ≡ mid.defs → new.session_rooms ≡ mid.session_rooms
      → Seated room Holds handled conn session s old new before after
  seated new after after_is order_mid ordered_mid kept count registry conns moment schema process defs session_rooms = record {
    hub = rw (ap (λ (g : Registry R). g.rooms) registry, conns, moment, schema, process, defs, turned.moment, turned.schema, turned.process, turned.defs)
        (ap₂ (λ rs cs. record { now = old.moment; schema = old.schema; process = old.process; defs = old.defs; rooms = rs; conns = cs }) rooms_left conns_are);
    outs =
        of_there (find_by serial_of n mid.registry.rooms) t (λ t. after ≡ replied ++ disposals (room_in room t ∷ [])) now_at after_is
        ∙ ap₂ (λ r d. r ++ d) (of_there (find_by serial_of n mid.registry.rooms) t (λ t. replied ≡ middle ++ out.Reply conn (seat_text (hub_of room mid) session (room_in room t)) ∷ []) now_at replied_is) disposed_is
        ∙ ap₂ (λ m r. (m ++ r ∷ []) ++ disposals (map (λ (d : Dealt). d.room) ds)) (turned.outs ∙ ap (λ l. before ++ l) told_is) reply_is
        ∙ append_assoc (before ++ told_of old.conns ds) (seat_out h conn session s.id (map (λ (d : Dealt). d.room) ds) ∷ []) (disposals (map (λ (d : Dealt). d.room) ds))
        ∙ append_assoc before (told_of old.conns ds) (seat_out h conn session s.id (map (λ (d : Dealt). d.room) ds) ∷ disposals (map (λ (d : Dealt). d.room) ds));
    stands = stands_left room Holds handled laws n mid new left order_mid ordered_mid (ap is_some now_at) others left_are kept count registry conns moment defs process session_rooms;
  }
