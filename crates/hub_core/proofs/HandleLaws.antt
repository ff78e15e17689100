-- What a hub's calls for an event of one of its rooms come to.
use Rattle.std.proofs.Common.{◌≡◌, ℕ, ◌++◌, Bool, true, false, List, [], ◌∷◌, Option, Some, None, IfSome, IsTrue, length, filter, map, refl, sym, ap, ap₂, subst, ◌∙◌, cond, append_assoc}
use Rattle.std.specs.Prelude.{IsSome, is_some, nat_lt, if◌then◌else◌}
use Rattle.std.specs.List.{find, flat_map}
use Rattle.std.specs.Option.{option_map}
use Rattle.std.specs.Str.{bytes_eq}
use Rattle.lists.specs.Rising.{find as find_by, put, remove}
use Rattle.lists.proofs.Passing.{found_passes}
use Rattle.room_model.specs.declared.event.RoomEvent.{RoomEvent}
use Rattle.room_model.specs.declared.event.RoomOut.{RoomOut}
use Rattle.room_model.specs.Room.{RoomValue}
use Rattle.room_model.specs.Seats.{Seats, in_use}
use Rattle.room_laws.specs.Places.{may_happen}
use Rattle.hub_model.specs.declared.conn.HubConn.{HubConn}
use Rattle.hub_model.specs.declared.event.HubOut.{HubOut}
use Rattle.hub_model.specs.declared.event.HubOut.TheVariants as out
use Rattle.room_model.specs.declared.refusal.Refusal.TheVariants as refusal
use Rattle.hub_model.specs.Dealt as dealt
use Rattle.hub_model.specs.Dealt.{Dealt, RoomStep, told_out, with_room}
use Rattle.hub_model.specs.HubStep.{disposals, is_needed, unknown_room}
use Rattle.hub_model.specs.HubValues.{HubRoom, is_named}
use Rattle.hub_core.specs.declared.parts.Parts.{Parts}
use Rattle.hub_core.specs.declared.registry.Registry.{Registry}
use Rattle.hub_core.specs.declared.entry.RoomEntry.{RoomEntry}
use Rattle.hub_core.specs.Endings.{ended_by, without_all}
use Rattle.hub_core.specs.Turned.{Turned}
use Rattle.hub_core.specs.Hubs.{InOrder, IsGood, IsNeeded, Stands, hub_of}
use Rattle.hub_core.specs.Lawful.{Lawful}
use Rattle.hub_core.specs.Handled.{dealt_in, handled_in, told_by, with_dealt}
use Rattle.hub_core.specs.Registered.{IsKept}
use Rattle.hub_core.specs.RoomEntry.{AreOrdered, Each, IsStepped, has_id, room_in, rooms_in, serial_of}
use Rattle.hub_core.proofs.EachLaws.{of_there, found_number}
use Rattle.hub_core.proofs.HandledLaws as dealing
use Rattle.hub_core.proofs.RegisteredLaws.{Step, stepped_found}
use Rattle.hub_core.proofs.StandsLaws.{remove-put, stands_left}
use Rattle.hub_core.proofs.TurnLaws.{all_others, others_needed}

-- ---- the room of an id

pub record Found {R : Type 0} (ss : List (RoomEntry R)) (id : List ℕ) (n : ℕ) : Type 0 where
  pub it : RoomEntry R
  pub is : find (has_id id) ss ≡ Some it
  pub number : it.serial ≡ n
  pub at : find_by serial_of n ss ≡ Some it

pub found_serial : {R : Type 0} (ss : List (RoomEntry R)) (id : List ℕ) (n : ℕ) → AreOrdered ss → Some n ≡ option_map serial_of (find (has_id id) ss) → Found ss id n
found_serial {R = R} ss id n ordered h = by_found (find (has_id id) ss) refl h
  where
    by_found : (o : Option (RoomEntry R)) → find (has_id id) ss ≡ o → Some n ≡ option_map serial_of o → Found ss id n
    by_found None is none = absurd cc
    by_found (Some s) is same =
        let number : s.serial ≡ n = cc in
        record { it = s; is = is; number = number; at = subst (λ k. find_by serial_of k ss ≡ Some s) number (found_number (has_id id) 0 ss s ordered.0 is) }

pub found_named : {R : Type 0} {ss : List (RoomEntry R)} {id : List ℕ} {n : ℕ} (f : Found ss id n) → bytes_eq f.it.id id ≡ true
found_named {ss = ss} {id} f = found_passes (has_id id) ss f.it f.is

pub some_found : {R : Type 0} (ss : List (RoomEntry R)) (id : List ℕ) (n : ℕ) → Found ss id n → IsSome (find_by serial_of n ss)
some_found ss id n f = ap is_some f.at

-- ---- an event of it

pub may_at : {R : Type 0} (room : R → RoomValue) (ev : RoomEvent) (ss : List (RoomEntry R)) (id : List ℕ) (n : ℕ) → Found ss id n → IfSome (find (has_id id) ss) (λ s. IsTrue (may_happen (room s.room) ev))
    → IfSome (find_by serial_of n ss) (λ s. IsTrue (may_happen (room s.room) ev))
may_at {R = R} room ev ss id n f h = subst (λ o. IfSome o (λ (s : RoomEntry R). IsTrue (may_happen (room s.room) ev))) (sym f.at) (of_there (find (has_id id) ss) f.it (λ s. IsTrue (may_happen (room s.room) ev)) f.is h)

-- also where the room isn't spent
pub may_fresh : {R : Type 0} (room : R → RoomValue) (is_spent : R → Bool) (ev : RoomEvent) (o : Option (RoomEntry R)) → IfSome o (λ s. IsTrue (may_happen (room s.room) ev))
    → IfSome o (λ s. is_spent s.room ≡ false → IsTrue (may_happen (room s.room) ev))
may_fresh room is_spent ev None h = tt
may_fresh room is_spent ev (Some s) h = λ fresh. h

-- a room by its id, as the hub's value has it
pub room_found : {R : Type 0} (room : R → RoomValue) (id : List ℕ) (ss : List (RoomEntry R)) → find (is_named id) (rooms_in room ss) ≡ option_map (room_in room) (find (has_id id) ss)
room_found room id [] = refl
room_found {R = R} room id (x ∷ ss) = by_first (bytes_eq x.id id) (room_found room id ss)
  where
    by_first : (b : Bool) → find (is_named id) (rooms_in room ss) ≡ option_map (room_in room) (find (has_id id) ss)
        → cond b (Some (room_in room x)) (find (is_named id) (rooms_in room ss)) ≡ option_map (room_in room) (cond b (Some x) (find (has_id id) ss))
    by_first true rest = refl
    by_first false rest = rest

-- and whether it is there
room_known : {R : Type 0} (room : R → RoomValue) (id : List ℕ) (ss : List (RoomEntry R)) → is_some (option_map serial_of (find (has_id id) ss)) ≡ is_some (find (is_named id) (rooms_in room ss))
room_known {R = R} room id ss = same (find (has_id id) ss) ∙ sym (ap is_some (room_found room id ss))
  where
    same : (o : Option (RoomEntry R)) → is_some (option_map serial_of o) ≡ is_some (option_map (room_in room) o)
    same None = refl
    same (Some s) = refl

pub known_by : {R : Type 0} (room : R → RoomValue) (id : List ℕ) (ss : List (RoomEntry R)) (o : Option ℕ) → o ≡ option_map serial_of (find (has_id id) ss) → is_some (find (is_named id) (rooms_in room ss)) ≡ is_some o
known_by room id ss o h = sym (room_known room id ss) ∙ ap is_some (sym h)

-- where its places stay it is needed as before
pub still_needed : {R : Type 0} (room : R → RoomValue) (is_spent : R → Bool) (handled : RoomStep) (ev : RoomEvent) (n : ℕ) (s : RoomEntry R) (old new : List (RoomEntry R))
    → find_by serial_of n old ≡ Some s → IsStepped room is_spent s old new (handled (room s.room) ev).0
    → Each (IsNeeded room) old → (handled (room s.room) ev).0.seats ≡ (room s.room).seats → IfSome (find_by serial_of n new) (λ t. is_needed (room_in room t) ≡ true)
still_needed {R = R} room is_spent handled ev n s old new at stepped needed same =
    let own : is_needed (room_in room s) ≡ true = of_there (find_by serial_of n old) s (IsNeeded room) at (needed n) in
    let seats : (room stepped.now.room).seats ≡ (room s.room).seats = ap (λ (r : HubRoom). r.room.seats) stepped.is ∙ same in
    subst (λ o. IfSome o (λ (t : RoomEntry R). is_needed (room_in room t) ≡ true)) (sym (stepped_found room is_spent n s old new (handled (room s.room) ev).0 stepped at)) (ap (λ (q : Seats). nat_lt 0 (in_use q)) seats ∙ own)

-- ---- what the calls for it come to

module _ {R : Type 0} (room : R → RoomValue) (is_spent : R → Bool) (Holds : RoomValue → Type 0) (handled : RoomStep) (laws : Lawful Holds handled) (id : List ℕ) (ev : RoomEvent) (n : ℕ) (old : Parts R) (mid left : Registry R) (outs : List RoomOut)
    (entry : Stands room Holds old) (ordered : AreOrdered old.registry.rooms) (f : Found old.registry.rooms id n) (may : IfSome (find (has_id id) old.registry.rooms) (λ s. IsTrue (may_happen (room s.room) ev)))
    (outs_are : IfSome (find_by serial_of n old.registry.rooms) (λ s. outs ≡ (handled (room s.room) ev).1)) (step : Step room is_spent n (λ s. (handled (room s.room) ev).0) old.registry.rooms mid.rooms)
    (left_are : IfSome (find_by serial_of n mid.rooms) (λ t. left.rooms ≡ (if is_needed (room_in room t) then mid.rooms else remove serial_of n mid.rooms))) where
  abbrev s : RoomEntry R
  s = f.it

  abbrev after : RoomValue
  after = (handled (room s.room) ev).0

  pub behind : IsStepped room is_spent s old.registry.rooms mid.rooms after
  behind = of_there (find_by serial_of n old.registry.rooms) s (λ s. IsStepped room is_spent s old.registry.rooms mid.rooms (handled (room s.room) ev).0) f.at step

  abbrev t : RoomEntry R
  t = behind.now

  number : t.serial ≡ n
  number = behind.serial ∙ f.number

  pub there_is : find_by serial_of t.serial old.registry.rooms ≡ Some s
  there_is = subst (λ k. find_by serial_of k old.registry.rooms ≡ Some s) (sym number) f.at

  now_is : find_by serial_of n mid.rooms ≡ Some t
  now_is = stepped_found room is_spent n s old.registry.rooms mid.rooms after behind f.at

  pub outs_is : outs ≡ (handled (room s.room) ev).1
  outs_is = of_there (find_by serial_of n old.registry.rooms) s (λ s. outs ≡ (handled (room s.room) ev).1) f.at outs_are

  pub may_is : may_happen (room s.room) ev ≡ true
  may_is = of_there (find (has_id id) old.registry.rooms) s (λ s. IsTrue (may_happen (room s.room) ev)) f.is may

  left_is : left.rooms ≡ (if is_needed (room_in room t) then put serial_of t old.registry.rooms else remove serial_of t.serial old.registry.rooms)
  left_is = of_there (find_by serial_of n mid.rooms) t (λ t. left.rooms ≡ (if is_needed (room_in room t) then mid.rooms else remove serial_of n mid.rooms)) now_is left_are ∙ by_need (is_needed (room_in room t))
    where
      by_need : (b : Bool) → cond b mid.rooms (remove serial_of n mid.rooms) ≡ cond b (put serial_of t old.registry.rooms) (remove serial_of t.serial old.registry.rooms)
      by_need true = behind.rooms
      by_need false = ap₂ (λ k l. remove serial_of k l) (sym number) behind.rooms ∙ remove-put serial_of t old.registry.rooms

  pub good : IsGood room Holds s
  good = of_there (find_by serial_of n old.registry.rooms) s (IsGood room Holds) f.at (entry.order.rooms n)

  pub name : s.id ≡ id
  name = dealing.name_is room handled id ev s old.registry.rooms ordered f.is

  pub same : s.id ≡ t.id
  same = sym (ap (λ (r : HubRoom). r.id) behind.is)

  abbrev pub ds : List Dealt
  ds = dealt_in handled (rooms_in room old.registry.rooms) id ev

  pub rooms_left : rooms_in room left.rooms ≡ filter is_needed (map (λ (d : Dealt). d.room) ds)
  rooms_left = ap (rooms_in room) left_is ∙ sym (dealing.left_handled room handled id ev s old.registry.rooms ordered f.is t behind.serial behind.is entry.needed)

  pub conns_left : (before cs : List HubConn) → cs ≡ without_all id (flat_map ended_by outs) before → cs ≡ dealt.conns_left ds before
  conns_left before cs h = h ∙ ap (λ o. without_all id (flat_map ended_by o) before) outs_is ∙ sym (dealing.conns_handled room handled id ev s old.registry.rooms ordered f.is before)

  pub hub_left : (before cs : List HubConn) → cs ≡ without_all id (flat_map ended_by outs) before
      → record { now = old.moment; schema = old.schema; process = old.process; defs = old.defs; rooms = rooms_in room left.rooms; conns = cs } ≡ with_dealt (hub_of room old) before ds
  hub_left before cs h = ap₂ (λ rs cs. record { now = old.moment; schema = old.schema; process = old.process; defs = old.defs; rooms = rs; conns = cs }) rooms_left (conns_left before cs h)

  pub known : unknown_room (hub_of room old) id ≡ []
  known = ap (λ o. cond (is_some o) [] (out.Refused refusal.NoRoom ∷ [])) (room_found room id old.registry.rooms ∙ ap (option_map (room_in room)) f.is)

  pub told_all : (given : List ℕ → RoomOut → List HubOut) (before middle behind_it : List HubOut) → middle ≡ before ++ flat_map (given id) outs → IfSome (find_by serial_of n mid.rooms) (λ t. behind_it ≡ middle ++ disposals (room_in room t ∷ []))
      → behind_it ≡ before ++ told_by given ds
  told_all given before middle behind_it h k =
      of_there (find_by serial_of n mid.rooms) t (λ t. behind_it ≡ middle ++ disposals (room_in room t ∷ [])) now_is k
      ∙ ap₂ (λ x y. x ++ y) (h ∙ ap (λ o. before ++ flat_map (given id) o) outs_is) (sym (dealing.disposed_handled room handled id ev s old.registry.rooms ordered f.is t behind.serial behind.is entry.needed))
      ∙ append_assoc before (flat_map (given id) (handled (room s.room) ev).1) (disposals (map (λ (d : Dealt). d.room) ds))
      ∙ ap (λ x. before ++ (x ++ disposals (map (λ (d : Dealt). d.room) ds))) (sym (dealing.told_handled room handled id ev s old.registry.rooms ordered f.is given))

  pub told_plainly : (before middle behind_it : List HubOut) → middle ≡ before ++ flat_map (told_out old.conns id) outs → IfSome (find_by serial_of n mid.rooms) (λ t. behind_it ≡ middle ++ disposals (room_in room t ∷ []))
      → behind_it ≡ before ++ (handled_in handled (hub_of room old) id ev).1
  told_plainly before middle behind_it h k = told_all (told_out old.conns) before middle behind_it h k ∙ ap (λ u. before ++ (u ++ told_by (told_out old.conns) ds)) (sym known)

-- ---- what one event of it comes to

module _ {R : Type 0} (room : R → RoomValue) (is_spent : R → Bool) (Holds : RoomValue → Type 0) (handled : RoomStep) (laws : Lawful Holds handled) (id : List ℕ) (ev : RoomEvent) (n : ℕ) (old mid : Parts R) (left : Registry R)
    (entry : Stands room Holds old) (ordered : AreOrdered old.registry.rooms) (f : Found old.registry.rooms id n) (may : IfSome (find (has_id id) old.registry.rooms) (λ s. IsTrue (may_happen (room s.room) ev))) (before middle : List HubOut)
    (turned : Turned room is_spent handled ev f.it old mid before middle)
    (left_are : IfSome (find_by serial_of n mid.registry.rooms) (λ t. left.rooms ≡ (if is_needed (room_in room t) then mid.registry.rooms else remove serial_of n mid.registry.rooms))) where
  abbrev given : List RoomOut
  given = (handled (room f.it.room) ev).1

  gives : IfSome (find_by serial_of n old.registry.rooms) (λ s. given ≡ (handled (room s.room) ev).1)
  gives = subst (λ o. IfSome o (λ s. given ≡ (handled (room s.room) ev).1)) (sym f.at) refl

  stepped : Step room is_spent n (λ s. (handled (room s.room) ev).0) old.registry.rooms mid.registry.rooms
  stepped = subst (λ o. IfSome o (λ s. IsStepped room is_spent s old.registry.rooms mid.registry.rooms (handled (room s.room) ev).0)) (sym f.at) turned.stepped

  own_name : f.it.id ≡ id
  own_name = name room is_spent Holds handled laws id ev n old mid.registry left given entry ordered f may gives stepped left_are

  pub hub_handled : (new : Parts R) → new.registry ≡ left → new.conns ≡ mid.conns → new.moment ≡ mid.moment → new.schema ≡ mid.schema → new.process ≡ mid.process → new.defs ≡ mid.defs → hub_of room new ≡ (handled_in handled (hub_of room old) id ev).0
  hub_handled new registry conns moment schema process defs =
      rw (ap (λ (g : Registry R). g.rooms) registry, conns, moment, schema, process, defs, turned.moment, turned.schema, turned.process, turned.defs)
      (hub_left room is_spent Holds handled laws id ev n old mid.registry left given entry ordered f may gives stepped left_are old.conns mid.conns (turned.conns ∙ ap (λ k. without_all k (flat_map ended_by given) old.conns) own_name))

  pub told_handled : (behind_it : List HubOut) → IfSome (find_by serial_of n mid.registry.rooms) (λ t. behind_it ≡ middle ++ disposals (room_in room t ∷ [])) → behind_it ≡ before ++ (handled_in handled (hub_of room old) id ev).1
  told_handled behind_it outs =
      told_plainly room is_spent Holds handled laws id ev n old mid.registry left given entry ordered f may gives stepped left_are before middle behind_it (turned.outs ∙ ap (λ k. before ++ flat_map (told_out old.conns k) given) own_name) outs

  pub stands_handled : (new : Parts R) → InOrder room Holds mid → AreOrdered mid.registry.rooms → IsKept room left → length left.open_rooms.items ≡ length mid.registry.open_rooms.items
      → new.registry ≡ left → new.conns ≡ mid.conns → new.moment ≡ mid.moment → new.defs ≡ mid.defs → new.process ≡ mid.process → new.session_rooms ≡ mid.session_rooms → Stands room Holds new
  stands_handled new order in_order kept count registry conns moment defs process session_rooms =
      stands_left room Holds handled laws n mid new left order in_order (ap is_some (stepped_found room is_spent n f.it old.registry.rooms mid.registry.rooms (handled (room f.it.room) ev).0 turned.stepped f.at))
      (others_needed room is_spent Holds handled laws ev n old entry.order ordered f.it f.at (of_there (find (has_id id) old.registry.rooms) f.it (λ s. IsTrue (may_happen (room s.room) ev)) f.is may)
      mid.registry turned.stepped (all_others room n old.registry.rooms entry.needed))
      left_are kept count registry conns moment defs process session_rooms
