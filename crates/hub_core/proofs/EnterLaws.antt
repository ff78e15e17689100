-- What an opening's calls come to.
use Rattle.std.proofs.Common.{length, ◌≡◌, ℕ, ◌==◌, ◌||◌, ◌&&◌, ◌≤◌, ◌+◌, arith, Bool, true, false, List, [], ◌∷◌, Option, Some, None, IfSome, IsTrue, refl, sym, ap, ap₂, subst, ◌∙◌, cond}
use Rattle.std.specs.Prelude.{if◌then◌else◌, is_some, IsSome}
use Rattle.std.specs.List.{find, flat_map, list_all, list_any}
use Rattle.std.specs.Option.{option_map, option_map_or}
use Rattle.std.specs.Str.{bytes_eq}
use Rattle.std.proofs.lemmas.Bool.{and_parts}
use Rattle.std.proofs.lemmas.Bool.Decides.{nat_tests}
use Rattle.lists.specs.Rising.{find as find_by, put, remove}
use Rattle.lists.proofs.SameBytes.{same_bytes, bytes_eq_self}
use Rattle.lists.proofs.Passing.{list_all_put}
use Rattle.schema_model.proofs.FieldCounts.{and_no}
use Rattle.room_model.specs.declared.event.RoomEvent.{RoomEvent}
use Rattle.room_model.specs.declared.event.RoomEvent.TheVariants as event
use Rattle.room_model.specs.declared.event.RoomOut.{RoomOut}
use Rattle.room_model.specs.Room.{RoomValue}
use Rattle.room_laws.specs.Places.{may_happen}
use Rattle.room_laws.specs.StepLaws.{connected, is_entry}
use Rattle.hub_model.specs.declared.conn.HubConn.{HubConn}
use Rattle.hub_model.specs.declared.request.Opening.{Opening}
use Rattle.hub_model.specs.Dealt.{RoomStep}
use Rattle.hub_model.specs.HubStep.{entered_conns, enters, is_needed}
use Rattle.hub_model.specs.HubValues.{conn_for, conn_number, is_conn_for}
use Rattle.hub_core.proofs.HandledLaws.{all_found}
use Rattle.hub_core.specs.declared.parts.Parts.{Parts}
use Rattle.hub_core.specs.declared.registry.Registry.{Registry}
use Rattle.hub_core.specs.declared.entry.RoomEntry.{RoomEntry}
use Rattle.hub_core.specs.Endings.{ended_by, without_all}
use Rattle.hub_core.specs.Hubs.{IsGood, IsNeeded, Stands, is_of_one}
use Rattle.hub_core.specs.Lawful.{Lawful}
use Rattle.hub_core.specs.Handled.{dealt_in}
use Rattle.hub_core.specs.Registered.{IsKept}
use Rattle.hub_core.specs.RoomEntry.{AreOrdered, Each, IsStepped, has_id, room_in, rooms_in, serial_of}
use Rattle.hub_core.proofs.EachLaws.{of_there}
use Rattle.hub_core.proofs.HandleLaws as handle
use Rattle.hub_core.proofs.HandleLaws.{Found, found_serial}
use Rattle.hub_core.proofs.CostLaws.{cost_found}
use Rattle.hub_core.specs.Costs.{cost_in}
use Rattle.hub_core.proofs.HandledLaws as dealing
use Rattle.hub_core.proofs.RegisteredLaws.{Step, stepped_found}
use Rattle.hub_core.proofs.StandsLaws.{stands_left}
use Rattle.hub_core.proofs.TurnLaws as turn

-- a room of an id is there under its number
pub located_there : {R : Type 0} (id : List ℕ) (n : ℕ) (ss : List (RoomEntry R)) → Some n ≡ option_map serial_of (find (has_id id) ss) → IsSome (find_by serial_of n ss)
located_there id n [] is = absurd cc
located_there {R = R} id n (x ∷ ss) is = by_first (has_id id x) is (λ rest. located_there id n ss rest)
  where
    by_number : (b : Bool) → is_some (find_by serial_of n ss) ≡ true → is_some (cond b (Some x) (find_by serial_of n ss)) ≡ true
    by_number true rest = refl
    by_number false rest = rest

    by_first : (b : Bool) → Some n ≡ option_map serial_of (cond b (Some x) (find (has_id id) ss)) → (Some n ≡ option_map serial_of (find (has_id id) ss) → is_some (find_by serial_of n ss) ≡ true)
        → is_some (cond (x.serial == n) (Some x) (find_by serial_of n ss)) ≡ true
    by_first true here rest = (let number : n ≡ x.serial = cc in let own : (x.serial == n) ≡ true = grind (arith, nat_tests, number) in ap (λ b. is_some (cond b (Some x) (find_by serial_of n ss))) own)
    by_first false there rest = by_number (x.serial == n) (rest there)

-- and its cost is that of its id
pub located_cost : {R : Type 0} (room : R → RoomValue) (costs : RoomValue → RoomEvent → ℕ) (ss : List (RoomEntry R)) (id : List ℕ) (n : ℕ) (e : RoomEvent) (new old : ℕ) → AreOrdered ss → Some n ≡ option_map serial_of (find (has_id id) ss)
    → IfSome (find_by serial_of n ss) (λ s. new ≤ old + costs (room s.room) e) → new ≤ old + cost_in room costs ss id e
located_cost room costs ss id n e new old ordered is cost = (let f = found_serial ss id n ordered is in cost_found room costs ss id n e f.it new old f.is f.at cost)

-- any opening may come
pub may_enter : {R : Type 0} (room : R → RoomValue) (session : List ℕ) (token : Option (List ℕ)) (fresh : List ℕ) (o : Option (RoomEntry R)) → IfSome o (λ s. IsTrue (may_happen (room s.room) (event.Enter session token fresh)))
may_enter room session token fresh None = tt
may_enter room session token fresh (Some s) = refl

module _ {R : Type 0} (room : R → RoomValue) (Holds : RoomValue → Type 0) (handled : RoomStep) (laws : Lawful Holds handled) (o : Opening) (fresh : List ℕ) (n : ℕ) (old : Parts R) (outs : List RoomOut) (entry : Stands room Holds old)
    (f : Found old.registry.rooms o.room n) (outs_are : IfSome (find_by serial_of n old.registry.rooms) (λ s. outs ≡ (handled (room s.room) (event.Enter o.session o.token fresh)).1)) where
  abbrev opens : RoomEvent
  opens = event.Enter o.session o.token fresh

  gives : outs ≡ (handled (room f.it.room) opens).1
  gives = of_there (find_by serial_of n old.registry.rooms) f.it (λ s. outs ≡ (handled (room s.room) opens).1) f.at outs_are

  good : IsGood room Holds f.it
  good = of_there (find_by serial_of n old.registry.rooms) f.it (IsGood room Holds) f.at (entry.order.rooms n)

  -- a session that enters has no connection
  pub free_session : list_any (is_entry o.session) outs ≡ true → conn_for old.conns o.room o.session ≡ None
  free_session enters_it = by_found (conn_for old.conns o.room o.session) refl
    where
      apart : connected (room f.it.room) o.session ≡ false
      apart = ((laws.tells (room f.it.room) opens good.holds refl).entered o.session (sym (ap (list_any (is_entry o.session)) gives) ∙ enters_it)).1

      one_of : List ℕ → Option (RoomEntry R) → Bool
      one_of session p = option_map_or (λ s. connected (room s.room) session) p false

      by_found : (p : Option HubConn) → conn_for old.conns o.room o.session ≡ p → p ≡ None
      by_found None found = refl
      by_found (Some c) found =
          let both = all_found (is_of_one room old.registry.rooms) (is_conn_for o.room o.session) old.conns c entry.order.conns found in
          let names = and_parts (bytes_eq c.room o.room) (bytes_eq c.session o.session) both.1 in
          let own : c.room ≡ o.room = same_bytes c.room o.room names.0 in
          let who : c.session ≡ o.session = same_bytes c.session o.session names.1 in
          let there : connected (room f.it.room) o.session ≡ true = sym (ap₂ (λ k r. one_of k (find (has_id r) old.registry.rooms)) who own ∙ ap (one_of o.session) f.is) ∙ both.0 in
          let no = apart in
          absurd cc

module _ {R : Type 0} (room : R → RoomValue) (is_spent : R → Bool) (Holds : RoomValue → Type 0) (handled : RoomStep) (laws : Lawful Holds handled) (o : Opening) (fresh : List ℕ) (n : ℕ) (old : Parts R) (mid left : Registry R) (outs : List RoomOut)
    (entry : Stands room Holds old) (ordered : AreOrdered old.registry.rooms) (f : Found old.registry.rooms o.room n)
    (may : IfSome (find (has_id o.room) old.registry.rooms) (λ s. IsTrue (may_happen (room s.room) (event.Enter o.session o.token fresh))))
    (outs_are : IfSome (find_by serial_of n old.registry.rooms) (λ s. outs ≡ (handled (room s.room) (event.Enter o.session o.token fresh)).1))
    (step : Step room is_spent n (λ s. (handled (room s.room) (event.Enter o.session o.token fresh)).0) old.registry.rooms mid.rooms)
    (left_are : IfSome (find_by serial_of n mid.rooms) (λ t. left.rooms ≡ (if is_needed (room_in room t) then mid.rooms else remove serial_of n mid.rooms))) where
  abbrev ev : RoomEvent
  ev = event.Enter o.session o.token fresh

  abbrev s : RoomEntry R
  s = f.it

  outs_is : outs ≡ (handled (room s.room) ev).1
  outs_is = handle.outs_is room is_spent Holds handled laws o.room ev n old mid left outs entry ordered f may outs_are step left_are

  pub name : s.id ≡ o.room
  name = handle.name room is_spent Holds handled laws o.room ev n old mid left outs entry ordered f may outs_are step left_are

  -- the one that enters
  abbrev pub newcomer : ℕ → HubConn
  newcomer conn = record { conn = conn; room = o.room; session = o.session }

  abbrev pub with_newcomer : ℕ → List HubConn
  with_newcomer conn = if list_any (is_entry o.session) outs then put conn_number (newcomer conn) old.conns else old.conns

  entered_any : list_any (enters o) (dealt_in handled (rooms_in room old.registry.rooms) o.room ev) ≡ list_any (is_entry o.session) outs
  entered_any =
      dealing.any_handled room handled o.room ev s old.registry.rooms ordered f.is (enters o) (λ r. and_no (bytes_eq r.id o.room))
      ∙ ap₂ (λ a b. a && b) (ap (λ k. bytes_eq k o.room) name ∙ bytes_eq_self o.room) (ap (list_any (is_entry o.session)) (sym outs_is))

  pub conns_entered : (conn : ℕ) → with_newcomer conn ≡ entered_conns old.conns conn (dealt_in handled (rooms_in room old.registry.rooms) o.room ev) (Some o)
  conns_entered conn = ap (λ b. cond b (put conn_number (newcomer conn) old.conns) old.conns) (sym entered_any)

  pub behind : IsStepped room is_spent s old.registry.rooms mid.rooms (handled (room s.room) ev).0
  behind = handle.behind room is_spent Holds handled laws o.room ev n old mid left outs entry ordered f may outs_are step left_are

  pub may_is : may_happen (room s.room) ev ≡ true
  may_is = handle.may_is room is_spent Holds handled laws o.room ev n old mid left outs entry ordered f may outs_are step left_are

  abbrev pub q : HubConn → Bool
  q = turn.may_stay room is_spent Holds handled laws ev n old entry.order ordered s f.at may_is mid behind

  pub all_may_stay : (conn : ℕ) → list_all q (with_newcomer conn) ≡ true
  all_may_stay conn = by_entry (list_any (is_entry o.session) outs) refl
    where
      were : list_all q old.conns ≡ true
      were = turn.were_there room is_spent Holds handled laws ev n old entry.order ordered s f.at may_is mid behind old.conns entry.order.conns

      any_true : (b : Bool) → (b || true) ≡ true
      any_true true = refl
      any_true false = refl

      own : list_any (is_entry o.session) outs ≡ true → q (newcomer conn) ≡ true
      own entry =
          ap₂ (λ a b. is_of_one room old.registry.rooms (newcomer conn) || (a && b)) (ap (bytes_eq o.room) name ∙ bytes_eq_self o.room) (sym (ap (list_any (is_entry o.session)) outs_is) ∙ entry)
          ∙ any_true (is_of_one room old.registry.rooms (newcomer conn))

      by_entry : (b : Bool) → list_any (is_entry o.session) outs ≡ b → list_all q (cond b (put conn_number (newcomer conn) old.conns) old.conns) ≡ true
      by_entry true entry = list_all_put conn_number q (newcomer conn) old.conns (own entry) were
      by_entry false none = were

  -- a hub in order stays so
  pub entered_stands : (conn : ℕ) (middle new : Parts R) → middle.registry ≡ mid → middle.conns ≡ without_all s.id (flat_map ended_by (handled (room s.room) ev).1) (with_newcomer conn)
      → middle.moment ≡ old.moment → middle.defs ≡ old.defs → middle.process ≡ old.process → middle.session_rooms ≡ old.session_rooms
      → IsKept room mid → length mid.open_rooms.items ≡ length old.registry.open_rooms.items → AreOrdered mid.rooms → IsKept room left → length left.open_rooms.items ≡ length mid.open_rooms.items
      → new.registry ≡ left → new.conns ≡ middle.conns → new.moment ≡ middle.moment → new.defs ≡ middle.defs → new.process ≡ middle.process → new.session_rooms ≡ middle.session_rooms → Stands room Holds new
  entered_stands conn middle new registry conns moment defs process session_rooms kept count in_order kept_left count_left registry' conns' moment' defs' process' session_rooms' =
      let order = turn.order_stepped room is_spent Holds handled laws ev n old entry.order ordered s f.at may_is mid behind (with_newcomer conn) (all_may_stay conn)
      middle registry conns moment defs process session_rooms kept count (λ k is. absurd cc) (λ k is. absurd cc) in
      let others = turn.others_needed room is_spent Holds handled laws ev n old entry.order ordered s f.at may_is mid behind (turn.all_others room n old.registry.rooms entry.needed) in
      stands_left room Holds handled laws n middle new left order
      (subst (λ (g : Registry R). AreOrdered g.rooms) (sym registry) in_order)
      (subst (λ (g : Registry R). IsSome (find_by serial_of n g.rooms)) (sym registry) (ap is_some (stepped_found room is_spent n s old.registry.rooms mid.rooms (handled (room s.room) ev).0 behind f.at)))
      (subst (λ (g : Registry R). Each (λ s. (s.serial == n) ≡ false → IsNeeded room s) g.rooms) (sym registry) others)
      (subst (λ (g : Registry R). IfSome (find_by serial_of n g.rooms) (λ t. left.rooms ≡ (if is_needed (room_in room t) then g.rooms else remove serial_of n g.rooms))) (sym registry) left_are)
      kept_left (count_left ∙ ap (λ (g : Registry R). length g.open_rooms.items) (sym registry)) registry' conns' moment' defs' process' session_rooms'
