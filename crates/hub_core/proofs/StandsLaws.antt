-- A hub in order stays so behind an event of one of its rooms.
use Rattle.std.proofs.Common.{IfSome, length, ◌≡◌, ℕ, suc, ◌≤◌, ◌==◌, ◌||◌, ◌&&◌, Bool, true, false, not, List, [], ◌∷◌, Option, Some, None, filter, refl, sym, ap, ap₂, subst, ◌∙◌, ◌⊎◌, inl, inr, arith, cond, nat_lt}
use Rattle.std.specs.Prelude.{if◌then◌else◌, IsSome}
use Rattle.std.specs.List.{find, flat_map, list_all, list_any}
use Rattle.std.specs.Option.{option_map_or}
use Rattle.std.specs.Str.{bytes_eq}
use Rattle.std.proofs.lemmas.Bool.{and_parts}
use Rattle.std.proofs.lemmas.Bool.Decides.{nat_tests}
use Rattle.lists.specs.Rising.{RisesFrom, find as find_by, put, remove}
use Rattle.lists.proofs.RisingLaws.{find-remove, find_below, find_key}
use Rattle.lists.proofs.SameBytes.{same_bytes, bytes_eq_self, bytes_eq_sym}
use Rattle.room_model.specs.declared.event.RoomEvent.{RoomEvent}
use Rattle.room_model.specs.declared.event.RoomOut.{RoomOut}
use Rattle.room_model.specs.Room.{RoomValue}
use Rattle.room_model.specs.Seats.{in_use}
use Rattle.room_laws.specs.Names.{has_session, reserves}
use Rattle.room_laws.specs.Places.{may_happen}
use Rattle.room_laws.specs.StepLaws.{connected, is_end, is_entry}
use Rattle.hub_model.specs.declared.conn.HubConn.{HubConn}
use Rattle.hub_model.specs.Dealt.{RoomStep}
use Rattle.hub_model.specs.HubStep.{is_needed}
use Rattle.schema_model.specs.Ids.{is_id}
use Rattle.hub_core.specs.declared.parts.Parts.{Parts}
use Rattle.hub_core.specs.declared.registry.Registry.{Registry}
use Rattle.hub_core.specs.declared.entry.RoomEntry.{RoomEntry}
use Rattle.hub_core.specs.Endings.{ended_by, is_of, without_all}
use Rattle.hub_core.specs.SessionRooms.{IsHoused}
use Rattle.hub_core.specs.Hubs.{InOrder, IsGood, IsNeeded, Stands, is_of_one}
use Rattle.hub_core.specs.Lawful.{Lawful}
use Rattle.hub_core.specs.Registered.{IsKept}
use Rattle.hub_core.specs.RoomEntry.{HaveOwnIds, AreOrdered, Each, has_id, room_in, serial_of}
use Rattle.hub_core.proofs.EachLaws.{Each-put, Each-remove, of_there, there}
use Rattle.hub_core.proofs.SteppedLaws.{ended_any}
use Rattle.hub_core.proofs.RoomLaws.{find_without}

-- ---- rooms by their ids

-- what isn't found isn't the one of a number
pub missed : {R : Type 0} (p : RoomEntry R → Bool) (n : ℕ) (s : RoomEntry R) (ss : List (RoomEntry R)) → find p ss ≡ None → find_by serial_of n ss ≡ Some s → p s ≡ false
missed p n s [] none found = absurd cc
missed {R = R} p n s (x ∷ ss) none found = by_first (p x) refl none (x.serial == n) refl found (λ rest found. missed p n s ss rest found)
  where
    by_first : (a : Bool) → p x ≡ a → cond a (Some x) (find p ss) ≡ None → (b : Bool) → (x.serial == n) ≡ b → cond b (Some x) (find_by serial_of n ss) ≡ Some s → (find p ss ≡ None → find_by serial_of n ss ≡ Some s → p s ≡ false) → p s ≡ false
    by_first true here is b at found rest = absurd cc
    by_first false other is true at found rest = (let one : x ≡ s = cc in subst (λ y. p y ≡ false) one other)
    by_first false other is false at found rest = rest is found

pub find_put : {R : Type 0} (low : ℕ) (s t : RoomEntry R) (ss : List (RoomEntry R)) (id : List ℕ) → RisesFrom serial_of low ss → HaveOwnIds ss → find_by serial_of t.serial ss ≡ Some s → s.id ≡ t.id
    → find (has_id id) (put serial_of t ss) ≡ cond (bytes_eq t.id id) (Some t) (find (has_id id) ss)
find_put low s t [] id rises alone found same = absurd cc
find_put {R = R} low s t (x ∷ ss) id rises alone found same = by_first (x.serial == t.serial) refl (λ rest. find_put (suc x.serial) s t ss id rises.1 alone.1 rest same)
  where
    either : (a b : Bool) (tail : Option (RoomEntry R)) → (a ≡ true → b ≡ false) → cond a (Some x) (cond b (Some t) tail) ≡ cond b (Some t) (cond a (Some x) tail)
    either true true tail apart = absurd (let k = apart refl in cc)
    either true false tail apart = refl
    either false b tail apart = refl

    twice : (b : Bool) (tail : Option (RoomEntry R)) → cond b (Some t) tail ≡ cond b (Some t) (cond b (Some x) tail)
    twice true tail = refl
    twice false tail = refl

    by_first : (b : Bool) → (x.serial == t.serial) ≡ b → (find_by serial_of t.serial ss ≡ Some s → find (has_id id) (put serial_of t ss) ≡ cond (bytes_eq t.id id) (Some t) (find (has_id id) ss))
        → find (has_id id) (put serial_of t (x ∷ ss)) ≡ cond (bytes_eq t.id id) (Some t) (find (has_id id) (x ∷ ss))
    by_first true here others =
        let one : x ≡ s = (let k : Some x ≡ Some s = rw here at found in cc) in
        let place : put serial_of t (x ∷ ss) ≡ t ∷ ss = grind (arith, nat_tests, here) in
        let name : t.id ≡ x.id = sym (ap (λ (y : RoomEntry R). y.id) one ∙ same) in
        ap (find (has_id id)) place ∙ twice (bytes_eq t.id id) (find (has_id id) ss) ∙ ap (λ n. cond (bytes_eq t.id id) (Some t) (cond (bytes_eq n id) (Some x) (find (has_id id) ss))) name
    by_first false other others =
        let rest : find_by serial_of t.serial ss ≡ Some s = rw other at found in
        let place : put serial_of t (x ∷ ss) ≡ x ∷ put serial_of t ss = grind (arith, nat_tests, other, rest, find_below serial_of (suc x.serial) ss t.serial rises.1) in
        let apart : bytes_eq x.id id ≡ true → bytes_eq t.id id ≡ false = λ here.
        (let name : x.id ≡ id = same_bytes x.id id here in
        let free : find (has_id id) ss ≡ None = subst (λ n. find (has_id n) ss ≡ None) name alone.0 in
        ap (λ n. bytes_eq n id) (sym same) ∙ missed (has_id id) t.serial s ss free rest) in
        ap (find (has_id id)) place ∙ ap (λ o. cond (bytes_eq x.id id) (Some x) o) (others rest) ∙ either (bytes_eq x.id id) (bytes_eq t.id id) (find (has_id id) ss) apart

-- one that is put in and taken out again
pub remove-put : {X : Type 0} (key : X → ℕ) (x : X) (es : List X) → remove key (key x) (put key x es) ≡ remove key (key x) es
remove-put key x [] = ap (λ b. cond (not b) (x ∷ []) []) (same_key (key x))
  where
    same_key : (n : ℕ) → (n == n) ≡ true
    same_key n = grind (arith, nat_tests)
remove-put {X = X} key x (e ∷ es) = by_place (nat_lt (key x) (key e)) (key e == key x) refl (remove-put key x es)
  where
    own : (key x == key x) ≡ true
    own = grind (arith, nat_tests)

    by_place : (a b : Bool) → (key e == key x) ≡ b → remove key (key x) (put key x es) ≡ remove key (key x) es
        → remove key (key x) (cond a (x ∷ e ∷ es) (cond b (x ∷ es) (e ∷ put key x es))) ≡ remove key (key x) (e ∷ es)
    by_place true b is rest = rw own refl
    by_place false true is rest = rw (own, is) refl
    by_place false false is rest = rw is (ap (λ l. e ∷ l) rest)

-- ---- connections

all_left : (q r p : HubConn → Bool) → ((c : HubConn) → q c ≡ true → p c ≡ false → r c ≡ true) → (cs : List HubConn) → list_all q cs ≡ true → list_all r (filter (λ c. not (p c)) cs) ≡ true
all_left q r p each [] all = refl
all_left q r p each (c ∷ cs) all = by_test (p c) refl (all_left q r p each cs (and_parts (q c) (list_all q cs) all).1)
  where
    by_test : (b : Bool) → p c ≡ b → list_all r (filter (λ c. not (p c)) cs) ≡ true → list_all r (cond (not b) (c ∷ filter (λ c. not (p c)) cs) (filter (λ c. not (p c)) cs)) ≡ true
    by_test true ends rest = rest
    by_test false stays rest = rw (each c (and_parts (q c) (list_all q cs) all).0 stays) rest

-- ---- rooms that are needed

pub all_needed : {R : Type 0} (room : R → RoomValue) (n : ℕ) (t : RoomEntry R) (ss : List (RoomEntry R)) → find_by serial_of n ss ≡ Some t → is_needed (room_in room t) ≡ true
    → Each (λ s. (s.serial == n) ≡ false → IsNeeded room s) ss → Each (IsNeeded room) ss
all_needed {R = R} room n t ss there own others k = by_found (find_by serial_of k ss) refl (others k)
  where
    by_number : (s : RoomEntry R) → find_by serial_of k ss ≡ Some s → (b : Bool) → (s.serial == n) ≡ b → ((s.serial == n) ≡ false → IsNeeded room s) → IsNeeded room s
    by_number s is true here h =
        let key : s.serial ≡ k = find_key serial_of k ss s is in
        let number : k ≡ n = grind (arith, nat_tests, key, here) in
        let one : Some s ≡ Some t = sym is ∙ (ap (λ m. find_by serial_of m ss) number ∙ there) in
        let same : s ≡ t = cc in
        subst (IsNeeded room) (sym same) own
    by_number s is false other h = h other

    by_found : (o : Option (RoomEntry R)) → find_by serial_of k ss ≡ o → IfSome o (λ s. (s.serial == n) ≡ false → IsNeeded room s) → IfSome o (IsNeeded room)
    by_found None is h = tt
    by_found (Some s) is h = by_number s is (s.serial == n) refl h

needed_without : {R : Type 0} (room : R → RoomValue) (n : ℕ) (ss : List (RoomEntry R)) → Each (λ s. (s.serial == n) ≡ false → IsNeeded room s) ss → Each (IsNeeded room) (remove serial_of n ss)
needed_without {R = R} room n ss others k = subst (λ o. IfSome o (IsNeeded room)) (sym (find-remove serial_of n ss k)) (by_number (n == k) refl)
  where
    by_found : (n == k) ≡ false → (o : Option (RoomEntry R)) → find_by serial_of k ss ≡ o → IfSome o (λ s. (s.serial == n) ≡ false → IsNeeded room s) → IfSome o (IsNeeded room)
    by_found apart None is h = tt
    by_found apart (Some s) is h =
        let key : s.serial ≡ k = find_key serial_of k ss s is in
        let other : (s.serial == n) ≡ false = grind (arith, nat_tests, key, apart) in
        h other

    by_number : (b : Bool) → (n == k) ≡ b → IfSome (cond b None (find_by serial_of k ss)) (IsNeeded room)
    by_number true is = tt
    by_number false apart = by_found apart (find_by serial_of k ss) refl (others k)

-- the room of a number is the one of its id
pub found_own : {R : Type 0} (low n : ℕ) (t : RoomEntry R) (ss : List (RoomEntry R)) → RisesFrom serial_of low ss → HaveOwnIds ss → find_by serial_of n ss ≡ Some t → find (has_id t.id) ss ≡ Some t
found_own low n t [] rises alone there = absurd cc
found_own {R = R} low n t (x ∷ ss) rises alone there = by_first (x.serial == n) there (λ rest. found_own (suc x.serial) n t ss rises.1 alone.1 rest)
  where
    by_id : find_by serial_of n ss ≡ Some t → find (has_id t.id) ss ≡ Some t → (b : Bool) → bytes_eq x.id t.id ≡ b → cond b (Some x) (find (has_id t.id) ss) ≡ Some t
    by_id at rest true here =
        let name : x.id ≡ t.id = same_bytes x.id t.id here in
        let none : find (has_id t.id) ss ≡ None = subst (λ k. find (has_id k) ss ≡ None) name alone.0 in
        absurd cc
    by_id at rest false other = rest

    by_first : (b : Bool) → cond b (Some x) (find_by serial_of n ss) ≡ Some t → (find_by serial_of n ss ≡ Some t → find (has_id t.id) ss ≡ Some t) → find (has_id t.id) (x ∷ ss) ≡ Some t
    by_first true is rest =
        let one : x ≡ t = cc in
        subst (λ y. find (has_id y.id) (x ∷ ss) ≡ Some y) one (ap (λ b. cond b (Some x) (find (has_id x.id) ss)) (bytes_eq_self x.id))
    by_first false at rest = by_id at (rest at) (bytes_eq x.id t.id) refl

-- a room behind an event
module _ {R : Type 0} (room : R → RoomValue) (Holds : RoomValue → Type 0) (handled : RoomStep) (laws : Lawful Holds handled) (ev : RoomEvent) (s t : RoomEntry R) (ss : List (RoomEntry R)) (ordered : AreOrdered ss)
    (found : find (has_id s.id) ss ≡ Some s) (there : find_by serial_of t.serial ss ≡ Some s) (same : s.id ≡ t.id) (now : room t.room ≡ (handled (room s.room) ev).0) (good : IsGood room Holds s) (may : may_happen (room s.room) ev ≡ true) where
  abbrev outs : List RoomOut
  outs = (handled (room s.room) ev).1

  -- a connection that was there, or that the event opens
  abbrev pub may_stay : HubConn → Bool
  may_stay c = is_of_one room ss c || (bytes_eq c.room s.id && list_any (is_entry c.session) outs)

  holds : Holds (room t.room)
  holds = subst Holds (sym now) (laws.goes_on (room s.room) ev good.holds may)

  -- a session that was connected or enters, and isn't ended
  connected_now : (session : List ℕ) → (connected (room s.room) session || list_any (is_entry session) outs) ≡ true → list_any (is_end session) outs ≡ false → connected (room t.room) session ≡ true
  connected_now session was stays = subst (λ r. connected r session ≡ true) (sym now) (by_entry (list_any (is_entry session) outs) refl was)
    where
      both : (a b : Bool) → a ≡ true → b ≡ false → (a && not b) ≡ true
      both true false h k = refl
      both true true h k = absurd (cc)
      both false b h k = absurd (cc)

      or_false : (a : Bool) → (a || false) ≡ true → a ≡ true
      or_false true h = refl
      or_false false h = h

      by_entry : (b : Bool) → list_any (is_entry session) outs ≡ b → (connected (room s.room) session || b) ≡ true → connected (handled (room s.room) ev).0 session ≡ true
      by_entry true enters h = ((laws.tells (room s.room) ev good.holds may).entered session enters).2
      by_entry false none h = (laws.tells (room s.room) ev good.holds may).others session none ∙ both (connected (room s.room) session) (list_any (is_end session) outs) (or_false (connected (room s.room) session) h) stays

  -- a room of another id, and the room itself
  found_still : (n : List ℕ) → bytes_eq s.id n ≡ false → find (has_id n) (put serial_of t ss) ≡ find (has_id n) ss
  found_still n other = find_put 0 s t ss n ordered.0 ordered.1 there same ∙ ap (λ b. cond b (Some t) (find (has_id n) ss)) (ap (λ k. bytes_eq k n) (sym same) ∙ other)

  found_now : (n : List ℕ) → s.id ≡ n → find (has_id n) (put serial_of t ss) ≡ Some t
  found_now n own = find_put 0 s t ss n ordered.0 ordered.1 there same ∙ ap (λ b. cond b (Some t) (find (has_id n) ss)) (ap (λ k. bytes_eq k n) (sym same ∙ own) ∙ bytes_eq_self n)

  stays : (c : HubConn) → may_stay c ≡ true → is_of s.id (flat_map ended_by outs) c ≡ false → is_of_one room (put serial_of t ss) c ≡ true
  stays c was left = by_room (bytes_eq c.room s.id) refl was left
    where
      one_of : Option (RoomEntry R) → Bool
      one_of o = option_map_or (λ s. connected (room s.room) c.session) o false

      or_neither : (a : Bool) → (a || false) ≡ true → a ≡ true
      or_neither true h = refl
      or_neither false h = h

      by_room : (b : Bool) → bytes_eq c.room s.id ≡ b → (is_of_one room ss c || (b && list_any (is_entry c.session) outs)) ≡ true → (b && list_any (λ s. bytes_eq c.session s) (flat_map ended_by outs)) ≡ false
          → is_of_one room (put serial_of t ss) c ≡ true
      by_room true here h none =
          let own : c.room ≡ s.id = same_bytes c.room s.id here in
          let before : is_of_one room ss c ≡ connected (room s.room) c.session = ap one_of (ap (λ n. find (has_id n) ss) own ∙ found) in
          let after : connected (room t.room) c.session ≡ true = connected_now c.session (sym (ap (λ b. b || list_any (is_entry c.session) outs) before) ∙ h) (ended_any c.session outs ∙ none) in
          ap one_of (found_now c.room (sym own)) ∙ after
      by_room false other h none = ap one_of (found_still c.room (bytes_eq_sym s.id c.room ∙ other)) ∙ or_neither (is_of_one room ss c) h

  pub conns_stay : (cs : List HubConn) → list_all may_stay cs ≡ true → list_all (is_of_one room (put serial_of t ss)) (without_all s.id (flat_map ended_by outs) cs) ≡ true
  conns_stay cs all = all_left may_stay (is_of_one room (put serial_of t ss)) (is_of s.id (flat_map ended_by outs)) stays cs all

  pub were_there : (cs : List HubConn) → list_all (is_of_one room ss) cs ≡ true → list_all may_stay cs ≡ true
  were_there [] all = refl
  were_there (c ∷ cs) all =
      let parts = and_parts (is_of_one room ss c) (list_all (is_of_one room ss) cs) all in
      rw (parts.0) (were_there cs parts.1)

  good_now : ((n : List ℕ) → reserves ev ≡ Some n → is_id n ≡ true) → IsGood room Holds t
  good_now reserved = record {
    holds = holds;
    named = subst (λ n. is_id n ≡ true) same good.named;
    sessions = λ n h. by_name n (laws.names (room s.room) ev good.holds may n (subst (λ r. has_session r n ≡ true) now h));
  }
    where
      by_name : (n : List ℕ) → (has_session (room s.room) n ≡ true) ⊎ (reserves ev ≡ Some n) → is_id n ≡ true
      by_name n (inl h) = good.sessions n h
      by_name n (inr h) = reserved n h

  pub rooms_good : ((n : List ℕ) → reserves ev ≡ Some n → is_id n ≡ true) → Each (IsGood room Holds) ss → Each (IsGood room Holds) (put serial_of t ss)
  rooms_good reserved all = Each-put (IsGood room Holds) t ss all (good_now reserved)

-- ---- a room is taken out where no place of it is in use

module _ {R : Type 0} (room : R → RoomValue) (Holds : RoomValue → Type 0) (handled : RoomStep) (laws : Lawful Holds handled) (old : Parts R) (order : InOrder room Holds old) (ordered : AreOrdered old.registry.rooms)
    (n : ℕ) (t : RoomEntry R) (there : find_by serial_of n old.registry.rooms ≡ Some t) (left : Registry R) (left_are : left.rooms ≡ (if is_needed (room_in room t) then old.registry.rooms else remove serial_of n old.registry.rooms)) where
  is_taken : (k : ℕ) → 1 ≤ k → nat_lt 0 k ≡ true
  is_taken k h = grind (arith, nat_tests, h)

  needed_by : (session : List ℕ) → connected (room t.room) session ≡ true → is_needed (room_in room t) ≡ true
  needed_by session h = is_taken (in_use (room t.room).seats) (laws.seats (room t.room) session (of_there (find_by serial_of n old.registry.rooms) t (IsGood room Holds) there (order.rooms n)).holds h)

  stays_left : (c : HubConn) → is_of_one room old.registry.rooms c ≡ true → is_needed (room_in room t) ≡ false → is_of_one room (remove serial_of n old.registry.rooms) c ≡ true
  stays_left c was gone = ap one_of (find_without 0 n t old.registry.rooms c.room ordered.0 ordered.1 there) ∙ by_room (bytes_eq t.id c.room) refl
    where
      one_of : Option (RoomEntry R) → Bool
      one_of o = option_map_or (λ s. connected (room s.room) c.session) o false

      by_room : (b : Bool) → bytes_eq t.id c.room ≡ b → one_of (cond b None (find (has_id c.room) old.registry.rooms)) ≡ true
      by_room true here =
          let own : find (has_id c.room) old.registry.rooms ≡ Some t = subst (λ k. find (has_id k) old.registry.rooms ≡ Some t) (same_bytes t.id c.room here) (found_own 0 n t old.registry.rooms ordered.0 ordered.1 there) in
          let needed : is_needed (room_in room t) ≡ true = needed_by c.session (sym (ap one_of own) ∙ was) in
          absurd cc
      by_room false other = was

  all_stay : (cs : List HubConn) → list_all (is_of_one room old.registry.rooms) cs ≡ true → is_needed (room_in room t) ≡ false → list_all (is_of_one room (remove serial_of n old.registry.rooms)) cs ≡ true
  all_stay [] all gone = refl
  all_stay (c ∷ cs) all gone =
      let parts = and_parts (is_of_one room old.registry.rooms c) (list_all (is_of_one room old.registry.rooms) cs) all in
      rw (stays_left c parts.0 gone) (all_stay cs parts.1 gone)

  conns_left : list_all (is_of_one room left.rooms) old.conns ≡ true
  conns_left = ap (λ ss. list_all (is_of_one room ss) old.conns) left_are ∙ by_need (is_needed (room_in room t)) refl
    where
      by_need : (b : Bool) → is_needed (room_in room t) ≡ b → list_all (is_of_one room (cond b old.registry.rooms (remove serial_of n old.registry.rooms))) old.conns ≡ true
      by_need true is = order.conns
      by_need false is = all_stay old.conns order.conns is

  each_left : (P : RoomEntry R → Type 0) → Each P old.registry.rooms → Each P left.rooms
  each_left P all = subst (Each P) (sym left_are) (by_need (is_needed (room_in room t)))
    where
      by_need : (b : Bool) → Each P (cond b old.registry.rooms (remove serial_of n old.registry.rooms))
      by_need true = all
      by_need false = Each-remove P n old.registry.rooms all

  pub order_left : (new : Parts R) → new.registry ≡ left → new.conns ≡ old.conns → new.moment ≡ old.moment → new.defs ≡ old.defs → new.process ≡ old.process → new.session_rooms ≡ old.session_rooms
      → IsKept room left → length left.open_rooms.items ≡ length old.registry.open_rooms.items → InOrder room Holds new
  order_left new registry conns moment defs process session_rooms kept count = record {
    kept = rw registry kept;
    opens = ap (λ (g : Registry R). length g.open_rooms.items) registry ∙ (count ∙ (order.opens ∙ ap length (sym defs)));
    rooms = subst (λ (g : Registry R). Each (IsGood room Holds) g.rooms) (sym registry) (each_left (IsGood room Holds) order.rooms);
    conns = ap₂ (λ (g : Registry R) cs. list_all (is_of_one room g.rooms) cs) registry conns ∙ conns_left;
    early = rw moment order.early;
    few = rw defs order.few;
    forms = rw defs order.forms;
    process = rw process order.process;
    housed = subst (λ (g : Registry R). Each (IsHoused room new.session_rooms) g.rooms) (sym registry) (subst (λ hs. Each (IsHoused room hs) left.rooms) (sym session_rooms) (each_left (IsHoused room old.session_rooms) order.housed));
  }

  -- where the others were needed, all are
  pub needed_left : Each (λ s. (s.serial == n) ≡ false → IsNeeded room s) old.registry.rooms → Each (IsNeeded room) left.rooms
  needed_left others = subst (Each (IsNeeded room)) (sym left_are) (by_need (is_needed (room_in room t)) refl)
    where
      by_need : (b : Bool) → is_needed (room_in room t) ≡ b → Each (IsNeeded room) (cond b old.registry.rooms (remove serial_of n old.registry.rooms))
      by_need true is = all_needed room n t old.registry.rooms there is others
      by_need false is = needed_without room n old.registry.rooms others

-- so it is in order behind a room that is disposed of where no place of it is in use
pub stands_left : {R : Type 0} (room : R → RoomValue) (Holds : RoomValue → Type 0) (handled : RoomStep) (laws : Lawful Holds handled) (n : ℕ) (old new : Parts R) (left : Registry R) → InOrder room Holds old → AreOrdered old.registry.rooms
    → IsSome (find_by serial_of n old.registry.rooms) → Each (λ s. (s.serial == n) ≡ false → IsNeeded room s) old.registry.rooms
    → IfSome (find_by serial_of n old.registry.rooms) (λ t. left.rooms ≡ (if is_needed (room_in room t) then old.registry.rooms else remove serial_of n old.registry.rooms))
    → IsKept room left → length left.open_rooms.items ≡ length old.registry.open_rooms.items → new.registry ≡ left → new.conns ≡ old.conns → new.moment ≡ old.moment → new.defs ≡ old.defs
    → new.process ≡ old.process → new.session_rooms ≡ old.session_rooms → Stands room Holds new
stands_left room Holds handled laws n old new left order ordered some others left_are kept count registry conns moment defs process session_rooms =
    let it = there (find_by serial_of n old.registry.rooms) (λ t. left.rooms ≡ (if is_needed (room_in room t) then old.registry.rooms else remove serial_of n old.registry.rooms)) some left_are in
    record {
      order = order_left room Holds handled laws old order ordered n it.it it.is left it.holds new registry conns moment defs process session_rooms kept count;
      needed = rw registry (needed_left room Holds handled laws old order ordered n it.it it.is left it.holds others);
    }
