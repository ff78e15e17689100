-- Rooms that have a moment one after another, by their rising numbers.
use Rattle.std.proofs.Common.{◌≡◌, ℕ, suc, ◌≤◌, ◌<◌, ◌==◌, ◌++◌, ◌||◌, ◌&&◌, Bool, true, false, not, List, [], ◌∷◌, Some, None, IfSome, filter, map, refl, sym, ap, ap₂, subst, ◌∙◌, arith, cond, append_assoc, append-nil}
use Rattle.std.specs.Prelude.{IsSome}
use Rattle.std.specs.List.{find, flat_map, list_any}
use Rattle.std.specs.Str.{bytes_eq}
use Rattle.std.proofs.lemmas.Bool.Decides.{nat_tests}
use Rattle.lists.specs.Rising.{RisesFrom, find as find_by, put}
use Rattle.lists.proofs.RisingLaws.{find_below, find-put, find_key}
use Rattle.lists.proofs.SameBytes.{same_bytes, bytes_eq_self, bytes_eq_sym}
use Rattle.schema_model.proofs.FieldCounts.{and_no}
use Rattle.room_model.specs.declared.event.RoomEvent.{RoomEvent}
use Rattle.room_model.specs.declared.event.RoomEvent.TheVariants as event
use Rattle.room_model.specs.declared.event.RoomOut.{RoomOut}
use Rattle.room_model.specs.declared.event.RoomOut.TheVariants as room_out
use Rattle.room_model.specs.Room.{RoomValue}
use Rattle.hub_model.specs.declared.conn.HubConn.{HubConn}
use Rattle.hub_model.specs.declared.event.HubOut.{HubOut}
use Rattle.hub_model.specs.declared.event.HubOut.TheVariants as out
use Rattle.hub_model.specs.Dealt.{Dealt, RoomStep, conns_left, dealt, dealt_from, ends, to_conn, told_out, with_room}
use Rattle.hub_model.specs.HubStep.{event_if}
use Rattle.hub_model.specs.HubValues.{HubRoom, conn_for, is_conn_for}
use Rattle.hub_core.specs.declared.parts.Parts.{Parts}
use Rattle.hub_core.specs.declared.entry.RoomEntry.{RoomEntry}
use Rattle.hub_core.specs.Endings.{ended_by, is_of, without_all}
use Rattle.hub_core.specs.Hubs.{InOrder, IsNeeded}
use Rattle.hub_core.specs.Lapsed.{AllLapsed, AreThere, lapsed, moment_of, told_of}
use Rattle.hub_core.specs.Lapses.{itself}
use Rattle.hub_core.specs.RoomEntry.{HaveOwnIds, AreOrdered, Each, has_id, room_in, rooms_in, serial_of}
use Rattle.hub_core.specs.Turned.{Turned}
use Rattle.hub_core.proofs.EachLaws.{Each-put, Each-weaker, There, there}
use Rattle.hub_core.proofs.RegisteredLaws.{stepped_found}
use Rattle.hub_core.proofs.RoomLaws.{HaveOwnIds-put}
use Rattle.hub_core.proofs.StandsLaws.{find_put}
use Rattle.hub_core.proofs.SteppedLaws.{ended_any}

-- a number below those that rise isn't among them
pub none_below : (n low : ℕ) (rest : List ℕ) → RisesFrom itself low rest → n < low → list_any (λ k. k == n) rest ≡ false
none_below n low [] rises less = refl
none_below n low (k ∷ rest) rises less =
    let other : (k == n) ≡ false = grind (arith, nat_tests, rises.0, less) in
    rw other (none_below n (suc k) rest rises.1 (grind (arith, rises.0, less)))

-- from left to right
abbrev over : {X Y : Type 0} → (X → Y → Y) → Y → List X → Y
over g y [] = y
over g y (x ∷ xs) = g x (over g y xs)

over_given : {X Y : Type 0} (f : X → List Y) (xs : List X) → flat_map f xs ≡ over (λ x ys. f x ++ ys) [] xs
over_given f [] = refl
over_given f (x ∷ xs) = ap (λ ys. f x ++ ys) (over_given f xs)

over_any : {X : Type 0} (p : X → Bool) (xs : List X) → list_any p xs ≡ over (λ x b. p x || b) false xs
over_any p [] = refl
over_any p (x ∷ xs) = ap (λ b. p x || b) (over_any p xs)

module _ {R : Type 0} (room : R → RoomValue) (step : RoomStep) (at : ℕ) where
  abbrev ev : RoomEvent
  ev = event.Moment at

  -- rooms above a number have their moments without it
  later_same : (n low : ℕ) (rest : List ℕ) (ss : List (RoomEntry R)) → RisesFrom serial_of low ss → n < low → lapsed room step at (n ∷ rest) ss ≡ lapsed room step at rest ss
  later_same n low rest [] rises less = refl
  later_same n low rest (x ∷ ss) rises less =
      let other : (n == x.serial) ≡ false = grind (arith, nat_tests, rises.0, less) in
      ap₂ (λ b ds. dealt step (room_in room x) (event_if (b || list_any (λ k. k == x.serial) rest) ev) ∷ ds) other (later_same n (suc x.serial) rest ss rises.1 (grind (arith, rises.0, less)))

  none_of : (n : ℕ) (rest : List ℕ) → RisesFrom itself (suc n) rest → (m : ℕ) → m ≤ n → moment_of at rest m ≡ []
  none_of n rest rises m low = ap (λ b. event_if b ev) (none_below m (suc n) rest rises (grind (arith, low)))

  -- the room of the first number has its moment, and all others have theirs
  module _ (n : ℕ) (s t : RoomEntry R) (rest : List ℕ) (rises : RisesFrom itself (suc n) rest) (same : t.serial ≡ n) where
    own_moment : (x : RoomEntry R) → (x.serial == n) ≡ true → moment_of at (n ∷ rest) x.serial ≡ ev ∷ []
    own_moment x here = (let turned : (n == x.serial) ≡ true = grind (arith, nat_tests, here) in ap (λ b. event_if (b || list_any (λ k. k == x.serial) rest) ev) turned)

    no_moment : (x : RoomEntry R) → x.serial < n → moment_of at (n ∷ rest) x.serial ≡ []
    no_moment x low =
        let other : (n == x.serial) ≡ false = grind (arith, nat_tests, low) in
        ap (λ b. event_if (b || list_any (λ k. k == x.serial) rest) ev) other ∙ none_of n rest rises x.serial (grind (arith, low))

    over_first : {X : Type 0} (g : Dealt → X → X) (e : X) → ((r : HubRoom) (y : X) → g (dealt step r []) y ≡ y) → (low : ℕ) (x : RoomEntry R) (ss : List (RoomEntry R)) → RisesFrom serial_of low (x ∷ ss) → find_by serial_of n (x ∷ ss) ≡ Some s
        → (find_by serial_of n ss ≡ Some s → over g e (lapsed room step at (n ∷ rest) ss) ≡ g (dealt step (room_in room s) (ev ∷ [])) (over g e (lapsed room step at rest (put serial_of t ss))))
        → (b : Bool) → (x.serial == n) ≡ b → over g e (lapsed room step at (n ∷ rest) (x ∷ ss)) ≡ g (dealt step (room_in room s) (ev ∷ [])) (over g e (lapsed room step at rest (put serial_of t (x ∷ ss))))
    over_first g e silent low x ss rise found others true here =
        let one : x ≡ s = (let k : Some x ≡ Some s = rw here at found in cc) in
        let place : put serial_of t (x ∷ ss) ≡ t ∷ ss = grind (arith, nat_tests, here, same) in
        let behind : lapsed room step at (n ∷ rest) ss ≡ lapsed room step at rest ss = later_same n (suc x.serial) rest ss rise.1 (grind (arith, nat_tests, here)) in
        ap₂ (λ l ds. g (dealt step (room_in room x) l) (over g e ds)) (own_moment x here) behind
        ∙ ap (λ (y : RoomEntry R). g (dealt step (room_in room y) (ev ∷ [])) (over g e (lapsed room step at rest ss))) one
        ∙ ap (λ y. g (dealt step (room_in room s) (ev ∷ [])) y)
        (sym (ap (λ l. over g e (lapsed room step at rest l)) place
        ∙ (ap (λ l. g (dealt step (room_in room t) l) (over g e (lapsed room step at rest ss))) (none_of n rest rises t.serial (grind (arith, same))) ∙ silent (room_in room t) (over g e (lapsed room step at rest ss)))))
    over_first g e silent low x ss rise found others false other =
        let behind : find_by serial_of n ss ≡ Some s = rw other at found in
        let place : put serial_of t (x ∷ ss) ≡ x ∷ put serial_of t ss = grind (arith, nat_tests, other, same, behind, find_below serial_of (suc x.serial) ss n rise.1) in
        let low : x.serial < n = grind (arith, nat_tests, other, behind, find_below serial_of (suc x.serial) ss n rise.1) in
        ap (λ l. g (dealt step (room_in room x) l) (over g e (lapsed room step at (n ∷ rest) ss))) (no_moment x low)
        ∙ silent (room_in room x) (over g e (lapsed room step at (n ∷ rest) ss))
        ∙ others behind
        ∙ ap (λ y. g (dealt step (room_in room s) (ev ∷ [])) y)
        (sym (ap (λ l. over g e (lapsed room step at rest l)) place
        ∙ (ap (λ l. g (dealt step (room_in room x) l) (over g e (lapsed room step at rest (put serial_of t ss)))) (none_of n rest rises x.serial (grind (arith, low)))
        ∙ silent (room_in room x) (over g e (lapsed room step at rest (put serial_of t ss))))))

    over_lapsed : {X : Type 0} (g : Dealt → X → X) (e : X) → ((r : HubRoom) (y : X) → g (dealt step r []) y ≡ y) → (low : ℕ) (ss : List (RoomEntry R)) → RisesFrom serial_of low ss → find_by serial_of n ss ≡ Some s
        → over g e (lapsed room step at (n ∷ rest) ss) ≡ g (dealt step (room_in room s) (ev ∷ [])) (over g e (lapsed room step at rest (put serial_of t ss)))
    over_lapsed g e silent low [] rise found = absurd cc
    over_lapsed g e silent low (x ∷ ss) rise found = over_first g e silent low x ss rise found (λ behind. over_lapsed g e silent (suc x.serial) ss rise.1 behind) (x.serial == n) refl

    pub lapsed_given : {X : Type 0} (f : Dealt → List X) → ((r : HubRoom) → f (dealt step r []) ≡ []) → (ss : List (RoomEntry R)) → RisesFrom serial_of 0 ss → find_by serial_of n ss ≡ Some s
        → flat_map f (lapsed room step at (n ∷ rest) ss) ≡ f (dealt step (room_in room s) (ev ∷ [])) ++ flat_map f (lapsed room step at rest (put serial_of t ss))
    lapsed_given f silent ss rise found =
        over_given f (lapsed room step at (n ∷ rest) ss) ∙ over_lapsed (λ d ys. f d ++ ys) [] (λ r y. ap (λ l. l ++ y) (silent r)) 0 ss rise found
        ∙ ap (λ ys. f (dealt step (room_in room s) (ev ∷ [])) ++ ys) (sym (over_given f (lapsed room step at rest (put serial_of t ss))))

    pub lapsed_any : (p : Dealt → Bool) → ((r : HubRoom) → p (dealt step r []) ≡ false) → (ss : List (RoomEntry R)) → RisesFrom serial_of 0 ss → find_by serial_of n ss ≡ Some s
        → list_any p (lapsed room step at (n ∷ rest) ss) ≡ p (dealt step (room_in room s) (ev ∷ [])) || list_any p (lapsed room step at rest (put serial_of t ss))
    lapsed_any p silent ss rise found =
        over_any p (lapsed room step at (n ∷ rest) ss) ∙ over_lapsed (λ d b. p d || b) false (λ r y. ap (λ b. b || y) (silent r)) 0 ss rise found
        ∙ ap (λ b. p (dealt step (room_in room s) (ev ∷ [])) || b) (sym (over_any p (lapsed room step at rest (put serial_of t ss))))

    rooms_first : (low : ℕ) (x : RoomEntry R) (ss : List (RoomEntry R)) → room_in room t ≡ with_room (room_in room s) (step (room s.room) ev).0 → RisesFrom serial_of low (x ∷ ss) → find_by serial_of n (x ∷ ss) ≡ Some s
        → (find_by serial_of n ss ≡ Some s → map (λ (d : Dealt). d.room) (lapsed room step at (n ∷ rest) ss) ≡ map (λ (d : Dealt). d.room) (lapsed room step at rest (put serial_of t ss)))
        → (b : Bool) → (x.serial == n) ≡ b → map (λ (d : Dealt). d.room) (lapsed room step at (n ∷ rest) (x ∷ ss)) ≡ map (λ (d : Dealt). d.room) (lapsed room step at rest (put serial_of t (x ∷ ss)))
    rooms_first low x ss is rise found others true here =
        let one : x ≡ s = (let k : Some x ≡ Some s = rw here at found in cc) in
        let place : put serial_of t (x ∷ ss) ≡ t ∷ ss = grind (arith, nat_tests, here, same) in
        let behind : lapsed room step at (n ∷ rest) ss ≡ lapsed room step at rest ss = later_same n (suc x.serial) rest ss rise.1 (grind (arith, nat_tests, here)) in
        ap₂ (λ l ds. (dealt step (room_in room x) l).room ∷ map (λ (d : Dealt). d.room) ds) (own_moment x here) behind
        ∙ ap (λ (r : HubRoom). r ∷ map (λ (d : Dealt). d.room) (lapsed room step at rest ss)) (ap (λ (y : RoomEntry R). (dealt step (room_in room y) (ev ∷ [])).room) one ∙ sym is)
        ∙ sym (ap (λ l. map (λ (d : Dealt). d.room) (lapsed room step at rest l)) place
        ∙ ap (λ l. (dealt step (room_in room t) l).room ∷ map (λ (d : Dealt). d.room) (lapsed room step at rest ss)) (none_of n rest rises t.serial (grind (arith, same))))
    rooms_first low x ss is rise found others false other =
        let behind : find_by serial_of n ss ≡ Some s = rw other at found in
        let place : put serial_of t (x ∷ ss) ≡ x ∷ put serial_of t ss = grind (arith, nat_tests, other, same, behind, find_below serial_of (suc x.serial) ss n rise.1) in
        let low : x.serial < n = grind (arith, nat_tests, other, behind, find_below serial_of (suc x.serial) ss n rise.1) in
        ap₂ (λ l rs. (dealt step (room_in room x) l).room ∷ rs) (no_moment x low) (others behind)
        ∙ sym (ap (λ l. map (λ (d : Dealt). d.room) (lapsed room step at rest l)) place
        ∙ ap (λ l. (dealt step (room_in room x) l).room ∷ map (λ (d : Dealt). d.room) (lapsed room step at rest (put serial_of t ss))) (none_of n rest rises x.serial (grind (arith, low))))

    lapsed_from : (low : ℕ) (ss : List (RoomEntry R)) → room_in room t ≡ with_room (room_in room s) (step (room s.room) ev).0 → RisesFrom serial_of low ss → find_by serial_of n ss ≡ Some s
        → map (λ (d : Dealt). d.room) (lapsed room step at (n ∷ rest) ss) ≡ map (λ (d : Dealt). d.room) (lapsed room step at rest (put serial_of t ss))
    lapsed_from low [] is rise found = absurd cc
    lapsed_from low (x ∷ ss) is rise found = rooms_first low x ss is rise found (λ behind. lapsed_from (suc x.serial) ss is rise.1 behind) (x.serial == n) refl

    pub lapsed_rooms : (ss : List (RoomEntry R)) → room_in room t ≡ with_room (room_in room s) (step (room s.room) ev).0 → RisesFrom serial_of 0 ss → find_by serial_of n ss ≡ Some s
        → map (λ (d : Dealt). d.room) (lapsed room step at (n ∷ rest) ss) ≡ map (λ (d : Dealt). d.room) (lapsed room step at rest (put serial_of t ss))
    lapsed_rooms = lapsed_from 0

    -- connections that the first one ends, and that the others do
    left_twice : (p q r : HubConn → Bool) → ((c : HubConn) → p c ≡ q c || r c) → (cs : List HubConn) → filter (λ c. not (p c)) cs ≡ filter (λ c. not (r c)) (filter (λ c. not (q c)) cs)
    left_twice p q r either [] = refl
    left_twice p q r either (c ∷ cs) = ap₂ (λ b l. cond (not b) (c ∷ l) l) (either c) (left_twice p q r either cs) ∙ by_tests (q c) (r c) refl
      where
        by_tests : (a b : Bool) → r c ≡ b → cond (not (a || b)) (c ∷ filter (λ c. not (r c)) (filter (λ c. not (q c)) cs)) (filter (λ c. not (r c)) (filter (λ c. not (q c)) cs))
            ≡ filter (λ c. not (r c)) (cond (not a) (c ∷ filter (λ c. not (q c)) cs) (filter (λ c. not (q c)) cs))
        by_tests true b h = refl
        by_tests false true h = rw h refl
        by_tests false false h = rw h refl

    pub lapsed_conns : (ss : List (RoomEntry R)) (cs : List HubConn) → RisesFrom serial_of 0 ss → find_by serial_of n ss ≡ Some s
        → conns_left (lapsed room step at (n ∷ rest) ss) cs ≡ conns_left (lapsed room step at rest (put serial_of t ss)) (without_all s.id (flat_map ended_by (step (room s.room) ev).1) cs)
    lapsed_conns ss cs rise found =
        left_twice (λ c. list_any (ends c) (lapsed room step at (n ∷ rest) ss)) (is_of s.id (flat_map ended_by (step (room s.room) ev).1)) (λ c. list_any (ends c) (lapsed room step at rest (put serial_of t ss)))
        (λ c. lapsed_any (ends c) (λ r. and_no (bytes_eq r.id c.room)) ss rise found
        ∙ ap (λ b. b || list_any (ends c) (lapsed room step at rest (put serial_of t ss))) (ap₂ (λ a b. a && b) (bytes_eq_sym s.id c.room) (ended_any c.session (step (room s.room) ev).1))) cs

-- ---- what other rooms give doesn't rest on the connections that a room ended

conn_still : (id other session : List ℕ) (xs : List (List ℕ)) (cs : List HubConn) → bytes_eq other id ≡ false → conn_for (without_all id xs cs) other session ≡ conn_for cs other session
conn_still id other session xs [] apart = refl
conn_still id other session xs (c ∷ cs) apart = by_room (bytes_eq c.room id) refl (conn_still id other session xs cs apart)
  where
    by_room : (b : Bool) → bytes_eq c.room id ≡ b → conn_for (without_all id xs cs) other session ≡ conn_for cs other session
        → conn_for (cond (not (b && list_any (λ s. bytes_eq c.session s) xs)) (c ∷ without_all id xs cs) (without_all id xs cs)) other session ≡ cond (is_conn_for other session c) (Some c) (conn_for cs other session)
    by_room false b rest = ap (λ o. cond (is_conn_for other session c) (Some c) o) rest
    by_room true here rest =
        let name : c.room ≡ id = same_bytes c.room id here in
        let none : is_conn_for other session c ≡ false = ap (λ k. bytes_eq k other && bytes_eq c.session session) name ∙ ap (λ b. b && bytes_eq c.session session) (bytes_eq_sym id other ∙ apart) in
        by_end (list_any (λ s. bytes_eq c.session s) xs) none
      where
        by_end : (b : Bool) → is_conn_for other session c ≡ false → conn_for (cond (not b) (c ∷ without_all id xs cs) (without_all id xs cs)) other session ≡ cond (is_conn_for other session c) (Some c) (conn_for cs other session)
        by_end true none = rest ∙ sym (ap (λ b. cond b (Some c) (conn_for cs other session)) none)
        by_end false none = ap (λ o. cond (is_conn_for other session c) (Some c) o) rest

told_still : (cs ds : List HubConn) (room : List ℕ) → ((s : List ℕ) → conn_for ds room s ≡ conn_for cs room s) → (o : RoomOut) → told_out cs room o ≡ told_out ds room o
told_still cs ds room same (room_out.Send s bytes) = ap (to_conn (λ conn. out.Send conn bytes)) (sym (same s))
told_still cs ds room same (room_out.Close s code) = ap (to_conn (λ conn. out.Close conn code)) (sym (same s))
told_still cs ds room same (room_out.Entered s) = refl
told_still cs ds room same (room_out.Back s) = refl
told_still cs ds room same (room_out.NoSeat s) = refl
told_still cs ds room same (room_out.TokenInUse s) = refl
told_still cs ds room same (room_out.Message s kind payload) = refl
told_still cs ds room same (room_out.RawMessage s kind payload) = refl
told_still cs ds room same (room_out.Dropped s) = refl
told_still cs ds room same (room_out.Left s) = refl
told_still cs ds room same (room_out.Made n) = refl
told_still cs ds room same (room_out.Refused r) = refl

given_still : (f g : RoomOut → List HubOut) → ((o : RoomOut) → f o ≡ g o) → (outs : List RoomOut) → flat_map f outs ≡ flat_map g outs
given_still f g same [] = refl
given_still f g same (o ∷ outs) = ap₂ (λ a b. a ++ b) (same o) (given_still f g same outs)

-- rooms of other numbers have other ids
abbrev pub Apart : {R : Type 0} → ℕ → List ℕ → List (RoomEntry R) → Type 0
Apart n id [] = Unit {0}
Apart n id (x ∷ ss) = ((x.serial == n) ≡ false → bytes_eq x.id id ≡ false) × Apart n id ss

none_apart : {R : Type 0} (n : ℕ) (id : List ℕ) (ss : List (RoomEntry R)) → find (has_id id) ss ≡ None → Apart n id ss
none_apart n id [] none = tt
none_apart {R = R} n id (x ∷ ss) none = by_first (bytes_eq x.id id) refl none (λ rest. none_apart n id ss rest)
  where
    by_first : (b : Bool) → bytes_eq x.id id ≡ b → cond b (Some x) (find (has_id id) ss) ≡ None → (find (has_id id) ss ≡ None → Apart n id ss) → Apart n id (x ∷ ss)
    by_first true here is rest = absurd cc
    by_first false other is rest = (λ apart. other, rest is)

pub are_apart : {R : Type 0} (n : ℕ) (s : RoomEntry R) (ss : List (RoomEntry R)) → HaveOwnIds ss → find_by serial_of n ss ≡ Some s → find (has_id s.id) ss ≡ Some s → Apart n s.id ss
are_apart n s [] alone found own = absurd cc
are_apart {R = R} n s (x ∷ ss) alone found own = by_number (x.serial == n) refl found own (λ rest own. are_apart n s ss alone.1 rest own)
  where
    by_id : (x.serial == n) ≡ false → find_by serial_of n ss ≡ Some s → (b : Bool) → bytes_eq x.id s.id ≡ b → cond b (Some x) (find (has_id s.id) ss) ≡ Some s
        → (find_by serial_of n ss ≡ Some s → find (has_id s.id) ss ≡ Some s → Apart n s.id ss) → Apart n s.id (x ∷ ss)
    by_id other at true here is rest =
        let one : x ≡ s = cc in
        let number : s.serial ≡ n = find_key serial_of n ss s at in
        absurd (let k : x.serial ≡ n = ap (λ (y : RoomEntry R). y.serial) one ∙ number in let l : (x.serial == n) ≡ true = grind (arith, nat_tests, k) in cc)
    by_id other at false apart is rest = (λ h. apart, rest at is)

    by_number : (b : Bool) → (x.serial == n) ≡ b → cond b (Some x) (find_by serial_of n ss) ≡ Some s → find (has_id s.id) (x ∷ ss) ≡ Some s → (find_by serial_of n ss ≡ Some s → find (has_id s.id) ss ≡ Some s → Apart n s.id ss) → Apart n s.id (x ∷ ss)
    by_number true here at is rest =
        let one : x ≡ s = cc in
        (λ other. absurd (cc), none_apart n s.id ss (subst (λ (y : RoomEntry R). find (has_id y.id) ss ≡ None) one alone.0))
    by_number false other at is rest = by_id other at (bytes_eq x.id s.id) refl is rest

told_apart : {R : Type 0} (room : R → RoomValue) (step : RoomStep) (at n : ℕ) (id : List ℕ) (xs : List (List ℕ)) (cs : List HubConn) (rest : List ℕ) (ss : List (RoomEntry R)) → list_any (λ k. k == n) rest ≡ false → Apart n id ss
    → told_of cs (lapsed room step at rest ss) ≡ told_of (without_all id xs cs) (lapsed room step at rest ss)
told_apart room step at n id xs cs rest [] none apart = refl
told_apart {R = R} room step at n id xs cs rest (x ∷ ss) none apart = ap₂ (λ a b. a ++ b) (by_number (x.serial == n) refl) (told_apart room step at n id xs cs rest ss none apart.1)
  where
    id_is : (es : List RoomEvent) → (dealt step (room_in room x) es).room.id ≡ x.id
    id_is es = kept_id step (room_in room x) [] es
      where
        kept_id : (step : RoomStep) (r : HubRoom) (outs : List RoomOut) (es : List RoomEvent) → (dealt_from step r outs es).room.id ≡ r.id
        kept_id step r outs [] = refl
        kept_id step r outs (e ∷ es) = kept_id step (with_room r (step r.room e).0) (outs ++ (step r.room e).1) es

    by_number : (b : Bool) → (x.serial == n) ≡ b
        → flat_map (told_out cs (dealt step (room_in room x) (moment_of at rest x.serial)).room.id) (dealt step (room_in room x) (moment_of at rest x.serial)).outs
        ≡ flat_map (told_out (without_all id xs cs) (dealt step (room_in room x) (moment_of at rest x.serial)).room.id) (dealt step (room_in room x) (moment_of at rest x.serial)).outs
    by_number true here =
        let number : x.serial ≡ n = grind (arith, nat_tests, here) in
        let silent : moment_of at rest x.serial ≡ [] = ap (λ b. event_if b (event.Moment at)) (ap (λ m. list_any (λ k. k == m) rest) number ∙ none) in
        subst (λ es. flat_map (told_out cs (dealt step (room_in room x) es).room.id) (dealt step (room_in room x) es).outs ≡ flat_map (told_out (without_all id xs cs) (dealt step (room_in room x) es).room.id)
        (dealt step (room_in room x) es).outs) (sym silent) refl
    by_number false other =
        given_still (told_out cs (dealt step (room_in room x) (moment_of at rest x.serial)).room.id) (told_out (without_all id xs cs) (dealt step (room_in room x) (moment_of at rest x.serial)).room.id)
        (told_still cs (without_all id xs cs) (dealt step (room_in room x) (moment_of at rest x.serial)).room.id
        (λ s. conn_still id (dealt step (room_in room x) (moment_of at rest x.serial)).room.id s xs cs (ap (λ k. bytes_eq k id) (id_is (moment_of at rest x.serial)) ∙ apart.0 other)))
        (dealt step (room_in room x) (moment_of at rest x.serial)).outs

-- ---- one turn after another

-- the rooms of all these numbers have had their moment but for the rest
pub record Lapsing {R : Type 0} (room : R → RoomValue) (Holds : RoomValue → Type 0) (step : RoomStep) (at : ℕ) (due rest : List ℕ) (old now : Parts R) (before outs : List HubOut) : Type 0 where
  pub rooms : map (λ (d : Dealt). d.room) (lapsed room step at rest now.registry.rooms) ≡ map (λ (d : Dealt). d.room) (lapsed room step at due old.registry.rooms)
  pub tells : outs ++ told_of now.conns (lapsed room step at rest now.registry.rooms) ≡ before ++ told_of old.conns (lapsed room step at due old.registry.rooms)
  pub conns : conns_left (lapsed room step at rest now.registry.rooms) now.conns ≡ conns_left (lapsed room step at due old.registry.rooms) old.conns
  pub order : InOrder room Holds now
  pub there : AreThere due now.registry.rooms
  pub needed : Each (λ s. list_any (λ k. k == s.serial) due ≡ false → IsNeeded room s) now.registry.rooms
  pub rises : RisesFrom itself 0 rest
  pub within : (n : ℕ) → list_any (λ k. k == n) rest ≡ true → list_any (λ k. k == n) due ≡ true
  pub moment : now.moment ≡ old.moment
  pub schema : now.schema ≡ old.schema
  pub process : now.process ≡ old.process
  pub defs : now.defs ≡ old.defs

pub lapsing_first : {R : Type 0} (room : R → RoomValue) (Holds : RoomValue → Type 0) (step : RoomStep) (at : ℕ) (due : List ℕ) (old : Parts R) (before : List HubOut) → InOrder room Holds old
    → RisesFrom itself 0 due → AreThere due old.registry.rooms → Each (IsNeeded room) old.registry.rooms
    → Lapsing room Holds step at due due old old before before
lapsing_first room Holds step at due old before order rises there needed = record {
  rooms = refl;
  tells = refl;
  conns = refl;
  order = order;
  there = there;
  needed = Each-weaker (IsNeeded room) (λ s. list_any (λ k. k == s.serial) due ≡ false → IsNeeded room s) old.registry.rooms (λ s own none. own) needed;
  rises = rises;
  within = λ n h. h;
  moment = refl;
  schema = refl;
  process = refl;
  defs = refl;
}

pub from_there : (n low : ℕ) (rest : List ℕ) → RisesFrom itself low (n ∷ rest) → RisesFrom itself 0 rest
from_there n low rest rises = lower 0 (suc n) rest rises.1 (grind arith)
  where
    lower : (low high : ℕ) (ks : List ℕ) → RisesFrom itself high ks → low ≤ high → RisesFrom itself low ks
    lower low high [] rises less = tt
    lower low high (k ∷ ks) rises less = (grind (arith, rises.0, less), rises.1)

pub first_there : (n : ℕ) (rest : List ℕ) → list_any (λ k. k == n) (n ∷ rest) ≡ true
first_there n rest = ap (λ b. b || list_any (λ k. k == n) rest) (own n)
  where
    own : (n : ℕ) → (n == n) ≡ true
    own n = grind (arith, nat_tests)

no_lapsed : {R : Type 0} (room : R → RoomValue) (step : RoomStep) (at : ℕ) (ss : List (RoomEntry R)) → map (λ (d : Dealt). d.room) (lapsed room step at [] ss) ≡ rooms_in room ss
no_lapsed room step at [] = refl
no_lapsed room step at (x ∷ ss) = ap (λ l. room_in room x ∷ l) (no_lapsed room step at ss)

no_told : {R : Type 0} (room : R → RoomValue) (step : RoomStep) (at : ℕ) (cs : List HubConn) (ss : List (RoomEntry R)) → told_of cs (lapsed room step at [] ss) ≡ []
no_told room step at cs [] = refl
no_told room step at cs (x ∷ ss) = no_told room step at cs ss

no_ends : {R : Type 0} (room : R → RoomValue) (step : RoomStep) (at : ℕ) (c : HubConn) (ss : List (RoomEntry R)) → list_any (ends c) (lapsed room step at [] ss) ≡ false
no_ends room step at c [] = refl
no_ends room step at c (x ∷ ss) = rw (and_no (bytes_eq x.id c.room)) (no_ends room step at c ss)

no_conns : {R : Type 0} (room : R → RoomValue) (step : RoomStep) (at : ℕ) (ss : List (RoomEntry R)) (cs : List HubConn) → conns_left (lapsed room step at [] ss) cs ≡ cs
no_conns room step at ss [] = refl
no_conns room step at ss (c ∷ cs) = rw (no_ends room step at c ss) (ap (λ l. c ∷ l) (no_conns room step at ss cs))

-- behind the last one
pub lapsing_last : {R : Type 0} (room : R → RoomValue) (Holds : RoomValue → Type 0) (step : RoomStep) (at : ℕ) (due rest : List ℕ) (old now : Parts R) (before outs : List HubOut) → rest ≡ [] → Lapsing room Holds step at due rest old now before outs
    → AllLapsed room Holds step at due old now before outs
lapsing_last {R = R} room Holds step at due rest old now before outs none l = record {
  rooms = sym (no_lapsed room step at now.registry.rooms) ∙ (ap (λ ks. map (λ (d : Dealt). d.room) (lapsed room step at ks now.registry.rooms)) (sym none) ∙ l.rooms);
  outs = sym (append-nil outs) ∙ (ap (λ x. outs ++ x) (sym (ap (λ ks. told_of now.conns (lapsed room step at ks now.registry.rooms)) none ∙ no_told room step at now.conns now.registry.rooms)) ∙ l.tells);
  conns = sym (no_conns room step at now.registry.rooms now.conns) ∙ (ap (λ ks. conns_left (lapsed room step at ks now.registry.rooms) now.conns) (sym none) ∙ l.conns);
  order = l.order;
  there = l.there;
  needed = l.needed;
  moment = l.moment;
  schema = l.schema;
  process = l.process;
  defs = l.defs;
}

-- behind one more
module _ {R : Type 0} (room : R → RoomValue) (is_spent : R → Bool) (Holds : RoomValue → Type 0) (step : RoomStep) (at n : ℕ) (due rest : List ℕ) (old now new : Parts R)
    (before outs more : List HubOut) (l : Lapsing room Holds step at due (n ∷ rest) old now before outs)
    (ordered : AreOrdered now.registry.rooms) (turned : IfSome (find_by serial_of n now.registry.rooms) (λ s. Turned room is_spent step (event.Moment at) s now new outs more)) (order : InOrder room Holds new) where
  is_due : list_any (λ k. k == n) due ≡ true
  is_due = l.within n (first_there n rest)

  it : There (find_by serial_of n now.registry.rooms) (λ s. Turned room is_spent step (event.Moment at) s now new outs more)
  it = there (find_by serial_of n now.registry.rooms) (λ s. Turned room is_spent step (event.Moment at) s now new outs more) (l.there n is_due) turned

  abbrev s : RoomEntry R
  s = it.it

  abbrev t : RoomEntry R
  t = it.holds.stepped.now

  number : t.serial ≡ n
  number = it.holds.stepped.serial ∙ find_key serial_of n now.registry.rooms s it.is

  rooms_are : new.registry.rooms ≡ put serial_of t now.registry.rooms
  rooms_are = it.holds.stepped.rooms

  rise : RisesFrom itself (suc n) rest
  rise = l.rises.1

  later : list_any (λ k. k == n) rest ≡ false
  later = none_below n (suc n) rest rise (grind arith)

  abbrev given : List RoomOut
  given = (step (room s.room) (event.Moment at)).1

  rooms_now : map (λ (d : Dealt). d.room) (lapsed room step at rest new.registry.rooms) ≡ map (λ (d : Dealt). d.room) (lapsed room step at due old.registry.rooms)
  rooms_now = ap (λ ss. map (λ (d : Dealt). d.room) (lapsed room step at rest ss)) rooms_are ∙ (sym (lapsed_rooms room step at n s t rest rise number now.registry.rooms it.holds.stepped.is ordered.0 it.is) ∙ l.rooms)

  conns_now : conns_left (lapsed room step at rest new.registry.rooms) new.conns ≡ conns_left (lapsed room step at due old.registry.rooms) old.conns
  conns_now = ap₂ (λ ss cs. conns_left (lapsed room step at rest ss) cs) rooms_are it.holds.conns ∙ (sym (lapsed_conns room step at n s t rest rise number now.registry.rooms now.conns ordered.0 it.is) ∙ l.conns)

  -- what rooms of other numbers give
  there_is : find_by serial_of t.serial now.registry.rooms ≡ Some s
  there_is = subst (λ k. find_by serial_of k now.registry.rooms ≡ Some s) (sym number) it.is

  same : s.id ≡ t.id
  same = sym (ap (λ (r : HubRoom). r.id) it.holds.stepped.is)

  found_t : find_by serial_of n (put serial_of t now.registry.rooms) ≡ Some t
  found_t = stepped_found room is_spent n s now.registry.rooms (put serial_of t now.registry.rooms) (step (room s.room) (event.Moment at)).0
      (record { now = t; serial = it.holds.stepped.serial; rooms = refl; is = it.holds.stepped.is; fresh = it.holds.stepped.fresh }) it.is

  apart : Apart n s.id (put serial_of t now.registry.rooms)
  apart =
      subst (λ k. Apart n k (put serial_of t now.registry.rooms)) (sym same)
      (are_apart n t (put serial_of t now.registry.rooms) (HaveOwnIds-put 0 s t now.registry.rooms ordered.0 ordered.1 there_is same) found_t
      (find_put 0 s t now.registry.rooms t.id ordered.0 ordered.1 there_is same ∙ ap (λ b. cond b (Some t) (find (has_id t.id) now.registry.rooms)) (bytes_eq_self t.id)))

  tells_now : more ++ told_of new.conns (lapsed room step at rest new.registry.rooms) ≡ before ++ told_of old.conns (lapsed room step at due old.registry.rooms)
  tells_now =
      ap₂ (λ m ss. m ++ told_of new.conns (lapsed room step at rest ss)) it.holds.outs rooms_are
      ∙ ap (λ cs. (outs ++ flat_map (told_out now.conns s.id) given) ++ told_of cs (lapsed room step at rest (put serial_of t now.registry.rooms))) it.holds.conns
      ∙ ap (λ x. (outs ++ flat_map (told_out now.conns s.id) given) ++ x) (sym (told_apart room step at n s.id (flat_map ended_by given) now.conns rest (put serial_of t now.registry.rooms) later apart))
      ∙ append_assoc outs (flat_map (told_out now.conns s.id) given) (told_of now.conns (lapsed room step at rest (put serial_of t now.registry.rooms)))
      ∙ ap (λ x. outs ++ x) (sym (lapsed_given room step at n s t rest rise number (λ (d : Dealt). flat_map (told_out now.conns d.room.id) d.outs) (λ r. refl) now.registry.rooms ordered.0 it.is))
      ∙ l.tells

  still_there : AreThere due new.registry.rooms
  still_there m h = subst (λ (ss : List (RoomEntry R)). IsSome (find_by serial_of m ss)) (sym rooms_are) (subst IsSome (sym (find-put serial_of t now.registry.rooms m)) (by_number (t.serial == m)))
    where
      by_number : (b : Bool) → IsSome (cond b (Some t) (find_by serial_of m now.registry.rooms))
      by_number true = refl
      by_number false = l.there m h

  needed_now : Each (λ s. list_any (λ k. k == s.serial) due ≡ false → IsNeeded room s) new.registry.rooms
  needed_now =
      subst (Each (λ s. list_any (λ k. k == s.serial) due ≡ false → IsNeeded room s)) (sym rooms_are)
      (Each-put (λ s. list_any (λ k. k == s.serial) due ≡ false → IsNeeded room s) t now.registry.rooms l.needed (λ none. absurd (let here : list_any (λ k. k == t.serial) due ≡ true = ap (λ m. list_any (λ k. k == m) due) number ∙ is_due in cc)))

  pub lapsing_next : Lapsing room Holds step at due rest old new before more
  lapsing_next = record {
    rooms = rooms_now;
    tells = tells_now;
    conns = conns_now;
    order = order;
    there = still_there;
    needed = needed_now;
    rises = from_there n 0 rest l.rises;
    within = λ m h. l.within m (ap (λ b. (n == m) || b) h ∙ or_true (n == m));
    moment = it.holds.moment ∙ l.moment;
    schema = it.holds.schema ∙ l.schema;
    process = it.holds.process ∙ l.process;
    defs = it.holds.defs ∙ l.defs;
  }
    where
      or_true : (b : Bool) → (b || true) ≡ true
      or_true true = refl
      or_true false = refl
