-- Rooms that are disposed of one after another, by their rising numbers.
use Rattle.std.proofs.Common.{◌≡◌, ℕ, suc, ◌<◌, ◌==◌, ◌++◌, ◌||◌, Bool, true, false, List, [], ◌∷◌, Option, Some, None, IfSome, filter, length, map, refl, sym, ap, ap₂, subst, ◌∙◌, arith, cond, append_assoc, append-nil}
use Rattle.std.specs.Prelude.{IsSome, if◌then◌else◌}
use Rattle.std.specs.List.{list_any}
use Rattle.std.proofs.lemmas.Bool.Decides.{nat_tests}
use Rattle.lists.specs.Rising.{RisesFrom, find as find_by, remove}
use Rattle.lists.proofs.RisingLaws.{find-remove, find_below, find_key, remove_missing}
use Rattle.room_model.specs.Room.{RoomValue}
use Rattle.hub_model.specs.declared.event.HubOut.{HubOut}
use Rattle.hub_model.specs.declared.event.HubOut.TheVariants as out
use Rattle.hub_model.specs.Dealt.{RoomStep}
use Rattle.hub_model.specs.HubStep.{disposals, is_needed}
use Rattle.hub_model.specs.HubValues.{HubRoom}
use Rattle.hub_core.specs.declared.parts.Parts.{Parts}
use Rattle.hub_core.specs.declared.registry.Registry.{Registry}
use Rattle.hub_core.specs.declared.entry.RoomEntry.{RoomEntry}
use Rattle.hub_core.specs.Hubs.{InOrder, IsNeeded}
use Rattle.hub_core.specs.Lapsed.{AllLeft, AreThere}
use Rattle.hub_core.specs.Lapses.{itself}
use Rattle.hub_core.specs.Lawful.{Lawful}
use Rattle.hub_core.specs.Registered.{IsKept}
use Rattle.hub_core.specs.RoomEntry.{AreOrdered, Each, room_in, rooms_in, serial_of}
use Rattle.hub_core.proofs.EachLaws.{Each-first, Each-rest, Each-weaker, There, there}
use Rattle.hub_core.proofs.LapsedLaws.{first_there, from_there, none_below}
use Rattle.hub_core.proofs.StandsLaws.{order_left}
use Rattle.hub_core.proofs.UnhandledLaws.{all_stay, none_go}

-- the rooms but those of these numbers are needed
abbrev pub NeededBut : {R : Type 0} → (R → RoomValue) → List ℕ → List (RoomEntry R) → Type 0
NeededBut room rest ss = Each (λ s. list_any (λ k. k == s.serial) rest ≡ false → IsNeeded room s) ss

-- all these rooms were looked at but for the rest
pub record Leaving {R : Type 0} (room : R → RoomValue) (Holds : RoomValue → Type 0) (rest : List ℕ) (old now : Parts R) (before outs : List HubOut) : Type 0 where
  pub rooms : filter is_needed (rooms_in room now.registry.rooms) ≡ filter is_needed (rooms_in room old.registry.rooms)
  pub tells : outs ++ disposals (rooms_in room now.registry.rooms) ≡ before ++ disposals (rooms_in room old.registry.rooms)
  pub order : InOrder room Holds now
  pub there : AreThere rest now.registry.rooms
  pub needed : NeededBut room rest now.registry.rooms
  pub rises : RisesFrom itself 0 rest
  pub conns : now.conns ≡ old.conns
  pub moment : now.moment ≡ old.moment
  pub schema : now.schema ≡ old.schema
  pub process : now.process ≡ old.process
  pub defs : now.defs ≡ old.defs

pub leaving_first : {R : Type 0} (room : R → RoomValue) (Holds : RoomValue → Type 0) (due : List ℕ) (old : Parts R) (before : List HubOut) → InOrder room Holds old → RisesFrom itself 0 due
    → AreThere due old.registry.rooms → NeededBut room due old.registry.rooms → Leaving room Holds due old old before before
leaving_first room Holds due old before order rises there needed = record {
  rooms = refl;
  tells = refl;
  order = order;
  there = there;
  needed = needed;
  rises = rises;
  conns = refl;
  moment = refl;
  schema = refl;
  process = refl;
  defs = refl;
}

pub leaving_last : {R : Type 0} (room : R → RoomValue) (Holds : RoomValue → Type 0) (rest : List ℕ) (old now : Parts R) (before outs : List HubOut) → rest ≡ [] → AreOrdered now.registry.rooms
    → Leaving room Holds rest old now before outs → AllLeft room Holds old now before outs
leaving_last {R = R} room Holds rest old now before outs none ordered l = record {
  rooms = sym (all_stay room 0 now.registry.rooms ordered.0 all) ∙ l.rooms;
  outs = sym (append-nil outs) ∙ (ap (λ x. outs ++ x) (sym (ap (map (λ (r : HubRoom). out.Disposed r.id)) (none_go room 0 now.registry.rooms ordered.0 all))) ∙ l.tells);
  order = l.order;
  needed = all;
  conns = l.conns;
  moment = l.moment;
  schema = l.schema;
  process = l.process;
  defs = l.defs;
}
  where
    all : Each (IsNeeded room) now.registry.rooms
    all = Each-weaker (λ s. list_any (λ k. k == s.serial) rest ≡ false → IsNeeded room s) (IsNeeded room) now.registry.rooms (λ s h. h (ap (list_any (λ k. k == s.serial)) none)) l.needed

-- ---- one room

-- the first room that isn't needed is the first that is disposed of
gone_first : {R : Type 0} (room : R → RoomValue) (n low : ℕ) (t : RoomEntry R) (rest : List ℕ) (ss : List (RoomEntry R)) → RisesFrom serial_of low ss → RisesFrom itself (suc n) rest
    → find_by serial_of n ss ≡ Some t → NeededBut room (n ∷ rest) ss → is_needed (room_in room t) ≡ false
    → disposals (rooms_in room ss) ≡ out.Disposed t.id ∷ disposals (rooms_in room (remove serial_of n ss))
gone_first room n low t rest [] rises later found needed gone = absurd cc
gone_first {R = R} room n low t rest (x ∷ ss) rises later found needed gone =
    by_number (x.serial == n) refl (λ behind. gone_first room n (suc x.serial) t rest ss rises.1 later behind (Each-rest (λ s. list_any (λ k. k == s.serial) (n ∷ rest) ≡ false → IsNeeded room s) low x ss rises needed) gone)
  where
    by_number : (b : Bool) → (x.serial == n) ≡ b → (find_by serial_of n ss ≡ Some t → disposals (rooms_in room ss) ≡ out.Disposed t.id ∷ disposals (rooms_in room (remove serial_of n ss)))
        → disposals (rooms_in room (x ∷ ss)) ≡ out.Disposed t.id ∷ disposals (rooms_in room (remove serial_of n (x ∷ ss)))
    by_number true here others =
        let one : x ≡ t = (let k : Some x ≡ Some t = rw here at found in cc) in
        let own : is_needed (room_in room x) ≡ false = ap (λ (y : RoomEntry R). is_needed (room_in room y)) one ∙ gone in
        let behind : remove serial_of n ss ≡ ss = remove_missing serial_of n ss (find_below serial_of (suc x.serial) ss n rises.1 (grind (arith, nat_tests, here))) in
        rw (own, here, behind) (ap (λ (y : RoomEntry R). out.Disposed y.id ∷ disposals (rooms_in room ss)) one)
    by_number false other others =
        let behind : find_by serial_of n ss ≡ Some t = rw other at found in
        let less : x.serial < n = grind (arith, nat_tests, other, behind, find_below serial_of (suc x.serial) ss n rises.1) in
        let apart : (n == x.serial) ≡ false = grind (arith, nat_tests, less) in
        let none : list_any (λ k. k == x.serial) (n ∷ rest) ≡ false = ap (λ b. b || list_any (λ k. k == x.serial) rest) apart ∙ none_below x.serial (suc n) rest later (grind (arith, less)) in
        let own : is_needed (room_in room x) ≡ true = Each-first (λ s. list_any (λ k. k == s.serial) (n ∷ rest) ≡ false → IsNeeded room s) x ss needed none in
        rw (own, other) (others behind ∙ ap (λ l. out.Disposed t.id ∷ l) (sym (rw own refl)))

needed_same : {R : Type 0} (room : R → RoomValue) (n low : ℕ) (t : RoomEntry R) (ss : List (RoomEntry R)) → RisesFrom serial_of low ss → find_by serial_of n ss ≡ Some t
    → is_needed (room_in room t) ≡ false → filter is_needed (rooms_in room (remove serial_of n ss)) ≡ filter is_needed (rooms_in room ss)
needed_same room n low t [] rises found gone = absurd cc
needed_same {R = R} room n low t (x ∷ ss) rises found gone = by_number (x.serial == n) refl (λ behind. needed_same room n (suc x.serial) t ss rises.1 behind gone)
  where
    by_number : (b : Bool) → (x.serial == n) ≡ b → (find_by serial_of n ss ≡ Some t → filter is_needed (rooms_in room (remove serial_of n ss)) ≡ filter is_needed (rooms_in room ss))
        → filter is_needed (rooms_in room (remove serial_of n (x ∷ ss))) ≡ filter is_needed (rooms_in room (x ∷ ss))
    by_number true here others =
        let one : x ≡ t = (let k : Some x ≡ Some t = rw here at found in cc) in
        let own : is_needed (room_in room x) ≡ false = ap (λ (y : RoomEntry R). is_needed (room_in room y)) one ∙ gone in
        let behind : remove serial_of n ss ≡ ss = remove_missing serial_of n ss (find_below serial_of (suc x.serial) ss n rises.1 (grind (arith, nat_tests, here))) in
        rw (own, here, behind) refl
    by_number false other others =
        let behind : find_by serial_of n ss ≡ Some t = rw other at found in
        rw other (ap (λ l. cond (is_needed (room_in room x)) (room_in room x ∷ l) l) (others behind))

module _ {R : Type 0} (room : R → RoomValue) (Holds : RoomValue → Type 0) (handled : RoomStep) (laws : Lawful Holds handled) (n : ℕ) (rest : List ℕ) (old now : Parts R) (left : Registry R)
    (before outs more : List HubOut) (l : Leaving room Holds (n ∷ rest) old now before outs)
    (ordered : AreOrdered now.registry.rooms) (left_are : IfSome (find_by serial_of n now.registry.rooms) (λ t. left.rooms ≡ (if is_needed (room_in room t) then now.registry.rooms else remove serial_of n now.registry.rooms)))
    (told_is : IfSome (find_by serial_of n now.registry.rooms) (λ t. more ≡ outs ++ disposals (room_in room t ∷ []))) (kept : IsKept room left) (count : length left.open_rooms.items ≡ length now.registry.open_rooms.items) where
  abbrev Left : RoomEntry R → Type 0
  Left t = left.rooms ≡ (if is_needed (room_in room t) then now.registry.rooms else remove serial_of n now.registry.rooms)

  it : There (find_by serial_of n now.registry.rooms) Left
  it = there (find_by serial_of n now.registry.rooms) Left (l.there n (first_there n rest)) left_are

  abbrev t : RoomEntry R
  t = it.it

  tells : more ≡ outs ++ disposals (room_in room t ∷ [])
  tells = of_found (find_by serial_of n now.registry.rooms) it.is told_is
    where
      of_found : (o : Option (RoomEntry R)) → o ≡ Some t → IfSome o (λ t. more ≡ outs ++ disposals (room_in room t ∷ [])) → more ≡ outs ++ disposals (room_in room t ∷ [])
      of_found o is h = subst (λ p. IfSome p (λ t. more ≡ outs ++ disposals (room_in room t ∷ []))) is h

  -- the others are still needed
  needed_now : NeededBut room rest left.rooms
  needed_now m = subst (λ (ss : List (RoomEntry R)). IfSome (find_by serial_of m ss) (λ s. list_any (λ k. k == s.serial) rest ≡ false → IsNeeded room s)) (sym it.holds) (by_need (is_needed (room_in room t)) refl)
    where
      by_other : (s : RoomEntry R) → (list_any (λ k. k == s.serial) (n ∷ rest) ≡ false → IsNeeded room s) → (n == s.serial) ≡ false → list_any (λ k. k == s.serial) rest ≡ false → IsNeeded room s
      by_other s h other none = h (ap (λ b. b || list_any (λ k. k == s.serial) rest) other ∙ none)

      by_number : (own : is_needed (room_in room t) ≡ true) (s : RoomEntry R) → find_by serial_of m now.registry.rooms ≡ Some s → (list_any (λ k. k == s.serial) (n ∷ rest) ≡ false → IsNeeded room s)
          → (b : Bool) → (n == s.serial) ≡ b → list_any (λ k. k == s.serial) rest ≡ false → IsNeeded room s
      by_number own s is h false other none = by_other s h other none
      by_number own s is h true here none =
          let key : s.serial ≡ m = find_key serial_of m now.registry.rooms s is in
          let number : m ≡ n = grind (arith, nat_tests, here, key) in
          let one : Some s ≡ Some t = sym is ∙ (ap (λ k. find_by serial_of k now.registry.rooms) number ∙ it.is) in
          let same : s ≡ t = cc in
          subst (IsNeeded room) (sym same) own

      all_found : (own : is_needed (room_in room t) ≡ true) (o : Option (RoomEntry R)) → find_by serial_of m now.registry.rooms ≡ o → IfSome o (λ s. list_any (λ k. k == s.serial) (n ∷ rest) ≡ false → IsNeeded room s)
          → IfSome o (λ s. list_any (λ k. k == s.serial) rest ≡ false → IsNeeded room s)
      all_found own None is h = tt
      all_found own (Some s) is h = by_number own s is h (n == s.serial) refl

      others_found : (n == m) ≡ false → (o : Option (RoomEntry R)) → find_by serial_of m now.registry.rooms ≡ o → IfSome o (λ s. list_any (λ k. k == s.serial) (n ∷ rest) ≡ false → IsNeeded room s)
          → IfSome o (λ s. list_any (λ k. k == s.serial) rest ≡ false → IsNeeded room s)
      others_found apart None is h = tt
      others_found apart (Some s) is h = by_other s h (let key : s.serial ≡ m = find_key serial_of m now.registry.rooms s is in grind (arith, nat_tests, key, apart))

      by_removed : (b : Bool) → (n == m) ≡ b → IfSome (cond b None (find_by serial_of m now.registry.rooms)) (λ s. list_any (λ k. k == s.serial) rest ≡ false → IsNeeded room s)
      by_removed true is = tt
      by_removed false apart = others_found apart (find_by serial_of m now.registry.rooms) refl (l.needed m)

      by_need : (b : Bool) → is_needed (room_in room t) ≡ b → IfSome (find_by serial_of m (cond b now.registry.rooms (remove serial_of n now.registry.rooms))) (λ s. list_any (λ k. k == s.serial) rest ≡ false → IsNeeded room s)
      by_need true own = all_found own (find_by serial_of m now.registry.rooms) refl (l.needed m)
      by_need false gone = subst (λ (o : Option (RoomEntry R)). IfSome o (λ s. list_any (λ k. k == s.serial) rest ≡ false → IsNeeded room s)) (sym (find-remove serial_of n now.registry.rooms m)) (by_removed (n == m) refl)

  there_now : AreThere rest left.rooms
  there_now m h = subst (λ (ss : List (RoomEntry R)). IsSome (find_by serial_of m ss)) (sym it.holds) (by_need (is_needed (room_in room t)))
    where
      before_it : IsSome (find_by serial_of m now.registry.rooms)
      before_it = l.there m (ap (λ b. (n == m) || b) h ∙ or_true (n == m))
        where
          or_true : (b : Bool) → (b || true) ≡ true
          or_true true = refl
          or_true false = refl

      apart : (b : Bool) → (n == m) ≡ b → b ≡ false
      apart false is = refl
      apart true is =
          let number : m ≡ n = grind (arith, nat_tests, is) in
          let none : list_any (λ k. k == m) rest ≡ false = ap (λ x. list_any (λ k. k == x) rest) number ∙ none_below n (suc n) rest l.rises.1 (grind arith) in
          absurd cc

      by_need : (b : Bool) → IsSome (find_by serial_of m (cond b now.registry.rooms (remove serial_of n now.registry.rooms)))
      by_need true = before_it
      by_need false = subst IsSome (sym (find-remove serial_of n now.registry.rooms m)) (subst (λ b. IsSome (cond b None (find_by serial_of m now.registry.rooms))) (sym (apart (n == m) refl)) before_it)

  rooms_now : filter is_needed (rooms_in room left.rooms) ≡ filter is_needed (rooms_in room now.registry.rooms)
  rooms_now = ap (λ ss. filter is_needed (rooms_in room ss)) it.holds ∙ by_need (is_needed (room_in room t)) refl
    where
      by_need : (b : Bool) → is_needed (room_in room t) ≡ b → filter is_needed (rooms_in room (cond b now.registry.rooms (remove serial_of n now.registry.rooms))) ≡ filter is_needed (rooms_in room now.registry.rooms)
      by_need true own = refl
      by_need false gone = needed_same room n 0 t now.registry.rooms ordered.0 it.is gone

  told_now : disposals (room_in room t ∷ []) ++ disposals (rooms_in room left.rooms) ≡ disposals (rooms_in room now.registry.rooms)
  told_now = ap (λ ss. disposals (room_in room t ∷ []) ++ disposals (rooms_in room ss)) it.holds ∙ by_need (is_needed (room_in room t)) refl
    where
      by_need : (b : Bool) → is_needed (room_in room t) ≡ b → disposals (room_in room t ∷ []) ++ disposals (rooms_in room (cond b now.registry.rooms (remove serial_of n now.registry.rooms))) ≡ disposals (rooms_in room now.registry.rooms)
      by_need true own = rw own refl
      by_need false gone = rw gone (sym (gone_first room n 0 t rest now.registry.rooms ordered.0 l.rises.1 it.is l.needed gone))

  pub leaving_next : (new : Parts R) → new.registry ≡ left → new.conns ≡ now.conns → new.moment ≡ now.moment → new.schema ≡ now.schema → new.process ≡ now.process → new.defs ≡ now.defs
      → new.session_rooms ≡ now.session_rooms → Leaving room Holds rest old new before more
  leaving_next new registry conns moment schema process defs session_rooms = record {
    rooms = ap (λ (g : Registry R). filter is_needed (rooms_in room g.rooms)) registry ∙ (rooms_now ∙ l.rooms);
    tells = ap₂ (λ m (g : Registry R). m ++ disposals (rooms_in room g.rooms)) tells registry ∙ (append_assoc outs (disposals (room_in room t ∷ [])) (disposals (rooms_in room left.rooms)) ∙ (ap (λ x. outs ++ x) told_now ∙ l.tells));
    order = order_left room Holds handled laws now l.order ordered n t it.is left it.holds new registry conns moment defs process session_rooms kept count;
    there = λ m h. subst (λ (g : Registry R). IsSome (find_by serial_of m g.rooms)) (sym registry) (there_now m h);
    needed = subst (λ (g : Registry R). NeededBut room rest g.rooms) (sym registry) needed_now;
    rises = from_there n 0 rest l.rises;
    conns = conns ∙ l.conns;
    moment = moment ∙ l.moment;
    schema = schema ∙ l.schema;
    process = process ∙ l.process;
    defs = defs ∙ l.defs;
  }
