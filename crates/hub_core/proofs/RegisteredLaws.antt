-- The rooms of a hub with what is noted of them: once a room took its step, came, or went.
use Rattle.std.proofs.Common.{◌≡◌, ℕ, ◌<◌, ◌==◌, ◌++◌, Bool, true, false, not, ◌&&◌, List, [], ◌∷◌, Option, Some, None, IfSome, length, refl, sym, ap, subst, ◌∙◌, arith, cond}
use Rattle.std.specs.Prelude.{IsSome, is_some, nat_lt, ◌||◌}
use Rattle.std.specs.List.{list_any}
use Rattle.std.proofs.lemmas.Bool.Decides.{nat_tests}
use Rattle.lists.specs.Rising.{IsAbove, find as find_by, put, remove}
use Rattle.lists.proofs.RisingLaws.{find-put, find-remove, find_key}
use Rattle.room_model.specs.declared.event.RoomEvent.{RoomEvent}
use Rattle.room_model.specs.declared.event.RoomOut.{RoomOut}
use Rattle.room_model.specs.Ledger.{IsNextLapse}
use Rattle.room_model.specs.Room.{RoomValue}
use Rattle.room_model.specs.Seats.{Seats, in_use}
use Rattle.room_laws.specs.Places.{may_happen}
use Rattle.room_laws.specs.Quiet.{KeepsPlaces, is_ending}
use Rattle.hub_model.specs.HubValues.{HubRoom}
use Rattle.hub_core.specs.declared.entry.RoomEntry.{RoomEntry}
use Rattle.hub_core.specs.declared.open_rooms.OpenRooms.{OpenRooms}
use Rattle.hub_core.specs.declared.registry.Registry.{Registry}
use Rattle.hub_core.specs.declared.status.Change.{Change}
use Rattle.hub_core.specs.declared.status.RoomStatus.{RoomStatus}
use Rattle.hub_core.specs.Lapses.{has_lapse, is_moment}
use Rattle.hub_core.specs.Noted.{AreNoted, Exchanged, IsNextOf}
use Rattle.hub_core.specs.OpenRooms.{AreEmpty, Relisted, Relists, criteria_key}
use Rattle.hub_core.specs.Registered.{IsKept, IsShown}
use Rattle.hub_core.specs.RoomEntry.{IsStepped, serial_of}
use Rattle.hub_core.specs.Statuses.{Changes, IsChange, IsStatus}
use Rattle.hub_core.proofs.AddedLaws.{Each-last, found_last, none_above}
use Rattle.hub_core.proofs.EachLaws.{Each-put, Each-remove, of_there, there}
use Rattle.hub_core.proofs.NotedLaws.{AreNoted-put, AreNoted-remove, noted_with, one_next}
use Rattle.hub_core.proofs.OpenLaws.{as_found, as_none, count_relists, elsewhere_added, elsewhere_put, elsewhere_removed, listed_none, listed_now, listed_same, matches, opens_of}

-- ---- what is noted

-- a room's next lapse is there
pub next_is_there : {R : Type 0} (room : R → RoomValue) (ss : List (RoomEntry R)) (ks : List (ℕ × ℕ)) (n : ℕ) (before : Option ℕ) → AreNoted room ss ks → IsNextOf room (find_by serial_of n ss) before → IfSome before (λ at. has_lapse ks at n ≡ true)
next_is_there room ss ks n None h is = tt
next_is_there room ss ks n (Some at) h is =
    let same : Some at ≡ h.next n = one_next room (find_by serial_of n ss) (Some at) (h.next n) is (h.of n) in
    h.has at n ∙ ap (is_moment at) (sym same) ∙ grind (arith, nat_tests)

-- nothing is exchanged
same_exchanged : (n : ℕ) (o : Option ℕ) (ks : List (ℕ × ℕ)) → ((at : ℕ) → has_lapse ks at n ≡ is_moment at o) → Exchanged n o o ks ks
same_exchanged n o ks has at m = by_test (n == m) refl
  where
    by_test : (b : Bool) → (n == m) ≡ b → has_lapse ks at m ≡ ((is_moment at o && b) || (not (is_moment at o && b) && has_lapse ks at m))
    by_test true here =
        let number : n ≡ m = grind (arith, nat_tests, here) in
        let own : has_lapse ks at m ≡ is_moment at o = subst (λ k. has_lapse ks at k ≡ is_moment at o) number (has at) in
        rw own (both (is_moment at o))
      where
        both : (a : Bool) → a ≡ ((a && true) || (not (a && true) && a))
        both true = refl
        both false = refl
    by_test false other = out (is_moment at o) (has_lapse ks at m)
      where
        out : (a b : Bool) → b ≡ ((a && false) || (not (a && false) && b))
        out true b = refl
        out false b = refl

-- ---- the room behind its step

-- it is there
pub stepped_found : {R : Type 0} (room : R → RoomValue) (is_spent : R → Bool) (n : ℕ) (s : RoomEntry R) (old new : List (RoomEntry R)) (after : RoomValue) (step : IsStepped room is_spent s old new after) → find_by serial_of n old ≡ Some s
    → find_by serial_of n new ≡ Some step.now
stepped_found room is_spent n s old new after step was =
    let number : step.now.serial ≡ n = step.serial ∙ find_key serial_of n old s was in
    let same : (step.now.serial == n) ≡ true = grind (arith, nat_tests, number) in
    ap (find_by serial_of n) step.rooms ∙ find-put serial_of step.now old n ∙ ap (λ b. cond b (Some step.now) (find_by serial_of n old)) same

pub stepped_at : {R : Type 0} (room : R → RoomValue) (is_spent : R → Bool) (n : ℕ) (s t : RoomEntry R) (old new : List (RoomEntry R)) (after : RoomValue) (step : IsStepped room is_spent s old new after)
    → find_by serial_of n old ≡ Some s → find_by serial_of n new ≡ Some t
    → step.now ≡ t
stepped_at room is_spent n s t old new after step was now =
    let one : Some step.now ≡ Some t = sym (stepped_found room is_spent n s old new after step was) ∙ now in cc

-- a step of the room of a number
abbrev pub Step : {R : Type 0} → (R → RoomValue) → (R → Bool) → ℕ → (RoomEntry R → RoomValue) → List (RoomEntry R) → List (RoomEntry R) → Type 0
Step room is_spent n after old new = IfSome (find_by serial_of n old) (λ s. IsStepped room is_spent s old new (after s))

-- what is noted of a room that took its step, and gave these outputs, was exchanged, or stays
abbrev pub StepChanges : {R : Type 0} → (R → RoomValue) → RoomEvent → List RoomOut → Option Change → ℕ → List (RoomEntry R) → List (RoomEntry R) → Type 0
StepChanges room e outs change n old new = IfSome (find_by serial_of n old) (λ s. IfSome (find_by serial_of n new) (λ t. Changes room e outs s t change))

-- ---- a room took its step

module _ {R : Type 0} (room : R → RoomValue) (is_spent : R → Bool) (n : ℕ) (old : Registry R) (mid : List (RoomEntry R)) (after : RoomEntry R → RoomValue) (kept : IsKept room old) (some : IsSome (find_by serial_of n old.rooms))
    (step : Step room is_spent n after old.rooms mid) where
  abbrev pub was : RoomEntry R
  was = (there (find_by serial_of n old.rooms) (λ s. IsStepped room is_spent s old.rooms mid (after s)) some step).it

  pub was_at : find_by serial_of n old.rooms ≡ Some was
  was_at = (there (find_by serial_of n old.rooms) (λ s. IsStepped room is_spent s old.rooms mid (after s)) some step).is

  pub stepped : IsStepped room is_spent was old.rooms mid (after was)
  stepped = (there (find_by serial_of n old.rooms) (λ s. IsStepped room is_spent s old.rooms mid (after s)) some step).holds

  abbrev pub now : RoomEntry R
  now = stepped.now

  pub now_at : find_by serial_of n mid ≡ Some now
  now_at = stepped_found room is_spent n was old.rooms mid (after was) stepped was_at

  pub number : now.serial ≡ n
  number = stepped.serial ∙ find_key serial_of n old.rooms was was_at

  own_at : find_by serial_of now.serial old.rooms ≡ Some was
  own_at = subst (λ k. find_by serial_of k old.rooms ≡ Some was) (sym number) was_at

  here_at : find_by serial_of now.serial mid ≡ Some now
  here_at = subst (λ k. find_by serial_of k mid ≡ Some now) (sym number) now_at

  pub shown_was : IsShown room was
  shown_was = of_there (find_by serial_of n old.rooms) was (IsShown room) was_at (kept.shown n)

  def_same : was.def ≡ now.def
  def_same = sym (ap (λ (r : HubRoom). r.def) stepped.is)

  criteria_same : was.criteria ≡ now.criteria
  criteria_same = sym (ap (λ (r : HubRoom). r.criteria) stepped.is)

  pub less : now.def < length old.open_rooms.items
  less = subst (λ d. d < length old.open_rooms.items) def_same (of_there (find_by serial_of n old.rooms) was (λ x. x.def < length old.open_rooms.items) was_at (kept.defs n))

  next_was : IsNextOf room (find_by serial_of now.serial old.rooms) was.status.lapse
  next_was = subst (λ o. IsNextOf room o was.status.lapse) (sym own_at) shown_was.lapse

  -- what the calls that note it ask for
  pub def_less : IfSome (find_by serial_of n mid) (λ t. t.def < length old.open_rooms.items)
  def_less = subst (λ o. IfSome o (λ t. t.def < length old.open_rooms.items)) (sym now_at) less

  pub some_now : IsSome (find_by serial_of n mid)
  some_now = ap is_some now_at

  module _ (e : RoomEvent) (outs : List RoomOut) where
    change_is : (c : Option Change) → StepChanges room e outs c n old.rooms mid → Changes room e outs was now c
    change_is c changes = of_there (find_by serial_of n mid) now (λ t. Changes room e outs was t c) now_at (of_there (find_by serial_of n old.rooms) was (λ s. IfSome (find_by serial_of n mid) (λ t. Changes room e outs s t c)) was_at changes)

    pub was_noted : (c : Change) → StepChanges room e outs (Some c) n old.rooms mid → IfSome c.was.lapse (λ at. has_lapse old.lapses at n ≡ true)
    was_noted c changes =
        let is : c.was ≡ was.status = (change_is (Some c) changes).was in
        subst (λ (l : RoomStatus). IfSome l.lapse (λ at. has_lapse old.lapses at n ≡ true)) (sym is) (next_is_there room old.rooms old.lapses n was.status.lapse kept.noted (subst (λ o. IsNextOf room o was.status.lapse) (sym was_at) shown_was.lapse))

    -- its places were looked at anew
    pub kept_changed : (new : Registry R) (c : Change) → StepChanges room e outs (Some c) n old.rooms mid → new.rooms ≡ mid → Exchanged n c.was.lapse c.now.lapse old.lapses new.lapses
        → IfSome (find_by serial_of n mid) (λ t. Relists t c.was.is_open c.now.is_open old.open_rooms.items new.open_rooms.items) → IsKept room new × (length new.open_rooms.items ≡ length old.open_rooms.items)
    kept_changed new c changes rooms exchanged relists =
        let change : IsChange room was now c = change_is (Some c) changes in
        let all : new.rooms ≡ put serial_of now old.rooms = rooms ∙ stepped.rooms in
        let listing : Relists now c.was.is_open c.now.is_open old.open_rooms.items new.open_rooms.items = of_there (find_by serial_of n mid) now (λ t. Relists t c.was.is_open c.now.is_open old.open_rooms.items new.open_rooms.items) now_at relists in
        let count : length new.open_rooms.items ≡ length old.open_rooms.items = count_relists room now c.was.is_open c.now.is_open old.open_rooms.items new.open_rooms.items listing in
        let own : IsStatus (room now.room).seats now.status = subst (IsStatus (room now.room).seats) change.now change.status in
        let before : opens_of room was ≡ c.was.is_open = sym (ap (λ (l : RoomStatus). l.is_open) change.was ∙ shown_was.is_open) in
        let behind : opens_of room now ≡ c.now.is_open = sym change.status.is_open in (
          record {
            shown = rw all (Each-put (IsShown room) now old.rooms kept.shown own);
            noted = rw all (AreNoted-put room old.rooms old.lapses new.lapses now c.was.lapse c.now.lapse (subst (λ (l : RoomStatus). IsNextOf room (find_by serial_of now.serial old.rooms) l.lapse) (sym change.was) next_was) change.status.lapse
                (subst (λ k. Exchanged k c.was.lapse c.now.lapse old.lapses new.lapses) (sym number) exchanged) kept.noted);
            listed = rw all (listed_now room now old.rooms (put serial_of now old.rooms) old.open_rooms.items new.open_rooms.items (elsewhere_put room now old.rooms) kept.listed c.was.is_open c.now.is_open
                (λ d cs. as_found room now was old.rooms own_at def_same criteria_same d cs ∙ ap (λ b. b && matches room d cs now) before)
                (λ d cs. as_found room now now (put serial_of now old.rooms) (subst (λ ss. find_by serial_of now.serial ss ≡ Some now) stepped.rooms here_at) refl refl d cs ∙ ap (λ b. b && matches room d cs now) behind)
                listing);
            defs = rw (all, count) (Each-put (λ (x : RoomEntry R). x.def < length old.open_rooms.items) now old.rooms kept.defs less);
          },
          count,
        )

    -- they stay
    pub kept_quiet : (new : Registry R) → StepChanges room e outs None n old.rooms mid → (room now.room).seats ≡ (room was.room).seats → new.rooms ≡ mid → new.lapses ≡ old.lapses → new.open_rooms.items ≡ old.open_rooms.items → IsKept room new
    kept_quiet new changes seats rooms lapses opens =
        let same = change_is None changes in
        let status : now.status ≡ was.status = same.2 in
        let all : new.rooms ≡ put serial_of now old.rooms = rooms ∙ stepped.rooms in
        let own : IsStatus (room now.room).seats now.status = subst (λ (q : Seats). IsStatus q now.status) (sym seats) (subst (IsStatus (room was.room).seats) (sym status) shown_was) in
        let still : opens_of room now ≡ opens_of room was = ap (λ (q : Seats). not q.locked && nat_lt (in_use q) q.max) seats in
        let has : (at : ℕ) → has_lapse old.lapses at now.serial ≡ is_moment at was.status.lapse = λ at. kept.noted.has at now.serial
        ∙ ap (is_moment at) (one_next room (find_by serial_of now.serial old.rooms) (kept.noted.next now.serial) was.status.lapse (kept.noted.of now.serial) next_was) in
        record {
          shown = rw all (Each-put (IsShown room) now old.rooms kept.shown own);
          noted = rw (all, lapses) (AreNoted-put room old.rooms old.lapses old.lapses now was.status.lapse was.status.lapse next_was
              (subst (λ l. IsNextLapse (room now.room).seats l) (ap (λ (s : RoomStatus). s.lapse) status) own.lapse) (same_exchanged now.serial was.status.lapse old.lapses has) kept.noted);
          listed = rw all (listed_same room now old.rooms (put serial_of now old.rooms) old.open_rooms.items new.open_rooms.items (elsewhere_put room now old.rooms) kept.listed (opens_of room was)
              (as_found room now was old.rooms own_at def_same criteria_same)
              (λ d cs. as_found room now now (put serial_of now old.rooms) (subst (λ ss. find_by serial_of now.serial ss ≡ Some now) stepped.rooms here_at) refl refl d cs ∙ ap (λ b. b && matches room d cs now) still)
              opens);
          defs = rw (all, opens) (Each-put (λ (x : RoomEntry R). x.def < length old.open_rooms.items) now old.rooms kept.defs less);
        }

-- ---- a room took a step that its places stay in

module _ {R : Type 0} (room : R → RoomValue) (is_spent : R → Bool) (handled : RoomValue → RoomEvent → RoomValue × List RoomOut) (Holds : RoomValue → Type 0)
    (quiet : (r : RoomValue) (e : RoomEvent) → Holds r → may_happen r e ≡ true → KeepsPlaces r e (handled r e))
    (n : ℕ) (old new : Registry R) (mid : List (RoomEntry R)) (e : RoomEvent) (outs : List RoomOut) (kept : IsKept room old) (some : IsSome (find_by serial_of n old.rooms)) where
  abbrev After : RoomEntry R → RoomValue
  After s = (handled (room s.room) e).0

  pub kept_still : Step room is_spent n After old.rooms mid → StepChanges room e outs None n old.rooms mid → IfSome (find_by serial_of n old.rooms) (λ s. outs ≡ (handled (room s.room) e).1)
      → IfSome (find_by serial_of n old.rooms) (λ s. Holds (room s.room))
      → IfSome (find_by serial_of n old.rooms) (λ s. may_happen (room s.room) e ≡ true) → new.rooms ≡ mid → new.lapses ≡ old.lapses → new.open_rooms.items ≡ old.open_rooms.items → IsKept room new
  kept_still step changes given holds happen rooms lapses opens =
      let s = was room is_spent n old mid After kept some step in
      let at : find_by serial_of n old.rooms ≡ Some s = was_at room is_spent n old mid After kept some step in
      let stays : KeepsPlaces (room s.room) e (handled (room s.room) e) =
      quiet (room s.room) e (of_there (find_by serial_of n old.rooms) s (λ x. Holds (room x.room)) at holds) (of_there (find_by serial_of n old.rooms) s (λ x. may_happen (room x.room) e ≡ true) at happen) in
      let change = change_is room is_spent n old mid After kept some step e outs None changes in
      let none : list_any is_ending (handled (room s.room) e).1 ≡ false = ap (list_any is_ending) (sym (of_there (find_by serial_of n old.rooms) s (λ x. outs ≡ (handled (room x.room) e).1) at given)) ∙ change.1 in
      let behind : room (now room is_spent n old mid After kept some step).room ≡ After s = ap (λ (r : HubRoom). r.room) (stepped room is_spent n old mid After kept some step).is in
      kept_quiet room is_spent n old mid After kept some step e outs new changes (ap (λ (r : RoomValue). r.seats) behind ∙ stays change.0 none) rooms lapses opens

-- ---- a room is taken out

module _ {R : Type 0} (room : R → RoomValue) (n : ℕ) (s : RoomEntry R) (old new : Registry R) (kept : IsKept room old) (at : find_by serial_of n old.rooms ≡ Some s) where
  number_of : s.serial ≡ n
  number_of = find_key serial_of n old.rooms s at

  shown_of : IsShown room s
  shown_of = of_there (find_by serial_of n old.rooms) s (IsShown room) at (kept.shown n)

  pub kept_removed : new.rooms ≡ remove serial_of n old.rooms → ((at m : ℕ) → has_lapse new.lapses at m ≡ (not (is_moment at s.status.lapse && (n == m)) && has_lapse old.lapses at m))
      → Relists s s.status.is_open false old.open_rooms.items new.open_rooms.items
      → IsKept room new × (length new.open_rooms.items ≡ length old.open_rooms.items)
  kept_removed rooms lapses relists =
      let count = count_relists room s s.status.is_open false old.open_rooms.items new.open_rooms.items relists in
      let own : find_by serial_of s.serial old.rooms ≡ Some s = subst (λ k. find_by serial_of k old.rooms ≡ Some s) (sym number_of) at in
      let gone : find_by serial_of s.serial (remove serial_of s.serial old.rooms) ≡ None = find-remove serial_of s.serial old.rooms s.serial ∙ grind (arith, nat_tests) in
      let all : new.rooms ≡ remove serial_of s.serial old.rooms = rooms ∙ ap (λ k. remove serial_of k old.rooms) (sym number_of) in (
        record {
          shown = rw rooms (Each-remove (IsShown room) n old.rooms kept.shown);
          noted = rw rooms (AreNoted-remove room old.rooms old.lapses new.lapses n s.status.lapse (subst (λ o. IsNextOf room o s.status.lapse) (sym at) shown_of.lapse) (λ moment m. lapses moment m) kept.noted);
          listed = rw all (listed_now room s old.rooms (remove serial_of s.serial old.rooms) old.open_rooms.items new.open_rooms.items (elsewhere_removed room s.serial old.rooms) kept.listed s.status.is_open false
              (λ d cs. as_found room s s old.rooms own refl refl d cs ∙ ap (λ b. b && matches room d cs s) (sym shown_of.is_open))
              (as_none room s (remove serial_of s.serial old.rooms) gone) relists);
          defs = rw (rooms, count) (Each-remove (λ x. x.def < length old.open_rooms.items) n old.rooms kept.defs);
        },
        count,
      )

-- ---- a room is added

module _ {R : Type 0} (room : R → RoomValue) (s : RoomEntry R) (old new : Registry R) (kept : IsKept room old) (above : IsAbove serial_of s.serial old.rooms) (less : s.def < length old.open_rooms.items) (shown : IsShown room s) where
  pub kept_added : new.rooms ≡ old.rooms ++ s ∷ [] → Exchanged s.serial None s.status.lapse old.lapses new.lapses → Relists s false s.status.is_open old.open_rooms.items new.open_rooms.items
      → IsKept room new × (length new.open_rooms.items ≡ length old.open_rooms.items)
  kept_added rooms exchanged relists =
      let count = count_relists room s false s.status.is_open old.open_rooms.items new.open_rooms.items relists in
      let none : find_by serial_of s.serial old.rooms ≡ None = none_above s.serial old.rooms above in
      let last : find_by serial_of s.serial (old.rooms ++ s ∷ []) ≡ Some s = found_last s.serial s old.rooms above ∙ grind (arith, nat_tests) in (
        record {
          shown = rw rooms (Each-last (IsShown room) s old.rooms above kept.shown shown);
          noted = rw rooms (noted_with room old.rooms (old.rooms ++ s ∷ []) old.lapses new.lapses s.serial (Some s) None s.status.lapse (λ m. found_last m s old.rooms above)
              (subst (λ o. IsNextOf room o None) (sym none) refl) shown.lapse exchanged kept.noted);
          listed = rw rooms (listed_now room s old.rooms (old.rooms ++ s ∷ []) old.open_rooms.items new.open_rooms.items (elsewhere_added room s old.rooms) kept.listed false s.status.is_open
              (as_none room s old.rooms none)
              (λ d cs. as_found room s s (old.rooms ++ s ∷ []) last refl refl d cs ∙ ap (λ b. b && matches room d cs s) (sym shown.is_open)) relists);
          defs = rw (rooms, count) (Each-last (λ (x : RoomEntry R). x.def < length old.open_rooms.items) s old.rooms above kept.defs less);
        },
        count,
      )

-- ---- what is listed of it then

module _ {R : Type 0} (t : RoomEntry R) (b : Bool) (olds news : List OpenRooms) where
  pub newly : b ≡ true → Relisted t.def (criteria_key t.criteria) t.serial true olds news → Relists t false b olds news
  newly is r = subst (λ x. Relists t false x olds news) (sym is) r

  pub not_newly : b ≡ false → news ≡ olds → Relists t false b olds news
  not_newly is r = subst (λ x. Relists t false x olds news) (sym is) r

  pub no_longer : b ≡ true → Relisted t.def (criteria_key t.criteria) t.serial false olds news → Relists t b false olds news
  no_longer is r = subst (λ x. Relists t x false olds news) (sym is) r

  pub still_not : b ≡ false → news ≡ olds → Relists t b false olds news
  still_not is r = subst (λ x. Relists t x false olds news) (sym is) r

-- the one that was added is found
pub added_found : {R : Type 0} (s : RoomEntry R) (old new : List (RoomEntry R)) → IsAbove serial_of s.serial old → new ≡ old ++ s ∷ [] → find_by serial_of s.serial new ≡ Some s
added_found s old new above is =
    let same : (s.serial == s.serial) ≡ true = grind (arith, nat_tests) in
    ap (find_by serial_of s.serial) is ∙ (found_last s.serial s old above ∙ ap (λ b. cond b (Some s) (find_by serial_of s.serial old)) same)

-- ---- no room

pub kept_none : {R : Type 0} (room : R → RoomValue) (g : Registry R) → g.rooms ≡ [] → g.lapses ≡ [] → AreEmpty g.open_rooms.items → IsKept room g
kept_none room g rooms lapses empty = record {
  shown = rw rooms (λ n. tt);
  noted = rw (rooms, lapses) (record { next = λ n. None; of = λ n. refl; has = λ at n. refl });
  listed = rw rooms (listed_none room g.open_rooms.items empty);
  defs = rw rooms (λ n. tt);
}
