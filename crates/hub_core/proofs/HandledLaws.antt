-- A hub behind one event of the room of an id.
use Rattle.std.proofs.Common.{◌≡◌, ℕ, Bool, true, false, List, [], ◌∷◌, Some, None, filter, map, refl, ap, subst, ◌∙◌, arith, cond}
use Rattle.std.specs.Prelude.{if◌then◌else◌}
use Rattle.std.specs.List.{find, flat_map, list_all, list_any}
use Rattle.std.specs.Str.{bytes_eq}
use Rattle.std.proofs.lemmas.Bool.Decides.{nat_tests}
use Rattle.lists.specs.Rising.{find as find_by, put, remove}
use Rattle.lists.proofs.SameBytes.{same_bytes}
use Rattle.room_model.specs.declared.event.RoomEvent.{RoomEvent}
use Rattle.room_model.specs.declared.event.RoomOut.{RoomOut}
use Rattle.room_model.specs.Room.{RoomValue}
use Rattle.hub_model.specs.declared.conn.HubConn.{HubConn}
use Rattle.hub_model.specs.declared.event.HubOut.{HubOut}
use Rattle.hub_model.specs.HubValues.{HubRoom, is_named}
use Rattle.hub_model.specs.HubStep.{disposals, event_if, is_needed}
use Rattle.hub_model.specs.Dealt.{Dealt, RoomStep, conns_left, dealt, with_room}
use Rattle.hub_laws.proofs.Different.{found_in}
use Rattle.std.proofs.lemmas.List.Elements.{All-contains}
use Rattle.std.proofs.lemmas.List.Sums.{AllPass-from_list_all}
use Rattle.lists.proofs.Passing.{found_passes}
use Rattle.hub_core.specs.declared.entry.RoomEntry.{RoomEntry}
use Rattle.hub_core.specs.Endings.{ended_by, without_all}
use Rattle.hub_core.specs.Hubs.{IsNeeded}
use Rattle.hub_core.specs.Handled.{dealt_in}
use Rattle.hub_core.specs.RoomEntry.{HaveOwnIds, AreOrdered, Each, has_id, room_in, rooms_in, serial_of}
use Rattle.hub_core.proofs.DealtLaws.{AreQuiet}
use Rattle.hub_core.proofs.EachLaws.{found_number}
use Rattle.hub_core.proofs.SteppedLaws as stepped
use Rattle.hub_core.proofs.SteppedLaws.{needed_but}

-- ---- the room of an id alone has the event

-- what holds of all holds of the one that is found
pub all_found : {X : Type 0} (q p : X → Bool) (xs : List X) (x : X) → list_all q xs ≡ true → find p xs ≡ Some x → (q x ≡ true) × (p x ≡ true)
all_found q p xs x all found = (All-contains (λ y. q y ≡ true) xs x (AllPass-from_list_all q xs all) (found_in p xs x found), found_passes p xs x found)

module _ {R : Type 0} (room : R → RoomValue) (handled : RoomStep) (id : List ℕ) (ev : RoomEvent) where
  abbrev pub own_events : HubRoom → List RoomEvent
  own_events r = event_if (is_named id r) ev

  none_named : (n : ℕ) (ss : List (RoomEntry R)) → find (has_id id) ss ≡ None → AreQuiet room handled own_events n ss
  none_named n [] none = tt
  none_named n (x ∷ ss) none = by_first (bytes_eq x.id id) refl none (λ rest. none_named n ss rest)
    where
      by_first : (b : Bool) → bytes_eq x.id id ≡ b → cond b (Some x) (find (has_id id) ss) ≡ None → (find (has_id id) ss ≡ None → AreQuiet room handled own_events n ss) → AreQuiet room handled own_events n (x ∷ ss)
      by_first true here found rest = absurd cc
      by_first false other found rest = (λ apart. ap (λ b. event_if b ev) other, rest found)

  one_named : (ss : List (RoomEntry R)) (s : RoomEntry R) → HaveOwnIds ss → find (has_id id) ss ≡ Some s → AreQuiet room handled own_events s.serial ss
  one_named [] s alone found = absurd cc
  one_named (x ∷ ss) s alone found = by_first (bytes_eq x.id id) refl found (λ rest. one_named ss s alone.1 rest)
    where
      by_first : (b : Bool) → bytes_eq x.id id ≡ b → cond b (Some x) (find (has_id id) ss) ≡ Some s → (find (has_id id) ss ≡ Some s → AreQuiet room handled own_events s.serial ss) → AreQuiet room handled own_events s.serial (x ∷ ss)
      by_first true here is rest =
          let one : x ≡ s = cc in
          let name : x.id ≡ id = same_bytes x.id id here in
          (λ apart. absurd (let number : x.serial ≡ s.serial = ap (λ (y : RoomEntry R). y.serial) one in grind (arith, nat_tests, apart, number)), none_named s.serial ss (subst (λ n. find (has_id n) ss ≡ None) name alone.0))
      by_first false other is rest = (λ apart. ap (λ b. event_if b ev) other, rest is)

  -- ---- behind it

  module _ (s : RoomEntry R) (ss : List (RoomEntry R)) (ordered : AreOrdered ss) (found : find (has_id id) ss ≡ Some s) where
    pub name_is : s.id ≡ id
    name_is = same_bytes s.id id (found_passes (has_id id) ss s found)

    pub number_is : find_by serial_of s.serial ss ≡ Some s
    number_is = found_number (has_id id) 0 ss s ordered.0 found

    quiet : AreQuiet room handled own_events s.serial ss
    quiet = one_named ss s ordered.1 found

    own : own_events (room_in room s) ≡ ev ∷ []
    own = ap (λ b. event_if b ev) (found_passes (has_id id) ss s found)

    abbrev outs : List RoomOut
    outs = (handled (room s.room) ev).1

    pub any_handled : (p : Dealt → Bool) → ((r : HubRoom) → p (dealt handled r []) ≡ false) → list_any p (dealt_in handled (rooms_in room ss) id ev) ≡ p (dealt handled (room_in room s) (ev ∷ []))
    any_handled = stepped.any_behind room handled own_events ev s ss ordered number_is quiet own

    pub told_handled : (given : List ℕ → RoomOut → List HubOut) → flat_map (λ (d : Dealt). flat_map (given d.room.id) d.outs) (dealt_in handled (rooms_in room ss) id ev) ≡ flat_map (given id) outs
    told_handled given = stepped.told_behind room handled own_events ev s ss ordered number_is quiet own given ∙ ap (λ n. flat_map (given n) outs) name_is

    pub disposed_handled : (t : RoomEntry R) → t.serial ≡ s.serial → room_in room t ≡ with_room (room_in room s) (handled (room s.room) ev).0 → Each (IsNeeded room) ss
        → disposals (map (λ (d : Dealt). d.room) (dealt_in handled (rooms_in room ss) id ev)) ≡ disposals (room_in room t ∷ [])
    disposed_handled t same is needed = stepped.disposed_behind room handled own_events ev s ss ordered number_is quiet own t same is (needed_but room t.serial 0 ss ordered.0 needed)

    pub left_handled : (t : RoomEntry R) → t.serial ≡ s.serial → room_in room t ≡ with_room (room_in room s) (handled (room s.room) ev).0 → Each (IsNeeded room) ss
        → filter is_needed (map (λ (d : Dealt). d.room) (dealt_in handled (rooms_in room ss) id ev)) ≡ rooms_in room (if is_needed (room_in room t) then put serial_of t ss else remove serial_of t.serial ss)
    left_handled t same is needed = stepped.left_behind room handled own_events ev s ss ordered number_is quiet own t same is (needed_but room t.serial 0 ss ordered.0 needed)

    pub conns_handled : (cs : List HubConn) → conns_left (dealt_in handled (rooms_in room ss) id ev) cs ≡ without_all id (flat_map ended_by outs) cs
    conns_handled cs = stepped.conns_behind room handled own_events ev s ss ordered number_is quiet own cs ∙ ap (λ n. without_all n (flat_map ended_by outs) cs) name_is
