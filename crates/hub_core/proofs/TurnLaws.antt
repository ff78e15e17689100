-- A hub in order stays so behind a step of one of its rooms.
use Rattle.std.proofs.Common.{◌≡◌, ℕ, ◌==◌, Bool, true, false, List, Option, Some, None, IfSome, length, refl, sym, ap, subst, ◌∙◌, arith}
use Rattle.std.specs.List.{find, flat_map, list_all, list_any}
use Rattle.std.specs.Prelude.{is_some}
use Rattle.std.proofs.lemmas.Bool.Decides.{nat_tests}
use Rattle.lists.specs.Rising.{find as find_by, put}
use Rattle.lists.proofs.RisingLaws.{find_key}
use Rattle.room_model.specs.declared.event.RoomEvent.{RoomEvent}
use Rattle.room_model.specs.declared.event.RoomOut.{RoomOut}
use Rattle.room_model.specs.Room.{RoomValue}
use Rattle.room_laws.specs.Names.{reserves}
use Rattle.room_laws.specs.Places.{may_happen}
use Rattle.room_laws.specs.Quiet.{is_ending}
use Rattle.hub_model.specs.declared.conn.HubConn.{HubConn}
use Rattle.hub_model.specs.Dealt.{RoomStep}
use Rattle.hub_model.specs.HubValues.{HubRoom}
use Rattle.schema_model.specs.Ids.{is_id}
use Rattle.hub_core.specs.declared.parts.Parts.{Parts}
use Rattle.hub_core.specs.declared.registry.Registry.{Registry}
use Rattle.hub_core.specs.declared.entry.RoomEntry.{RoomEntry}
use Rattle.hub_core.specs.declared.status.Change.{Change}
use Rattle.hub_core.specs.Endings.{ended_by, without_all}
use Rattle.hub_core.specs.SessionRooms.{IsHoused, room_of_session}
use Rattle.hub_core.specs.Hubs.{InOrder, IsGood, IsNeeded, is_of_one}
use Rattle.hub_core.specs.Lawful.{Lawful}
use Rattle.hub_core.specs.Registered.{IsKept}
use Rattle.hub_core.specs.RoomEntry.{AreOrdered, Each, IsStepped, has_id, serial_of}
use Rattle.hub_core.proofs.EachLaws.{Each-put, Each-weaker, of_there}
use Rattle.hub_core.specs.Statuses.{Changes}
use Rattle.hub_core.proofs.RegisteredLaws.{StepChanges, stepped_found}
use Rattle.hub_core.proofs.SessionRoomLaws.{housed_stepped}
use Rattle.hub_core.proofs.StandsLaws as stands
use Rattle.hub_core.proofs.StandsLaws.{found_own}

module _ {R : Type 0} (room : R → RoomValue) (is_spent : R → Bool) (Holds : RoomValue → Type 0) (handled : RoomStep) (laws : Lawful Holds handled) (ev : RoomEvent) (n : ℕ) (old : Parts R) (order : InOrder room Holds old)
    (ordered : AreOrdered old.registry.rooms) (s : RoomEntry R) (at : find_by serial_of n old.registry.rooms ≡ Some s) (may : may_happen (room s.room) ev ≡ true) (mid : Registry R)
    (behind : IsStepped room is_spent s old.registry.rooms mid.rooms (handled (room s.room) ev).0) where
  abbrev pub t : RoomEntry R
  t = behind.now

  abbrev pub outs : List RoomOut
  outs = (handled (room s.room) ev).1

  pub number : s.serial ≡ n
  number = find_key serial_of n old.registry.rooms s at

  pub there_is : find_by serial_of t.serial old.registry.rooms ≡ Some s
  there_is = subst (λ k. find_by serial_of k old.registry.rooms ≡ Some s) (sym (behind.serial ∙ number)) at

  pub found : find (has_id s.id) old.registry.rooms ≡ Some s
  found = found_own 0 n s old.registry.rooms ordered.0 ordered.1 at

  pub same : s.id ≡ t.id
  same = sym (ap (λ (r : HubRoom). r.id) behind.is)

  pub now : room t.room ≡ (handled (room s.room) ev).0
  now = ap (λ (r : HubRoom). r.room) behind.is

  pub good : IsGood room Holds s
  good = of_there (find_by serial_of n old.registry.rooms) s (IsGood room Holds) at (order.rooms n)

  abbrev pub may_stay : HubConn → Bool
  may_stay = stands.may_stay room Holds handled laws ev s t old.registry.rooms ordered found there_is same now good may

  pub were_there : (cs : List HubConn) → list_all (is_of_one room old.registry.rooms) cs ≡ true → list_all may_stay cs ≡ true
  were_there = stands.were_there room Holds handled laws ev s t old.registry.rooms ordered found there_is same now good may

  pub order_stepped : (cs : List HubConn) → list_all may_stay cs ≡ true → (new : Parts R) → new.registry ≡ mid → new.conns ≡ without_all s.id (flat_map ended_by outs) cs
      → new.moment ≡ old.moment → new.defs ≡ old.defs → new.process ≡ old.process → new.session_rooms ≡ old.session_rooms
      → IsKept room mid → length mid.open_rooms.items ≡ length old.registry.open_rooms.items → ((k : List ℕ) → reserves ev ≡ Some k → is_id k ≡ true)
      → ((k : List ℕ) → reserves ev ≡ Some k → room_of_session k old.session_rooms ≡ Some n) → InOrder room Holds new
  order_stepped cs all new registry conns moment defs process session_rooms kept count reserved housed =
      let rooms : new.registry.rooms ≡ put serial_of t old.registry.rooms = ap (λ (g : Registry R). g.rooms) registry ∙ behind.rooms in
      record {
        kept = rw registry kept;
        opens = ap (λ (g : Registry R). length g.open_rooms.items) registry ∙ (count ∙ (order.opens ∙ ap length (sym defs)));
        rooms = rw rooms (stands.rooms_good room Holds handled laws ev s t old.registry.rooms ordered found there_is same now good may reserved order.rooms);
        conns = rw (rooms, conns) (stands.conns_stay room Holds handled laws ev s t old.registry.rooms ordered found there_is same now good may cs all);
        early = rw moment order.early;
        few = rw defs order.few;
        forms = rw defs order.forms;
        process = rw process order.process;
        housed =
            rw (rooms, session_rooms)
            (housed_stepped room old.session_rooms ev (handled (room s.room) ev).0 s t old.registry.rooms (laws.names (room s.room) ev good.holds may) now behind.serial (λ k is. housed k is ∙ ap Some (sym number))
            (of_there (find_by serial_of n old.registry.rooms) s (IsHoused room old.session_rooms) at (order.housed n)) order.housed);
      }

  -- its places stay where it didn't look at them anew
  pub same_seats : (change : Option Change) (given : List RoomOut) (changed : Bool) → given ≡ outs → changed ≡ is_some change → StepChanges room ev given change n old.registry.rooms mid.rooms
      → changed ≡ false → (handled (room s.room) ev).0.seats ≡ (room s.room).seats
  same_seats (Some c) given changed gives is changes same = absurd (let both : true ≡ false = sym is ∙ same in cc)
  same_seats None given changed gives is changes same =
      let quiet = of_there (find_by serial_of n mid.rooms) t (λ t. Changes room ev given s t None) (stepped_found room is_spent n s old.registry.rooms mid.rooms (handled (room s.room) ev).0 behind at)
      (of_there (find_by serial_of n old.registry.rooms) s (λ s. IfSome (find_by serial_of n mid.rooms) (λ t. Changes room ev given s t None)) at changes) in
      laws.quiet (room s.room) ev good.holds may quiet.0 (subst (λ o. list_any is_ending o ≡ false) gives quiet.1)

  -- the others are needed as before
  pub others_needed : Each (λ s. (s.serial == n) ≡ false → IsNeeded room s) old.registry.rooms → Each (λ s. (s.serial == n) ≡ false → IsNeeded room s) mid.rooms
  others_needed needed = subst (Each (λ s. (s.serial == n) ≡ false → IsNeeded room s)) (sym behind.rooms) (Each-put (λ s. (s.serial == n) ≡ false → IsNeeded room s) t old.registry.rooms needed (λ other. absurd (no (t.serial == n) refl other)))
    where
      no : (b : Bool) → (t.serial == n) ≡ b → b ≡ false → ⊥
      no true is apart = absurd cc
      no false is apart = (let key : t.serial ≡ n = behind.serial ∙ number in let here : (t.serial == n) ≡ true = grind (arith, nat_tests, key) in absurd cc)

pub all_others : {R : Type 0} (room : R → RoomValue) (n : ℕ) (ss : List (RoomEntry R)) → Each (IsNeeded room) ss → Each (λ s. (s.serial == n) ≡ false → IsNeeded room s) ss
all_others room n ss all = Each-weaker (IsNeeded room) (λ s. (s.serial == n) ≡ false → IsNeeded room s) ss (λ s own other. own) all
