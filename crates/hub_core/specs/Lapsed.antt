-- A hub behind a moment: what has come lapses in its rooms, one after another; then rooms are disposed of. Ours.
use Rattle.std.specs.Prelude.{◌≡◌, ◌++◌, ◌==◌, ℕ, true, false, List, map, filter, IsSome}
use Rattle.std.specs.List.{flat_map, list_any}
use Rattle.lists.specs.Rising.{find as find_by}
use Rattle.room_model.specs.declared.event.RoomEvent.{RoomEvent}
use Rattle.room_model.specs.declared.event.RoomEvent.TheVariants as event
use Rattle.room_model.specs.Room.{RoomValue}
use Rattle.hub_model.specs.declared.conn.HubConn.{HubConn}
use Rattle.hub_model.specs.declared.event.HubOut.{HubOut}
use Rattle.hub_model.specs.Dealt.{Dealt, RoomStep, conns_left, dealt, told_out}
use Rattle.hub_model.specs.HubStep.{disposals, event_if, is_needed}
use Rattle.hub_core.specs.declared.parts.Parts.{Parts}
use Rattle.hub_core.specs.declared.entry.RoomEntry.{RoomEntry}
use Rattle.hub_core.specs.Hubs.{InOrder, IsNeeded}
use Rattle.hub_core.specs.RoomEntry.{Each, room_in, rooms_in, serial_of}

-- there are rooms of these numbers
abbrev pub AreThere : {R : Type 0} → List ℕ → List (RoomEntry R) → Type 0
AreThere due ss = (n : ℕ) → list_any (λ k. k == n) due ≡ true → IsSome (find_by serial_of n ss)

-- the moment, for a room among those of these numbers
abbrev pub moment_of : ℕ → List ℕ → ℕ → List RoomEvent
moment_of at due n = event_if (list_any (λ k. k == n) due) (event.Moment at)

-- what the rooms make of it
abbrev pub lapsed : {R : Type 0} → (R → RoomValue) → RoomStep → ℕ → List ℕ → List (RoomEntry R) → List Dealt
lapsed {R = R} room step at due ss = map (λ (s : RoomEntry R). dealt step (room_in room s) (moment_of at due s.serial)) ss

-- what they give
abbrev pub told_of : List HubConn → List Dealt → List HubOut
told_of conns ds = flat_map (λ (d : Dealt). flat_map (told_out conns d.room.id) d.outs) ds

-- all of these rooms have had it; the others are needed as before
pub record AllLapsed {R : Type 0} (room : R → RoomValue) (Holds : RoomValue → Type 0) (step : RoomStep) (at : ℕ) (due : List ℕ) (old new : Parts R) (before after : List HubOut) : Type 0 where
  pub rooms : rooms_in room new.registry.rooms ≡ map (λ (d : Dealt). d.room) (lapsed room step at due old.registry.rooms)
  pub outs : after ≡ before ++ told_of old.conns (lapsed room step at due old.registry.rooms)
  pub conns : new.conns ≡ conns_left (lapsed room step at due old.registry.rooms) old.conns
  pub order : InOrder room Holds new
  pub there : AreThere due new.registry.rooms
  pub needed : Each (λ s. list_any (λ k. k == s.serial) due ≡ false → IsNeeded room s) new.registry.rooms
  pub moment : new.moment ≡ old.moment
  pub schema : new.schema ≡ old.schema
  pub process : new.process ≡ old.process
  pub defs : new.defs ≡ old.defs

-- only needed rooms are left
pub record AllLeft {R : Type 0} (room : R → RoomValue) (Holds : RoomValue → Type 0) (old new : Parts R) (before after : List HubOut) : Type 0 where
  pub rooms : rooms_in room new.registry.rooms ≡ filter is_needed (rooms_in room old.registry.rooms)
  pub outs : after ≡ before ++ disposals (rooms_in room old.registry.rooms)
  pub order : InOrder room Holds new
  pub needed : Each (IsNeeded room) new.registry.rooms
  pub conns : new.conns ≡ old.conns
  pub moment : new.moment ≡ old.moment
  pub schema : new.schema ≡ old.schema
  pub process : new.process ≡ old.process
  pub defs : new.defs ≡ old.defs
