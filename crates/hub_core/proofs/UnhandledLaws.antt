-- A hub behind an event of a room that it doesn't have: nothing happens.
use Rattle.std.proofs.Common.{◌≡◌, ℕ, suc, ◌++◌, Bool, true, false, not, List, [], ◌∷◌, Option, Some, None, filter, map, refl, sym, ap, ap₂, ◌∙◌, cond}
use Rattle.std.specs.Prelude.{is_some}
use Rattle.std.specs.List.{find, flat_map}
use Rattle.std.specs.Option.{option_map}
use Rattle.std.specs.Str.{bytes_eq}
use Rattle.lists.specs.Rising.{RisesFrom}
use Rattle.room_model.specs.declared.event.RoomEvent.{RoomEvent}
use Rattle.room_model.specs.declared.refusal.Refusal.TheVariants as refusal
use Rattle.room_model.specs.Room.{RoomValue}
use Rattle.hub_model.specs.declared.event.HubOut.{HubOut}
use Rattle.hub_model.specs.declared.event.HubOut.TheVariants as out
use Rattle.hub_model.specs.HubValues.{HubRoom}
use Rattle.hub_model.specs.HubStep.{disposals, event_if, is_needed, unknown_room}
use Rattle.hub_model.specs.Dealt.{Dealt, RoomStep, conns_left, dealt, told_out}
use Rattle.hub_core.specs.declared.parts.Parts.{Parts}
use Rattle.hub_core.specs.declared.entry.RoomEntry.{RoomEntry}
use Rattle.hub_core.specs.Hubs.{Stands, hub_of}
use Rattle.hub_core.specs.Handled.{dealt_in, handled_in}
use Rattle.hub_core.specs.RoomEntry.{AreOrdered, Each, has_id, room_in, rooms_in, serial_of}
use Rattle.hub_core.proofs.EachLaws.{Each-first, Each-rest}
use Rattle.hub_core.proofs.IdleLaws.{idle, idle_conns, idle_given, idle_rooms}
use Rattle.hub_core.proofs.HandleLaws.{room_found}

-- all rooms are needed
pub all_stay : {R : Type 0} (room : R → RoomValue) (low : ℕ) (ss : List (RoomEntry R)) → RisesFrom serial_of low ss → Each (λ s. is_needed (room_in room s) ≡ true) ss → filter is_needed (rooms_in room ss) ≡ rooms_in room ss
all_stay room low [] rises needed = refl
all_stay room low (x ∷ ss) rises needed =
    rw (Each-first (λ s. is_needed (room_in room s) ≡ true) x ss needed) (ap (λ l. room_in room x ∷ l) (all_stay room (suc x.serial) ss rises.1 (Each-rest (λ s. is_needed (room_in room s) ≡ true) low x ss rises needed)))

pub none_go : {R : Type 0} (room : R → RoomValue) (low : ℕ) (ss : List (RoomEntry R)) → RisesFrom serial_of low ss → Each (λ s. is_needed (room_in room s) ≡ true) ss → filter (λ r. not (is_needed r)) (rooms_in room ss) ≡ []
none_go room low [] rises needed = refl
none_go room low (x ∷ ss) rises needed =
    rw (Each-first (λ s. is_needed (room_in room s) ≡ true) x ss needed) (none_go room (suc x.serial) ss rises.1 (Each-rest (λ s. is_needed (room_in room s) ≡ true) low x ss rises needed))

module _ {R : Type 0} (room : R → RoomValue) (handled : RoomStep) (id : List ℕ) (ev : RoomEvent) where
  none_dealt : (ss : List (RoomEntry R)) → find (has_id id) ss ≡ None → dealt_in handled (rooms_in room ss) id ev ≡ idle handled (rooms_in room ss)
  none_dealt [] none = refl
  none_dealt (x ∷ ss) none = by_first (bytes_eq x.id id) none (λ rest. none_dealt ss rest)
    where
      by_first : (b : Bool) → cond b (Some x) (find (has_id id) ss) ≡ None → (find (has_id id) ss ≡ None → dealt_in handled (rooms_in room ss) id ev ≡ idle handled (rooms_in room ss))
          → dealt handled (room_in room x) (event_if b ev) ∷ dealt_in handled (rooms_in room ss) id ev ≡ idle handled (rooms_in room (x ∷ ss))
      by_first true is rest = absurd cc
      by_first false is rest = ap (λ l. dealt handled (room_in room x) [] ∷ l) (rest is)

  module _ (Holds : RoomValue → Type 0) (old : Parts R) (entry : Stands room Holds old) (ordered : AreOrdered old.registry.rooms) (none : None ≡ option_map serial_of (find (has_id id) old.registry.rooms)) where
    missing : find (has_id id) old.registry.rooms ≡ None
    missing = by_found (find (has_id id) old.registry.rooms) none
      where
        by_found : (o : Option (RoomEntry R)) → None ≡ option_map serial_of o → o ≡ None
        by_found None is = refl
        by_found (Some s) is = absurd cc

    quiet : dealt_in handled (rooms_in room old.registry.rooms) id ev ≡ idle handled (rooms_in room old.registry.rooms)
    quiet = none_dealt old.registry.rooms missing

    pub none_hub : hub_of room old ≡ (handled_in handled (hub_of room old) id ev).0
    none_hub =
        let rooms = ap (map (λ (d : Dealt). d.room)) quiet ∙ idle_rooms handled (rooms_in room old.registry.rooms) in
        let stay = all_stay room 0 old.registry.rooms ordered.0 entry.needed in
        let conns = ap (λ ds. conns_left ds old.conns) quiet ∙ idle_conns handled (rooms_in room old.registry.rooms) old.conns in
        ap₂ (λ rs cs. record { now = old.moment; schema = old.schema; process = old.process; defs = old.defs; rooms = rs; conns = cs }) (sym (ap (filter is_needed) rooms ∙ stay)) (sym conns)

    pub none_told : (before behind_it : List HubOut) → behind_it ≡ before ++ out.Refused refusal.NoRoom ∷ [] → behind_it ≡ before ++ (handled_in handled (hub_of room old) id ev).1
    none_told before behind_it h =
        let unknown : unknown_room (hub_of room old) id ≡ out.Refused refusal.NoRoom ∷ [] = ap (λ o. cond (is_some o) [] (out.Refused refusal.NoRoom ∷ [])) (room_found room id old.registry.rooms ∙ ap (option_map (room_in room)) missing) in
        let given : flat_map (λ (d : Dealt). flat_map (told_out old.conns d.room.id) d.outs) (dealt_in handled (rooms_in room old.registry.rooms) id ev) ≡ [] =
        ap (flat_map (λ (d : Dealt). flat_map (told_out old.conns d.room.id) d.outs)) quiet ∙ idle_given handled (λ (d : Dealt). flat_map (told_out old.conns d.room.id) d.outs) (λ r. refl) (rooms_in room old.registry.rooms) in
        let gone : disposals (map (λ (d : Dealt). d.room) (dealt_in handled (rooms_in room old.registry.rooms) id ev)) ≡ [] =
        ap (λ ds. disposals (map (λ (d : Dealt). d.room) ds)) quiet ∙ (ap disposals (idle_rooms handled (rooms_in room old.registry.rooms)) ∙ ap (map (λ (r : HubRoom). out.Disposed r.id)) (none_go room 0 old.registry.rooms ordered.0 entry.needed)) in
        h ∙ ap (λ l. before ++ l) (sym (ap₂ (λ u x. u ++ x) unknown (ap₂ (λ x y. x ++ y) given gone)))
