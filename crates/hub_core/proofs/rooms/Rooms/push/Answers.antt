use Rattle.std.proofs.Common.{◌≡◌, ◌++◌, ◌∷◌, [], ◌∙◌, suc, None, Some, ap, sym, subst, arith}
use Rattle.std.specs.List.{find}
use Rattle.lists.specs.Rising.{IsAbove, remove}
use Rattle.hub_core.specs.declared.slots.RoomRef.{RoomRef}
use Rattle.hub_core.specs.RoomEntry.{AreRooms, has_id, serial_of}
use Rattle.hub_core.proofs.RoomLaws.{Renamed, added_removed, rooms_added}
use Rattle.hub_core.proofs.rooms.Rooms.push.Goals as goal

pub invariant_of-self-in-Ok : goal.invariant_of-self-in-Ok
invariant_of-self-in-Ok g c =
    let ss = c.self.inside.slots in
    let s = c.in_ok-boxed.boxed in
    let at : RoomRef = record { serial = c.self.inside.next; slot = c.in_ok-slot.slot } in
    let id : s.id ≡ c.args.id = ap (λ s. s.id) c.in_ok-boxed.ensures in
    let number : s.serial ≡ c.self.inside.next = ap (λ s. s.serial) c.in_ok-boxed.ensures in
    let new : find (has_id s.id) ss ≡ None = subst (λ k. find (has_id k) ss ≡ None) (sym id) (rw (← c.self.view_is) at c.requires.new) in
    let step : Renamed c.args.id (Some at) c.self.inside.by_id.entries c.insert.new.self.entries = λ q. (rw c.bytes_of.ensures at c.in-Ok.ensures.updates).0 q in
    let named : Renamed s.id (Some at) c.self.inside.by_id.entries c.insert.new.self.entries = subst (λ k. Renamed k (Some at) c.self.inside.by_id.entries c.insert.new.self.entries) (sym id) step in
    let more : suc c.self.inside.next ≡ c.in-Some.next = omega (arith, c.in-Some.ensures) in
    let all : AreRooms (ss ++ s ∷ []) c.insert.new.self.entries (suc c.self.inside.next) = rooms_added s at ss c.self.inside.by_id.entries c.insert.new.self.entries c.self.inside.next c.self.invariant number (sym number) new named in
    rw c.in_ok-slot.ensures.rooms (subst (λ n. AreRooms (ss ++ s ∷ []) c.insert.new.self.entries n) more all)

pub invariant_of-self-in-Err : goal.invariant_of-self-in-Err
invariant_of-self-in-Err g c =
    let ss = c.self.inside.slots in
    let s = c.in_ok-boxed.boxed in
    let number : s.serial ≡ c.self.inside.next = ap (λ s. s.serial) c.in_ok-boxed.ensures in
    let above : IsAbove serial_of s.serial ss = subst (λ n. IsAbove serial_of n ss) (sym number) c.self.invariant.below in
    let back : remove serial_of c.self.inside.next (ss ++ s ∷ []) ≡ ss = subst (λ n. remove serial_of n (ss ++ s ∷ []) ≡ ss) number (added_removed s ss above) in
    let left : c.remove.new.self ≡ ss = c.remove.ensures.rest ∙ (ap (remove serial_of c.self.inside.next) c.in_ok-slot.ensures.rooms ∙ back) in
    rw (c.in-Err.ensures.err, left) c.self.invariant
