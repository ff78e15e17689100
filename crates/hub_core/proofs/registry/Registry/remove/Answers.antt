use Rattle.std.proofs.Common.{◌≡◌, ◌∙◌, ◌&&◌, ◌==◌, not, ℕ, Some, false, sym, ap, subst}
use Rattle.lists.specs.Rising.{find as find_by, remove}
use Rattle.lists.proofs.RisingLaws.{remove_missing}
use Rattle.hub_core.specs.declared.registry.Registry.{Registry}
use Rattle.hub_core.specs.Lapses.{has_lapse, is_moment}
use Rattle.hub_core.specs.OpenRooms.{Relisted, Relists, criteria_key}
use Rattle.hub_core.specs.RoomEntry.{serial_of}
use Rattle.hub_core.proofs.EachLaws.{of_there}
use Rattle.hub_core.proofs.RegisteredLaws.{kept_removed, no_longer, still_not}
use Rattle.hub_core.proofs.registry.Registry.remove.Given.{Over}
use Rattle.hub_core.proofs.registry.Registry.remove.Goals.{then-status+in_ok-unlist, else-status}
use Rattle.hub_core.proofs.registry.Registry.remove.Goals as goal

pub returns-in_default-clause-rooms : goal.returns-in_default-clause-rooms
returns-in_default-clause-rooms g c = sym (remove_missing serial_of c.args.at.serial c.args.self.now.rooms (sym c.in_default.ensures.value))

at_is : (g : Over) (c : goal.After-remove g) → find_by serial_of c.args.at.serial c.args.self.now.rooms ≡ Some c.in-Some.entry.now
at_is g c = sym c.in-Some.ensures.value

rooms_are : (g : Over) (c : goal.After-remove g) → c.if-status.self.rooms ≡ c.args.self.now.rooms
rooms_are g c =
    elim c.if-status.branch [
      | then-status+in_ok-unlist w ↦ ap (λ (r : Registry g.row.R.Denot). r.rooms) w.self-is ∙ w.unlist.ensures.rooms
      | else-status w ↦ ap (λ (r : Registry g.row.R.Denot). r.rooms) w.self-is
    ]

lapses_are : (g : Over) (c : goal.After-remove g) → c.if-status.self.lapses ≡ c.take_one.new.self
lapses_are g c =
    elim c.if-status.branch [
      | then-status+in_ok-unlist w ↦ ap (λ (r : Registry g.row.R.Denot). r.lapses) w.self-is ∙ w.unlist.ensures.lapses
      | else-status w ↦ ap (λ (r : Registry g.row.R.Denot). r.lapses) w.self-is
    ]

listed : (g : Over) (c : goal.After-remove g) → Relists c.in-Some.entry.now c.in-Some.entry.now.status.is_open false c.args.self.now.open_rooms.items c.if-status.self.open_rooms.items
listed g c =
    let s = c.in-Some.entry.now in
    let olds = c.args.self.now.open_rooms.items in
    let news = c.if-status.self.open_rooms.items in
    elim c.if-status.branch [
      | then-status+in_ok-unlist w ↦ no_longer s s.status.is_open olds news w.if-status.true
          (subst (λ l. Relisted s.def (criteria_key s.criteria) s.serial false olds l) (sym (ap (λ (r : Registry g.row.R.Denot). r.open_rooms.items) w.self-is))
          (of_there (find_by serial_of c.args.at.serial c.args.self.now.rooms) s (λ t. Relisted t.def (criteria_key t.criteria) t.serial false olds w.unlist.new.self.open_rooms.items) (at_is g c) w.in_ok-unlist.ensures.listed))
      | else-status w ↦ still_not s s.status.is_open olds news w.if-status.false (ap (λ (r : Registry g.row.R.Denot). r.open_rooms.items) w.self-is)
    ]

pub returns-clause-kept : goal.returns-clause-kept
returns-clause-kept g c =
    let n = c.args.at.serial in
    let s = c.in-Some.entry.now in
    let old = c.args.self.now in
    (kept_removed g.R.RoomLike.room n s old (record { rooms = c.remove.new.self; lapses = c.if-status.self.lapses; open_rooms = c.if-status.self.open_rooms }) c.requires.kept (at_is g c)
    (c.remove.ensures ∙ ap (remove serial_of n) (rooms_are g c))
    (subst (λ ks. (moment m : ℕ) → has_lapse ks moment m ≡ (not (is_moment moment s.status.lapse && (n == m)) && has_lapse old.lapses moment m)) (sym (lapses_are g c)) c.take_one.ensures)
    (listed g c)).0
