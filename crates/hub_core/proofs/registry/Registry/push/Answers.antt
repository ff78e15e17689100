use Rattle.std.proofs.Common.{◌≡◌, ◌∙◌, ◌<◌, ◌++◌, ◌∷◌, [], None, false, true, length, IfSome, refl, sym, ap, subst}
use Rattle.lists.specs.Rising.{find as find_by}
use Rattle.hub_core.specs.declared.entry.RoomEntry.{RoomEntry}
use Rattle.hub_core.specs.declared.registry.Registry.{Registry}
use Rattle.hub_core.specs.Noted.{Exchanged}
use Rattle.hub_core.specs.OpenRooms.{Relisted, Relists, criteria_key}
use Rattle.hub_core.specs.RoomEntry.{serial_of}
use Rattle.hub_core.proofs.EachLaws.{of_there}
use Rattle.hub_core.proofs.RegisteredLaws.{added_found, kept_added, newly, not_newly}
use Rattle.hub_core.proofs.registry.Registry.push.Given.{Over}
use Rattle.hub_core.proofs.registry.Registry.push.Goals.{then-status+in_ok-list, else-status}
use Rattle.hub_core.proofs.registry.Registry.push.Goals as goal

pub list-requires : goal.list-requires
list-requires g c =
    let s : RoomEntry g.row.R.Denot = record { serial = c.in_ok-at.at.serial; def = c.args.def; id = c.args.id; status = c.of-status.result; room = c.args.room; criteria = c.args.criteria } in
    subst (λ o. IfSome o (λ (t : RoomEntry g.row.R.Denot). t.def < length c.args.self.now.open_rooms.items)) (sym (added_found s c.args.self.now.rooms c.push.new.self c.in_ok-at.ensures.above c.in_ok-at.ensures.rooms)) c.requires.def

-- the room that was added
abbrev made : (g : Over) (c : goal.In_ok-change g) → RoomEntry g.row.R.Denot
made g c = record { serial = c.in_ok-at.at.serial; def = c.args.def; id = c.args.id; status = c.of-status.result; room = c.args.room; criteria = c.args.criteria }

rooms_are : (g : Over) (c : goal.In_ok-change g) → c.if-status.self.rooms ≡ c.args.self.now.rooms ++ made g c ∷ []
rooms_are g c =
    elim c.if-status.branch [
      | then-status+in_ok-list w ↦ ap (λ (r : Registry g.row.R.Denot). r.rooms) w.self-is ∙ (w.list.ensures.rooms ∙ c.in_ok-at.ensures.rooms)
      | else-status w ↦ ap (λ (r : Registry g.row.R.Denot). r.rooms) w.self-is ∙ c.in_ok-at.ensures.rooms
    ]

lapses_are : (g : Over) (c : goal.In_ok-change g) → c.if-status.self.lapses ≡ c.args.self.now.lapses
lapses_are g c =
    elim c.if-status.branch [
      | then-status+in_ok-list w ↦ ap (λ (r : Registry g.row.R.Denot). r.lapses) w.self-is ∙ w.list.ensures.lapses
      | else-status w ↦ ap (λ (r : Registry g.row.R.Denot). r.lapses) w.self-is
    ]

listed : (g : Over) (c : goal.In_ok-change g) → Relists (made g c) false c.of-status.result.is_open c.args.self.now.open_rooms.items c.if-status.self.open_rooms.items
listed g c =
    let s = made g c in
    let olds = c.args.self.now.open_rooms.items in
    let news = c.if-status.self.open_rooms.items in
    elim c.if-status.branch [
      | then-status+in_ok-list w ↦ newly s c.of-status.result.is_open olds news w.if-status.true
          (subst (λ l. Relisted s.def (criteria_key s.criteria) s.serial true olds l) (sym (ap (λ (r : Registry g.row.R.Denot). r.open_rooms.items) w.self-is))
          (of_there (find_by serial_of s.serial c.push.new.self) s (λ t. Relisted t.def (criteria_key t.criteria) t.serial true olds w.list.new.self.open_rooms.items)
          (added_found s c.args.self.now.rooms c.push.new.self c.in_ok-at.ensures.above c.in_ok-at.ensures.rooms) w.in_ok-list.ensures.listed))
      | else-status w ↦ not_newly s c.of-status.result.is_open olds news w.if-status.false (ap (λ (r : Registry g.row.R.Denot). r.open_rooms.items) w.self-is)
    ]

pub returns-clause-rooms : goal.returns-clause-rooms
returns-clause-rooms g c = record { it = made g c; rooms = rooms_are g c; is = refl }

pub returns-clause-kept : goal.returns-clause-kept
returns-clause-kept g c =
    (kept_added g.R.RoomLike.room (made g c) c.args.self.now (record { rooms = c.if-status.self.rooms; lapses = c.change.new.self; open_rooms = c.if-status.self.open_rooms }) c.requires.kept c.in_ok-at.ensures.above c.requires.def c.of-status.ensures
    (rooms_are g c) (subst (λ ks. Exchanged c.in_ok-at.at.serial None c.of-status.result.lapse ks c.change.new.self) (lapses_are g c) c.in_ok-change.ensures) (listed g c)).0

pub returns-clause-count : goal.returns-clause-count
returns-clause-count g c =
    (kept_added g.R.RoomLike.room (made g c) c.args.self.now (record { rooms = c.if-status.self.rooms; lapses = c.change.new.self; open_rooms = c.if-status.self.open_rooms }) c.requires.kept c.in_ok-at.ensures.above c.requires.def c.of-status.ensures
    (rooms_are g c) (subst (λ ks. Exchanged c.in_ok-at.at.serial None c.of-status.result.lapse ks c.change.new.self) (lapses_are g c) c.in_ok-change.ensures) (listed g c)).1
