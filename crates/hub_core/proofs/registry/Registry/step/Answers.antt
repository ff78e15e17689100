use Rattle.std.proofs.Common.{◌∙◌, length, sym, ap, subst}
use Rattle.hub_core.specs.declared.registry.Registry.{Registry}
use Rattle.hub_core.specs.declared.entry.RoomEntry.{RoomEntry}
use Rattle.hub_core.specs.Registered.{IsKept}
use Rattle.hub_core.proofs.RegisteredLaws.{StepChanges, def_less, kept_changed, kept_still, some_now, was_noted}
use Rattle.hub_core.proofs.registry.Registry.step.Goals.{in-Some+in_ok-note, in_default}
use Rattle.hub_core.proofs.registry.Registry.step.Goals as goal

pub note-requires-clause-there : goal.note-requires-clause-there
note-requires-clause-there g c =
    some_now g.R.RoomLike.room g.R.RoomLike.is_spent c.args.at.serial c.args.self.now c.step.new.self (λ (s : RoomEntry g.row.R.Denot). (g.R.RoomLike.handled (g.R.RoomLike.room s.room) c.args.event.now).0)
    c.requires.kept c.requires.there c.in_ok-turn.ensures.after

pub note-requires-clause-lapse : goal.note-requires-clause-lapse
note-requires-clause-lapse g c =
    was_noted g.R.RoomLike.room g.R.RoomLike.is_spent c.args.at.serial c.args.self.now c.step.new.self (λ (s : RoomEntry g.row.R.Denot). (g.R.RoomLike.handled (g.R.RoomLike.room s.room) c.args.event.now).0)
    c.requires.kept c.requires.there c.in_ok-turn.ensures.after
    c.args.event.now c.in_ok-turn.turn.outs c.in-Some.change
    (subst (λ o. StepChanges g.R.RoomLike.room c.args.event.now c.in_ok-turn.turn.outs o c.args.at.serial c.args.self.now.rooms c.step.new.self) c.in-Some.is c.in_ok-turn.ensures.change)

pub note-requires-clause-def : goal.note-requires-clause-def
note-requires-clause-def g c =
    def_less g.R.RoomLike.room g.R.RoomLike.is_spent c.args.at.serial c.args.self.now c.step.new.self (λ (s : RoomEntry g.row.R.Denot). (g.R.RoomLike.handled (g.R.RoomLike.room s.room) c.args.event.now).0)
    c.requires.kept c.requires.there c.in_ok-turn.ensures.after

pub returns-clause-kept : goal.returns-clause-kept
returns-clause-kept g c =
    elim c.match-turn.branch [
      | in-Some+in_ok-note w ↦ subst (IsKept g.R.RoomLike.room) (sym w.self-is)
          (kept_changed g.R.RoomLike.room g.R.RoomLike.is_spent c.args.at.serial c.args.self.now c.step.new.self (λ (s : RoomEntry g.row.R.Denot). (g.R.RoomLike.handled (g.R.RoomLike.room s.room) c.args.event.now).0)
          c.requires.kept c.requires.there c.in_ok-turn.ensures.after
          c.args.event.now c.in_ok-turn.turn.outs w.note.new.self w.in-Some.change
          (subst (λ o. StepChanges g.R.RoomLike.room c.args.event.now c.in_ok-turn.turn.outs o c.args.at.serial c.args.self.now.rooms c.step.new.self) w.in-Some.is c.in_ok-turn.ensures.change)
          w.note.ensures.rooms w.in_ok-note.ensures.lapses w.in_ok-note.ensures.listed).0
      | in_default w ↦ kept_still g.R.RoomLike.room g.R.RoomLike.is_spent g.R.RoomLike.handled g.R.RoomLike.Holds g.met.R.RoomLike.quiet c.args.at.serial c.args.self.now c.match-turn.self
          c.step.new.self c.args.event.now c.in_ok-turn.turn.outs c.requires.kept c.requires.there c.in_ok-turn.ensures.after
          (subst (λ o. StepChanges g.R.RoomLike.room c.args.event.now c.in_ok-turn.turn.outs o c.args.at.serial c.args.self.now.rooms c.step.new.self) w.in_default.is c.in_ok-turn.ensures.change)
          c.in_ok-turn.ensures.outs c.requires.holds c.requires.happen
          (ap (λ (r : Registry g.row.R.Denot). r.rooms) w.self-is) (ap (λ (r : Registry g.row.R.Denot). r.lapses) w.self-is) (ap (λ (r : Registry g.row.R.Denot). r.open_rooms.items) w.self-is)
    ]

pub returns-clause-count : goal.returns-clause-count
returns-clause-count g c =
    elim c.match-turn.branch [
      | in-Some+in_ok-note w ↦ ap (λ (r : Registry g.row.R.Denot). length r.open_rooms.items) w.self-is
          ∙ (kept_changed g.R.RoomLike.room g.R.RoomLike.is_spent c.args.at.serial c.args.self.now c.step.new.self (λ (s : RoomEntry g.row.R.Denot). (g.R.RoomLike.handled (g.R.RoomLike.room s.room) c.args.event.now).0)
          c.requires.kept c.requires.there c.in_ok-turn.ensures.after
          c.args.event.now c.in_ok-turn.turn.outs w.note.new.self w.in-Some.change
          (subst (λ o. StepChanges g.R.RoomLike.room c.args.event.now c.in_ok-turn.turn.outs o c.args.at.serial c.args.self.now.rooms c.step.new.self) w.in-Some.is c.in_ok-turn.ensures.change)
          w.note.ensures.rooms w.in_ok-note.ensures.lapses w.in_ok-note.ensures.listed).1
      | in_default w ↦ ap (λ (r : Registry g.row.R.Denot). length r.open_rooms.items) w.self-is
    ]
