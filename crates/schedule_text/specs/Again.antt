-- What was written of a schedule is read again as it. Ours.
use Rattle.std.specs.Prelude.{◌≡◌, List, [], ◌∷◌, ◌++◌, ℕ, codes, true, Ok}
use Rattle.std.specs.List.{flat_map}
use Rattle.text_model.specs.declared.schedule.Schedule.{Schedule}
use Rattle.text_model.specs.Events.{event_line}
use Rattle.text_model.specs.Marks.{line}
use Rattle.text_model.specs.Schedules.{IsScheduleText, is_schedule, read_schedule_text}
use Rattle.schedule_text.specs.Words.{heading_text}

-- what the calls write of a schedule: what it says before its events, the line `events`, each event, and the line `end`
abbrev pub written : Schedule → List ℕ
written s = heading_text s ++ (line (codes "events" ∷ []) ++ (flat_map event_line s.events ++ line (codes "end" ∷ [])))

-- it is the schedule's text, and is read as it
abbrev pub WrittenIsRead : Type 0
WrittenIsRead = (s : Schedule) → is_schedule s ≡ true → IsScheduleText (written s) s × (read_schedule_text (written s) ≡ Ok s)
