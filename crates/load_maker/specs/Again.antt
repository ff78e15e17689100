-- What was written of a made schedule is read again as it. Ours.
use Rattle.std.specs.Prelude.{◌≡◌, ◌≤◌, ℕ, Ok}
use Rattle.text_model.specs.Schedules.{IsScheduleText, read_schedule_text}
use Rattle.schedule_text.specs.Again.{written}
use Rattle.load_maker.specs.Generated.{generated, most_rounds}

-- it is the schedule's text, and is read as it
abbrev pub MadeIsRead : Type 0
MadeIsRead =
    (seed rounds : ℕ) → rounds ≤ most_rounds
    → IsScheduleText (written (generated seed rounds)) (generated seed rounds) × (read_schedule_text (written (generated seed rounds)) ≡ Ok (generated seed rounds))
