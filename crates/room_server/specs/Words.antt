-- The words behind the program's name: which command they are, and the line that is written where they are none. Ours.
use Rattle.std.specs.Prelude.{ℕ, ◌+◌, ◌≤◌, List, [], ◌∷◌, ◌++◌, Option, Some, None, if◌then◌else◌, codes}
use Rattle.std.specs.Option.{option_map}
use Rattle.std.specs.Str.{bytes_eq}
use Rattle.text_model.specs.Decimals.{decimal_below}
use Rattle.text_model.specs.Events.{number_of_word}
use Rattle.text_model.specs.Lines.{both}
use Rattle.load_maker.specs.Generated.{most_rounds}
use Rattle.room_server.specs.declared.task.Task.{Task}
use Rattle.room_server.specs.declared.task.Task.TheVariants.{Replay, View, Make}

-- a count of rounds
abbrev pub rounds_of : List ℕ → Option ℕ
rounds_of w = decimal_below (most_rounds + 1) w

abbrev pub task_of_word : List ℕ → Option Task
task_of_word w = if bytes_eq w (codes "replay") then Some Replay else None

abbrev pub with_one : List ℕ → List ℕ → Option Task
with_one w a = if bytes_eq w (codes "view") then option_map View (number_of_word a) else None

abbrev pub with_two : List ℕ → List ℕ → List ℕ → Option Task
with_two w a b = if bytes_eq w (codes "make") then both Make (number_of_word a) (rounds_of b) else None

-- the command of the words, where they are one's
abbrev pub task_of : List (List ℕ) → Option Task
task_of (w ∷ []) = task_of_word w
task_of (w ∷ a ∷ []) = with_one w a
task_of (w ∷ a ∷ b ∷ []) = with_two w a b
task_of ws = None

-- so many rounds can be made
abbrev pub IsWithin : Task → Type 0
IsWithin (Make seed rounds) = rounds ≤ most_rounds
IsWithin task = Unit {0}

-- how the program is used
abbrev pub usage_line : List ℕ
usage_line = codes "usage: replay | serve PORT COUNT | view CONN | make SEED ROUNDS" ++ 10 ∷ []
