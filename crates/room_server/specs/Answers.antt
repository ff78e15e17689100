-- What a command writes for a text, and how the program ends then. Ours.
use Rattle.std.specs.Prelude.{ℕ, ◌^◌, List, [], ◌∷◌, ◌++◌, length, Option, Some, None, Result, Ok, Err, nat_lt, if◌then◌else◌, codes}
use Rattle.std.specs.Fmt.{decimal}
use Rattle.life_model.specs.Clients.{Client}
use Rattle.life_model.specs.declared.client.ClientFault.{ClientFault}
use Rattle.load_maker.specs.Generated.{generated}
use Rattle.text_model.specs.declared.schedule.Print.{Print}
use Rattle.text_model.specs.declared.schedule.Schedule.{Schedule}
use Rattle.text_model.specs.declared.schedule.Word.{Word}
use Rattle.text_model.specs.declared.schedule.Word.TheVariants as word
use Rattle.text_model.specs.Marks.{line}
use Rattle.text_model.specs.OutLines.{read_print_text}
use Rattle.text_model.specs.RowLines.{rows_text}
use Rattle.text_model.specs.Schedules.{Fault, read_schedule_text}
use Rattle.room_server.specs.declared.ending.Ending.{Ending}
use Rattle.room_server.specs.declared.ending.Ending.TheVariants.{Done, Usage, Refused}
use Rattle.room_server.specs.declared.task.Task.{Task}
use Rattle.room_server.specs.declared.task.Task.TheVariants.{View, Make}
use Rattle.room_server.specs.Frames.{frame_words}
use Rattle.room_server.specs.Summaries.{summary_text}
use Rattle.room_server.specs.Turns.{end_line, printed}
use Rattle.room_server.specs.Views.{client_of}
use Rattle.room_server.specs.Words.{usage_line}

-- the word of the part in which a line can't stand
abbrev pub part_word : Word → List ℕ
part_word word.Schema = codes "schema"
part_word word.Process = codes "process"
part_word word.Room = codes "room"
part_word word.Event = codes "event"
part_word word.End = codes "end"
part_word word.Output = codes "output"
part_word word.Image = codes "image"

-- the line that names a fault
abbrev pub fault_line : ℕ → List ℕ → List ℕ
fault_line number word = line (codes "line" ∷ decimal number ∷ word ∷ [])

-- what is written in the end, and how the program ends then
pub record Answer : Type 0 where
  pub ending : Ending
  pub output : List ℕ

-- all is done, and this is written
abbrev pub done : List ℕ → Answer
done output = record { ending = Done; output = output }

-- a fault is written, and nothing else
abbrev pub refusal : ℕ → List ℕ → Answer
refusal number word = record { ending = Refused; output = fault_line number word }

-- the usage line is written where the words are no command's
abbrev pub usage : Answer
usage = record { ending = Usage; output = usage_line }

-- ---- what is read

-- a schedule is printed; of another text its first fault is written
abbrev pub schedule_answer : Result Schedule Fault → Answer
schedule_answer (Ok s) = done (printed s)
schedule_answer (Err f) = refusal f.0 (part_word f.1)

-- a client's rows are written, or the line of the frame that it refuses
abbrev pub client_answer : Result Client (ℕ × ClientFault) → Answer
client_answer (Ok c) = done (rows_text c.rows ++ end_line)
client_answer (Err f) = refusal f.0 (frame_words f.1)

-- of what a replay printed the rows of a connection's client are written; of another text its first fault
abbrev pub print_answer : ℕ → Result Print Fault → Answer
print_answer conn (Ok p) = client_answer (client_of conn p)
print_answer conn (Err f) = refusal f.0 (part_word f.1)

-- the answer to a text of a command that reads one
abbrev pub text_answer : Task → List ℕ → Answer
text_answer (View conn) text = print_answer conn (read_print_text text)
text_answer task text = schedule_answer (read_schedule_text text)

-- one of more than 16 MiB is too long
abbrev pub answer_to : Task → List ℕ → Answer
answer_to task text = if nat_lt (2 ^ 24) (length text) then refusal 0 (codes "long") else text_answer task text

-- ---- what is made

-- a load is made, and the summary of its run is written
abbrev pub make_answer : ℕ → ℕ → Answer
make_answer seed rounds = done (summary_text (generated seed rounds))

-- what the words and the text call for
abbrev pub answer_for : Option Task → List ℕ → Answer
answer_for (Some (Make seed rounds)) text = make_answer seed rounds
answer_for (Some task) text = answer_to task text
answer_for None text = usage
