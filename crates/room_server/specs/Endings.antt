-- How the program ends, and what is then known of the source and the sink.
use Rattle.std.specs.Prelude.{◌≡◌, ◌⊎◌, ◌++◌, ℕ, ◌^◌, ◌≤◌, List, length, Option, Some, None, IsErrOf, Result, Ok, Err, true}
use Rattle.outside.specs.Faults.{Rose}
use Rattle.outside.specs.Reads.{Reads, ReadsAll}
use Rattle.outside.specs.Streams.{Takes, TakesPrefix}
use Rattle.life_model.specs.Clients.{Client}
use Rattle.load_maker.specs.Generated.{generated}
use Rattle.text_model.specs.declared.schedule.Print.{Print}
use Rattle.text_model.specs.declared.schedule.Schedule.{Schedule}
use Rattle.text_model.specs.OutLines.{IsPrintText, is_print, print_text}
use Rattle.text_model.specs.RowLines.{rows_text}
use Rattle.text_model.specs.Schedules.{IsScheduleText, is_schedule, schedule_text}
use Rattle.room_server.specs.declared.ending.Ending.{Ending}
use Rattle.room_server.specs.declared.ending.Ending.TheVariants.{Done, Usage, Refused, ReadFailed, WriteFailed, Memory}
use Rattle.room_server.specs.declared.output.WriteFault.{WriteFault}
use Rattle.room_server.specs.declared.output.WriteFault.TheVariants as fault
use Rattle.room_server.specs.declared.task.Task.{Task}
use Rattle.room_server.specs.declared.task.Task.TheVariants.{Replay, Serve, View, Make}
use Rattle.room_server.specs.Promised.{KeepsPromises}
use Rattle.room_server.specs.Answers.{Answer, answer_to, client_answer, make_answer, refusal, usage}
use Rattle.room_server.specs.Summaries.{summary_text}
use Rattle.room_server.specs.Turns.{end_line, print_of, printed}
use Rattle.room_server.specs.Views.{client_of}

-- the status of the process
abbrev pub status_of : Ending → ℕ
status_of Done = 0
status_of Usage = 2
status_of Refused = 3
status_of ReadFailed = 4
status_of WriteFailed = 5
status_of Memory = 7

-- ---- what a call that writes leaves

-- all of the output was taken, or where the call failed a prefix of it
abbrev pub Writes : {T E : Type 0} → Option (List ℕ) → Option (List ℕ) → List ℕ → Result T E → Type 0
Writes before after output (Ok x) = Takes before after output
Writes before after output (Err e) = TakesPrefix before after output

-- a count of faults didn't fall, rose where the sink failed, and is as it was where it didn't
pub record HasWriteCause {T : Type 0} (before now : ℕ) (result : Result T WriteFault) : Type 0 where
  pub later : before ≤ now
  pub failed : IsErrOf result fault.Failed → Rose before now
  pub quiet : (IsErrOf result fault.Failed → ⊥) → now ≡ before

-- ---- how a command ends

-- the ending of a command that was to end so where all was written
abbrev pub ended_as : {T : Type 0} → Result T WriteFault → Ending → Ending
ended_as (Ok x) whole = whole
ended_as (Err fault.Failed) whole = WriteFailed
ended_as (Err fault.Memory) whole = Memory

-- it wrote the whole answer and ends as the answer says, or a prefix of it
abbrev pub EndsAs : Answer → Option (List ℕ) → Option (List ℕ) → Ending → Type 0
EndsAs a before after WriteFailed = TakesPrefix before after a.output
EndsAs a before after Memory = TakesPrefix before after a.output
EndsAs a before after e = (e ≡ a.ending) × Takes before after a.output

-- the text was read: all of the source's bytes, or more than 16 MiB of them
abbrev pub ReadsText : Option (List ℕ) → Option (List ℕ) → List ℕ → Type 0
ReadsText before after text = Reads before after text × (length text ≤ 2 ^ 24 → ReadsAll before after text)

-- how a command ends that reads a text: it was read and its answer is written; or reading failed, and nothing is written
abbrev pub ReadEnds : Task → Option (List ℕ) → Option (List ℕ) → Option (List ℕ) → Option (List ℕ) → Ending → Type 0
ReadEnds task left0 left1 taken0 taken1 ReadFailed = taken1 ≡ taken0
ReadEnds task left0 left1 taken0 taken1 Memory =
    (taken1 ≡ taken0) ⊎ ((text : List ℕ) × ReadsText left0 left1 text × EndsAs (answer_to task text) taken0 taken1 Memory)
ReadEnds task left0 left1 taken0 taken1 e = (text : List ℕ) × ReadsText left0 left1 text × EndsAs (answer_to task text) taken0 taken1 e

-- how the program ends: a command by its text, one that reads none by its words, and other words with the usage line
abbrev pub IsEnded : Option Task → Option (List ℕ) → Option (List ℕ) → Option (List ℕ) → Option (List ℕ) → Ending → Type 0
IsEnded None left0 left1 taken0 taken1 e = EndsAs usage taken0 taken1 e
IsEnded (Some (Make seed rounds)) left0 left1 taken0 taken1 e = EndsAs (make_answer seed rounds) taken0 taken1 e
IsEnded (Some task) left0 left1 taken0 taken1 e = ReadEnds task left0 left1 taken0 taken1 e

-- ---- what the statuses say

-- the source was read to its end, its bytes are the text of a schedule, the sink took exactly what is printed of it, the
-- three promises hold of its events, and what is printed is the text of a print, which `view` takes where it isn't too long
pub record IsReplayed (left0 left1 taken0 taken1 : Option (List ℕ)) : Type 0 where
  pub schedule : Schedule
  pub fit : is_schedule schedule ≡ true
  pub short : length (schedule_text schedule) ≤ 2 ^ 24
  pub read : ReadsAll left0 left1 (schedule_text schedule)
  pub took : Takes taken0 taken1 (printed schedule)
  pub promises : KeepsPromises schedule
  pub print : IsPrintText (printed schedule) (print_of schedule)
  pub viewed : (conn : ℕ) → length (printed schedule) ≤ 2 ^ 24 → answer_to (View conn) (printed schedule) ≡ client_answer (client_of conn (print_of schedule))

-- the source was read to its end, its bytes are what a replay prints, the client of the connection refuses none of its
-- frames, and the sink took exactly its rows and `end`
pub record IsViewed (conn : ℕ) (left0 left1 taken0 taken1 : Option (List ℕ)) : Type 0 where
  pub print : Print
  pub fit : is_print print ≡ true
  pub short : length (print_text print) ≤ 2 ^ 24
  pub read : ReadsAll left0 left1 (print_text print)
  pub client : Client
  pub is : client_of conn print ≡ Ok client
  pub took : Takes taken0 taken1 (rows_text client.rows ++ end_line)

-- the sink took exactly the summary of the made schedule's run
abbrev pub IsMade : ℕ → ℕ → Option (List ℕ) → Option (List ℕ) → Type 0
IsMade seed rounds taken0 taken1 = Takes taken0 taken1 (summary_text (generated seed rounds))

abbrev pub IsDone : Option Task → Option (List ℕ) → Option (List ℕ) → Option (List ℕ) → Option (List ℕ) → Type 0
IsDone (Some Replay) left0 left1 taken0 taken1 = IsReplayed left0 left1 taken0 taken1
IsDone (Some (View conn)) left0 left1 taken0 taken1 = IsViewed conn left0 left1 taken0 taken1
IsDone (Some (Make seed rounds)) left0 left1 taken0 taken1 = IsMade seed rounds taken0 taken1
IsDone (Some (Serve port count)) left0 left1 taken0 taken1 = ⊥
IsDone None left0 left1 taken0 taken1 = ⊥

-- a text was read, and the sink took exactly the line of its first fault, or of the first frame that is refused
pub record IsFaulty (task : Task) (left0 left1 taken0 taken1 : Option (List ℕ)) : Type 0 where
  pub text : List ℕ
  pub read : ReadsText left0 left1 text
  pub number : ℕ
  pub word : List ℕ
  pub fault : answer_to task text ≡ refusal number word
  pub took : Takes taken0 taken1 (refusal number word).output

-- only a command that reads a text refuses one
abbrev pub IsRefused : Option Task → Option (List ℕ) → Option (List ℕ) → Option (List ℕ) → Option (List ℕ) → Type 0
IsRefused (Some Replay) left0 left1 taken0 taken1 = IsFaulty Replay left0 left1 taken0 taken1
IsRefused (Some (View conn)) left0 left1 taken0 taken1 = IsFaulty (View conn) left0 left1 taken0 taken1
IsRefused (Some (Make seed rounds)) left0 left1 taken0 taken1 = ⊥
IsRefused (Some (Serve port count)) left0 left1 taken0 taken1 = ⊥
IsRefused None left0 left1 taken0 taken1 = ⊥

-- ---- which texts are answered

-- of at most 16 MiB a schedule's text; what a replay prints, of which the client of the connection refuses no frame
abbrev pub IsAnswered : Task → List ℕ → Type 0
IsAnswered Replay text = (length text ≤ 2 ^ 24) × ((s : Schedule) × IsScheduleText text s)
IsAnswered (View conn) text = (length text ≤ 2 ^ 24) × ((p : Print) × IsPrintText text p × ((c : Client) × (client_of conn p ≡ Ok c)))
IsAnswered (Make seed rounds) text = Unit {0}
IsAnswered (Serve port count) text = ⊥

-- the count rose neither at the source nor at the sink
abbrev pub IsQuiet : ℕ → ℕ → ℕ → ℕ → Type 0
IsQuiet read0 read1 write0 write1 = (Rose read0 read1 → ⊥) × (Rose write0 write1 → ⊥)
