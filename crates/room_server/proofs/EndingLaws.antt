-- What each ending says of the source and the sink.
use Rattle.std.proofs.Common.{◌≡◌, ◌≤◌, ◌<◌, ◌^◌, ℕ, Bool, true, false, List, [], ◌∷◌, ◌++◌, length, length-append, Option, Some, None, refl, sym, ap, subst, ◌∙◌, ltb, ltb-true, ltb-false, le-ltb, lt-ltb, arith, cond, lit<, codes, inl, inr, Contains}
use Rattle.std.specs.Prelude.{◌⊎◌, Result, Ok, Err, IfSome, nat_lt}
use Rattle.outside.specs.Faults.{Rose}
use Rattle.outside.specs.Reads.{ReadsAll}
use Rattle.outside.specs.Streams.{Takes, TakesPrefix}
use Rattle.outside.proofs.TakeLaws.{whole_prefix, no_prefix}
use Rattle.life_model.specs.Clients.{Client}
use Rattle.life_model.specs.declared.client.ClientFault.{ClientFault}
use Rattle.text_model.specs.declared.schedule.Print.{Print}
use Rattle.text_model.specs.declared.schedule.Schedule.{Schedule}
use Rattle.text_model.specs.OutLines.{read_print_text}
use Rattle.text_model.specs.RowLines.{rows_text}
use Rattle.text_model.specs.Schedules.{Fault, is_schedule, read_schedule_text, schedule_text}
use Rattle.text_model.proofs.PrintLaws.{print_is_read, read_is_print}
use Rattle.text_model.proofs.ScheduleLaws.{schedule_is_read, read_is_schedule}
use Rattle.room_server.proofs.ReplayedLaws.{schedule_keeps, schedule_prints}
use Rattle.room_server.specs.declared.ending.Ending.{Ending}
use Rattle.room_server.specs.declared.ending.Ending.TheVariants.{Done, Usage, Refused, ReadFailed, WriteFailed, Memory}
use Rattle.room_server.specs.declared.output.WriteFault.{WriteFault}
use Rattle.room_server.specs.declared.output.WriteFault.TheVariants as fault
use Rattle.room_server.specs.declared.task.Task.{Task}
use Rattle.room_server.specs.declared.task.Task.TheVariants.{Replay, Serve, View, Make}
use Rattle.room_server.specs.Answers.{Answer, answer_for, answer_to, client_answer, done, make_answer, part_word, print_answer, refusal, schedule_answer, text_answer, usage}
use Rattle.room_server.specs.Endings.{status_of, ended_as, Writes, EndsAs, ReadsText, ReadEnds, IsAnswered, IsDone, IsEnded, IsFaulty, IsRefused, IsReplayed, IsViewed, IsQuiet}
use Rattle.room_server.specs.Frames.{frame_words}
use Rattle.room_server.specs.Turns.{end_line, print_of, printed}
use Rattle.room_server.specs.Views.{client_of}
use Rattle.room_server.specs.Words.{usage_line}

-- each status is one of the six
pub status_listed : (e : Ending) → Contains (0 ∷ 2 ∷ 3 ∷ 4 ∷ 5 ∷ 7 ∷ []) (status_of e)
status_listed Done = (0, lit< tt, refl)
status_listed Usage = (1, lit< tt, refl)
status_listed Refused = (2, lit< tt, refl)
status_listed ReadFailed = (3, lit< tt, refl)
status_listed WriteFailed = (4, lit< tt, refl)
status_listed Memory = (5, lit< tt, refl)

-- ---- the answer to a text

-- an answer is done, with this output, or a refusal
pub data Sort (a : Answer) : Type 0 where
  WholeOf : (output : List ℕ) → a ≡ done output → Sort a
  FaultOf : (number : ℕ) (word : List ℕ) → a ≡ refusal number word → Sort a

client_sort : (r : Result Client (ℕ × ClientFault)) → Sort (client_answer r)
client_sort (Ok c) = WholeOf (rows_text c.rows ++ end_line) refl
client_sort (Err f) = FaultOf f.0 (frame_words f.1) refl

print_sort : (conn : ℕ) (r : Result Print Fault) → Sort (print_answer conn r)
print_sort conn (Ok p) = client_sort (client_of conn p)
print_sort conn (Err f) = FaultOf f.0 (part_word f.1) refl

schedule_sort : (r : Result Schedule Fault) → Sort (schedule_answer r)
schedule_sort (Ok s) = WholeOf (printed s) refl
schedule_sort (Err f) = FaultOf f.0 (part_word f.1) refl

text_sort : (task : Task) (text : List ℕ) → Sort (text_answer task text)
text_sort Replay text = schedule_sort (read_schedule_text text)
text_sort (Serve port count) text = schedule_sort (read_schedule_text text)
text_sort (View conn) text = print_sort conn (read_print_text text)
text_sort (Make seed rounds) text = schedule_sort (read_schedule_text text)

sort_of : (task : Task) (text : List ℕ) → Sort (answer_to task text)
sort_of task text =
    let go : (b : Bool) → Sort (cond b (refusal 0 (codes "long")) (text_answer task text)) = elim [ true ↦ FaultOf 0 (codes "long") refl | false ↦ text_sort task text ] in
    go (nat_lt (2 ^ 24) (length text))

-- a text that isn't too long is looked at
answer_short : (task : Task) (text : List ℕ) → length text ≤ 2 ^ 24 → answer_to task text ≡ text_answer task text
answer_short task text short = ap (λ b. cond b (refusal 0 (codes "long")) (text_answer task text)) (le-ltb (2 ^ 24) (length text) short)

-- one whose answer is done isn't too long
short_done : (task : Task) (text : List ℕ) → (answer_to task text).ending ≡ Done → length text ≤ 2 ^ 24
short_done task text is =
    let go : (b : Bool) → nat_lt (2 ^ 24) (length text) ≡ b → (cond b (refusal 0 (codes "long")) (text_answer task text)).ending ≡ Done → length text ≤ 2 ^ 24 = elim [
      | true ↦ λ test done. absurd cc
      | false ↦ λ test done. ltb-false (2 ^ 24) (length text) test
    ] in go (nat_lt (2 ^ 24) (length text)) refl is

-- ---- which texts are answered

-- the answer to a schedule, and of what answers are done
schedule_there : (r : Result Schedule Fault) → (schedule_answer r).ending ≡ Done → (s : Schedule) × (r ≡ Ok s)
schedule_there (Ok s) is = (s, refl)
schedule_there (Err f) is = absurd cc

client_there : (r : Result Client (ℕ × ClientFault)) → (client_answer r).ending ≡ Done → (c : Client) × (r ≡ Ok c)
client_there (Ok c) is = (c, refl)
client_there (Err f) is = absurd cc

print_there : (conn : ℕ) (r : Result Print Fault) → (print_answer conn r).ending ≡ Done → (p : Print) × (r ≡ Ok p) × ((c : Client) × (client_of conn p ≡ Ok c))
print_there conn (Ok p) is = (p, refl, client_there (client_of conn p) is)
print_there conn (Err f) is = absurd cc

-- a command that reads
abbrev pub Reading : Task → Type 0
Reading Replay = Unit {0}
Reading (View conn) = Unit {0}
Reading (Make seed rounds) = ⊥
Reading (Serve port count) = ⊥

answered_done : (task : Task) (text : List ℕ) → Reading task → (answer_to task text).ending ≡ Done → IsAnswered task text
answered_done Replay text reads is =
    let short = short_done Replay text is in
    let there = schedule_there (read_schedule_text text) (sym (ap (λ (a : Answer). a.ending) (answer_short Replay text short)) ∙ is) in
    (short, (there.0, read_is_schedule text there.0 there.1))
answered_done (View conn) text reads is =
    let short = short_done (View conn) text is in
    let there = print_there conn (read_print_text text) (sym (ap (λ (a : Answer). a.ending) (answer_short (View conn) text short)) ∙ is) in
    (short, (there.0, read_is_print text there.0 there.1, there.2))
answered_done (Serve port count) text reads is = absurd reads
answered_done (Make seed rounds) text reads is = absurd reads

done_answered : (task : Task) (text : List ℕ) → Reading task → IsAnswered task text → (answer_to task text).ending ≡ Done
done_answered Replay text reads (short, (s, is)) = ap (λ (a : Answer). a.ending) (answer_short Replay text short ∙ ap schedule_answer (schedule_is_read text s is))
done_answered (View conn) text reads (short, (p, is, (c, there))) =
    ap (λ (a : Answer). a.ending) (answer_short (View conn) text short ∙ (ap (print_answer conn) (print_is_read text p is) ∙ ap client_answer there))
done_answered (Serve port count) text reads a = absurd reads
done_answered (Make seed rounds) text reads a = absurd reads

-- ---- the endings

as_answer : (a b : Answer) (t0 t1 : Option (List ℕ)) (e : Ending) → b ≡ a → EndsAs a t0 t1 e → EndsAs b t0 t1 e
as_answer a b t0 t1 e same h = let P : Answer → Type 0 = λ x. EndsAs x t0 t1 e in subst P (sym same) h

-- what was to be written was written, or a prefix of it
pub written_ends : {T : Type 0} (whole : Ending) (output : List ℕ) (r : Result T WriteFault) (t0 t1 : Option (List ℕ)) (e : Ending) → (whole ≡ Done) ⊎ (whole ≡ Refused) → Writes t0 t1 output r → e ≡ ended_as r whole
    → EndsAs (record { ending = whole; output = output }) t0 t1 e
written_ends Done output (Ok x) t0 t1 e ok wrote is = let P : Ending → Type 0 = λ x. EndsAs (done output) t0 t1 x in subst P (sym is) (refl, wrote)
written_ends Refused output (Ok x) t0 t1 e ok wrote is = let P : Ending → Type 0 = λ x. EndsAs (record { ending = Refused; output = output }) t0 t1 x in subst P (sym is) (refl, wrote)
written_ends Usage output (Ok x) t0 t1 e (inl h) wrote is = absurd cc
written_ends Usage output (Ok x) t0 t1 e (inr h) wrote is = absurd cc
written_ends ReadFailed output (Ok x) t0 t1 e (inl h) wrote is = absurd cc
written_ends ReadFailed output (Ok x) t0 t1 e (inr h) wrote is = absurd cc
written_ends WriteFailed output (Ok x) t0 t1 e (inl h) wrote is = absurd cc
written_ends WriteFailed output (Ok x) t0 t1 e (inr h) wrote is = absurd cc
written_ends Memory output (Ok x) t0 t1 e (inl h) wrote is = absurd cc
written_ends Memory output (Ok x) t0 t1 e (inr h) wrote is = absurd cc
written_ends whole output (Err fault.Failed) t0 t1 e ok wrote is = let P : Ending → Type 0 = λ x. EndsAs (record { ending = whole; output = output }) t0 t1 x in subst P (sym is) wrote
written_ends whole output (Err fault.Memory) t0 t1 e ok wrote is = let P : Ending → Type 0 = λ x. EndsAs (record { ending = whole; output = output }) t0 t1 x in subst P (sym is) wrote

-- ---- what the statuses say

-- what is printed of a schedule is answered as what its clients make of it
print_answered : (s : Schedule) → is_schedule s ≡ true → (conn : ℕ) → length (printed s) ≤ 2 ^ 24 → answer_to (View conn) (printed s) ≡ client_answer (client_of conn (print_of s))
print_answered s is conn short = answer_short (View conn) (printed s) short ∙ ap (print_answer conn) (print_is_read (printed s) (print_of s) (schedule_prints s is))

-- 0 says that the text is a schedule's, and that it is printed
replayed_text : (l0 l1 t0 t1 : Option (List ℕ)) (text : List ℕ) → ReadsText l0 l1 text → EndsAs (answer_to Replay text) t0 t1 Done → IsAnswered Replay text → IsReplayed l0 l1 t0 t1
replayed_text l0 l1 t0 t1 text read ends (short, (s, is)) =
    let answer : answer_to Replay text ≡ done (printed s) = answer_short Replay text short ∙ ap schedule_answer (schedule_is_read text s is) in
    let few : length (schedule_text s) ≤ 2 ^ 24 = subst (λ t. length t ≤ 2 ^ 24) is.1 short in
    record {
      schedule = s;
      fit = is.0;
      short = few;
      read = subst (λ t. ReadsAll l0 l1 t) is.1 (read.1 short);
      took = subst (λ (a : Answer). Takes t0 t1 a.output) answer ends.1;
      promises = schedule_keeps s is.0;
      print = schedule_prints s is.0;
      viewed = print_answered s is.0;
    }

replayed : (l0 l1 t0 t1 : Option (List ℕ)) → ReadEnds Replay l0 l1 t0 t1 Done → IsReplayed l0 l1 t0 t1
replayed l0 l1 t0 t1 (text, read, ends) = replayed_text l0 l1 t0 t1 text read ends (answered_done Replay text tt (sym ends.0))

-- 0 says that it is what a replay prints, and that the client's rows are written
viewed_text : (conn : ℕ) (l0 l1 t0 t1 : Option (List ℕ)) (text : List ℕ) → ReadsText l0 l1 text → EndsAs (answer_to (View conn) text) t0 t1 Done → IsAnswered (View conn) text → IsViewed conn l0 l1 t0 t1
viewed_text conn l0 l1 t0 t1 text read ends (short, (p, is, (c, there))) =
    let answer : answer_to (View conn) text ≡ done (rows_text c.rows ++ end_line) = answer_short (View conn) text short ∙ (ap (print_answer conn) (print_is_read text p is) ∙ ap client_answer there) in
    record {
      print = p;
      fit = is.0;
      short = subst (λ t. length t ≤ 2 ^ 24) is.1 short;
      read = subst (λ t. ReadsAll l0 l1 t) is.1 (read.1 short);
      client = c;
      is = there;
      took = subst (λ (a : Answer). Takes t0 t1 a.output) answer ends.1;
    }

viewed : (conn : ℕ) (l0 l1 t0 t1 : Option (List ℕ)) → ReadEnds (View conn) l0 l1 t0 t1 Done → IsViewed conn l0 l1 t0 t1
viewed conn l0 l1 t0 t1 (text, read, ends) = viewed_text conn l0 l1 t0 t1 text read ends (answered_done (View conn) text tt (sym ends.0))

-- 3 says that it has a fault, and that its line is written
faulty_of : (task : Task) (l0 l1 t0 t1 : Option (List ℕ)) (text : List ℕ) → ReadsText l0 l1 text → EndsAs (answer_to task text) t0 t1 Refused → Sort (answer_to task text) → IsFaulty task l0 l1 t0 t1
faulty_of task l0 l1 t0 t1 text read ends (WholeOf output is) = absurd (let e : Refused ≡ Done = ends.0 ∙ ap (λ (a : Answer). a.ending) is in cc)
faulty_of task l0 l1 t0 t1 text read ends (FaultOf number word is) = record {
  text = text;
  read = read;
  number = number;
  word = word;
  fault = is;
  took = (let P : Answer → Type 0 = λ a. Takes t0 t1 a.output in subst P is ends.1);
}

faulty : (task : Task) (l0 l1 t0 t1 : Option (List ℕ)) → ReadEnds task l0 l1 t0 t1 Refused → IsFaulty task l0 l1 t0 t1
faulty task l0 l1 t0 t1 (text, read, ends) = faulty_of task l0 l1 t0 t1 text read ends (sort_of task text)

-- ---- what was written in any case

same_long : (task : Task) (all : List ℕ) (l1 : Option (List ℕ)) (text : List ℕ) → ReadsText (Some all) l1 text → ltb (2 ^ 24) (length text) ≡ true → answer_to task all ≡ answer_to task text
same_long task all l1 text read test =
    let longer : 2 ^ 24 < length all = omega (arith, ltb-true (2 ^ 24) (length text) test, ap length read.0.2, length-append text read.0.0) in
    let answer : Bool → List ℕ → Answer = λ b t. cond b (refusal 0 (codes "long")) (text_answer task t) in
    ap (λ b. answer b all) (lt-ltb (2 ^ 24) (length all) longer) ∙ ap (λ b. answer b text) (sym test)

-- what was read of a source's text has the answer of all of it
same_answer : (task : Task) (all : List ℕ) (l1 : Option (List ℕ)) (text : List ℕ) → ReadsText (Some all) l1 text → answer_to task all ≡ answer_to task text
same_answer task all l1 text read =
    let go : (b : Bool) → ltb (2 ^ 24) (length text) ≡ b → answer_to task all ≡ answer_to task text = elim [
      | true ↦ λ test. same_long task all l1 text read test
      | false ↦ λ test. ap (answer_to task) (read.1 (ltb-false (2 ^ 24) (length text) test)).1
    ] in go (ltb (2 ^ 24) (length text)) refl

prefix_of_ends : (a : Answer) (t0 t1 : Option (List ℕ)) (e : Ending) → EndsAs a t0 t1 e → TakesPrefix t0 t1 a.output
prefix_of_ends a t0 t1 Done h = whole_prefix t0 t1 a.output h.1
prefix_of_ends a t0 t1 Usage h = whole_prefix t0 t1 a.output h.1
prefix_of_ends a t0 t1 Refused h = whole_prefix t0 t1 a.output h.1
prefix_of_ends a t0 t1 ReadFailed h = whole_prefix t0 t1 a.output h.1
prefix_of_ends a t0 t1 WriteFailed h = h
prefix_of_ends a t0 t1 Memory h = h

-- the sink took a prefix of what is called for
abbrev pub Prefix : (List ℕ → Answer) → Option (List ℕ) → Option (List ℕ) → Option (List ℕ) → Type 0
Prefix answer l0 t0 t1 = (text : List ℕ) × IfSome l0 (λ all. all ≡ text) × TakesPrefix t0 t1 (answer text).output

prefix_nothing : (answer : List ℕ → Answer) (l0 t0 t1 : Option (List ℕ)) → t1 ≡ t0 → Prefix answer l0 t0 t1
prefix_nothing answer None t0 t1 same = ([], tt, (let P : Option (List ℕ) → Type 0 = λ t. TakesPrefix t0 t (answer []).output in subst P (sym same) (no_prefix t0 (answer []).output)))
prefix_nothing answer (Some all) t0 t1 same = (all, refl, (let P : Option (List ℕ) → Type 0 = λ t. TakesPrefix t0 t (answer all).output in subst P (sym same) (no_prefix t0 (answer all).output)))

-- where the text doesn't matter
prefix_alone : (a : Answer) (l0 t0 t1 : Option (List ℕ)) (e : Ending) → EndsAs a t0 t1 e → Prefix (λ text. a) l0 t0 t1
prefix_alone a None t0 t1 e h = ([], tt, prefix_of_ends a t0 t1 e h)
prefix_alone a (Some all) t0 t1 e h = (all, refl, prefix_of_ends a t0 t1 e h)

prefix_text : (task : Task) (l0 l1 t0 t1 : Option (List ℕ)) (text : List ℕ) (e : Ending) → ReadsText l0 l1 text → EndsAs (answer_to task text) t0 t1 e → Prefix (answer_to task) l0 t0 t1
prefix_text task None l1 t0 t1 text e read ends = (text, tt, prefix_of_ends (answer_to task text) t0 t1 e ends)
prefix_text task (Some all) l1 t0 t1 text e read ends =
    (all, refl, prefix_of_ends (answer_to task all) t0 t1 e (as_answer (answer_to task text) (answer_to task all) t0 t1 e (same_answer task all l1 text read) ends))

prefix_read : (task : Task) (l0 l1 t0 t1 : Option (List ℕ)) (e : Ending) → ReadEnds task l0 l1 t0 t1 e → Prefix (answer_to task) l0 t0 t1
prefix_read task l0 l1 t0 t1 Done (text, read, ends) = prefix_text task l0 l1 t0 t1 text Done read ends
prefix_read task l0 l1 t0 t1 Usage (text, read, ends) = prefix_text task l0 l1 t0 t1 text Usage read ends
prefix_read task l0 l1 t0 t1 Refused (text, read, ends) = prefix_text task l0 l1 t0 t1 text Refused read ends
prefix_read task l0 l1 t0 t1 ReadFailed h = prefix_nothing (answer_to task) l0 t0 t1 h
prefix_read task l0 l1 t0 t1 WriteFailed (text, read, ends) = prefix_text task l0 l1 t0 t1 text WriteFailed read ends
prefix_read task l0 l1 t0 t1 Memory (inl h) = prefix_nothing (answer_to task) l0 t0 t1 h
prefix_read task l0 l1 t0 t1 Memory (inr (text, read, ends)) = prefix_text task l0 l1 t0 t1 text Memory read ends

pub prefix_ended : (task : Option Task) (l0 l1 t0 t1 : Option (List ℕ)) (e : Ending) → IsEnded task l0 l1 t0 t1 e → Prefix (answer_for task) l0 t0 t1
prefix_ended None l0 l1 t0 t1 e h = prefix_alone usage l0 t0 t1 e h
prefix_ended (Some Replay) l0 l1 t0 t1 e h = prefix_read Replay l0 l1 t0 t1 e h
prefix_ended (Some (Serve port count)) l0 l1 t0 t1 e h = prefix_read (Serve port count) l0 l1 t0 t1 e h
prefix_ended (Some (View conn)) l0 l1 t0 t1 e h = prefix_read (View conn) l0 l1 t0 t1 e h
prefix_ended (Some (Make seed rounds)) l0 l1 t0 t1 e h = prefix_alone (make_answer seed rounds) l0 t0 t1 e h

-- ---- what each status says

-- no words call for what isn't built
abbrev pub Built : Option Task → Type 0
Built (Some (Serve port count)) = ⊥
Built task = Unit {0}

done_ended : (task : Option Task) → Built task → (l0 l1 t0 t1 : Option (List ℕ)) → IsEnded task l0 l1 t0 t1 Done → IsDone task l0 l1 t0 t1
done_ended None built l0 l1 t0 t1 h = absurd (let same = h.0 in cc)
done_ended (Some Replay) built l0 l1 t0 t1 h = replayed l0 l1 t0 t1 h
done_ended (Some (View conn)) built l0 l1 t0 t1 h = viewed conn l0 l1 t0 t1 h
done_ended (Some (Make seed rounds)) built l0 l1 t0 t1 h = h.1
done_ended (Some (Serve port count)) built l0 l1 t0 t1 h = built

refused_ended : (task : Option Task) → Built task → (l0 l1 t0 t1 : Option (List ℕ)) → IsEnded task l0 l1 t0 t1 Refused → IsRefused task l0 l1 t0 t1
refused_ended None built l0 l1 t0 t1 h = absurd (let same = h.0 in cc)
refused_ended (Some Replay) built l0 l1 t0 t1 h = faulty Replay l0 l1 t0 t1 h
refused_ended (Some (View conn)) built l0 l1 t0 t1 h = faulty (View conn) l0 l1 t0 t1 h
refused_ended (Some (Make seed rounds)) built l0 l1 t0 t1 h = absurd (let same = h.0 in cc)
refused_ended (Some (Serve port count)) built l0 l1 t0 t1 h = built

pub ended_done : (task : Option Task) → Built task → (l0 l1 t0 t1 : Option (List ℕ)) (e : Ending) (status : ℕ) → IsEnded task l0 l1 t0 t1 e → status ≡ status_of e → status ≡ 0 → IsDone task l0 l1 t0 t1
ended_done task built l0 l1 t0 t1 Done status h is zero = done_ended task built l0 l1 t0 t1 h
ended_done task built l0 l1 t0 t1 Usage status h is zero = absurd (omega (arith, is, zero))
ended_done task built l0 l1 t0 t1 Refused status h is zero = absurd (omega (arith, is, zero))
ended_done task built l0 l1 t0 t1 ReadFailed status h is zero = absurd (omega (arith, is, zero))
ended_done task built l0 l1 t0 t1 WriteFailed status h is zero = absurd (omega (arith, is, zero))
ended_done task built l0 l1 t0 t1 Memory status h is zero = absurd (omega (arith, is, zero))

pub ended_refused : (task : Option Task) → Built task → (l0 l1 t0 t1 : Option (List ℕ)) (e : Ending) (status : ℕ) → IsEnded task l0 l1 t0 t1 e → status ≡ status_of e → status ≡ 3 → IsRefused task l0 l1 t0 t1
ended_refused task built l0 l1 t0 t1 Done status h is three = absurd (omega (arith, is, three))
ended_refused task built l0 l1 t0 t1 Usage status h is three = absurd (omega (arith, is, three))
ended_refused task built l0 l1 t0 t1 Refused status h is three = refused_ended task built l0 l1 t0 t1 h
ended_refused task built l0 l1 t0 t1 ReadFailed status h is three = absurd (omega (arith, is, three))
ended_refused task built l0 l1 t0 t1 WriteFailed status h is three = absurd (omega (arith, is, three))
ended_refused task built l0 l1 t0 t1 Memory status h is three = absurd (omega (arith, is, three))

-- no answer of a command is a usage
no_usage : (a : Answer) → Usage ≡ a.ending → Sort a → ⊥
no_usage a is (WholeOf output whole) = (let same : Usage ≡ Done = is ∙ ap (λ (a : Answer). a.ending) whole in cc)
no_usage a is (FaultOf number word fault) = (let same : Usage ≡ Refused = is ∙ ap (λ (a : Answer). a.ending) fault in cc)

usage_ended : (task : Option Task) (l0 l1 t0 t1 : Option (List ℕ)) → IsEnded task l0 l1 t0 t1 Usage → (task ≡ None) × Takes t0 t1 usage_line
usage_ended None l0 l1 t0 t1 h = (refl, h.1)
usage_ended (Some Replay) l0 l1 t0 t1 (text, read, ends) = absurd (no_usage (answer_to Replay text) ends.0 (sort_of Replay text))
usage_ended (Some (Serve port count)) l0 l1 t0 t1 (text, read, ends) = absurd (no_usage (answer_to (Serve port count) text) ends.0 (sort_of (Serve port count) text))
usage_ended (Some (View conn)) l0 l1 t0 t1 (text, read, ends) = absurd (no_usage (answer_to (View conn) text) ends.0 (sort_of (View conn) text))
usage_ended (Some (Make seed rounds)) l0 l1 t0 t1 h = absurd (no_usage (make_answer seed rounds) h.0 (WholeOf (make_answer seed rounds).output refl))

pub ended_usage : (task : Option Task) (l0 l1 t0 t1 : Option (List ℕ)) (e : Ending) (status : ℕ) → IsEnded task l0 l1 t0 t1 e → status ≡ status_of e → status ≡ 2 → (task ≡ None) × Takes t0 t1 usage_line
ended_usage task l0 l1 t0 t1 Done status h is two = absurd (omega (arith, is, two))
ended_usage task l0 l1 t0 t1 Usage status h is two = usage_ended task l0 l1 t0 t1 h
ended_usage task l0 l1 t0 t1 Refused status h is two = absurd (omega (arith, is, two))
ended_usage task l0 l1 t0 t1 ReadFailed status h is two = absurd (omega (arith, is, two))
ended_usage task l0 l1 t0 t1 WriteFailed status h is two = absurd (omega (arith, is, two))
ended_usage task l0 l1 t0 t1 Memory status h is two = absurd (omega (arith, is, two))

-- ---- what decides the status where nothing failed

-- the ending of an answer that was written whole
ending_of : (task : Task) (all : List ℕ) (l1 t0 t1 : Option (List ℕ)) (e : Ending) (text : List ℕ) → ReadsText (Some all) l1 text → e ≡ (answer_to task text).ending → e ≡ (answer_to task all).ending
ending_of task all l1 t0 t1 e text read is = is ∙ ap (λ (a : Answer). a.ending) (sym (same_answer task all l1 text read))

-- the status is that of the answer to the source's text, or memory ran out
decided : (task : Task) (all : List ℕ) (l1 t0 t1 : Option (List ℕ)) (e : Ending) (rf0 rf1 wf0 wf1 : ℕ) → ReadEnds task (Some all) l1 t0 t1 e
    → (e ≡ ReadFailed → Rose rf0 rf1) → (e ≡ WriteFailed → Rose wf0 wf1) → IsQuiet rf0 rf1 wf0 wf1 → (e ≡ (answer_to task all).ending) ⊎ (e ≡ Memory)
decided task all l1 t0 t1 Done rf0 rf1 wf0 wf1 h read write quiet = inl (ending_of task all l1 t0 t1 Done h.0 h.1 h.2.0)
decided task all l1 t0 t1 Usage rf0 rf1 wf0 wf1 h read write quiet = inl (ending_of task all l1 t0 t1 Usage h.0 h.1 h.2.0)
decided task all l1 t0 t1 Refused rf0 rf1 wf0 wf1 h read write quiet = inl (ending_of task all l1 t0 t1 Refused h.0 h.1 h.2.0)
decided task all l1 t0 t1 ReadFailed rf0 rf1 wf0 wf1 h read write quiet = absurd (quiet.0 (read refl))
decided task all l1 t0 t1 WriteFailed rf0 rf1 wf0 wf1 h read write quiet = absurd (quiet.1 (write refl))
decided task all l1 t0 t1 Memory rf0 rf1 wf0 wf1 h read write quiet = inr refl

-- the status that an answer has where it was written
status_is : (e : Ending) (a : Answer) (expected : Ending) (status : ℕ) → status ≡ status_of e → a.ending ≡ expected → (e ≡ a.ending) ⊎ (e ≡ Memory) → (status ≡ status_of expected) ⊎ (status ≡ 7)
status_is e a expected status is same (inl h) = inl (is ∙ ap status_of (h ∙ same))
status_is e a expected status is same (inr h) = inr (is ∙ ap status_of h)

-- an answer that isn't done is a refusal
refused_if : (task : Task) (text : List ℕ) → ((answer_to task text).ending ≡ Done → ⊥) → Sort (answer_to task text) → (answer_to task text).ending ≡ Refused
refused_if task text none (WholeOf output is) = absurd (none (ap (λ (a : Answer). a.ending) is))
refused_if task text none (FaultOf number word is) = ap (λ (a : Answer). a.ending) is

read_ended : (task : Task) → Reading task → (l0 l1 t0 t1 : Option (List ℕ)) (e : Ending) → IsEnded (Some task) l0 l1 t0 t1 e → ReadEnds task l0 l1 t0 t1 e
read_ended Replay reads l0 l1 t0 t1 e h = h
read_ended (View conn) reads l0 l1 t0 t1 e h = h
read_ended (Serve port count) reads l0 l1 t0 t1 e h = absurd reads
read_ended (Make seed rounds) reads l0 l1 t0 t1 e h = absurd reads

-- a command that reads none writes its answer, or memory runs out
alone_done : (a : Answer) (t0 t1 : Option (List ℕ)) (e : Ending) (wf0 wf1 : ℕ) → a.ending ≡ Done → EndsAs a t0 t1 e → (e ≡ WriteFailed → Rose wf0 wf1) → (Rose wf0 wf1 → ⊥) → (e ≡ Done) ⊎ (e ≡ Memory)
alone_done a t0 t1 Done wf0 wf1 is h write quiet = inl refl
alone_done a t0 t1 Usage wf0 wf1 is h write quiet = absurd (let e : Usage ≡ Done = h.0 ∙ is in cc)
alone_done a t0 t1 Refused wf0 wf1 is h write quiet = absurd (let e : Refused ≡ Done = h.0 ∙ is in cc)
alone_done a t0 t1 ReadFailed wf0 wf1 is h write quiet = absurd (let e : ReadFailed ≡ Done = h.0 ∙ is in cc)
alone_done a t0 t1 WriteFailed wf0 wf1 is h write quiet = absurd (quiet (write refl))
alone_done a t0 t1 Memory wf0 wf1 is h write quiet = inr refl

status_done : (e : Ending) (status : ℕ) → status ≡ status_of e → (e ≡ Done) ⊎ (e ≡ Memory) → (status ≡ 0) ⊎ (status ≡ 7)
status_done e status is (inl h) = inl (is ∙ ap status_of h)
status_done e status is (inr h) = inr (is ∙ ap status_of h)

done_of : (task : Task) → Built (Some task) → (all : List ℕ) (l1 t0 t1 : Option (List ℕ)) (e : Ending) (status rf0 rf1 wf0 wf1 : ℕ) → IsEnded (Some task) (Some all) l1 t0 t1 e → status ≡ status_of e
    → (e ≡ ReadFailed → Rose rf0 rf1) → (e ≡ WriteFailed → Rose wf0 wf1) → IsAnswered task all → IsQuiet rf0 rf1 wf0 wf1 → (status ≡ 0) ⊎ (status ≡ 7)
done_of Replay built all l1 t0 t1 e status rf0 rf1 wf0 wf1 h is read write a quiet =
    status_is e (answer_to Replay all) Done status is (done_answered Replay all tt a) (decided Replay all l1 t0 t1 e rf0 rf1 wf0 wf1 h read write quiet)
done_of (View conn) built all l1 t0 t1 e status rf0 rf1 wf0 wf1 h is read write a quiet =
    status_is e (answer_to (View conn) all) Done status is (done_answered (View conn) all tt a) (decided (View conn) all l1 t0 t1 e rf0 rf1 wf0 wf1 h read write quiet)
done_of (Make seed rounds) built all l1 t0 t1 e status rf0 rf1 wf0 wf1 h is read write a quiet =
    status_done e status is (alone_done (make_answer seed rounds) t0 t1 e wf0 wf1 refl h write quiet.1)
done_of (Serve port count) built all l1 t0 t1 e status rf0 rf1 wf0 wf1 h is read write a quiet = absurd built

refused_of : (task : Task) → Built (Some task) → (all : List ℕ) (l1 t0 t1 : Option (List ℕ)) (e : Ending) (status rf0 rf1 wf0 wf1 : ℕ) → IsEnded (Some task) (Some all) l1 t0 t1 e → status ≡ status_of e
    → (e ≡ ReadFailed → Rose rf0 rf1) → (e ≡ WriteFailed → Rose wf0 wf1) → (IsAnswered task all → ⊥) → IsQuiet rf0 rf1 wf0 wf1 → (status ≡ 3) ⊎ (status ≡ 7)
refused_of Replay built all l1 t0 t1 e status rf0 rf1 wf0 wf1 h is read write none quiet =
    status_is e (answer_to Replay all) Refused status is (refused_if Replay all (λ done. none (answered_done Replay all tt done)) (sort_of Replay all))
    (decided Replay all l1 t0 t1 e rf0 rf1 wf0 wf1 h read write quiet)
refused_of (View conn) built all l1 t0 t1 e status rf0 rf1 wf0 wf1 h is read write none quiet =
    status_is e (answer_to (View conn) all) Refused status is (refused_if (View conn) all (λ done. none (answered_done (View conn) all tt done)) (sort_of (View conn) all))
    (decided (View conn) all l1 t0 t1 e rf0 rf1 wf0 wf1 h read write quiet)
refused_of (Make seed rounds) built all l1 t0 t1 e status rf0 rf1 wf0 wf1 h is read write none quiet = absurd (none tt)
refused_of (Serve port count) built all l1 t0 t1 e status rf0 rf1 wf0 wf1 h is read write none quiet = absurd built

pub done_always : (task : Option Task) → Built task → (l0 l1 t0 t1 : Option (List ℕ)) (e : Ending) (status rf0 rf1 wf0 wf1 : ℕ) → IsEnded task l0 l1 t0 t1 e → status ≡ status_of e
    → (e ≡ ReadFailed → Rose rf0 rf1) → (e ≡ WriteFailed → Rose wf0 wf1) → (t : Task) → task ≡ Some t
    → IfSome l0 (λ text. IsAnswered t text → IsQuiet rf0 rf1 wf0 wf1 → (status ≡ 0) ⊎ (status ≡ 7))
done_always None built l0 l1 t0 t1 e status rf0 rf1 wf0 wf1 h is read write t same = absurd cc
done_always (Some task) built None l1 t0 t1 e status rf0 rf1 wf0 wf1 h is read write t same = tt
done_always (Some task) built (Some all) l1 t0 t1 e status rf0 rf1 wf0 wf1 h is read write t same =
    let one : task ≡ t = cc in
    subst (λ t. IsAnswered t all → IsQuiet rf0 rf1 wf0 wf1 → (status ≡ 0) ⊎ (status ≡ 7)) one (λ a quiet. done_of task built all l1 t0 t1 e status rf0 rf1 wf0 wf1 h is read write a quiet)

pub refused_always : (task : Option Task) → Built task → (l0 l1 t0 t1 : Option (List ℕ)) (e : Ending) (status rf0 rf1 wf0 wf1 : ℕ) → IsEnded task l0 l1 t0 t1 e → status ≡ status_of e
    → (e ≡ ReadFailed → Rose rf0 rf1) → (e ≡ WriteFailed → Rose wf0 wf1) → (t : Task) → task ≡ Some t
    → IfSome l0 (λ text. (IsAnswered t text → ⊥) → IsQuiet rf0 rf1 wf0 wf1 → (status ≡ 3) ⊎ (status ≡ 7))
refused_always None built l0 l1 t0 t1 e status rf0 rf1 wf0 wf1 h is read write t same = absurd cc
refused_always (Some task) built None l1 t0 t1 e status rf0 rf1 wf0 wf1 h is read write t same = tt
refused_always (Some task) built (Some all) l1 t0 t1 e status rf0 rf1 wf0 wf1 h is read write t same =
    let one : task ≡ t = cc in
    subst (λ t. (IsAnswered t all → ⊥) → IsQuiet rf0 rf1 wf0 wf1 → (status ≡ 3) ⊎ (status ≡ 7)) one (λ none quiet. refused_of task built all l1 t0 t1 e status rf0 rf1 wf0 wf1 h is read write none quiet)

pub made_always : (task : Option Task) (l0 l1 t0 t1 : Option (List ℕ)) (e : Ending) (status wf0 wf1 : ℕ) → IsEnded task l0 l1 t0 t1 e → status ≡ status_of e → (e ≡ WriteFailed → Rose wf0 wf1)
    → (seed rounds : ℕ) → task ≡ Some (Make seed rounds) → (Rose wf0 wf1 → ⊥) → (status ≡ 0) ⊎ (status ≡ 7)
made_always task l0 l1 t0 t1 e status wf0 wf1 h is write seed rounds same quiet =
    status_done e status is (alone_done (make_answer seed rounds) t0 t1 e wf0 wf1 refl (subst (λ task. IsEnded task l0 l1 t0 t1 e) same h) write quiet)
