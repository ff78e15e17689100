-- What a text that was read says, by the laws of the text.
use Rattle.std.proofs.Common.{◌≡◌, ℕ, suc, ◌+◌, add-one, ap₂, Option, None, Bool, true, false, cond, List, [], length, Result, Ok, Err, refl, sym, ap, ◌∙◌}
use Rattle.std.specs.Prelude.{IfOk}
use Rattle.std.specs.List.{list_any}
use Rattle.schema_model.specs.Classes.{Schema}
use Rattle.schema_model.specs.Reading.{◌>>=◌}
use Rattle.text_model.specs.declared.fault.SchemaFault.{SchemaFault}
use Rattle.text_model.specs.declared.schedule.Print.{Print}
use Rattle.text_model.specs.declared.schedule.Schedule.{Schedule}
use Rattle.text_model.specs.declared.schedule.ScheduleFault.{ScheduleFault}
use Rattle.text_model.specs.declared.schedule.ScheduleFault.TheVariants.{Line, Memory}
use Rattle.text_model.specs.Lines.{behind_lines, lines_in}
use Rattle.text_model.specs.OutLines.{IsPrintText, read_print_text}
use Rattle.text_model.specs.Schedules.{Fault, IsScheduleText, behind, behind_schema, heading_from, is_root_line, read_schedule_text, schema_of_lines, schema_part, with_schema}
use Rattle.text_model.proofs.PrintLaws.{print_is_read, read_is_print}
use Rattle.text_model.proofs.ScheduleLaws.{read_is_schedule, schedule_is_read}
use Rattle.text_model.specs.declared.schedule.Word.{Word}
use Rattle.schedule_text.specs.declared.fault.LineFault.{LineFault}
use Rattle.schedule_text.specs.declared.fault.LineFault.TheVariants as fault
use Rattle.schedule_text.specs.Tells.{IsAnswer, Tells, fault_at, parted}
use Rattle.schedule_text.specs.Reads.{Reads}

-- what is read of a schema, and what goes on behind it
abbrev Begun : Type 0
Begun = ℕ × Schema × List (List ℕ)

abbrev begun : ℕ → Schema → List (List ℕ) → Result Begun Fault
begun n s ls = Ok (n, s, ls)

abbrev goes_on : {A : Type 0} → (ℕ → Schema → List (List ℕ) → Result A Fault) → Begun → Result A Fault
goes_on f x = f x.0 x.1 x.2

behind_on : {A : Type 0} (r : Result Schema SchemaFault) (n : ℕ) (ls : List (List ℕ)) (f : ℕ → Schema → List (List ℕ) → Result A Fault)
    → behind r (λ s. f n s ls) ≡ (behind r (λ s. begun n s ls) >>= goes_on f)
behind_on (Ok s) n ls f = refl
behind_on (Err e) n ls f = refl

parted_on : {A : Type 0} (text : List ℕ) (f : ℕ → Schema → List (List ℕ) → Result A Fault) → with_schema (lines_in text) (behind_lines text) f ≡ (with_schema (lines_in text) (behind_lines text) begun >>= goes_on f)
parted_on text f = by_root (list_any is_root_line (lines_in text))
  where
    ls : List (List ℕ)
    ls = lines_in text

    rest : List ℕ
    rest = behind_lines text

    by_root : (b : Bool)
        → cond b (behind (schema_of_lines (schema_part ls) []) (λ s. f (suc (length (schema_part ls))) s (behind_schema ls))) (behind (schema_of_lines ls rest) (λ s. f (suc (length ls)) s []))
        ≡ (cond b (behind (schema_of_lines (schema_part ls) []) (λ s. begun (suc (length (schema_part ls))) s (behind_schema ls))) (behind (schema_of_lines ls rest) (λ s. begun (suc (length ls)) s [])) >>= goes_on f)
    by_root true = behind_on (schema_of_lines (schema_part ls) []) (suc (length (schema_part ls))) (behind_schema ls) f
    by_root false = behind_on (schema_of_lines ls rest) (suc (length ls)) [] f

-- a text whose schema was read
pub schedule_on : (text behind_it : List ℕ) (n : ℕ) (s : Schema) → parted text ≡ Ok (suc n, s, lines_in behind_it) → behind_lines behind_it ≡ behind_lines text
    → read_schedule_text text ≡ heading_from (n + 1) s (lines_in behind_it) (behind_lines behind_it)
schedule_on text behind_it n s part rest =
    parted_on text (λ n s ls. heading_from n s ls (behind_lines text))
    ∙ (ap (λ r. r >>= goes_on (λ n s ls. heading_from n s ls (behind_lines text))) part ∙ ap₂ (λ k t. heading_from k s (lines_in behind_it) t) (sym (add-one n)) (sym rest))

-- the fault of a line that isn't of its form
pub told_at : {A B : Type 0} (f : LineFault) (n : ℕ) (w : Word) (o : Option B) (there : Result A Fault) → Reads (Err f) o → (o ≡ None → there ≡ Err (n, w)) → Tells (Err (fault_at f n w)) there
told_at fault.NotOfForm n w o there none is = is none
told_at fault.Memory n w o there none is = tt

-- what is answered is the schedule whose text it is
pub found : (text : List ℕ) (r : Result Schedule ScheduleFault) → Tells r (read_schedule_text text) → IfOk r (λ s. IsScheduleText text s)
found text (Ok s) h = read_is_schedule text s h
found text (Err f) h = tt

pub found_print : (text : List ℕ) (r : Result Print ScheduleFault) → Tells r (read_print_text text) → IfOk r (λ p. IsPrintText text p)
found_print text (Ok p) h = read_is_print text p h
found_print text (Err f) h = tt

-- such a text gets no other answer
pub answered : {A : Type 0} (x : A) (r : Result A ScheduleFault) (there : Result A Fault) → Tells r there → there ≡ Ok x → IsAnswer x r
answered x (Ok y) there h is = (let e : Ok y ≡ Ok x = sym h ∙ is in cc)
answered x (Err Memory) there h is = refl
answered x (Err (Line n w)) there h is = absurd (let e : Err (n, w) ≡ Ok x = sym h ∙ is in cc)

pub only : (text : List ℕ) (r : Result Schedule ScheduleFault) → Tells r (read_schedule_text text) → (s : Schedule) → IsScheduleText text s → IsAnswer s r
only text r h s is = answered s r (read_schedule_text text) h (schedule_is_read text s is)

pub only_print : (text : List ℕ) (r : Result Print ScheduleFault) → Tells r (read_print_text text) → (p : Print) → IsPrintText text p → IsAnswer p r
only_print text r h p is = answered p r (read_print_text text) h (print_is_read text p is)
