-- The pieces that are written of a schedule are its text.
use Rattle.std.proofs.Common.{◌≡◌, ℕ, List, [], ◌∷◌, ◌++◌, codes, map, refl, sym, ap, ◌∙◌, append_assoc, append-nil}
use Rattle.std.specs.List.{flat_map}
use Rattle.std.proofs.lemmas.Grind.{flat_map-append}
use Rattle.hub_model.specs.declared.event.HubEvent.{HubEvent}
use Rattle.text_model.specs.declared.schedule.Schedule.{Schedule}
use Rattle.text_model.specs.DefLines.{def_words}
use Rattle.text_model.specs.Events.{event_line, event_words}
use Rattle.text_model.specs.Marks.{line, lines}
use Rattle.text_model.specs.Schedules.{IsScheduleText, schedule_text}
use Rattle.text_model.specs.SchemaLines.{schema_text}
use Rattle.text_model.proofs.ScheduleLaws.{schedule_is_read}
use Rattle.schedule_text.specs.Again.{WrittenIsRead, written}

events_lines : (es : List HubEvent) → flat_map event_line es ≡ lines (map event_words es)
events_lines [] = refl
events_lines (e ∷ es) = ap (λ rest. event_line e ++ rest) (events_lines es)

written_text : (s : Schedule) → written s ≡ schedule_text s
written_text s =
    let head : List (List (List ℕ)) = (codes "process" ∷ s.process ∷ []) ∷ map def_words s.defs in
    let tail : List (List (List ℕ)) = (codes "end" ∷ []) ∷ [] in
    let opened : List (List (List ℕ)) = (codes "events" ∷ []) ∷ (map event_words s.events ++ tail) in
    append_assoc (schema_text s.schema) (lines head) (line (codes "events" ∷ []) ++ (flat_map event_line s.events ++ line (codes "end" ∷ [])))
    ∙ ap (λ rest. schema_text s.schema ++ (lines head ++ (line (codes "events" ∷ []) ++ rest)))
    (ap (λ x. x ++ line (codes "end" ∷ [])) (events_lines s.events) ∙ (ap (λ x. lines (map event_words s.events) ++ x) (sym (append-nil (line (codes "end" ∷ [])))) ∙ sym (flat_map-append line (map event_words s.events) tail)))
    ∙ ap (λ rest. schema_text s.schema ++ rest) (sym (flat_map-append line head opened))

pub law : WrittenIsRead
law s fits =
    let is : IsScheduleText (written s) s = (fits, written_text s) in
    (is, schedule_is_read (written s) s is)
