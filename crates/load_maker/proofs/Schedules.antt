-- A schedule by its parts.
use Rattle.std.proofs.Common.{◌≡◌, List, ℕ, [], ◌++◌, ap, ap₂, ◌∙◌}
use Rattle.schema_model.specs.Classes.{Schema}
use Rattle.room_model.specs.declared.definition.RoomDef.{RoomDef}
use Rattle.hub_model.specs.declared.event.HubEvent.{HubEvent}
use Rattle.text_model.specs.declared.schedule.Schedule.{Schedule}

abbrev pub with_parts : List ℕ → Schema → List RoomDef → List HubEvent → Schedule
with_parts process schema defs events = record { schema = schema; process = process; defs = defs; events = events }

pub same_parts : (process : List ℕ) (a b : Schema) (ds es : List RoomDef) (xs ys : List HubEvent) → a ≡ b → ds ≡ es → xs ≡ ys → with_parts process a ds xs ≡ with_parts process b es ys
same_parts process a b ds es xs ys schema defs events = ap (λ s. with_parts process s ds xs) schema ∙ ap₂ (with_parts process b) defs events

-- what is pushed behind what was pushed to none
pub from_none : (none one last xs ys : List HubEvent) → none ≡ [] → one ≡ none ++ xs → last ≡ one ++ ys → last ≡ xs ++ ys
from_none none one last xs ys is first second = second ∙ ap (λ l. l ++ ys) (first ∙ ap (λ l. l ++ xs) is)
