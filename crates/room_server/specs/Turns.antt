-- The hub of a schedule, what is printed of its events, and the print that this is. Ours.
use Rattle.std.specs.Prelude.{ℕ, List, [], ◌∷◌, ◌++◌, codes}
use Rattle.std.specs.List.{flat_map}
use Rattle.hub_core.specs.Takes.{rules_of}
use Rattle.hub_model.specs.declared.event.HubEvent.{HubEvent}
use Rattle.hub_model.specs.HubStep.{Rules, outs_from}
use Rattle.hub_model.specs.HubValues.{HubValue, new_hub}
use Rattle.print_laws.specs.Printed.{print_with}
use Rattle.room_model.specs.Room.{room_step}
use Rattle.text_model.specs.declared.schedule.Print.{Print}
use Rattle.text_model.specs.declared.schedule.Schedule.{Schedule}
use Rattle.text_model.specs.Marks.{line}
use Rattle.text_model.specs.Outputs.{out_line}
use Rattle.text_model.specs.SchemaLines.{schema_text}

-- the rules of a hub of rooms
abbrev pub rules : Rules
rules = rules_of room_step

-- the hub of a schedule before its events
abbrev pub start : Schedule → HubValue
start s = new_hub s.schema s.process s.defs

-- the lines of what a hub gives for these events
abbrev pub outs_text : HubValue → List HubEvent → List ℕ
outs_text hub events = flat_map out_line (outs_from rules hub events)

abbrev pub end_line : List ℕ
end_line = line (codes "end" ∷ [])

-- what is printed: the schema lines, the outputs of the run of its events, and `end`
abbrev pub printed : Schedule → List ℕ
printed s = schema_text s.schema ++ (outs_text (start s) s.events ++ end_line)

-- the same as a print: the schema, and each output with the number of its line
abbrev pub print_of : Schedule → Print
print_of s = print_with s (outs_from rules (start s) s.events)
