-- The print of a schedule's run: its schema, and each output with the number of its line. Ours.
use Rattle.std.specs.Prelude.{◌≡◌, ℕ, suc, true, List, [], ◌∷◌, ◌++◌, Option, length, codes}
use Rattle.std.specs.List.{flat_map}
use Rattle.hub_model.specs.declared.event.HubOut.{HubOut}
use Rattle.hub_model.specs.HubStep.{Rules, outs_from}
use Rattle.hub_model.specs.HubValues.{new_hub}
use Rattle.hub_model.specs.Requests.{Said, read_request}
use Rattle.life_model.specs.HubPromises.{rules_of}
use Rattle.text_model.specs.declared.schedule.Print.{Print}
use Rattle.text_model.specs.declared.schedule.Schedule.{Schedule}
use Rattle.text_model.specs.Marks.{line}
use Rattle.text_model.specs.Outputs.{out_line}
use Rattle.text_model.specs.OutLines.{IsPrintText}
use Rattle.text_model.specs.Schedules.{is_schedule}
use Rattle.text_model.specs.SchemaLines.{lines_of, schema_text}

-- outputs with the numbers of their lines, from a line of this number on
abbrev pub numbered : ℕ → List HubOut → List (ℕ × HubOut)
numbered n [] = []
numbered n (o ∷ os) = (n, o) ∷ numbered (suc n) os

-- the outputs of a run behind the lines of the schema
abbrev pub print_with : Schedule → List HubOut → Print
print_with s outs = record { schema = s.schema; outs = numbered (suc (length (lines_of s.schema))) outs }

-- the schema lines, the lines of outputs, and `end`
abbrev pub text_with : Schedule → List HubOut → List ℕ
text_with s outs = schema_text s.schema ++ (flat_map out_line outs ++ line (codes "end" ∷ []))

-- the rules of a hub of rooms, where bodies are taken to say this
abbrev pub rules_by : (List ℕ → Option Said) → Rules
rules_by said = rules_of (λ defs target body. read_request defs target (said body))

-- what the run of a schedule gives
abbrev pub run_outs : (List ℕ → Option Said) → Schedule → List HubOut
run_outs said s = outs_from (rules_by said) (new_hub s.schema s.process s.defs) s.events

-- the text of the run of any schedule that has a text is that of its print
abbrev pub RunsPrint : Type 0
RunsPrint = (said : List ℕ → Option Said) (s : Schedule) → is_schedule s ≡ true → IsPrintText (text_with s (run_outs said s)) (print_with s (run_outs said s))
