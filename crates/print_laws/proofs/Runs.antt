-- What the run of a schedule prints is the text of its print.
use Rattle.std.proofs.Common.{◌≡◌, ℕ, suc, ◌==◌, true, List, [], ◌∷◌, ◌++◌, length, map, codes, Option, refl, sym, ap, ◌∙◌, eq-eqb, append-nil}
use Rattle.std.specs.List.{flat_map, list_all}
use Rattle.std.proofs.lemmas.Bool.{and_parts, and_from}
use Rattle.std.proofs.lemmas.List.Elements.{All-nil}
use Rattle.std.proofs.lemmas.Grind.{flat_map-append}
use Rattle.lists.proofs.Passing.{all_append}
use Rattle.schema_model.specs.Classes.{Schema, is_kept}
use Rattle.hub_model.specs.declared.event.HubEvent.{HubEvent}
use Rattle.hub_model.specs.declared.event.HubOut.{HubOut}
use Rattle.hub_model.specs.HubStep.{hub_step, outs_from}
use Rattle.hub_model.specs.HubValues.{new_hub}
use Rattle.hub_model.specs.Requests.{Said, read_request}
use Rattle.life_model.specs.HubLives.{HubRun, run_step}
use Rattle.hub_promises.proofs.GoodHubs.{GoodHub}
use Rattle.hub_promises.proofs.HubSteps.{step_good}
use Rattle.hub_promises.proofs.HubsKept.{new_good}
use Rattle.text_model.specs.declared.schedule.Schedule.{Schedule}
use Rattle.text_model.specs.Events.{is_event}
use Rattle.text_model.specs.Marks.{line, lines}
use Rattle.text_model.specs.Outputs.{out_line, out_words}
use Rattle.text_model.specs.OutLines.{are_numbered, is_out, print_text}
use Rattle.text_model.specs.SchemaLines.{is_spelled, lines_of, schema_text}
use Rattle.print_laws.specs.Printed.{RunsPrint, numbered, print_with, rules_by, run_outs, text_with}
use Rattle.print_laws.proofs.EventsCome.{Parts, event_comes, parts_of}
use Rattle.print_laws.proofs.HubSteps.{NeatHub, next_neat, outs_fit}

-- ---- a run

runs_fit : (said : List ℕ → Option Said) (schema : Schema) (x : HubRun) (es : List HubEvent) → is_kept schema ≡ true → list_all is_event es ≡ true → GoodHub schema x → NeatHub schema x.hub
    → list_all is_out (outs_from (rules_by said) x.hub es) ≡ true
runs_fit said schema x [] kept told g n = refl
runs_fit said schema x (e ∷ es) kept told g n =
    let p = and_parts (is_event e) (list_all is_event es) told in
    let come = event_comes e p.0 in
    all_append is_out (hub_step (rules_by said) x.hub e).1 (outs_from (rules_by said) (hub_step (rules_by said) x.hub e).0 es) (outs_fit said schema x e kept come p.0 g n)
    (runs_fit said schema (run_step (rules_by said) x e) es kept p.1 (step_good (λ defs target body. read_request defs target (said body)) schema x e kept come g) (next_neat said schema x e kept come p.0 g n))

run_fits : (said : List ℕ → Option Said) (s : Schedule) → Parts s → list_all is_out (run_outs said s) ≡ true
run_fits said s p =
    runs_fit said s.schema (record { hub = new_hub s.schema s.process s.defs; lives = [] }) s.events p.kept p.events (new_good s.schema s.process s.defs p.forms)
    (record { process = p.process; names = p.names; conns = refl; rooms = All-nil _ })

-- ---- its print

are_numbered_so : (n : ℕ) (os : List HubOut) → are_numbered n (numbered n os) ≡ true
are_numbered_so n [] = refl
are_numbered_so n (o ∷ os) = and_from (n == n) (are_numbered (suc n) (numbered (suc n) os)) (eq-eqb n n refl) (are_numbered_so (suc n) os)

fit_so : (n : ℕ) (os : List HubOut) → list_all is_out os ≡ true → list_all (λ (o : ℕ × HubOut). is_out o.1) (numbered n os) ≡ true
fit_so n [] h = h
fit_so n (o ∷ os) h =
    let p = and_parts (is_out o) (list_all is_out os) h in
    and_from (is_out o) (list_all (λ (o : ℕ × HubOut). is_out o.1) (numbered (suc n) os)) p.0 (fit_so (suc n) os p.1)

lines_so : (n : ℕ) (os : List HubOut) → lines (map (λ (o : ℕ × HubOut). out_words o.1) (numbered n os)) ≡ flat_map out_line os
lines_so n [] = refl
lines_so n (o ∷ os) = ap (λ t. out_line o ++ t) (lines_so (suc n) os)

text_so : (s : Schedule) (outs : List HubOut) → text_with s outs ≡ print_text (print_with s outs)
text_so s outs =
    let first : ℕ = suc (length (lines_of s.schema)) in
    let own = map (λ (o : ℕ × HubOut). out_words o.1) (numbered first outs) in
    let end : List (List (List ℕ)) = (codes "end" ∷ []) ∷ [] in
    let both : lines (own ++ end) ≡ flat_map out_line outs ++ line (codes "end" ∷ []) =
    flat_map-append line own end ∙ (ap (λ t. t ++ lines end) (lines_so first outs) ∙ ap (λ t. flat_map out_line outs ++ t) (append-nil (line (codes "end" ∷ [])))) in
    ap (λ t. schema_text s.schema ++ t) (sym both)

pub replayed_is_print : RunsPrint
replayed_is_print said s h =
    let p = parts_of s h in
    let outs = run_outs said s in
    let first : ℕ = suc (length (lines_of s.schema)) in
    (and_from (is_spelled s.schema) _ p.spelled (and_from (are_numbered first (numbered first outs)) _ (are_numbered_so first outs) (fit_so first outs (run_fits said s p))), text_so s outs)
