-- Every schedule that has a text can be replayed, the three promises hold of its events, and what is printed is a print.
use Rattle.std.proofs.Common.{◌≡◌, ◌&&◌, ◌||◌, not, ℕ, zero, suc, true, List, [], ◌∷◌, length, map, take, Option, Some, None, Result, refl, sym, ap, ap₂, subst, ◌∙◌, nat_le}
use Rattle.std.specs.Prelude.{IfSome}
use Rattle.std.specs.List.{list_all, list_any}
use Rattle.std.specs.Str.{bytes_eq}
use Rattle.std.proofs.lemmas.Bool.{and_parts, and_from}
use Rattle.hub_core.specs.Held.{may_take, most_defs, names_differ}
use Rattle.hub_model.specs.declared.event.HubEvent.{HubEvent}
use Rattle.hub_model.specs.declared.event.HubEvent.TheVariants as event
use Rattle.hub_model.specs.Kinds.{event_has_kept_kind}
use Rattle.hub_model.specs.Requests.{read_request}
use Rattle.hub_model.specs.declared.request.AskFault.{AskFault}
use Rattle.hub_model.specs.declared.request.Request.{Request}
use Rattle.hub_promises.proofs.HubsKept.{hubs_keep, hubs_follow}
use Rattle.life_model.specs.HubPromises.{HubKeeps, HubFollows, may_come}
use Rattle.life_model.specs.HubPromises as promises
use Rattle.life_model.specs.HubLives.{hub_run}
use Rattle.matchmaker.specs.Bodies.{said_by}
use Rattle.room_model.specs.Definitions.{is_room_def}
use Rattle.room_model.specs.declared.definition.RoomDef.{RoomDef}
use Rattle.room_model.specs.declared.event.Act.{Act}
use Rattle.state_model.specs.Sound.{keys_differ}
use Rattle.text_model.proofs.Spaced.{all_pass}
use Rattle.text_model.specs.declared.schedule.Schedule.{Schedule}
use Rattle.text_model.specs.Acts.{is_act}
use Rattle.text_model.specs.Events.{is_event, is_number}
use Rattle.text_model.specs.Marks.{is_id}
use Rattle.text_model.specs.Schedules.{IsScheduleText, is_schedule}
use Rattle.text_model.specs.OutLines.{IsPrintText}
use Rattle.text_model.specs.WordForms.{are_bytes, is_text}
use Rattle.print_laws.proofs.EventsCome.{Parts, acts_may, event_comes, event_kept, parts_of}
use Rattle.print_laws.proofs.Runs.{replayed_is_print}
use Rattle.room_server.specs.Replays.{CanReplay}
use Rattle.room_server.specs.Promised.{Keeps, KeepsPromises, KeepsTaken}
use Rattle.room_server.specs.Turns.{print_of, printed, rules, start}

-- ---- events

event_taken : (e : HubEvent) → is_event e ≡ true → may_take e ≡ true
event_taken (event.At ms) h = refl
event_taken (event.Ask conn target body room session) h =
    (and_parts (are_bytes body) (is_id room && is_id session) (and_parts (is_text target) (are_bytes body && (is_id room && is_id session)) (and_parts (is_number conn) (is_text target && (are_bytes body && (is_id room && is_id session))) h).1).1).1
event_taken (event.Bad conn) h = refl
event_taken (event.Opening conn target fresh) h = (and_parts (is_text target) (is_id fresh) (and_parts (is_number conn) (is_text target && is_id fresh) h).1).1
event_taken (event.Frame conn bytes) h = refl
event_taken (event.Lost conn) h = refl
event_taken (event.Act room a) h = acts_may a (and_parts (is_id room) (is_act a) h).1
event_taken (event.Tick room) h = refl

-- ---- definitions

any_name : (name : List ℕ) (ds : List RoomDef) → list_any (bytes_eq name) (map (λ (d : RoomDef). d.name) ds) ≡ list_any (λ (e : RoomDef). bytes_eq name e.name) ds
any_name name [] = refl
any_name name (d ∷ ds) = ap (λ b. bytes_eq name d.name || b) (any_name name ds)

all_differ : (ds : List RoomDef) → keys_differ (map (λ (d : RoomDef). d.name) ds) ≡ names_differ ds
all_differ [] = refl
all_differ (d ∷ ds) = ap₂ (λ a b. not a && b) (any_name d.name ds) (all_differ ds)

-- ---- a schedule

pub schedule_replays : (s : Schedule) → is_schedule s ≡ true → CanReplay s
schedule_replays s h =
    let p = parts_of s h in
    record {
      process = p.process;
      defs = and_from (nat_le (length s.defs) most_defs) _ p.few (and_from (list_all is_room_def s.defs) (names_differ s.defs) p.forms (sym (all_differ s.defs) ∙ p.differ));
      events = all_pass is_event may_take s.events event_taken p.events;
    }

-- ---- the promises

pub schedule_keeps : (s : Schedule) → is_schedule s ≡ true → KeepsPromises s
schedule_keeps s h n = (hubs_keep read s.schema s.process s.defs s.events can n, hubs_follow read s.schema s.process s.defs s.events can (all_pass is_event event_has_kept_kind s.events event_kept p.events) n)
  where
    p : Parts s
    p = parts_of s h

    read : List RoomDef → List ℕ → List ℕ → Result Request AskFault
    read defs target body = read_request defs target (said_by body)

    can : promises.CanRun s.schema s.defs s.events
    can = record { schema_kept = p.kept; forms = p.forms; come = all_pass is_event may_come s.events event_comes p.events }

-- ---- what is printed

pub schedule_prints : (s : Schedule) → is_schedule s ≡ true → IsPrintText (printed s) (print_of s)
schedule_prints s h = replayed_is_print said_by s h

-- ---- what was taken whole

-- the first events of the first ones
taken_again : {X : Type 0} (m n : ℕ) (xs : List X) → (k : ℕ) × (take m (take n xs) ≡ take k xs)
taken_again zero n xs = (0, refl)
taken_again (suc m) zero xs = (0, refl)
taken_again (suc m) (suc n) [] = (0, refl)
taken_again (suc m) (suc n) (x ∷ xs) = let rest = taken_again m n xs in (suc rest.0, ap (λ ys. x ∷ ys) rest.1)

-- promises of events are promises of the first so many of them
first_keeps : (s : Schedule) (es : List HubEvent) (count : ℕ) → Keeps s es → Keeps s (take count es)
first_keeps s es count keeps n =
    let t = taken_again n count es in
    subst (λ xs. HubKeeps s.schema (hub_run rules (start s) xs) × HubFollows s.schema (hub_run rules (start s) xs)) (sym t.1) (keeps t.0)

-- whatever was taken, they hold of the events whose outputs were taken whole
pub taken_keep : (left taken0 taken1 : Option (List ℕ)) → IfSome left (λ text. (s : Schedule) → IsScheduleText text s → KeepsTaken taken0 taken1 s)
taken_keep None taken0 taken1 = tt
taken_keep (Some text) taken0 taken1 = λ s is count took. first_keeps s s.events count (schedule_keeps s is.0)
