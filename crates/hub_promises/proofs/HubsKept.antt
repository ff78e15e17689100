-- Hubs keep their promises, over every list of events that may come.
use Rattle.std.proofs.Common.{◌≡◌, ℕ, Bool, ◌&&◌, All, true, false, List, [], ◌∷◌, take, Option, Some, None, is_some, Ok, Result, refl, sym, ap, ◌∙◌, arith}
use Rattle.std.specs.Prelude.{Contains, option_and_then}
use Rattle.std.specs.List.{fold, list_all}
use Rattle.std.proofs.lemmas.Bool.{and_parts}
use Rattle.std.proofs.lemmas.List.Elements.{All-nil, All-contains, All-take}
use Rattle.std.proofs.lemmas.List.Sums.{AllPass-from_list_all, list_all-from_AllPass}
use Rattle.schema_model.specs.Classes.{Schema, is_kept}
use Rattle.wire_model.specs.Decoded.{seen}
use Rattle.state_model.specs.declared.row.RowEntry.{RowEntry}
use Rattle.room_model.specs.declared.definition.RoomDef.{RoomDef}
use Rattle.room_model.specs.Definitions.{is_room_def}
use Rattle.room_model.specs.Sessions.{session_of}
use Rattle.room_model.specs.Room.{RoomValue}
use Rattle.hub_model.specs.declared.event.HubEvent.{HubEvent}
use Rattle.hub_model.specs.declared.request.AskFault.{AskFault}
use Rattle.hub_model.specs.declared.request.Request.{Request}
use Rattle.hub_model.specs.HubValues.{HubRoom, is_named, room_of, new_hub}
use Rattle.hub_model.specs.Kinds.{event_has_kept_kind}
use Rattle.life_model.specs.Lives.{is_at, is_live_stage}
use Rattle.life_model.specs.LatestFrames.{latest_frames}
use Rattle.life_model.specs.Followed.{takes_given, client_given}
use Rattle.life_model.specs.RoomLives as room_lives
use Rattle.life_model.specs.Sent.{sent}
use Rattle.life_model.specs.HubLives.{HubLife, HubRun, in_room, session_in, run_step, hub_run, is_live}
use Rattle.life_model.specs.HubPromises.{rules_of, may_come, CanRun, HubKeeps, HubFollows, HubsKeep, HubsFollow, HubsGiveEqualBytes}
use Rattle.room_promises.proofs.GoodLives.{GoesOn, GoodLife}
use Rattle.room_promises.proofs.Follows.{Followed}
use Rattle.room_promises.proofs.EventsFollow.{life_follows}
use Rattle.room_promises.proofs.RoomsKept.{life_sees}
use Rattle.lists.proofs.SameBytes.{same_bytes}
use Rattle.lists.proofs.Passing.{found_passes}
use Rattle.hub_laws.proofs.Different.{found_in}
use Rattle.hub_promises.proofs.GoodHubs.{GoodPlace, GoodEnd, GoodHub}
use Rattle.hub_promises.proofs.HubSteps.{step_good}
use Rattle.hub_promises.proofs.LivesFollow.{step_follows}

-- ---- a good hub keeps the promises

-- what holds of a good life of a room that is live holds of a live life
life_here : (schema : Schema) (x : HubRun) (l : HubLife) → GoodHub schema x → Contains x.lives l → is_live x.hub l ≡ true → (P : Type 0)
    → ((rows : List RowEntry) (r : RoomValue) → GoodLife schema rows r.sessions (in_room l) → room_lives.is_live r (in_room l) ≡ true → P) → P
life_here schema x l g there live P shows = by_room (room_of x.hub l.room) refl
  where
    lasts : l.lasts ≡ true
    lasts = (and_parts l.lasts (is_at is_live_stage (session_in x.hub l.room l.session)) live).0

    end : GoodEnd schema x.hub l
    end = All-contains (GoodEnd schema x.hub) x.lives l g.lives there

    by_room : (o : Option HubRoom) → room_of x.hub l.room ≡ o → P
    by_room None found = (let some = end.there lasts in let empty : is_some (room_of x.hub l.room) ≡ false = ap is_some found in cc)
    by_room (Some r) found =
        let place = All-contains (GoodPlace schema x.hub.defs x.lives) x.hub.rooms r g.rooms (found_in (is_named l.room) x.hub.rooms r found) in
        let on : GoesOn schema place.last.rows r.room.sessions (in_room l) = All-contains (λ (l : HubLife). l.lasts ≡ true → l.room ≡ r.id → GoesOn schema place.last.rows r.room.sessions (in_room l)) x.lives l place.goes_on there lasts
        (sym (same_bytes r.id l.room (found_passes (is_named l.room) x.hub.rooms r found))) in
        shows place.last.rows r.room (record { equal = end.equal; goes_on = λ h. on })
        (sym (ap (λ o. l.lasts && is_at is_live_stage (option_and_then (λ (r : HubRoom). session_of r.room.sessions l.session) o)) found) ∙ live)

-- each life's record is followed
abbrev AreFollowed : Schema → HubRun → Type 0
AreFollowed schema x = All (λ (l : HubLife). Followed schema l.entries) x.lives

good_keeps : (schema : Schema) (x : HubRun) → GoodHub schema x → HubKeeps schema x
good_keeps schema x g = record {
  sees = λ l there live. life_here schema x l g there live (seen schema (latest_frames l.outputs) ≡ Ok l.view) (λ rows r good is. life_sees schema rows (record { room = r; lives = [] }) (in_room l) good is);
  equal = λ l there. (All-contains (GoodEnd schema x.hub) x.lives l g.lives there).equal;
  places = λ r there. (All-contains (GoodPlace schema x.hub.defs x.lives) x.hub.rooms r g.rooms there).room.within;
}

-- and where its lives are followed, what is promised of the clients
good_follows : (schema : Schema) (x : HubRun) → GoodHub schema x → AreFollowed schema x → HubFollows schema x
good_follows schema x g all = record {
  taken = λ l there. ap (takes_given schema) ((good_keeps schema x g).equal l there) ∙ (followed l there).taken;
  follows = λ l there live. life_here schema x l g there live ((client_given schema l.outputs).rows ≡ l.view) (λ rows r good is. life_follows schema rows r (in_room l) good (followed l there) is);
}
  where
    followed : (l : HubLife) → Contains x.lives l → Followed schema l.entries
    followed l there = All-contains (λ (l : HubLife). Followed schema l.entries) x.lives l all there

-- ---- every run

runs_good : (read : List RoomDef → List ℕ → List ℕ → Result Request AskFault) (schema : Schema) (x : HubRun) (es : List HubEvent) → is_kept schema ≡ true → list_all may_come es ≡ true
    → GoodHub schema x → GoodHub schema (fold (run_step (rules_of read)) x es)
runs_good read schema x [] kept come g = g
runs_good read schema x (e ∷ es) kept come g =
    let c = and_parts (may_come e) (list_all may_come es) come in
    runs_good read schema (run_step (rules_of read) x e) es kept c.1 (step_good read schema x e kept c.0 g)

runs_follow : (read : List RoomDef → List ℕ → List ℕ → Result Request AskFault) (schema : Schema) (x : HubRun) (es : List HubEvent) → is_kept schema ≡ true → list_all may_come es ≡ true → list_all event_has_kept_kind es ≡ true
    → GoodHub schema x → AreFollowed schema x → AreFollowed schema (fold (run_step (rules_of read)) x es)
runs_follow read schema x [] kept come kinds g all = all
runs_follow read schema x (e ∷ es) kept come kinds g all =
    let c = and_parts (may_come e) (list_all may_come es) come in
    let k = and_parts (event_has_kept_kind e) (list_all event_has_kept_kind es) kinds in
    runs_follow read schema (run_step (rules_of read) x e) es kept c.1 k.1 (step_good read schema x e kept c.0 g) (step_follows read schema x e kept c.0 k.0 g all)

pub new_good : (schema : Schema) (process : List ℕ) (defs : List RoomDef) → list_all is_room_def defs ≡ true → GoodHub schema (record { hub = new_hub schema process defs; lives = [] })
new_good schema process defs forms = record {
  schema_is = refl;
  early = omega arith;
  forms = forms;
  differ = tt;
  numbers = tt;
  steps = λ room session. refl;
  rooms = All-nil _;
  lives = All-nil _;
}

-- the hub behind a run, from which it may be made
run_good : (read : List RoomDef → List ℕ → List ℕ → Result Request AskFault) (schema : Schema) (process : List ℕ) (defs : List RoomDef) (events : List HubEvent) → CanRun schema defs events
    → GoodHub schema (hub_run (rules_of read) (new_hub schema process defs) events)
run_good read schema process defs events can = runs_good read schema (record { hub = new_hub schema process defs; lives = [] }) events can.schema_kept can.come (new_good schema process defs can.forms)

-- of the first events of a run
first_all : (test : HubEvent → Bool) (n : ℕ) (events : List HubEvent) → list_all test events ≡ true → list_all test (take n events) ≡ true
first_all test n events all = list_all-from_AllPass test (take n events) (All-take (λ e. test e ≡ true) n events (AllPass-from_list_all test events all))

first_can : (schema : Schema) (defs : List RoomDef) (events : List HubEvent) (n : ℕ) → CanRun schema defs events → CanRun schema defs (take n events)
first_can schema defs events n can = record { schema_kept = can.schema_kept; forms = can.forms; come = first_all may_come n events can.come }

pub hubs_keep : HubsKeep
hubs_keep read schema process defs events can n =
    good_keeps schema (hub_run (rules_of read) (new_hub schema process defs) (take n events)) (run_good read schema process defs (take n events) (first_can schema defs events n can))

pub hubs_follow : HubsFollow
hubs_follow read schema process defs events can kinds n =
    let first = first_can schema defs events n can in
    good_follows schema (hub_run (rules_of read) (new_hub schema process defs) (take n events)) (run_good read schema process defs (take n events) first)
    (runs_follow read schema (record { hub = new_hub schema process defs; lives = [] }) (take n events) can.schema_kept first.come (first_all event_has_kept_kind n events kinds) (new_good schema process defs can.forms) (All-nil _))

pub hubs_give_equal_bytes : HubsGiveEqualBytes
hubs_give_equal_bytes read read_other schema process other defs others events happened can may k l there here same =
    (good_keeps schema (hub_run (rules_of read) (new_hub schema process defs) events) (run_good read schema process defs events can)).equal k there
    ∙ (ap (sent schema) same ∙ sym ((good_keeps schema (hub_run (rules_of read_other) (new_hub schema other others) happened) (run_good read_other schema other others happened may)).equal l here))
