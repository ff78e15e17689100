-- What holds of a hub and its lives holds after each event that may come.
use Rattle.std.proofs.Common.{◌≡◌, ℕ, ◌+◌, ◌^◌, ◌<◌, Bool, true, false, not, cond, ◌&&◌, List, [], ◌∷◌, ◌++◌, map, filter, length, All, Option, Some, None, is_some, Result, refl, sym, ap, subst, ◌∙◌}
use Rattle.std.specs.Prelude.{Contains, option_and_then}
use Rattle.std.specs.List.{find}
use Rattle.std.specs.Option.{option_map_or}
use Rattle.std.specs.Str.{bytes_eq}
use Rattle.std.proofs.lemmas.Bool.{and_parts}
use Rattle.std.proofs.lemmas.List.Elements.{All-nil, All-cons, All-append, All-map, All-filter, All-weaker, All-contains, All-contains_itself}
use Rattle.lists.proofs.SameBytes.{bytes_eq_self}
use Rattle.schema_model.specs.Classes.{Schema, is_kept}
use Rattle.room_model.specs.declared.definition.RoomDef.{RoomDef}
use Rattle.room_model.specs.declared.event.RoomEvent.TheVariants as happened
use Rattle.room_model.specs.Sessions.{session_of}
use Rattle.room_model.specs.Ledger.{is_full}
use Rattle.room_laws.proofs.SessionLists.{named_key}
use Rattle.hub_model.specs.declared.event.HubEvent.{HubEvent}
use Rattle.hub_model.specs.declared.event.HubEvent.TheVariants as event
use Rattle.hub_model.specs.declared.request.AskFault.{AskFault}
use Rattle.hub_model.specs.declared.request.Request.{Request}
use Rattle.hub_model.specs.HubValues.{HubRoom, is_named, room_of, def_of_room}
use Rattle.hub_model.specs.Dealt.{Dealt}
use Rattle.hub_model.specs.HubStep.{deals, all_dealt, is_needed, hub_step, moment_behind, event_if, event_in, reserved_in, decided}
use Rattle.life_model.specs.Sent.{sent}
use Rattle.life_model.specs.HubPromises.{rules_of, may_come}
use Rattle.life_model.specs.RoomLives.{is_in}
use Rattle.life_model.specs.HubLives.{HubLife, HubRun, in_room, new_life, lived, begun, run_step}
use Rattle.room_promises.proofs.GoodLives.{GoesOn, GoodLife}
use Rattle.hub_laws.proofs.Different.{found_in, named_own, differ_kept}
use Rattle.hub_promises.proofs.Deals.{rooms_for, dealt_to, dealt_room, dealt_id, Ready}
use Rattle.hub_laws.proofs.Asked.{request_reserves}
use Rattle.hub_promises.proofs.EventsFit.{moment_early}
use Rattle.hub_promises.proofs.Conns.{next_differ, next_steps, next_numbers}
use Rattle.hub_promises.proofs.Moves.{Moves, moves, lived_in}
use Rattle.hub_promises.proofs.GoodHubs.{GoodPlace, GoodEnd, GoodHub, place_of, ready}
use Rattle.hub_promises.proofs.LivesMove.{asked, asked_of_quiet, lived_on, equal_there, equal_gone, goes_on_there}

module _ (read : List RoomDef → List ℕ → List ℕ → Result Request AskFault) (schema : Schema) (x : HubRun) (e : HubEvent) (kept : is_kept schema ≡ true) (come : may_come e ≡ true) (g : GoodHub schema x) where
  abbrev rooms : List HubRoom
  rooms = rooms_for (rules_of read) x.hub e

  abbrev behind : HubRoom → Dealt
  behind r = dealt_to (rules_of read) x.hub e r

  abbrev ds : List Dealt
  ds = all_dealt (rules_of read) x.hub e

  abbrev next : HubRun
  next = run_step (rules_of read) x e

  abbrev can : Ready (rules_of read) x.hub e
  can = ready read schema x e kept come g

  place : (r : HubRoom) → Contains rooms r → GoodPlace schema x.hub.defs x.lives r
  place r there = place_of read schema x e kept come g r there

  move : (r : HubRoom) (there : Contains rooms r) → Moves schema (place r there).last r (deals (rules_of read) x.hub e r)
  move r there = moves schema (place r there).last r (deals (rules_of read) x.hub e r) kept (place r there).room (can.few r there)

  -- the room of an id is the only one
  room_found : (r : HubRoom) (id : List ℕ) → Contains rooms r → id ≡ r.id → find (is_named id) rooms ≡ Some r
  room_found r id there is = ap (λ n. find (is_named n) rooms) is ∙ named_own (λ (r : HubRoom). r.id) rooms r can.differ there

  -- ---- a life that goes on

  -- what is known of it as the event comes
  record Goes (l : HubLife) : Type 0 where
    equal : l.outputs ≡ sent schema l.entries
    good : (r : HubRoom) (there : Contains rooms r) → l.room ≡ r.id → GoodLife schema (move r there).next.rows (behind r).room.room.sessions (lived_in l (asked read x.hub e can l) r (deals (rules_of read) x.hub e r))

  -- what is shown of it behind the event
  record Went (l : HubLife) : Type 0 where
    end : GoodEnd schema next.hub l
    on : (r : HubRoom) (there : Contains rooms r) → l.lasts ≡ true → l.room ≡ (behind r).room.id → GoesOn schema (move r there).next.rows (behind r).room.room.sessions (in_room l)

  goes_went : (l : HubLife) → Goes l → Went (lived_on read x.hub e can l)
  goes_went l goes = record {
    end = record { equal = equal (find (is_named l.room) rooms) refl; there = λ lasts. there (room_of next.hub l.room) lasts };
    on = λ r there lasts is. goes_on_there read x.hub e can l schema (move r there).next.rows r (room_found r l.room there (is ∙ dealt_id (rules_of read).step r (deals (rules_of read) x.hub e r)))
        (goes.good r there (is ∙ dealt_id (rules_of read).step r (deals (rules_of read) x.hub e r))) lasts;
  }
    where
      equal : (o : Option HubRoom) → find (is_named l.room) rooms ≡ o → (lived_on read x.hub e can l).outputs ≡ sent schema (lived_on read x.hub e can l).entries
      equal None found = equal_gone read x.hub e can l schema found goes.equal
      equal (Some r) found =
          let there = found_in (is_named l.room) rooms r found in
          equal_there read x.hub e can l schema (move r there).next.rows r found (goes.good r there (sym (named_key (λ (r : HubRoom). r.id) l.room rooms r found)))

      there : (o : Option HubRoom) → is_some (option_and_then (λ (r : HubRoom). session_of r.room.sessions l.session) o) ≡ true → is_some o ≡ true
      there None h = h
      there (Some r) h = refl

  -- ---- each life

  abbrev lives_on : HubLife → HubLife
  lives_on l = lived (rules_of read) x.hub e (hub_step (rules_of read) x.hub e) l

  -- one that there was
  was : (l : HubLife) → Contains x.lives l → Went (lives_on l)
  was l there = by_lasts l.lasts refl
    where
      old : GoodEnd schema x.hub l
      old = All-contains (GoodEnd schema x.hub) x.lives l g.lives there

      goes : l.lasts ≡ true → Goes l
      goes lasts = record {
        equal = old.equal;
        good = λ r here is. (move r here).life l (asked read x.hub e can l) lasts (asked_of_quiet schema read x.hub e (hub_step (rules_of read) x.hub e).1 l)
            (record { equal = old.equal; goes_on = λ h. All-contains (λ (l : HubLife). l.lasts ≡ true → l.room ≡ r.id → GoesOn schema (place r here).last.rows r.room.sessions (in_room l)) x.lives l (place r here).goes_on there h is });
      }

      by_lasts : (b : Bool) → l.lasts ≡ b → Went (cond b (lived_on read x.hub e can l) l)
      by_lasts true lasts = goes_went l (goes lasts)
      by_lasts false lasts = record {
        end = record { equal = old.equal; there = λ h. absurd (cc) };
        on = λ r here h is. absurd (cc);
      }

  -- one that begins
  begins : All (λ l. Went (lives_on l)) (begun (rules_of read) x.hub e)
  begins = by_event e refl
    where
      by_event : (f : HubEvent) → e ≡ f → All (λ l. Went (lives_on l)) (begun (rules_of read) x.hub f)
      by_event (event.Ask conn target body room session) is_ask = by_id (reserved_in x.hub room (decided (rules_of read) x.hub target body room session)) refl
        where
          by_id : (o : Option (List ℕ)) → reserved_in x.hub room (decided (rules_of read) x.hub target body room session) ≡ o → All (λ l. Went (lives_on l)) (option_map_or (λ id. new_life x.hub.schema session id ∷ []) o [])
          by_id None reserved = All-nil (λ l. Went (lives_on l))
          by_id (Some id) reserved = All-cons (λ l. Went (lives_on l)) (new_life x.hub.schema session id) [] (goes_went (new_life x.hub.schema session id) goes) (All-nil (λ l. Went (lives_on l)))
            where
              dealt_here : (r : HubRoom) → bytes_eq r.id id ≡ true → deals (rules_of read) x.hub e r ≡ happened.Reserve session (x.hub.now + (def_of_room x.hub.defs r).seat) ∷ []
              dealt_here r named =
                  ap (λ f. deals (rules_of read) x.hub f r) is_ask
                  ∙ (ap (λ o. event_in o r (happened.Reserve session (x.hub.now + (def_of_room x.hub.defs r).seat))) reserved ∙ ap (λ b. event_if b (happened.Reserve session (x.hub.now + (def_of_room x.hub.defs r).seat))) named)

              not_some : (b : Bool) → not b ≡ true → b ≡ false
              not_some true h = cc
              not_some false h = refl

              new_here : (r : HubRoom) → Contains rooms r → bytes_eq r.id id ≡ true → is_in r.room session ≡ false
              new_here r there named =
                  let place = (request_reserves (rules_of read) x.hub conn target body room session g.forms g.differ).fits id r reserved (subst (λ f. Contains (rooms_for (rules_of read) x.hub f) r) is_ask there) named in
                  not_some (is_in r.room session) (and_parts (not r.room.seats.locked && not (is_full r.room.seats)) (not (is_in r.room session)) place).1

              good : (r : HubRoom) (there : Contains rooms r) → id ≡ r.id
                  → GoodLife schema (move r there).next.rows (behind r).room.room.sessions (lived_in (new_life x.hub.schema session id) (asked read x.hub e can (new_life x.hub.schema session id)) r (deals (rules_of read) x.hub e r))
              good r there is =
                  let named : bytes_eq r.id id ≡ true = subst (λ n. bytes_eq n id ≡ true) is (bytes_eq_self id) in
                  subst (λ s. GoodLife schema (move r there).next.rows (behind r).room.room.sessions (lived_in (new_life s session id) (asked read x.hub e can (new_life s session id)) r (deals (rules_of read) x.hub e r)))
                  ((place r there).room.schema_is ∙ sym g.schema_is)
                  ((move r there).begins session (x.hub.now + (def_of_room x.hub.defs r).seat) id (asked read x.hub e can (new_life r.room.schema session id)) (dealt_here r named) (new_here r there named)
                  (asked_of_quiet schema read x.hub e (hub_step (rules_of read) x.hub e).1 (new_life r.room.schema session id)))

              goes : Goes (new_life x.hub.schema session id)
              goes = record { equal = refl; good = good }
      by_event f is = All-nil (λ l. Went (lives_on l))

  each_went : All (λ l. Went (lives_on l)) (x.lives ++ begun (rules_of read) x.hub e)
  each_went = All-append (λ l. Went (lives_on l)) x.lives (begun (rules_of read) x.hub e) (All-weaker (Contains x.lives) (λ l. Went (lives_on l)) was x.lives (All-contains_itself x.lives)) begins

  -- ---- each room

  next_place : (r : HubRoom) → Contains rooms r → GoodPlace schema x.hub.defs next.lives (behind r).room
  next_place r there = record {
    last = (move r there).next;
    room = (move r there).room;
    def_is = subst (λ n. n < length x.hub.defs) (sym (ap (λ (y : HubRoom). y.def) (dealt_room (rules_of read).step r (deals (rules_of read) x.hub e r)))) (place r there).def_is;
    goes_on = All-map On lives_on (x.lives ++ begun (rules_of read) x.hub e) (All-weaker (λ l. Went (lives_on l)) (λ l. On (lives_on l)) (λ l w. w.on r there) (x.lives ++ begun (rules_of read) x.hub e) each_went);
  }
    where
      On : HubLife → Type 0
      On l = l.lasts ≡ true → l.room ≡ (behind r).room.id → GoesOn schema (move r there).next.rows (behind r).room.room.sessions (in_room l)

  next_places : All (GoodPlace schema x.hub.defs next.lives) (filter is_needed (map (λ (d : Dealt). d.room) ds))
  next_places =
      All-filter is_needed Good (map (λ (d : Dealt). d.room) ds)
      (All-map Good (λ (d : Dealt). d.room) ds (All-map (λ (d : Dealt). Good d.room) behind rooms (All-weaker (Contains rooms) (λ r. Good (behind r).room) next_place rooms (All-contains_itself rooms))))
    where
      Good : HubRoom → Type 0
      Good r = GoodPlace schema x.hub.defs next.lives r

  -- ---- the hub

  early_behind : (e : HubEvent) → moment_behind x.hub e < 2 ^ 53
  early_behind (event.At now) = moment_early x.hub now g.early
  early_behind e = g.early

  pub step_good : GoodHub schema next
  step_good = record {
    schema_is = g.schema_is;
    early = early_behind e;
    forms = g.forms;
    differ = differ_kept (λ (r : HubRoom). r.id) is_needed (map (λ (d : Dealt). d.room) ds) (next_differ read x.hub e can);
    numbers = next_numbers read x.hub e can;
    steps = next_steps read x.hub e can;
    rooms = next_places;
    lives = All-map (GoodEnd schema next.hub) lives_on (x.lives ++ begun (rules_of read) x.hub e) (All-weaker (λ l. Went (lives_on l)) (λ l. GoodEnd schema next.hub (lives_on l)) (λ l w. w.end) (x.lives ++ begun (rules_of read) x.hub e) each_went);
  }
