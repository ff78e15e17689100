-- Requests, as a hub's step has them.
use Rattle.std.proofs.Common.{◌≡◌, ℕ, ◌+◌, ◌<◌, ◌≤◌, ◌==◌, ◌++◌, Bool, true, false, not, List, [], ◌∷◌, Option, Some, None, Result, Ok, Err, IfSome, filter, get_or, length, map, refl, sym, ap, ap₂, subst, ◌∙◌, arith, cond, append-nil, append_assoc, codes, ◌⊎◌, inl, inr, zero, suc}
use Rattle.std.specs.Prelude.{Contains, is_some, IsSome, slice_get}
use Rattle.std.specs.List.{find, flat_map, position, sum_by}
use Rattle.std.specs.Option.{option_and_then, option_map, option_map_or}
use Rattle.std.specs.Str.{bytes_eq}
use Rattle.std.proofs.lemmas.Bool.Decides.{nat_tests}
use Rattle.std.proofs.lemmas.List.Elements.{Contains-append_left, Contains-push}
use Rattle.std.proofs.lemmas.Option.{slice_get-get_or, slice_get-map}
use Rattle.lists.specs.Rising.{IsAbove, RisesFrom, find as find_by}
use Rattle.lists.proofs.RisingLaws.{find_below, find_first}
use Rattle.lists.proofs.SameBytes.{bytes_eq_self}
use Rattle.room_model.specs.declared.definition.RoomDef.{RoomDef}
use Rattle.room_model.specs.declared.event.RoomEvent.{RoomEvent}
use Rattle.room_model.specs.declared.event.RoomEvent.TheVariants as event
use Rattle.room_model.specs.Ledger.{kept_by}
use Rattle.room_model.specs.Room.{RoomValue}
use Rattle.room_laws.specs.Names.{has_session}
use Rattle.room_laws.specs.Places.{has_place_for}
use Rattle.schema_model.specs.Classes.{Schema}
use Rattle.hub_model.specs.declared.conn.HubConn.{HubConn}
use Rattle.hub_model.specs.declared.event.HubEvent.{HubEvent}
use Rattle.hub_model.specs.declared.event.HubEvent.TheVariants as happened
use Rattle.hub_model.specs.declared.event.HubOut.{HubOut}
use Rattle.hub_model.specs.declared.event.HubOut.TheVariants as out
use Rattle.hub_model.specs.declared.request.AskFault.{AskFault}
use Rattle.hub_model.specs.declared.request.AskFault.TheVariants.{NoMethod, BadPayload, NoHandler, Memory}
use Rattle.hub_model.specs.declared.request.Decision.{Decision}
use Rattle.hub_model.specs.declared.request.Decision.TheVariants as decision
use Rattle.hub_model.specs.declared.request.Method.{Method}
use Rattle.hub_model.specs.declared.request.Method.TheVariants as method
use Rattle.hub_model.specs.declared.request.Request.{Request}
use Rattle.hub_model.specs.Dealt.{Dealt, RoomStep, conns_left, dealt, in_use_text, told_out}
use Rattle.hub_model.specs.Decisions as decisions
use Rattle.hub_model.specs.Decisions.{in_def, joined_or, meets, room_at, room_is_locked}
use Rattle.hub_model.specs.HubStep.{answered_in, created_out, criteria_of, decided, disposals, drawn, event_if, event_in, hub_step, is_needed, kept_session, outcome, reply_of, reserved_in, room_made, rooms_made, seat_text}
use Rattle.hub_model.specs.HubValues.{HubRoom, HubValue, def_of_room, is_named, is_used, listings, room_of}
use Rattle.schema_model.specs.Ids.{is_id}
use Rattle.hub_model.specs.Replies.{refusal_reply}
use Rattle.hub_model.specs.Requests.{read_request}
use Rattle.matchmaker.specs.Bodies.{said_by}
use Rattle.hub_laws.proofs.Different.{RoomsDiffer, taken_in}
use Rattle.hub_laws.proofs.Asked.{New, Reserves, request_reserves}
use Rattle.hub_core.specs.declared.outcome.Outcome.{Outcome}
use Rattle.hub_core.specs.declared.outcome.Outcome.TheVariants as leads
use Rattle.hub_core.specs.declared.parts.Parts.{Parts}
use Rattle.hub_core.specs.declared.entry.RoomEntry.{RoomEntry}
use Rattle.hub_core.specs.Costs.{dealt_cost, hub_cost}
use Rattle.hub_core.specs.Hubs.{InOrder, IsGood, IsNeeded, Stands, hub_of}
use Rattle.hub_core.specs.Lapsed.{told_of}
use Rattle.hub_core.specs.Lawful.{Lawful}
use Rattle.hub_core.specs.Outcome.{Leads, used_of}
use Rattle.hub_core.specs.Seated.{Added, Seated, seated_in, with_made}
use Rattle.hub_core.specs.RoomEntry.{HaveOwnIds, AreOrdered, Each, has_id, room_in, rooms_in, serial_of}
use Rattle.hub_core.specs.Takes.{Takes, rules_of}
use Rattle.hub_core.proofs.AddedLaws.{Each-last, found_last}
use Rattle.hub_core.proofs.CostLaws.{found_cost, sum_first, sum_last}
use Rattle.hub_core.proofs.EachLaws.{Each-found, of_there}
use Rattle.hub_core.proofs.IdleLaws.{idle, idle_conns, idle_given, idle_rooms}
use Rattle.hub_core.proofs.HandleLaws.{room_found}
use Rattle.hub_core.proofs.SessionRoomLaws.{none_has}
use Rattle.hub_core.proofs.StandsLaws.{found_own}
use Rattle.hub_core.proofs.TurnLaws.{all_others}
use Rattle.hub_core.proofs.UnhandledLaws.{all_stay, none_go}

-- ---- the step, by what is decided

module _ (step : RoomStep) (h : HubValue) (conn : ℕ) (criteria : List (List ℕ)) (room session : List ℕ) where
  abbrev rooms_by : Decision → List HubRoom
  rooms_by d = h.rooms ++ rooms_made h criteria room d

  abbrev dealt_by : Decision → List Dealt
  dealt_by d = map (λ (r : HubRoom). dealt step r (event_in (reserved_in h room d) r (event.Reserve session (h.now + (def_of_room h.defs r).seat)))) (rooms_by d)

  abbrev pub step_by : Decision → HubValue × List HubOut
  step_by d = (
    record { now = h.now; schema = h.schema; process = h.process; defs = h.defs; rooms = filter is_needed (map (λ (d : Dealt). d.room) (dealt_by d)); conns = conns_left (dealt_by d) h.conns },
    map (created_out h) (rooms_made h criteria room d)
        ++ (told_of h.conns (dealt_by d) ++ (out.Reply conn (reply_of h (map (λ (d : Dealt). d.room) (dealt_by d)) d (answered_in h room session d)) ∷ disposals (map (λ (d : Dealt). d.room) (dealt_by d)))),
  )

  -- where no room has an event
  idle_by : (d : Decision) (text : List ℕ) → dealt_by d ≡ idle step h.rooms → rooms_made h criteria room d ≡ [] → reply_of h h.rooms d (answered_in h room session d) ≡ text
      → filter is_needed h.rooms ≡ h.rooms → filter (λ r. not (is_needed r)) h.rooms ≡ []
      → step_by d ≡ (h, out.Reply conn text ∷ [])
  idle_by d text quiet none reply stay gone =
      rw (quiet, none, idle_rooms step h.rooms, idle_conns step h.rooms h.conns, idle_given step (λ (d : Dealt). flat_map (told_out h.conns d.room.id) d.outs) (λ r. refl) h.rooms, stay, gone, reply) refl

  all_quiet : (rs : List HubRoom) → map (λ (r : HubRoom). dealt step r []) (rs ++ []) ≡ idle step rs
  all_quiet rs = ap (map (λ (r : HubRoom). dealt step r [])) (append-nil rs)

  pub refused_by : (code : ℕ) (text : List ℕ) → filter is_needed h.rooms ≡ h.rooms → filter (λ r. not (is_needed r)) h.rooms ≡ [] → step_by (decision.Refuse code text) ≡ (h, out.Reply conn (refusal_reply code text) ∷ [])
  refused_by code text stay gone = idle_by (decision.Refuse code text) (refusal_reply code text) (all_quiet h.rooms) refl refl stay gone

  pub returned_by : (at : ℕ) (kept : List ℕ) (r : HubRoom) → slice_get h.rooms at ≡ Some r → find (is_named r.id) h.rooms ≡ Some r → filter is_needed h.rooms ≡ h.rooms → filter (λ r. not (is_needed r)) h.rooms ≡ []
      → step_by (decision.Return at kept) ≡ (h, out.Reply conn (seat_text h kept r) ∷ [])
  returned_by at kept r there found stay gone =
      idle_by (decision.Return at kept) (seat_text h kept r) (all_quiet h.rooms) refl
      (ap (λ o. option_map_or (λ (s : List ℕ × List ℕ). option_map_or (seat_text h s.1) (find (is_named s.0) h.rooms) []) (option_map (λ (r : HubRoom). (r.id, kept)) o) []) there ∙ ap (λ o. option_map_or (seat_text h kept) o []) found) stay gone

  pub joined_by : (at : ℕ) (r : HubRoom) → slice_get h.rooms at ≡ Some r → step_by (decision.Join at) ≡ seated_in step h conn session r.id
  joined_by at r there = rw (there, append-nil h.rooms) refl

  pub made_by : (at : ℕ) (def : RoomDef) → slice_get h.defs at ≡ Some def
      → step_by (decision.Make at) ≡ (
        (seated_in step (with_made h (room_made h criteria room at def)) conn session room).0,
        created_out h (room_made h criteria room at def) ∷
            (seated_in step (with_made h (room_made h criteria room at def)) conn session room).1,
      )
  made_by at def there = rw there refl

-- ---- drawn ids

drawn_used : {R : Type 0} (h : HubValue) (ss : List (RoomEntry R)) (count : ℕ) (criteria : List (List ℕ)) (room session id : List ℕ) (d : Decision) (l : Outcome) → Leads ss count criteria d l
    → Some id ≡ used_of (is_used h) l room session → drawn h room session d ≡ decision.Refuse 4213 (in_use_text id)
drawn_used h ss count criteria room session id d (leads.Refuse code text) how used = absurd cc
drawn_used h ss count criteria room session id d (leads.Return n kept) how used = absurd cc
drawn_used h ss count criteria room session id d (leads.Join n) how used = ap (drawn h room session) how.2 ∙ by_session (is_used h session) used
  where
    by_session : (b : Bool) → Some id ≡ cond b (Some session) None → cond b (decision.Refuse 4213 (in_use_text session)) (decision.Join how.0) ≡ decision.Refuse 4213 (in_use_text id)
    by_session true used = (let one : id ≡ session = cc in ap (λ k. decision.Refuse 4213 (in_use_text k)) (sym one))
    by_session false used = absurd cc
drawn_used h ss count criteria room session id d (leads.Make def texts) how used = ap (drawn h room session) how.0 ∙ by_room (is_used h room) used
  where
    by_session : (b : Bool) → Some id ≡ cond b (Some session) None → cond b (decision.Refuse 4213 (in_use_text session)) (decision.Make def) ≡ decision.Refuse 4213 (in_use_text id)
    by_session true used = (let one : id ≡ session = cc in ap (λ k. decision.Refuse 4213 (in_use_text k)) (sym one))
    by_session false used = absurd cc

    by_room : (b : Bool) → Some id ≡ cond b (Some room) (cond (is_used h session) (Some session) None)
        → cond b (decision.Refuse 4213 (in_use_text room)) (cond (is_used h session) (decision.Refuse 4213 (in_use_text session)) (decision.Make def)) ≡ decision.Refuse 4213 (in_use_text id)
    by_room true used = (let one : id ≡ room = cc in ap (λ k. decision.Refuse 4213 (in_use_text k)) (sym one))
    by_room false used = by_session (is_used h session) used

unused_join : (h : HubValue) (room session : List ℕ) (at n : ℕ) → None ≡ used_of (is_used h) (leads.Join n) room session → drawn h room session (decision.Join at) ≡ decision.Join at
unused_join h room session at n none = by_session (is_used h session) none
  where
    by_session : (b : Bool) → None ≡ cond b (Some session) None → cond b (decision.Refuse 4213 (in_use_text session)) (decision.Join at) ≡ decision.Join at
    by_session true none = absurd cc
    by_session false none = refl

unused_make : (h : HubValue) (room session : List ℕ) (def : ℕ) (texts : List (List ℕ)) → None ≡ used_of (is_used h) (leads.Make def texts) room session → drawn h room session (decision.Make def) ≡ decision.Make def
unused_make h room session def texts none = by_room (is_used h room) none
  where
    by_session : (b : Bool) → None ≡ cond b (Some session) None → cond b (decision.Refuse 4213 (in_use_text session)) (decision.Make def) ≡ decision.Make def
    by_session true none = absurd cc
    by_session false none = refl

    by_room : (b : Bool) → None ≡ cond b (Some room) (cond (is_used h session) (Some session) None)
        → cond b (decision.Refuse 4213 (in_use_text room)) (cond (is_used h session) (decision.Refuse 4213 (in_use_text session)) (decision.Make def)) ≡ decision.Make def
    by_room true none = absurd cc
    by_room false none = by_session (is_used h session) none

-- a session for which a seat is reserved is in no room
unused_session : (h : HubValue) (session : List ℕ) → None ≡ cond (is_used h session) (Some session) None → is_used h session ≡ false
unused_session h session none = by_session (is_used h session) none
  where
    by_session : (b : Bool) → None ≡ cond b (Some session) None → b ≡ false
    by_session true none = absurd cc
    by_session false none = refl

unused_made : (h : HubValue) (room session : List ℕ) (def : ℕ) (texts : List (List ℕ)) → None ≡ used_of (is_used h) (leads.Make def texts) room session → is_used h session ≡ false
unused_made h room session def texts none = by_room (is_used h room) none
  where
    by_room : (b : Bool) → None ≡ cond b (Some room) (cond (is_used h session) (Some session) None) → is_used h session ≡ false
    by_room true none = absurd cc
    by_room false none = unused_session h session none

-- the one that is used was drawn
pub used_drawn : (is_used : List ℕ → Bool) (l : Outcome) (room session id : List ℕ) → is_id room ≡ true → is_id session ≡ true → Some id ≡ used_of is_used l room session → is_id id ≡ true
used_drawn is_used (leads.Refuse code text) room session id a b used = absurd cc
used_drawn is_used (leads.Return n kept) room session id a b used = absurd cc
used_drawn is_used (leads.Join n) room session id a b used = by_session (is_used session) used
  where
    by_session : (c : Bool) → Some id ≡ cond c (Some session) None → is_id id ≡ true
    by_session true used = (let one : id ≡ session = cc in subst (λ k. is_id k ≡ true) (sym one) b)
    by_session false used = absurd cc
used_drawn is_used (leads.Make def texts) room session id a b used = by_room (is_used room) used
  where
    by_session : (c : Bool) → Some id ≡ cond c (Some session) None → is_id id ≡ true
    by_session true used = (let one : id ≡ session = cc in subst (λ k. is_id k ≡ true) (sym one) b)
    by_session false used = absurd cc

    by_room : (c : Bool) → Some id ≡ cond c (Some room) (cond (is_used session) (Some session) None) → is_id id ≡ true
    by_room true used = (let one : id ≡ room = cc in subst (λ k. is_id k ≡ true) (sym one) a)
    by_room false used = by_session (is_used session) used

-- ---- a kept seat

-- what is returned to is the kept session
returned_kept : (h : HubValue) (r : Result Request AskFault) (at : ℕ) (k : List ℕ) → outcome h r ≡ decision.Return at k → (q : Request) × (kept_session h q ≡ Some k)
returned_kept h (Err NoMethod) at k is = absurd cc
returned_kept h (Err BadPayload) at k is = absurd cc
returned_kept h (Err NoHandler) at k is = absurd cc
returned_kept h (Err Memory) at k is = absurd cc
returned_kept h (Ok q) at k is = (q, by_method q.method is)
  where
    by_oldest : (other : Decision) (o : Option ℕ) → (other ≡ decision.Return at k → ⊥) → joined_or other o ≡ decision.Return at k → ⊥
    by_oldest other None never is = never is
    by_oldest other (Some i) never is = cc

    by_def : (m : Method) (o : Option ℕ) → option_map_or (in_def m (listings h) q) o (decision.Refuse 4210 (codes "no handler")) ≡ decision.Return at k → ⊥
    by_def m None is = cc
    by_def method.JoinOrCreate (Some def) is = by_oldest (decision.Make def) (position (meets def q.criteria) (listings h)) (λ e. cc) is
    by_def method.Join (Some def) is = by_oldest (decision.Refuse 4211 (codes "no room meets the criteria")) (position (meets def q.criteria) (listings h)) (λ e. cc) is
    by_def method.Create (Some def) is = cc
    by_def method.JoinById (Some def) is = cc
    by_def method.Reconnect (Some def) is = cc

    joins : (o : Option ℕ) → decisions.joined_at (listings h) q.name o ≡ decision.Return at k → ⊥
    joins None is = cc
    joins (Some i) is = by_open (option_map_or decisions.is_open (slice_get (listings h) i) false) is
      where
        by_open : (b : Bool) → cond b (decision.Join i) (room_is_locked q.name) ≡ decision.Return at k → ⊥
        by_open true is = cc
        by_open false is = cc

    keeps : (kept : Option (List ℕ)) (o : Option ℕ) → decisions.kept_at q.name kept o ≡ decision.Return at k → kept ≡ Some k
    keeps None None is = absurd cc
    keeps (Some s) None is = absurd cc
    keeps None (Some i) is = absurd cc
    keeps (Some s) (Some i) is = (let one : s ≡ k = cc in ap Some one)

    by_method : (m : Method) → decisions.decided m h.defs (listings h) q (kept_session h q) ≡ decision.Return at k → kept_session h q ≡ Some k
    by_method method.Reconnect is = keeps (kept_session h q) (room_at (listings h) q.name) is
    by_method method.JoinById is = absurd (joins (room_at (listings h) q.name) is)
    by_method method.JoinOrCreate is = absurd (by_def q.method (position (λ (d : RoomDef). bytes_eq d.name q.name) h.defs) is)
    by_method method.Create is = absurd (by_def q.method (position (λ (d : RoomDef). bytes_eq d.name q.name) h.defs) is)
    by_method method.Join is = absurd (by_def q.method (position (λ (d : RoomDef). bytes_eq d.name q.name) h.defs) is)

-- ---- the rooms of a hub differ

differ_of : {R : Type 0} (room : R → RoomValue) (ss : List (RoomEntry R)) → HaveOwnIds ss → RoomsDiffer (rooms_in room ss)
differ_of room [] alone = tt
differ_of room (x ∷ ss) alone = (room_found room x.id ss ∙ ap (option_map (room_in room)) alone.0, differ_of room ss alone.1)

-- the room at a place is the one of its number and of its id
found_at : {R : Type 0} (low at : ℕ) (s : RoomEntry R) (ss : List (RoomEntry R)) → RisesFrom serial_of low ss → slice_get ss at ≡ Some s → find_by serial_of s.serial ss ≡ Some s
found_at low at s [] rises there = absurd cc
found_at low zero s (x ∷ ss) rises there = (let one : x ≡ s = cc in subst (λ (y : RoomEntry _). find_by serial_of y.serial (x ∷ ss) ≡ Some y) one (find_first serial_of x ss))
found_at {R = R} low (suc at) s (x ∷ ss) rises there = by_number (x.serial == s.serial) refl (found_at (suc x.serial) at s ss rises.1 there)
  where
    by_number : (b : Bool) → (x.serial == s.serial) ≡ b → find_by serial_of s.serial ss ≡ Some s → cond b (Some x) (find_by serial_of s.serial ss) ≡ Some s
    by_number true here rest = (let none : find_by serial_of s.serial ss ≡ None = find_below serial_of (suc x.serial) ss s.serial rises.1 (grind (arith, nat_tests, here)) in absurd cc)
    by_number false other rest = rest

-- ---- what the calls come to

abbrev hub_with : ℕ → Schema → List ℕ → List RoomDef → List HubRoom → List HubConn → HubValue
hub_with n s p d rs cs = record { now = n; schema = s; process = p; defs = d; rooms = rs; conns = cs }

hub_same : (n m : ℕ) (s t : Schema) (p q : List ℕ) (d e : List RoomDef) (rs us : List HubRoom) (cs ds : List HubConn) → n ≡ m → s ≡ t → p ≡ q → d ≡ e → rs ≡ us → cs ≡ ds → hub_with n s p d rs cs ≡ hub_with m t q e us ds
hub_same n m s t p q d e rs us cs ds a b c f g h = rw (a, b, c, f, g, h) refl

-- what the reservation costs the room in which the seat is
paid_in : (costs : RoomValue → RoomEvent → ℕ) (h : HubValue) (session fresh : List ℕ) (d : Decision) (id : List ℕ) (r : HubRoom) → reserved_in h fresh d ≡ Some id → is_named id r ≡ true
    → (new before part all : ℕ) → new ≤ before + costs r.room (event.Reserve session (h.now + (def_of_room h.defs r).seat))
    → sum_by (costs r.room) (event_in (reserved_in h fresh d) r (event.Reserve session (h.now + (def_of_room h.defs r).seat))) ≤ part → part ≤ all → new ≤ before + all
paid_in costs h session fresh d id r where_is named new before part all own one rest =
    let ev : RoomEvent = event.Reserve session (h.now + (def_of_room h.defs r).seat) in
    let is : sum_by (costs r.room) (event_in (reserved_in h fresh d) r ev) ≡ 0 + costs r.room ev = ap (λ o. sum_by (costs r.room) (event_in o r ev)) where_is ∙ ap (λ b. sum_by (costs r.room) (event_if b ev)) named in
    omega (arith, own, one, rest, is)

paid_as : (costs : RoomValue → RoomEvent → ℕ) (session : List ℕ) (m n : ℕ) (ds es : List RoomDef) (r u : HubRoom) (new before : ℕ) → m ≡ n → ds ≡ es → r ≡ u
    → new ≤ before + costs r.room (event.Reserve session (m + (def_of_room ds r).seat)) → new ≤ before + costs u.room (event.Reserve session (n + (def_of_room es u).seat))
paid_as costs session m n ds es r u new before a b c paid =
    subst (λ (u : HubRoom). new ≤ before + costs u.room (event.Reserve session (n + (def_of_room es u).seat))) c
    (subst (λ es. new ≤ before + costs r.room (event.Reserve session (n + (def_of_room es r).seat))) b (subst (λ n. new ≤ before + costs r.room (event.Reserve session (n + (def_of_room ds r).seat))) a paid))

module _ {R : Type 0} (room : R → RoomValue) (Holds : RoomValue → Type 0) (handled : RoomStep) (laws : Lawful Holds handled) (p : Parts R) (entry : Stands room Holds p)
    (ordered : AreOrdered p.registry.rooms) (conn : ℕ) (target body fresh session : List ℕ) where
  abbrev pub ss : List (RoomEntry R)
  ss = p.registry.rooms

  abbrev pub h : HubValue
  h = hub_of room p

  abbrev pub r : Result Request AskFault
  r = read_request p.defs target (said_by body)

  abbrev pub e : HubEvent
  e = happened.Ask conn target body fresh session

  stay : filter is_needed h.rooms ≡ h.rooms
  stay = all_stay room 0 ss ordered.0 entry.needed

  gone : filter (λ r. not (is_needed r)) h.rooms ≡ []
  gone = none_go room 0 ss ordered.0 entry.needed

  step_is : (d : Decision) → drawn h fresh session (outcome h r) ≡ d → hub_step (rules_of handled) h e ≡ step_by handled h conn (criteria_of r) fresh session d
  step_is d is = subst (λ d. hub_step (rules_of handled) h e ≡ step_by handled h conn (criteria_of r) fresh session d) is refl

  same : (text : List ℕ) (before after : List HubOut) → hub_step (rules_of handled) h e ≡ (h, out.Reply conn text ∷ []) → after ≡ before ++ out.Reply conn text ∷ [] → Takes room Holds handled e p p before after
  same text before after is outs = record { hub = sym (ap (λ x. x.0) is); outs = outs ∙ sym (ap (λ x. before ++ x.1) is); stands = entry }

  differ : RoomsDiffer h.rooms
  differ = differ_of room ss ordered.1

  reserves : Reserves h (criteria_of r) fresh session (decided (rules_of handled) h target body fresh session)
  reserves = request_reserves (rules_of handled) h conn target body fresh session entry.order.forms differ

  module _ (l : Outcome) (how : Leads ss (length p.defs) (criteria_of r) (outcome h r) l) where
    pub takes_used : (id : List ℕ) (before after : List HubOut) → Some id ≡ used_of (is_used h) l fresh session → after ≡ before ++ out.Reply conn (refusal_reply 4213 (in_use_text id)) ∷ [] → Takes room Holds handled e p p before after
    takes_used id before after used outs =
        same (refusal_reply 4213 (in_use_text id)) before after
        (step_is (decision.Refuse 4213 (in_use_text id)) (drawn_used h ss (length p.defs) (criteria_of r) fresh session id (outcome h r) l how used) ∙ refused_by handled h conn (criteria_of r) fresh session 4213 (in_use_text id) stay gone) outs

    pub takes_refused : (code : ℕ) (text : List ℕ) (before after : List HubOut) → l ≡ leads.Refuse code text → after ≡ before ++ out.Reply conn (refusal_reply code text) ∷ [] → Takes room Holds handled e p p before after
    takes_refused code text before after is outs =
        let d : outcome h r ≡ decision.Refuse code text = subst (Leads ss (length p.defs) (criteria_of r) (outcome h r)) is how in
        same (refusal_reply code text) before after (step_is (decision.Refuse code text) (ap (drawn h fresh session) d) ∙ refused_by handled h conn (criteria_of r) fresh session code text stay gone) outs

    -- a kept seat
    module _ (n : ℕ) (kept : List ℕ) (is : l ≡ leads.Return n kept) where
      returned : Leads ss (length p.defs) (criteria_of r) (outcome h r) (leads.Return n kept)
      returned = subst (Leads ss (length p.defs) (criteria_of r) (outcome h r)) is how

      abbrev s : RoomEntry R
      s = returned.1.it

      returned_at : find_by serial_of n ss ≡ Some s
      returned_at = subst (λ k. find_by serial_of k ss ≡ Some s) returned.1.number (found_at 0 returned.0 s ss ordered.0 returned.1.is)

      pub return_there : IsSome (find_by serial_of n ss)
      return_there = ap is_some returned_at

      pub kept_id : is_id kept ≡ true
      kept_id = by_request (returned_kept h r returned.0 kept returned.2)
        where
          by_room : (token : List ℕ) (o : Option (RoomEntry R)) → (find_is : (s : RoomEntry R) → o ≡ Some s → IsGood room Holds s)
              → option_and_then (λ (r : HubRoom). kept_by r.room.seats token) (option_map (room_in room) o) ≡ Some kept → is_id kept ≡ true
          by_room token None good h = absurd cc
          by_room token (Some s) good h = (good s refl).sessions kept (laws.keepers (room s.room) (good s refl).holds token kept h)

          by_token : (q : Request) (o : Option (List ℕ)) → option_and_then (λ token. option_and_then (λ (r : HubRoom). kept_by r.room.seats token) (room_of h q.name)) o ≡ Some kept → is_id kept ≡ true
          by_token q None h = absurd cc
          by_token q (Some token) k =
              by_room token (find (has_id q.name) ss) (λ s found. Each-found (IsGood room Holds) (has_id q.name) 0 ss s ordered.0 entry.order.rooms found)
              (sym (ap (option_and_then (λ (r : HubRoom). kept_by r.room.seats token)) (room_found room q.name ss)) ∙ k)

          by_request : (q : Request) × (kept_session h q ≡ Some kept) → is_id kept ≡ true
          by_request x = by_token x.0 x.0.token x.1

      pub takes_returned : (before after : List HubOut) → IfSome (find_by serial_of n ss) (λ s. after ≡ before ++ out.Reply conn (seat_text h kept (room_in room s)) ∷ []) → Takes room Holds handled e p p before after
      takes_returned before after outs =
          let place : slice_get h.rooms returned.0 ≡ Some (room_in room s) = slice_get-map (room_in room) ss returned.0 ∙ ap (option_map (room_in room)) returned.1.is in
          let own : find (is_named s.id) h.rooms ≡ Some (room_in room s) = room_found room s.id ss ∙ ap (option_map (room_in room)) (found_own 0 n s ss ordered.0 ordered.1 returned_at) in
          same (seat_text h kept (room_in room s)) before after
          (step_is (decision.Return returned.0 kept) (ap (drawn h fresh session) returned.2) ∙ returned_by handled h conn (criteria_of r) fresh session returned.0 kept (room_in room s) place own stay gone)
          (of_there (find_by serial_of n ss) s (λ s. after ≡ before ++ out.Reply conn (seat_text h kept (room_in room s)) ∷ []) returned_at outs)

    -- a seat in a room
    module _ (n : ℕ) (is : l ≡ leads.Join n) (unused : None ≡ used_of (is_used h) l fresh session) where
      joined : Leads ss (length p.defs) (criteria_of r) (outcome h r) (leads.Join n)
      joined = subst (Leads ss (length p.defs) (criteria_of r) (outcome h r)) is how

      abbrev u : RoomEntry R
      u = joined.1.it

      joined_at : find_by serial_of n ss ≡ Some u
      joined_at = subst (λ k. find_by serial_of k ss ≡ Some u) joined.1.number (found_at 0 joined.0 u ss ordered.0 joined.1.is)

      joined_is : drawn h fresh session (outcome h r) ≡ decision.Join joined.0
      joined_is = ap (drawn h fresh session) joined.2 ∙ unused_join h fresh session joined.0 n (subst (λ l. None ≡ used_of (is_used h) l fresh session) is unused)

      place_is : slice_get h.rooms joined.0 ≡ Some (room_in room u)
      place_is = slice_get-map (room_in room) ss joined.0 ∙ ap (option_map (room_in room)) joined.1.is

      pub join_there : IsSome (find_by serial_of n ss)
      join_there = ap is_some joined_at

      pub join_place : IfSome (find_by serial_of n ss) (λ s. has_place_for (room s.room) session ≡ true)
      join_place =
          subst (λ o. IfSome o (λ s. has_place_for (room s.room) session ≡ true)) (sym joined_at)
          (reserves.fits u.id (room_in room u) (ap (reserved_in h fresh) joined_is ∙ ap (option_map (λ (r : HubRoom). r.id)) place_is)
          (Contains-append_left h.rooms (rooms_made h (criteria_of r) fresh (decided (rules_of handled) h target body fresh session)) (room_in room u) (taken_in h.rooms joined.0 (room_in room u) place_is)) (bytes_eq_self u.id))

      pub join_free : Each (λ s. has_session (room s.room) session ≡ false) ss
      join_free = none_has room session ss (unused_session h session (subst (λ l. None ≡ used_of (is_used h) l fresh session) is unused))

      pub takes_joined : (new : Parts R) (before after : List HubOut) → IfSome (find_by serial_of n ss) (λ s. Seated room Holds handled conn session s p new before after) → Takes room Holds handled e p new before after
      takes_joined new before after seated =
          let it = of_there (find_by serial_of n ss) u (λ s. Seated room Holds handled conn session s p new before after) joined_at seated in
          let step = step_is (decision.Join joined.0) joined_is ∙ joined_by handled h conn (criteria_of r) fresh session joined.0 (room_in room u) place_is in
          record { hub = it.hub ∙ sym (ap (λ x. x.0) step); outs = it.outs ∙ sym (ap (λ x. before ++ x.1) step); stands = it.stands }

      -- what its step costs is no more than what the request costs all rooms
      pub join_cost : (costs : RoomValue → RoomEvent → ℕ) (new before : ℕ) → IfSome (find_by serial_of n ss) (λ s. new ≤ before + costs (room s.room) (event.Reserve session (p.moment + (def_of_room p.defs (room_in room s)).seat)))
          → new ≤ before + hub_cost costs (rules_of handled) h e
      join_cost costs new before paid =
          let own = of_there (find_by serial_of n ss) u (λ s. new ≤ before + costs (room s.room) (event.Reserve session (p.moment + (def_of_room p.defs (room_in room s)).seat))) joined_at paid in
          let id_is : reserved_in h fresh (decided (rules_of handled) h target body fresh session) ≡ Some u.id = ap (reserved_in h fresh) joined_is ∙ ap (option_map (λ (r : HubRoom). r.id)) place_is in
          let f : HubRoom → ℕ = dealt_cost costs (rules_of handled) h e in
          let one : f (room_in room u) ≤ sum_by f h.rooms = found_cost room f (has_id u.id) ss u (found_own 0 n u ss ordered.0 ordered.1 joined_at) in
          let all : sum_by f h.rooms ≤ hub_cost costs (rules_of handled) h e = sum_first f h.rooms (rooms_made h (criteria_of r) fresh (decided (rules_of handled) h target body fresh session)) in
          paid_in costs h session fresh (decided (rules_of handled) h target body fresh session) u.id (room_in room u) id_is (bytes_eq_self u.id) new before (sum_by f h.rooms) (hub_cost costs (rules_of handled) h e) own one all

    -- a room that is made
    module _ (def : ℕ) (texts : List (List ℕ)) (is : l ≡ leads.Make def texts) (unused : None ≡ used_of (is_used h) l fresh session) where
      makes : Leads ss (length p.defs) (criteria_of r) (outcome h r) (leads.Make def texts)
      makes = subst (Leads ss (length p.defs) (criteria_of r) (outcome h r)) is how

      abbrev d : RoomDef
      d = get_or p.defs def (record { name = []; max = 0; seat = 0; patch = 0; keep = 0; filter = [] })

      def_is : slice_get p.defs def ≡ Some d
      def_is = slice_get-get_or p.defs def (record { name = []; max = 0; seat = 0; patch = 0; keep = 0; filter = [] }) makes.2

      made_is : drawn h fresh session (outcome h r) ≡ decision.Make def
      made_is = ap (drawn h fresh session) makes.0 ∙ unused_make h fresh session def texts (subst (λ l. None ≡ used_of (is_used h) l fresh session) is unused)

      pub make_def : def < length p.defs
      make_def = makes.2

      rooms_are : rooms_made h (criteria_of r) fresh (decided (rules_of handled) h target body fresh session) ≡ room_made h (criteria_of r) fresh def d ∷ []
      rooms_are = ap (rooms_made h (criteria_of r) fresh) made_is ∙ ap (λ o. option_map_or (λ def'. room_made h (criteria_of r) fresh def def' ∷ []) o []) def_is

      pub make_free : find (has_id fresh) ss ≡ None
      make_free = unmapped (find (has_id fresh) ss) (sym (room_found room fresh ss) ∙ by_new reserves.made)
        where
          unmapped : (o : Option (RoomEntry R)) → option_map (room_in room) o ≡ None → o ≡ None
          unmapped None h = refl
          unmapped (Some s) h = absurd cc

          by_new : (rooms_made h (criteria_of r) fresh (decided (rules_of handled) h target body fresh session) ≡ []) ⊎ New h (rooms_made h (criteria_of r) fresh (decided (rules_of handled) h target body fresh session)) → room_of h fresh ≡ None
          by_new (inl none) = absurd (let both : room_made h (criteria_of r) fresh def d ∷ [] ≡ [] = sym rooms_are ∙ none in cc)
          by_new (inr new) =
              let both : room_made h (criteria_of r) fresh def d ∷ [] ≡ room_made h new.criteria new.id new.at new.def ∷ [] = sym rooms_are ∙ new.is in
              let one : room_made h (criteria_of r) fresh def d ≡ room_made h new.criteria new.id new.at new.def = cc in
              ap (room_of h) (ap (λ (r : HubRoom). r.id) one) ∙ new.free

      module _ (serial : ℕ) (mid : Parts R) (before middle : List HubOut) (added : IfSome (slice_get p.defs def) (λ d. Added room Holds d def texts fresh serial p mid before middle)) where
        it : Added room Holds d def texts fresh serial p mid before middle
        it = of_there (slice_get p.defs def) d (λ d. Added room Holds d def texts fresh serial p mid before middle) def_is added

        above : IsAbove serial_of it.it.serial ss
        above = subst (λ k. IsAbove serial_of k ss) (sym it.number) it.above

        made_at : find_by serial_of serial mid.registry.rooms ≡ Some it.it
        made_at =
            ap (find_by serial_of serial) it.rooms ∙ (found_last serial it.it ss above
            ∙ ap (λ b. cond b (Some it.it) (find_by serial_of serial ss)) same_number)
          where
            same_number : (it.it.serial == serial) ≡ true
            same_number = (let number = it.number in grind (arith, nat_tests, number))

        pub made_order : InOrder room Holds mid
        made_order = it.order

        pub made_there : IsSome (find_by serial_of serial mid.registry.rooms)
        made_there = ap is_some made_at

        pub made_needed : Each (λ s. (s.serial == serial) ≡ false → IsNeeded room s) mid.registry.rooms
        made_needed =
            subst (Each (λ s. (s.serial == serial) ≡ false → IsNeeded room s)) (sym it.rooms)
            (Each-last (λ s. (s.serial == serial) ≡ false → IsNeeded room s) it.it ss above (all_others room serial ss entry.needed)
            (λ other. absurd (let number : it.it.serial ≡ serial = it.number in let here : (it.it.serial == serial) ≡ true = grind (arith, nat_tests, number) in cc)))

        texts_are : texts ≡ criteria_of r
        texts_are = makes.1

        made_room : room_in room it.it ≡ room_made h (criteria_of r) fresh def d
        made_room = it.is ∙ ap (λ c. room_made h c fresh def d) texts_are

        pub made_place : IfSome (find_by serial_of serial mid.registry.rooms) (λ s. has_place_for (room s.room) session ≡ true)
        made_place =
            subst (λ o. IfSome o (λ s. has_place_for (room s.room) session ≡ true)) (sym made_at)
            (subst (λ (x : HubRoom). has_place_for x.room session ≡ true) (sym made_room)
            (reserves.fits fresh (room_made h (criteria_of r) fresh def d) (ap (reserved_in h fresh) made_is)
            (subst (λ rs. Contains (h.rooms ++ rs) (room_made h (criteria_of r) fresh def d)) (sym rooms_are) (Contains-push h.rooms (room_made h (criteria_of r) fresh def d))) (bytes_eq_self fresh)))

        pub made_unused : Each (λ s. has_session (room s.room) session ≡ false) mid.registry.rooms
        made_unused =
            subst (Each (λ s. has_session (room s.room) session ≡ false)) (sym it.rooms)
            (Each-last (λ s. has_session (room s.room) session ≡ false) it.it ss above
            (none_has room session ss (unused_made h fresh session def texts (subst (λ l. None ≡ used_of (is_used h) l fresh session) is unused))) (ap (λ (r : HubRoom). has_session r.room session) made_room))

        with_it : hub_of room mid ≡ with_made h (room_made h (criteria_of r) fresh def d)
        with_it =
            hub_same mid.moment p.moment mid.schema p.schema mid.process p.process mid.defs p.defs (rooms_in room mid.registry.rooms) (h.rooms ++ room_made h (criteria_of r) fresh def d ∷ []) mid.conns p.conns it.moment it.schema it.process it.defs
            (ap (rooms_in room) it.rooms ∙ (rooms_more ss ∙ ap (λ x. h.rooms ++ x ∷ []) made_room)) it.conns
          where
            rooms_more : (xs : List (RoomEntry R)) → rooms_in room (xs ++ it.it ∷ []) ≡ rooms_in room xs ++ room_in room it.it ∷ []
            rooms_more [] = refl
            rooms_more (x ∷ xs) = ap (λ l. room_in room x ∷ l) (rooms_more xs)

        id_is : it.it.id ≡ fresh
        id_is = ap (λ (r : HubRoom). r.id) made_room

        pub made_cost : (costs : RoomValue → RoomEvent → ℕ) (new before : ℕ)
            → IfSome (find_by serial_of serial mid.registry.rooms) (λ s. new ≤ before + costs (room s.room) (event.Reserve session (mid.moment + (def_of_room mid.defs (room_in room s)).seat)))
            → new ≤ before + hub_cost costs (rules_of handled) h e
        made_cost costs new before paid =
            let made = room_made h (criteria_of r) fresh def d in
            let at_it = of_there (find_by serial_of serial mid.registry.rooms) it.it (λ s. new ≤ before + costs (room s.room) (event.Reserve session (mid.moment + (def_of_room mid.defs (room_in room s)).seat))) made_at paid in
            let own : new ≤ before + costs made.room (event.Reserve session (p.moment + (def_of_room p.defs made).seat)) =
            paid_as costs session mid.moment p.moment mid.defs p.defs (room_in room it.it) made new before it.moment it.defs made_room at_it in
            let f : HubRoom → ℕ = dealt_cost costs (rules_of handled) h e in
            let id_is : reserved_in h fresh (decided (rules_of handled) h target body fresh session) ≡ Some fresh = ap (reserved_in h fresh) made_is in
            let one : f made ≤ sum_by f (h.rooms ++ made ∷ []) = sum_last f h.rooms made in
            let all : sum_by f (h.rooms ++ made ∷ []) ≤ hub_cost costs (rules_of handled) h e = rw rooms_are (omega arith) in
            paid_in costs h session fresh (decided (rules_of handled) h target body fresh session) fresh made id_is (bytes_eq_self fresh) new before (sum_by f (h.rooms ++ made ∷ [])) (hub_cost costs (rules_of handled) h e) own one all

        pub takes_made : (new : Parts R) (after : List HubOut) → IfSome (find_by serial_of serial mid.registry.rooms) (λ s. Seated room Holds handled conn session s mid new middle after) → Takes room Holds handled e p new before after
        takes_made new after seated =
            let own = of_there (find_by serial_of serial mid.registry.rooms) it.it (λ s. Seated room Holds handled conn session s mid new middle after) made_at seated in
            let made = room_made h (criteria_of r) fresh def d in
            let step = step_is (decision.Make def) made_is ∙ made_by handled h conn (criteria_of r) fresh session def d def_is in
            let by = ap₂ (λ g k. seated_in handled g conn session k) with_it id_is in
            record {
              hub = own.hub ∙ (ap (λ x. x.0) by ∙ sym (ap (λ x. x.0) step));
              outs =
                  own.outs
                  ∙ (ap₂ (λ m x. m ++ x) (it.outs ∙ ap (λ x. before ++ created_out h x ∷ []) made_room) (ap (λ x. x.1) by)
                  ∙ (append_assoc before (created_out h made ∷ []) (seated_in handled (with_made h made) conn session fresh).1 ∙ sym (ap (λ x. before ++ x.1) step)));
              stands = own.stands;
            }
