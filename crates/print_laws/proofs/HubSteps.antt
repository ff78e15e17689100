-- What a hub gives for an event that has a line has lines, and behind the event the hub keeps what that rests on.
use Rattle.std.proofs.Common.{◌≡◌, ℕ, ◌<◌, ◌&&◌, Bool, true, false, cond, not, List, [], ◌∷◌, length, map, filter, All, codes, Option, Some, None, Result, is_some, pos, refl, sym, subst}
use Rattle.std.specs.Prelude.{Contains, nat_lt, option_and_then, slice_get}
use Rattle.std.specs.List.{flat_map, list_all, list_any}
use Rattle.std.specs.Option.{option_map_or}
use Rattle.std.proofs.lemmas.Bool.{and_parts, and_from}
use Rattle.std.proofs.lemmas.List.Elements.{All-append, All-cons, All-contains, All-contains_itself, All-filter, All-get_or, All-head, All-map, All-nil, All-tail, All-weaker}
use Rattle.std.proofs.lemmas.List.Sums.{AllPass-from_list_all}
use Rattle.std.proofs.lemmas.Option.{slice_get_within}
use Rattle.std.proofs.lemmas.Str.{is_utf8-from_IsUtf8}
use Rattle.lists.specs.Rising.{put}
use Rattle.lists.proofs.Passing.{all_append, list_all_filtered, list_all_put}
use Rattle.schema_model.specs.Classes.{Schema, is_kept}
use Rattle.schema_model.specs.Ids.{is_id}
use Rattle.state_model.specs.State.{new_state}
use Rattle.frame_model.specs.Frames.{server_bytes}
use Rattle.frame_model.specs.declared.frame.ServerFrame.TheVariants as server
use Rattle.room_model.specs.declared.definition.RoomDef.{RoomDef}
use Rattle.room_model.specs.declared.event.RoomOut.{RoomOut}
use Rattle.room_model.specs.declared.event.RoomOut.TheVariants as room_out
use Rattle.room_model.specs.declared.refusal.Refusal.TheVariants as refusal
use Rattle.room_model.specs.Ledger.{kept_by}
use Rattle.room_model.specs.Room.{new_room}
use Rattle.hub_model.specs.declared.conn.HubConn.{HubConn}
use Rattle.hub_model.specs.declared.event.HubEvent.{HubEvent}
use Rattle.hub_model.specs.declared.event.HubEvent.TheVariants.{At, Ask, Bad, Opening, Frame, Lost, Act as Acted, Tick}
use Rattle.hub_model.specs.declared.event.HubOut.{HubOut}
use Rattle.hub_model.specs.declared.event.HubOut.TheVariants as out
use Rattle.hub_model.specs.declared.request.AskFault.{AskFault}
use Rattle.hub_model.specs.declared.request.Decision.{Decision}
use Rattle.hub_model.specs.declared.request.Decision.TheVariants as decision
use Rattle.hub_model.specs.declared.request.Opening.{Opening as Opens}
use Rattle.hub_model.specs.declared.request.Request.{Request}
use Rattle.hub_model.specs.Dealt.{Dealt, ends, in_use_text, opened_out, refused_opening, to_conn, told_out}
use Rattle.hub_model.specs.HubStep.{all_dealt, answered_in, conns_with, created_out, criteria_of, deals, decided, disposals, entered_conns, enters, first_outs, hub_step, is_needed, kept_session, last_outs, makes, opened_by, opening_of, opening_refused, reply_of, room_made, rooms_made, tells}
use Rattle.hub_model.specs.HubValues.{HubRoom, HubValue, conn_for, conn_number, conn_of, def_of_room, is_conn_for, is_named, room_of}
use Rattle.hub_model.specs.Requests.{Said, read_request}
use Rattle.life_model.specs.HubLives.{HubRun, run_step}
use Rattle.life_model.specs.HubPromises.{may_come}
use Rattle.hub_laws.proofs.Different.{found_in}
use Rattle.room_promises.proofs.RoomSteps.{GoodRoom, new_good}
use Rattle.hub_promises.proofs.Deals.{dealt_to, rooms_for}
use Rattle.hub_promises.proofs.GoodHubs.{GoodHub, ready}
use Rattle.text_model.specs.Acts.{is_kind, is_ref}
use Rattle.text_model.specs.DefLines.{is_named_def}
use Rattle.text_model.specs.Events.{is_event, is_number}
use Rattle.text_model.specs.Marks.{is_room_name}
use Rattle.text_model.specs.OutLines.{is_one_line, is_out}
use Rattle.text_model.specs.WordForms.{are_bytes, is_text}
use Rattle.print_laws.specs.Printed.{rules_by}
use Rattle.print_laws.proofs.Bytes.{utf8_bytes}
use Rattle.print_laws.proofs.Dealt.{Given, Place, ask_parts, dealt_given, fresh_id, told_dealt}
use Rattle.print_laws.proofs.Replied.{IsNamed, IsTold, answered_named, decision_told, reply_told, used_text}
use Rattle.print_laws.proofs.RoomSteps.{new_neat}
use Rattle.print_laws.proofs.Sessions.{Neat, each_fits, fault_small, fits_out, kept_named}

-- ---- lists

-- each output that passes one test is given as outputs that pass another
made_fit : {X Y : Type 0} (p : X → Bool) (q : Y → Bool) (f : X → List Y) → ((x : X) → p x ≡ true → list_all q (f x) ≡ true) → (xs : List X) → list_all p xs ≡ true → list_all q (flat_map f xs) ≡ true
made_fit p q f fits [] h = refl
made_fit p q f fits (x ∷ xs) h =
    let both = and_parts (p x) (list_all p xs) h in
    all_append q (f x) (flat_map f xs) (fits x both.0) (made_fit p q f fits xs both.1)

mapped_fit : {X Y : Type 0} (test : Y → Bool) (Q : X → Type 0) (f : X → Y) → ((x : X) → Q x → test (f x) ≡ true) → (xs : List X) → All Q xs → list_all test (map f xs) ≡ true
mapped_fit test Q f fits [] all = refl
mapped_fit test Q f fits (x ∷ xs) all = and_from (test (f x)) (list_all test (map f xs)) (fits x (All-head Q x xs all)) (mapped_fit test Q f fits xs (All-tail Q x xs all))

one_out : (o : HubOut) → is_out o ≡ true → list_all is_out (o ∷ []) ≡ true
one_out o h = and_from (is_out o) true h refl

-- ---- what rooms give, as the hub gives it

abbrev are_numbers : List HubConn → Bool
are_numbers cs = list_all (λ (c : HubConn). is_number c.conn) cs

module _ (conns : List HubConn) (numbers : are_numbers conns ≡ true) (room : List ℕ) (named : is_id room ≡ true) where
  to_conn_fits : (s : List ℕ) (give : ℕ → HubOut) → ((n : ℕ) → is_number n ≡ true → is_out (give n) ≡ true) → list_all is_out (to_conn give (conn_for conns room s)) ≡ true
  to_conn_fits s give fits = by_conn (conn_for conns room s) refl
    where
      by_conn : (o : Option HubConn) → conn_for conns room s ≡ o → list_all is_out (to_conn give o) ≡ true
      by_conn None found = refl
      by_conn (Some c) found =
          let each = AllPass-from_list_all (λ (c : HubConn). is_number c.conn) conns numbers in
          one_out (give c.conn) (fits c.conn (All-contains (λ (c : HubConn). is_number c.conn ≡ true) conns c each (found_in (is_conn_for room s) conns c found)))

  told_fits : (o : RoomOut) → fits_out o ≡ true → list_all is_out (told_out conns room o) ≡ true
  told_fits (room_out.Send s bytes) h = to_conn_fits s (λ conn. out.Send conn bytes) (λ n is. and_from (is_number n) (are_bytes bytes) is h)
  told_fits (room_out.Close s code) h = to_conn_fits s (λ conn. out.Close conn code) (λ n is. and_from (is_number n) (nat_lt code 65536) is h)
  told_fits (room_out.Entered s) h = one_out (out.Joined room s) (and_from (is_id room) (is_id s) named h)
  told_fits (room_out.Back s) h = one_out (out.Returned room s) (and_from (is_id room) (is_id s) named h)
  told_fits (room_out.NoSeat s) h = refl
  told_fits (room_out.TokenInUse s) h = refl
  told_fits (room_out.Message s kind payload) h =
      let p = and_parts (is_id s) (is_kind kind && are_bytes payload) h in
      one_out (out.Message room s kind payload) (and_from (is_id room && is_id s) (is_kind kind && are_bytes payload) (and_from (is_id room) (is_id s) named p.0) p.1)
  told_fits (room_out.RawMessage s kind payload) h =
      let p = and_parts (is_id s) (is_kind kind && are_bytes payload) h in
      one_out (out.RawMessage room s kind payload) (and_from (is_id room && is_id s) (is_kind kind && are_bytes payload) (and_from (is_id room) (is_id s) named p.0) p.1)
  told_fits (room_out.Dropped s) h = one_out (out.Dropped room s) (and_from (is_id room) (is_id s) named h)
  told_fits (room_out.Left s) h = one_out (out.Left room s) (and_from (is_id room) (is_id s) named h)
  told_fits (room_out.Made n) h = one_out (out.Made room n) (and_from (is_id room) (is_ref n) named h)
  told_fits (room_out.Refused r) h = one_out (out.Refused r) h

refused_fits : (conn code : ℕ) (text : List ℕ) → is_number conn ≡ true → are_bytes text ≡ true → list_all is_out (refused_opening conn code text) ≡ true
refused_fits conn code text number h =
    let frame : List ℕ = server_bytes (server.Fault (pos code) text) in
    and_from (is_out (out.Send conn frame)) (list_all is_out (out.Close conn 4002 ∷ []))
    (and_from (is_number conn) (are_bytes frame) number (fault_small code text h)) (one_out (out.Close conn 4002) (and_from (is_number conn) true number refl))

module _ (conn : ℕ) (fresh : List ℕ) (number : is_number conn ≡ true) (token : is_id fresh ≡ true) (conns : List HubConn) (numbers : are_numbers conns ≡ true) (room : List ℕ) (named : is_id room ≡ true) where
  opened_fits : (o : RoomOut) → fits_out o ≡ true → list_all is_out (opened_out conn fresh conns room o) ≡ true
  opened_fits (room_out.NoSeat s) h = refused_fits conn 4214 (codes "seat expired") number refl
  opened_fits (room_out.TokenInUse s) h = (let text = used_text fresh token in refused_fits conn 4213 (in_use_text fresh) number (utf8_bytes (in_use_text fresh) (is_utf8-from_IsUtf8 (in_use_text fresh) text.utf8)))
  opened_fits o h = told_fits conns numbers room named o h

-- ---- what holds of a hub

-- its process is an id, its definitions have names, its connections have numbers of 64 bits, and its rooms are such as to give
-- what has lines
pub record NeatHub (schema : Schema) (h : HubValue) : Type 0 where
  pub process : is_id h.process ≡ true
  pub names : list_all is_named_def h.defs ≡ true
  pub conns : are_numbers h.conns ≡ true
  pub rooms : All (Place schema h.defs) h.rooms

-- the definition of a room has a name
def_named : (defs : List RoomDef) (r : HubRoom) → list_all is_named_def defs ≡ true → r.def < length defs → is_room_name (def_of_room defs r).name ≡ true
def_named defs r names there =
    (and_parts (is_room_name (def_of_room defs r).name) _ (All-get_or (λ (d : RoomDef). is_named_def d ≡ true) defs r.def r.room.def there (AllPass-from_list_all is_named_def defs names))).0

module _ (said : List ℕ → Option Said) (schema : Schema) (x : HubRun) (e : HubEvent) (kept : is_kept schema ≡ true) (come : may_come e ≡ true)
    (told : is_event e ≡ true) (g : GoodHub schema x) (n : NeatHub schema x.hub) where
  abbrev h : HubValue
  h = x.hub

  abbrev read : List RoomDef → List ℕ → List ℕ → Result Request AskFault
  read defs target body = read_request defs target (said body)

  abbrev P : HubRoom → Type 0
  P = Place schema h.defs

  abbrev ds : List Dealt
  ds = all_dealt (rules_by said) h e

  -- ---- the rooms

  made_place : (criteria : List (List ℕ)) (room : List ℕ) (d : Decision) → is_id room ≡ true → All P (rooms_made h criteria room d)
  made_place criteria room (decision.Refuse code text) own = All-nil P
  made_place criteria room (decision.Join at) own = All-nil P
  made_place criteria room (decision.Return at kept) own = All-nil P
  made_place criteria room (decision.Make at) own = by_def (slice_get h.defs at) refl
    where
      by_def : (o : Option RoomDef) → slice_get h.defs at ≡ o → All P (option_map_or (λ def. room_made h criteria room at def ∷ []) o [])
      by_def None there = All-nil P
      by_def (Some def) there = All-cons P (room_made h criteria room at def) [] (record {
        named = own;
        def_is = slice_get_within h.defs at def there;
        last = new_state schema;
        good = subst (λ s. GoodRoom schema (new_state schema) (new_room s def criteria)) (sym g.schema_is) (new_good schema def criteria kept);
        neat = subst (λ s. Neat (new_state schema) (new_room s def criteria)) (sym g.schema_is) (new_neat schema def criteria);
      }) (All-nil P)

  made : (f : HubEvent) → is_event f ≡ true → All P (makes (rules_by said) h f)
  made (Ask conn target body room session) is =
      made_place (criteria_of (read h.defs target body)) room (decided (rules_by said) h target body room session) (ask_parts conn target body room session is).room_id
  made f is = All-nil P

  places : All P (rooms_for (rules_by said) h e)
  places = All-append P h.rooms (makes (rules_by said) h e) n.rooms (made e told)

  given : All (Given schema h.defs) ds
  given = All-map (Given schema h.defs) (dealt_to (rules_by said) h e) rooms (All-weaker (Contains rooms) (λ r. Given schema h.defs (dealt_to (rules_by said) h e r)) each rooms (All-contains_itself rooms))
    where
      rooms : List HubRoom
      rooms = rooms_for (rules_by said) h e

      each : (r : HubRoom) → Contains rooms r → Given schema h.defs (dealt_to (rules_by said) h e r)
      each r there =
          dealt_given schema h.defs r kept (All-contains P rooms r places there) (deals (rules_by said) h e r) ((ready read schema x e kept come g).few r there) (told_dealt (rules_by said) h e r told)

  abbrev behind : List HubRoom
  behind = map (λ (d : Dealt). d.room) ds

  behind_places : All P behind
  behind_places = All-map P (λ (d : Dealt). d.room) ds (All-weaker (Given schema h.defs) (λ (d : Dealt). P d.room) (λ d given. given.place) ds given)

  -- ---- the connections

  abbrev all : List HubConn
  all = conns_with h e ds

  entered_numbers : (conn : ℕ) (o : Option Opens) → is_number conn ≡ true → are_numbers (entered_conns h.conns conn ds o) ≡ true
  entered_numbers conn None number = n.conns
  entered_numbers conn (Some o) number = by_entry (list_any (enters o) ds)
    where
      by_entry : (b : Bool) → are_numbers (cond b (put conn_number (record { conn = conn; room = o.room; session = o.session }) h.conns) h.conns) ≡ true
      by_entry true = list_all_put conn_number (λ (c : HubConn). is_number c.conn) (record { conn = conn; room = o.room; session = o.session }) h.conns number n.conns
      by_entry false = n.conns

  numbers_with : (f : HubEvent) → is_event f ≡ true → are_numbers (conns_with h f ds) ≡ true
  numbers_with (Opening conn target fresh) is = entered_numbers conn (opened_by h conn target) (and_parts (is_number conn) (is_text target && is_id fresh) is).0
  numbers_with f is = n.conns

  numbers : are_numbers all ≡ true
  numbers = numbers_with e told

  -- ---- what is given

  kept_ids : (q : Request) → IsNamed (kept_session h q)
  kept_ids q session is = by_token q.token is
    where
      by_room : (token : List ℕ) (o : Option HubRoom) → room_of h q.name ≡ o → option_and_then (λ (r : HubRoom). kept_by r.room.seats token) o ≡ Some session → is_id session ≡ true
      by_room token None found k = absurd (cc)
      by_room token (Some r) found k = kept_named r.room.seats token session (All-contains P h.rooms r n.rooms (found_in (is_named q.name) h.rooms r found)).neat.seats k

      by_token : (o : Option (List ℕ)) → option_and_then (λ token. option_and_then (λ (r : HubRoom). kept_by r.room.seats token) (room_of h q.name)) o ≡ Some session → is_id session ≡ true
      by_token None k = absurd (cc)
      by_token (Some token) k = by_room token (room_of h q.name) refl k

  created_fits : (r : HubRoom) → P r → is_out (created_out h r) ≡ true
  created_fits r p = and_from (is_id r.id) (is_room_name (def_of_room h.defs r).name) p.named (def_named h.defs r n.names p.def_is)

  known_fits : (b : Bool) (o : HubOut) → is_out o ≡ true → list_all is_out (cond b [] (o ∷ [])) ≡ true
  known_fits true o fits = refl
  known_fits false o fits = one_out o fits

  opening_fits : (conn : ℕ) (target : List ℕ) → is_number conn ≡ true → list_all is_out (opening_refused h conn target) ≡ true
  opening_fits conn target number = by_conn (is_some (conn_of h conn)) (is_some (opening_of h target))
    where
      by_conn : (a b : Bool) → list_all is_out (cond a (out.Refused refusal.ConnInUse ∷ []) (cond b [] (refused_opening conn 4212 (codes "no such room")))) ≡ true
      by_conn true b = refl
      by_conn false true = refl
      by_conn false false = refused_fits conn 4212 (codes "no such room") number refl

  first_fit : (f : HubEvent) → is_event f ≡ true → list_all is_out (first_outs (rules_by said) h f) ≡ true
  first_fit (At now) is = refl
  first_fit (Ask conn target body room session) is =
      mapped_fit is_out P (created_out h) created_fits (makes (rules_by said) h (Ask conn target body room session)) (made (Ask conn target body room session) is)
  first_fit (Bad conn) is = one_out (out.Close conn 1002) (and_from (is_number conn) true is refl)
  first_fit (Opening conn target fresh) is = opening_fits conn target (and_parts (is_number conn) (is_text target && is_id fresh) is).0
  first_fit (Frame conn bytes) is = known_fits (is_some (conn_of h conn)) (out.Refused refusal.NoConn) refl
  first_fit (Lost conn) is = known_fits (is_some (conn_of h conn)) (out.Refused refusal.NoConn) refl
  first_fit (Acted room a) is = known_fits (is_some (room_of h room)) (out.Refused refusal.NoRoom) refl
  first_fit (Tick room) is = known_fits (is_some (room_of h room)) (out.Refused refusal.NoRoom) refl

  room_fits : (f : HubEvent) (conns : List HubConn) (d : Dealt) → is_event f ≡ true → are_numbers conns ≡ true → Given schema h.defs d → list_all is_out (tells f conns d) ≡ true
  room_fits (Opening conn target fresh) conns d is ns given =
      let number = (and_parts (is_number conn) (is_text target && is_id fresh) is).0 in
      made_fit fits_out is_out (opened_out conn fresh conns d.room.id) (opened_fits conn fresh number (fresh_id conn target fresh is) conns ns d.room.id given.place.named) d.outs given.outs
  room_fits f conns d is ns given = made_fit fits_out is_out (told_out conns d.room.id) (told_fits conns ns d.room.id given.place.named) d.outs given.outs

  last_fit : (f : HubEvent) → is_event f ≡ true → list_all is_out (last_outs (rules_by said) h f ds) ≡ true
  last_fit (Ask conn target body room session) is =
      let parts = ask_parts conn target body room session is in
      let d : Decision = decided (rules_by said) h target body room session in
      let fits : IsTold d = decision_told said h target body room session parts.room_id parts.session_id kept_ids in
      one_out (out.Reply conn (reply_of h behind d (answered_in h room session d))) (and_from (is_number conn) (is_one_line (reply_of h behind d (answered_in h room session d))) parts.number
      (reply_told h behind n.process (λ r there. let p = All-contains P behind r behind_places there in (p.named, def_named h.defs r n.names p.def_is))
      d (answered_in h room session d) fits (answered_named h room session d parts.session_id fits)))
  last_fit f is = refl

  pub outs_fit : list_all is_out (hub_step (rules_by said) h e).1 ≡ true
  outs_fit =
      all_append is_out (first_outs (rules_by said) h e) _ (first_fit e told)
      (all_append is_out (flat_map (tells e all) ds) _ (each_fits is_out (Given schema h.defs) (tells e all) (λ d given. room_fits e all d told numbers given) ds given)
      (all_append is_out (last_outs (rules_by said) h e ds) (disposals behind) (last_fit e told)
      (mapped_fit is_out P (λ (r : HubRoom). out.Disposed r.id) (λ r p. p.named) (filter (λ r. not (is_needed r)) behind) (All-filter (λ r. not (is_needed r)) P behind behind_places))))

  pub next_neat : NeatHub schema (run_step (rules_by said) x e).hub
  next_neat = record {
    process = n.process;
    names = n.names;
    conns = list_all_filtered (λ (c : HubConn). is_number c.conn) (λ (c : HubConn). not (list_any (ends c) ds)) all numbers;
    rooms = All-filter is_needed P behind behind_places;
  }
