-- What a hub replies to a request is a text of one line.
use Rattle.std.proofs.Common.{◌≡◌, ℕ, Bool, true, false, cond, not, ◌&&◌, List, [], ◌∷◌, ◌++◌, length, codes, Option, Some, None, Result, Ok, Err, refl, sym, ap, subst}
use Rattle.std.specs.Prelude.{Contains, nat_lt, slice_get, ◌==◌}
use Rattle.std.specs.List.{find, list_any, position}
use Rattle.std.specs.Option.{option_map, option_map_or}
use Rattle.std.specs.Str.{IsUtf8, bytes_eq, is_utf8}
use Rattle.std.proofs.lemmas.Bool.{and_parts}
use Rattle.std.proofs.lemmas.Str.{IsUtf8-append, IsUtf8-from_is_utf8}
use Rattle.percent_encoding.specs.Percent.{percent_decode}
use Rattle.schema_model.specs.Ids.{is_id}
use Rattle.room_model.specs.declared.definition.RoomDef.{RoomDef}
use Rattle.hub_model.specs.declared.request.AskFault.{AskFault}
use Rattle.hub_model.specs.declared.request.AskFault.TheVariants as ask_fault
use Rattle.hub_model.specs.declared.request.Decision.{Decision}
use Rattle.hub_model.specs.declared.request.Decision.TheVariants as decision
use Rattle.hub_model.specs.declared.request.Listing.{Listing}
use Rattle.hub_model.specs.declared.request.Method.{Method}
use Rattle.hub_model.specs.declared.request.Method.TheVariants as method
use Rattle.hub_model.specs.declared.request.Request.{Request}
use Rattle.hub_model.specs.Dealt.{in_use_text}
use Rattle.hub_model.specs.Decisions as decisions
use Rattle.hub_model.specs.Decisions.{by_def, in_def, is_open, joined_at, joined_or, kept_at, meets, room_at}
use Rattle.hub_model.specs.HubStep.{answered_in, decided, drawn, fault_of, kept_session, outcome, reply_of, seat_text, unless_used}
use Rattle.hub_model.specs.HubValues.{HubRoom, HubValue, def_of_room, is_named, is_used, listings}
use Rattle.hub_model.specs.Replies.{refusal_reply}
use Rattle.hub_model.specs.Requests.{Asked, Said, after_prefix, asked_of, asks, first_asked, handled, method_word, methods, name_of, named_by, read_request, request_of, returning, up_to, def_of}
use Rattle.room_model.specs.Seats.{in_use}
use Rattle.hub_laws.proofs.Different.{found_in}
use Rattle.text_model.specs.Marks.{is_room_name}
use Rattle.text_model.specs.OutLines.{is_one_line}
use Rattle.text_model.proofs.Ascii.{room_name_bytes}
use Rattle.print_laws.specs.Printed.{rules_by}
use Rattle.print_laws.proofs.Texts.{OneLine, ascii_line, id_line, joined, one_line, refusal_line, seat_line, word_line}

-- ---- the name that a request asks for

named_text : (raw name : List ℕ) → name_of raw ≡ Some name → IsUtf8 name
named_text raw name h = by_test (nat_lt 0 (length raw) && (not (list_any (λ b. b == 47) raw) && is_utf8 (percent_decode raw))) refl h
  where
    by_test : (b : Bool) → (nat_lt 0 (length raw) && (not (list_any (λ b. b == 47) raw) && is_utf8 (percent_decode raw))) ≡ b → cond b (Some (percent_decode raw)) None ≡ Some name → IsUtf8 name
    by_test true e k =
        let words = (and_parts (not (list_any (λ b. b == 47) raw)) (is_utf8 (percent_decode raw)) (and_parts (nat_lt 0 (length raw)) _ e).1).1 in
        let same : percent_decode raw ≡ name = cc in
        subst IsUtf8 same (IsUtf8-from_is_utf8 (percent_decode raw) words)
    by_test false e k = absurd (cc)

named_in : (o : Option (List ℕ)) (name : List ℕ) → option_map_or name_of o None ≡ Some name → IsUtf8 name
named_in None name h = absurd (cc)
named_in (Some raw) name h = named_text raw name h

asked_text : (ms : List Method) (target : List ℕ) (a : Asked) → first_asked ms target ≡ Some a → IsUtf8 a.1
asked_text [] target a h = absurd (cc)
asked_text (m ∷ ms) target a h = by_name (named_by m target) refl (asked_text ms target a) h
  where
    by_name : (o : Option (List ℕ)) → named_by m target ≡ o → (first_asked ms target ≡ Some a → IsUtf8 a.1) → option_map_or (λ name. Some (m, name)) o (first_asked ms target) ≡ Some a → IsUtf8 a.1
    by_name None e others k = others k
    by_name (Some name) e others k =
        let same : (m, name) ≡ a = cc in
        subst (λ (a : Asked). IsUtf8 a.1) same (named_in (after_prefix (codes "/matchmake/" ++ (method_word m ++ codes "/")) (up_to 63 target)) name e)

-- what is asked for keeps the name
same_name : (a q : Request) (x : Result Request AskFault) → x ≡ Ok a → x ≡ Ok q → q.name ≡ a.name
same_name a q x is h = (let same : a ≡ q = cc in ap (λ (q : Request). q.name) (sym same))

handled_name : (m : Method) (name : List ℕ) (said : Said) (o : Option RoomDef) (q : Request) → handled m name said.members o ≡ Ok q → q.name ≡ name
handled_name m name said None q h = absurd (cc)
handled_name m name said (Some def) q h = same_name _ q (handled m name said.members (Some def)) refl h

returning_name : (name : List ℕ) (token : Option (List ℕ)) (q : Request) → returning name token ≡ Ok q → q.name ≡ name
returning_name name None q h = absurd (cc)
returning_name name (Some token) q h = same_name _ q (returning name (Some token)) refl h

request_name : (defs : List RoomDef) (m : Method) (name : List ℕ) (said : Said) (q : Request) → request_of defs m name said ≡ Ok q → q.name ≡ name
request_name defs method.JoinById name said q h = same_name _ q (request_of defs method.JoinById name said) refl h
request_name defs method.Reconnect name said q h = returning_name name said.token q h
request_name defs method.JoinOrCreate name said q h = handled_name method.JoinOrCreate name said (def_of defs name) q h
request_name defs method.Create name said q h = handled_name method.Create name said (def_of defs name) q h
request_name defs method.Join name said q h = handled_name method.Join name said (def_of defs name) q h

read_name : (defs : List RoomDef) (target : List ℕ) (said : Option Said) (q : Request) → read_request defs target said ≡ Ok q → IsUtf8 q.name
read_name defs target said q h = by_asked (asked_of target) refl said h
  where
    by_asked : (o : Option Asked) → asked_of target ≡ o → (said : Option Said) → asks defs o said ≡ Ok q → IsUtf8 q.name
    by_asked None e said k = absurd (cc)
    by_asked (Some a) e None k = absurd (cc)
    by_asked (Some a) e (Some said) k = subst IsUtf8 (sym (request_name defs a.0 a.1 said q k)) (asked_text methods target a e)

-- ---- what a request leads to

-- the text of a refusal is UTF-8, and a session that is kept is named by an id
abbrev pub IsTold : Decision → Type 0
IsTold (decision.Refuse code text) = IsUtf8 text
IsTold (decision.Make def) = Unit {0}
IsTold (decision.Join at) = Unit {0}
IsTold (decision.Return at kept) = is_id kept ≡ true

-- a text in ASCII
plain_text : (t : List ℕ) → OneLine t → IsUtf8 t
plain_text t l = l.utf8

about_room : (name text : List ℕ) → IsUtf8 name → OneLine text → IsUtf8 (codes "room " ++ (name ++ text))
about_room name text u l = IsUtf8-append (codes "room ") (name ++ text) (plain_text (codes "room ") (ascii_line (codes "room ") refl)) (IsUtf8-append name text u l.utf8)

told_join : (other : Decision) (o : Option ℕ) → IsTold other → IsTold (joined_or other o)
told_join other None told = told
told_join other (Some at) told = tt

told_def : (m : Method) (rooms : List Listing) (q : Request) (def : ℕ) → IsTold (in_def m rooms q def)
told_def method.JoinOrCreate rooms q def = told_join (decision.Make def) (position (meets def q.criteria) rooms) tt
told_def method.Join rooms q def = told_join _ (position (meets def q.criteria) rooms) (plain_text (codes "no room meets the criteria") (ascii_line (codes "no room meets the criteria") refl))
told_def method.Create rooms q def = tt
told_def method.JoinById rooms q def = tt
told_def method.Reconnect rooms q def = tt

told_by_def : (defs : List RoomDef) (rooms : List Listing) (q : Request) → IsTold (by_def defs rooms q)
told_by_def defs rooms q = by_place (position (λ (d : RoomDef). bytes_eq d.name q.name) defs)
  where
    by_place : (o : Option ℕ) → IsTold (option_map_or (in_def q.method rooms q) o (decision.Refuse 4210 (codes "no handler")))
    by_place None = plain_text (codes "no handler") (ascii_line (codes "no handler") refl)
    by_place (Some def) = told_def q.method rooms q def

told_room : (rooms : List Listing) (name : List ℕ) (o : Option ℕ) → IsUtf8 name → IsTold (joined_at rooms name o)
told_room rooms name None u = about_room name (codes " not found") u (ascii_line (codes " not found") refl)
told_room rooms name (Some at) u = by_open (option_map_or is_open (slice_get rooms at) false)
  where
    by_open : (b : Bool) → IsTold (cond b (decision.Join at) (decisions.room_is_locked name))
    by_open true = tt
    by_open false = about_room name (codes " is locked") u (ascii_line (codes " is locked") refl)

-- the session, where there is one, is named by an id
abbrev pub IsNamed : Option (List ℕ) → Type 0
IsNamed kept = (session : List ℕ) → kept ≡ Some session → is_id session ≡ true

told_kept : (name : List ℕ) (kept : Option (List ℕ)) (o : Option ℕ) → IsUtf8 name → IsNamed kept → IsTold (kept_at name kept o)
told_kept name kept None u named = about_room name (codes " not found") u (ascii_line (codes " not found") refl)
told_kept name None (Some at) u named = plain_text (codes "seat expired") (ascii_line (codes "seat expired") refl)
told_kept name (Some session) (Some at) u named = named session refl

told_by : (m : Method) (defs : List RoomDef) (rooms : List Listing) (q : Request) (kept : Option (List ℕ)) → IsUtf8 q.name → IsNamed kept → IsTold (decisions.decided m defs rooms q kept)
told_by method.JoinById defs rooms q kept u named = told_room rooms q.name (room_at rooms q.name) u
told_by method.Reconnect defs rooms q kept u named = told_kept q.name kept (room_at rooms q.name) u named
told_by method.JoinOrCreate defs rooms q kept u named = told_by_def defs rooms q
told_by method.Create defs rooms q kept u named = told_by_def defs rooms q
told_by method.Join defs rooms q kept u named = told_by_def defs rooms q

told_fault : (f : AskFault) → IsTold (fault_of f)
told_fault ask_fault.NoMethod = plain_text (codes "no method") (ascii_line (codes "no method") refl)
told_fault ask_fault.BadPayload = plain_text (codes "invalid payload") (ascii_line (codes "invalid payload") refl)
told_fault ask_fault.NoHandler = plain_text (codes "no handler") (ascii_line (codes "no handler") refl)
told_fault ask_fault.Memory = plain_text (codes "invalid payload") (ascii_line (codes "invalid payload") refl)

told_outcome : (h : HubValue) (x : Result Request AskFault) → ((q : Request) → x ≡ Ok q → IsUtf8 q.name) → ((q : Request) → IsNamed (kept_session h q)) → IsTold (outcome h x)
told_outcome h (Ok q) names keeps = told_by q.method h.defs (listings h) q (kept_session h q) (names q refl) (keeps q)
told_outcome h (Err f) names keeps = told_fault f

-- ---- and once the drawn ids are looked at

pub used_text : (id : List ℕ) → is_id id ≡ true → OneLine (in_use_text id)
used_text id h = joined (codes "id ") (id ++ codes " is in use") (ascii_line (codes "id ") refl) (joined id (codes " is in use") (id_line id h) (ascii_line (codes " is in use") refl))

told_unless : (h : HubValue) (id : List ℕ) (d : Decision) → is_id id ≡ true → IsTold d → IsTold (unless_used h id d)
told_unless h id d own told = by_used (is_used h id)
  where
    by_used : (b : Bool) → IsTold (cond b (decision.Refuse 4213 (in_use_text id)) d)
    by_used true = plain_text (in_use_text id) (used_text id own)
    by_used false = told

told_drawn : (h : HubValue) (room session : List ℕ) (d : Decision) → is_id room ≡ true → is_id session ≡ true → IsTold d → IsTold (drawn h room session d)
told_drawn h room session (decision.Refuse code text) r s told = told
told_drawn h room session (decision.Return at kept) r s told = told
told_drawn h room session (decision.Join at) r s told = told_unless h session (decision.Join at) s tt
told_drawn h room session (decision.Make def) r s told = told_unless h room (unless_used h session (decision.Make def)) r (told_unless h session (decision.Make def) s tt)

pub decision_told : (said : List ℕ → Option Said) (h : HubValue) (target body room session : List ℕ) → is_id room ≡ true → is_id session ≡ true
    → ((q : Request) → IsNamed (kept_session h q)) → IsTold (decided (rules_by said) h target body room session)
decision_told said h target body room session r s keeps =
    told_drawn h room session (outcome h (read_request h.defs target (said body))) r s (told_outcome h (read_request h.defs target (said body)) (λ q is. read_name h.defs target (said body) q is) keeps)

-- ---- the reply

-- the session of which a reply tells is named by an id
pub answered_named : (h : HubValue) (room session : List ℕ) (d : Decision) → is_id session ≡ true → IsTold d → (s : List ℕ × List ℕ) → answered_in h room session d ≡ Some s → is_id s.1 ≡ true
answered_named h room session (decision.Refuse code text) own told s is = absurd (cc)
answered_named h room session (decision.Make at) own told s is = (let same : (room, session) ≡ s = cc in subst (λ (s : List ℕ × List ℕ). is_id s.1 ≡ true) same own)
answered_named h room session (decision.Join at) own told s is = by_room (slice_get h.rooms at) is
  where
    by_room : (o : Option HubRoom) → option_map (λ id. (id, session)) (option_map (λ (r : HubRoom). r.id) o) ≡ Some s → is_id s.1 ≡ true
    by_room None k = absurd (cc)
    by_room (Some r) k = (let same : (r.id, session) ≡ s = cc in subst (λ (s : List ℕ × List ℕ). is_id s.1 ≡ true) same own)
answered_named h room session (decision.Return at kept) own told s is = by_room (slice_get h.rooms at) is
  where
    by_room : (o : Option HubRoom) → option_map (λ (r : HubRoom). (r.id, kept)) o ≡ Some s → is_id s.1 ≡ true
    by_room None k = absurd (cc)
    by_room (Some r) k = (let same : (r.id, kept) ≡ s = cc in subst (λ (s : List ℕ × List ℕ). is_id s.1 ≡ true) same told)

module _ (h : HubValue) (rooms : List HubRoom) (process : is_id h.process ≡ true) (room_told : (r : HubRoom) → Contains rooms r → (is_id r.id ≡ true) × (is_room_name (def_of_room h.defs r).name ≡ true)) where
  seat_told : (seat : Option (List ℕ × List ℕ)) → ((s : List ℕ × List ℕ) → seat ≡ Some s → is_id s.1 ≡ true)
      → is_one_line (option_map_or (λ (s : List ℕ × List ℕ). option_map_or (seat_text h s.1) (find (is_named s.0) rooms) []) seat []) ≡ true
  seat_told None named = one_line [] (ascii_line [] refl)
  seat_told (Some s) named = by_room (find (is_named s.0) rooms) refl
    where
      by_room : (o : Option HubRoom) → find (is_named s.0) rooms ≡ o → is_one_line (option_map_or (seat_text h s.1) o []) ≡ true
      by_room None found = one_line [] (ascii_line [] refl)
      by_room (Some r) found =
          let told = room_told r (found_in (is_named s.0) rooms r found) in
          let name = (def_of_room h.defs r).name in
          one_line (seat_text h s.1 r)
          (seat_line (in_use r.room.seats) r.room.seats.max name h.process r.id s.1 (word_line name (room_name_bytes name told.1)).utf8 (id_line h.process process).utf8 (id_line r.id told.0).utf8
          (id_line s.1 (named s refl)).utf8)

  pub reply_told : (d : Decision) (seat : Option (List ℕ × List ℕ)) → IsTold d → ((s : List ℕ × List ℕ) → seat ≡ Some s → is_id s.1 ≡ true) → is_one_line (reply_of h rooms d seat) ≡ true
  reply_told (decision.Refuse code text) seat told named = one_line (refusal_reply code text) (refusal_line code text told)
  reply_told (decision.Make at) seat told named = seat_told seat named
  reply_told (decision.Join at) seat told named = seat_told seat named
  reply_told (decision.Return at kept) seat told named = seat_told seat named
