-- What a room keeps of its sessions and places, so that all it gives has a line: ids, frames that wait as bytes, and of a live
-- session the rows that it saw at the last tick.
use Rattle.std.proofs.Common.{◌≡◌, ℕ, ◌==◌, Bool, true, false, cond, not, ◌&&◌, List, [], ◌∷◌, ◌++◌, length, map, All, Option, Some, None, Result, Ok, Err, refl, sym, ap, ◌∙◌, arith, eqb-true, pos, codes}
use Rattle.std.specs.Prelude.{nat_lt}
use Rattle.std.specs.List.{find, flat_map, list_all}
use Rattle.std.specs.Option.{option_map}
use Rattle.std.specs.Str.{bytes_eq, is_utf8}
use Rattle.std.proofs.lemmas.Bool.{and_parts, and_from}
use Rattle.std.proofs.lemmas.List.Elements.{All-contains, All-filter, All-head, All-map, All-tail, All-weaker}
use Rattle.std.proofs.lemmas.List.Sums.{AllPass-from_list_all}
use Rattle.lists.proofs.Passing.{all_append, list_all_filtered}
use Rattle.schema_model.specs.Classes.{Schema}
use Rattle.schema_model.specs.Ids.{is_id, is_id_byte}
use Rattle.schema_model.proofs.IdLaws.{utf8_from_id_bytes}
use Rattle.schema_model.specs.declared.place.Pair.{Pair}
use Rattle.state_model.specs.declared.row.RowEntry.{RowEntry}
use Rattle.state_model.specs.declared.command.TableFault.TheVariants.{NoRef}
use Rattle.state_model.specs.Members.{Members, is_view_full, view_added, view_removed}
use Rattle.state_model.specs.Rows.{is_live}
use Rattle.state_model.specs.Shown.{permitted}
use Rattle.state_model.specs.State.{State}
use Rattle.schema_model.specs.Spelling.{number_bytes, text_bytes}
use Rattle.frame_model.specs.Frames.{kind_bytes, server_bytes, short_text}
use Rattle.frame_model.specs.declared.frame.MsgKind.{MsgKind}
use Rattle.frame_model.specs.declared.frame.MsgKind.TheVariants.{Name, Num}
use Rattle.frame_model.specs.declared.frame.ServerFrame.TheVariants as server
use Rattle.room_model.specs.declared.event.RoomOut.{RoomOut}
use Rattle.room_model.specs.declared.event.RoomOut.TheVariants as out
use Rattle.room_model.specs.declared.event.Stage.{Stage}
use Rattle.room_model.specs.declared.event.Stage.TheVariants.{Reserved, Joining, Due, Live, Kept}
use Rattle.room_model.specs.declared.refusal.Refusal.{Refusal}
use Rattle.room_model.specs.declared.refusal.Refusal.TheVariants as refusal
use Rattle.room_model.specs.declared.seat.Seat.{Seat}
use Rattle.room_model.specs.declared.seat.Seat.TheVariants as seat
use Rattle.room_model.specs.declared.seat.SeatEntry.{SeatEntry}
use Rattle.room_model.specs.Ledger.{is_kept_by, keep, keep_of, kept_by}
use Rattle.room_model.specs.Room.{RoomValue, accepted, acknowledged_at, dropped, ended, join_frame, outs_after, session_after}
use Rattle.room_model.specs.Seats.{Seats, seat_of, seated, seated_entry}
use Rattle.room_model.specs.Sessions.{Session, Acted, acted, at_stage, change_session, if_room, keep_set, queued_for, session_of, told_at, told_to, unless_reserved, view_added_to, view_removed_from, with_members}
use Rattle.room_laws.proofs.SessionLists.{named_key}
use Rattle.hub_laws.proofs.Different.{found_in}
use Rattle.life_model.specs.Lives.{is_live_stage}
use Rattle.text_model.specs.Acts.{is_kind, is_ref}
use Rattle.text_model.specs.OutLines.{is_told}
use Rattle.text_model.specs.WordForms.{are_bytes, is_text}
use Rattle.print_laws.proofs.Bytes.{byte_before, bytes_append, number_small, text_small, utf8_bytes}

-- ---- what has a line

-- a hub gives an output of a room as one that has a line
abbrev pub fits_out : RoomOut → Bool
fits_out (out.Send s bytes) = are_bytes bytes
fits_out (out.Close s code) = nat_lt code 65536
fits_out (out.Entered s) = is_id s
fits_out (out.Back s) = is_id s
fits_out (out.NoSeat s) = true
fits_out (out.TokenInUse s) = true
fits_out (out.Message s kind payload) = is_id s && (is_kind kind && are_bytes payload)
fits_out (out.RawMessage s kind payload) = is_id s && (is_kind kind && are_bytes payload)
fits_out (out.Dropped s) = is_id s
fits_out (out.Left s) = is_id s
fits_out (out.Made n) = is_ref n
fits_out (out.Refused r) = is_told r

-- a session is named by an id, the frames that wait for it are bytes, and where it is live it saw at the last tick, of which
-- these are the rows, what its pairs permitted then
pub record Plain (schema : Schema) (last : State) (s : Session) : Type 0 where
  pub named : is_id s.id ≡ true
  pub queue : list_all are_bytes s.queue ≡ true
  pub sees : is_live_stage s.stage ≡ true → s.permitted ≡ permitted schema last.rows s.members.last

-- a room has such sessions, and its places are those of ids
pub record Neat (last : State) (r : RoomValue) : Type 0 where
  pub sessions : All (Plain r.schema last) r.sessions
  pub seats : list_all (λ (e : SeatEntry). is_id e.session) r.seats.entries ≡ true

-- ---- what is found

found_all : {X : Type 0} (p q : X → Bool) (xs : List X) (x : X) → list_all q xs ≡ true → find p xs ≡ Some x → q x ≡ true
found_all p q xs x h found = All-contains (λ x. q x ≡ true) xs x (AllPass-from_list_all q xs h) (found_in p xs x found)

pub session_plain : (schema : Schema) (last : State) (ss : List Session) (id : List ℕ) (s : Session) → All (Plain schema last) ss → session_of ss id ≡ Some s → Plain schema last s
session_plain schema last ss id s all found = All-contains (Plain schema last) ss s all (found_in (λ (s : Session). bytes_eq s.id id) ss s found)

pub session_named : (schema : Schema) (last : State) (ss : List Session) (id : List ℕ) (s : Session) → All (Plain schema last) ss → session_of ss id ≡ Some s → is_id id ≡ true
session_named schema last ss id s all found = ap is_id (sym (named_key (λ (s : Session). s.id) id ss s found)) ∙ (session_plain schema last ss id s all found).named

abbrev pub are_seats : List SeatEntry → Bool
are_seats es = list_all (λ (e : SeatEntry). is_id e.session) es

pub seat_named : (seats : Seats) (session : List ℕ) (x : Seat) → are_seats seats.entries ≡ true → seat_of seats session ≡ Some x → is_id session ≡ true
seat_named seats session x h found = by_entry (find (λ (e : SeatEntry). bytes_eq e.session session) seats.entries) refl found
  where
    by_entry : (o : Option SeatEntry) → find (λ (e : SeatEntry). bytes_eq e.session session) seats.entries ≡ o → option_map (λ (e : SeatEntry). e.seat) o ≡ Some x → is_id session ≡ true
    by_entry None e k = absurd (cc)
    by_entry (Some y) e k =
        ap is_id (sym (named_key (λ (e : SeatEntry). e.session) session seats.entries y e))
        ∙ found_all (λ (e : SeatEntry). bytes_eq e.session session) (λ (e : SeatEntry). is_id e.session) seats.entries y h e

pub kept_named : (seats : Seats) (token id : List ℕ) → are_seats seats.entries ≡ true → kept_by seats token ≡ Some id → is_id id ≡ true
kept_named seats token id h found = by_entry (find (λ (e : SeatEntry). is_kept_by token e.seat) seats.entries) refl found
  where
    by_entry : (o : Option SeatEntry) → find (λ (e : SeatEntry). is_kept_by token e.seat) seats.entries ≡ o → option_map (λ (e : SeatEntry). e.session) o ≡ Some id → is_id id ≡ true
    by_entry None e k = absurd (cc)
    by_entry (Some y) e k =
        let same : y.session ≡ id = cc in
        ap is_id (sym same) ∙ found_all (λ (e : SeatEntry). is_kept_by token e.seat) (λ (e : SeatEntry). is_id e.session) seats.entries y h e

-- ---- places that change

seated_ids : (session : List ℕ) (x : Seat) (es : List SeatEntry) → are_seats es ≡ true → are_seats (map (seated_entry session x) es) ≡ true
seated_ids session x [] h = refl
seated_ids session x (e ∷ es) h =
    let p = and_parts (is_id e.session) (are_seats es) h in
    let own : (b : Bool) → is_id (let y : SeatEntry = cond b (record { session = e.session; seat = x }) e in y.session) ≡ true = elim [ true ↦ p.0 | false ↦ p.0 ] in
    and_from (is_id (seated_entry session x e).session) (are_seats (map (seated_entry session x) es)) (own (bytes_eq e.session session)) (seated_ids session x es p.1)

pub seated_fits : (seats : Seats) (session : List ℕ) (x : Seat) → are_seats seats.entries ≡ true → are_seats (seated seats session x).entries ≡ true
seated_fits seats session x h = seated_ids session x seats.entries h

pub keep_fits : (seats : Seats) (session : List ℕ) (lapse : ℕ) → are_seats seats.entries ≡ true → are_seats (accepted seats (keep seats session lapse)).entries ≡ true
keep_fits seats session lapse h = by_seat (seat_of seats session)
  where
    by_seat : (o : Option Seat) → are_seats (accepted seats (keep_of seats session lapse o)).entries ≡ true
    by_seat None = h
    by_seat (Some (seat.Reserved l)) = h
    by_seat (Some (seat.Taken token)) = seated_fits seats session (seat.Kept token lapse) h
    by_seat (Some (seat.Kept token l)) = h

-- ---- sessions that change

pub ended_neat : (last : State) (r : RoomValue) (id : List ℕ) → Neat last r → Neat last (ended r id)
ended_neat last r id n = record {
  sessions = All-filter (λ (s : Session). not (bytes_eq s.id id)) (Plain r.schema last) r.sessions n.sessions;
  seats = list_all_filtered (λ (e : SeatEntry). is_id e.session) (λ (e : SeatEntry). not (bytes_eq e.session id)) r.seats.entries n.seats;
}

module _ (schema : Schema) (last : State) where
  abbrev P : Session → Type 0
  P = Plain schema last

  pub each_plain : (f : Session → Session) (ss : List Session) → ((s : Session) → P s → P (f s)) → All P ss → All P (map f ss)
  each_plain f ss keeps all = All-map P f ss (All-weaker P (λ s. P (f s)) keeps ss all)

  pub changed_plain : (id : List ℕ) (change : Session → Session) (ss : List Session) → ((s : Session) → P s → P (change s)) → All P ss → All P (change_session id change ss)
  changed_plain id change ss keeps all = each_plain (λ (s : Session). cond (bytes_eq s.id id) (change s) s) ss own all
    where
      own : (s : Session) → P s → P (cond (bytes_eq s.id id) (change s) s)
      own s p =
          let go : (b : Bool) → P (cond b (change s) s) = elim [ true ↦ keeps s p | false ↦ p ] in
          go (bytes_eq s.id id)

  -- one that isn't live
  pub joining_plain : (s : Session) → P s → P (at_stage Joining s)
  joining_plain s p = record { named = p.named; queue = p.queue; sees = λ h. absurd (cc) }

  pub dropped_plain : (s : Session) → P s → P (dropped schema s)
  dropped_plain s p = record { named = p.named; queue = refl; sees = λ h. absurd (cc) }

  pub acknowledged_plain : (st : Stage) (s : Session) → P s → P (acknowledged_at st s)
  acknowledged_plain Reserved s p = p
  acknowledged_plain Joining s p = record { named = p.named; queue = p.queue; sees = λ h. absurd (cc) }
  acknowledged_plain Due s p = p
  acknowledged_plain Live s p = p
  acknowledged_plain Kept s p = p

  -- ---- acts on a session

  -- what becomes of it is such a session, what it gives has a line, and a refusal is told
  abbrev pub Answers : Result Acted Refusal → Type 0
  Answers (Ok a) = P a.session × (list_all fits_out a.outs ≡ true)
  Answers (Err f) = is_told f ≡ true

  queued_answers : (frame : List ℕ) (s : Session) → are_bytes frame ≡ true → P s → Answers (queued_for frame s)
  queued_answers frame s h p = by_room (nat_lt (length s.queue) 256)
    where
      by_room : (b : Bool) → Answers (cond b (acted (record { id = s.id; stage = s.stage; members = s.members; permitted = s.permitted; queue = s.queue ++ frame ∷ []; keep = s.keep }) []) (Err refusal.QueueFull))
      by_room true = (record { named = p.named; queue = all_append are_bytes s.queue (frame ∷ []) p.queue (and_from (are_bytes frame) true h refl); sees = p.sees }, refl)
      by_room false = refl

  told_answers : (st : Stage) (frame : List ℕ) (s : Session) → are_bytes frame ≡ true → P s → Answers (told_at st frame s)
  told_answers Reserved frame s h p = refl
  told_answers Joining frame s h p = queued_answers frame s h p
  told_answers Due frame s h p = queued_answers frame s h p
  told_answers Live frame s h p = (p, and_from (are_bytes frame) true h refl)
  told_answers Kept frame s h p = refl

  pub message_answers : (frame : List ℕ) (s : Session) → are_bytes frame ≡ true → P s → Answers (told_to frame s)
  message_answers frame s h p = told_answers s.stage frame s h p

  unless_answers : (st : Stage) (x : Result Acted Refusal) → Answers x → Answers (unless_reserved st x)
  unless_answers Reserved x h = refl
  unless_answers Joining x h = h
  unless_answers Due x h = h
  unless_answers Live x h = h
  unless_answers Kept x h = h

  members_plain : (m : Members) (s : Session) → m.last ≡ s.members.last → P s → P (with_members m s)
  members_plain m s same p = record { named = p.named; queue = p.queue; sees = λ live. p.sees live ∙ ap (permitted schema last.rows) (sym same) }

  room_answers : (m : Members) (s : Session) → m.last ≡ s.members.last → P s → Answers (if_room m s)
  room_answers m s same p = by_full (is_view_full m)
    where
      by_full : (b : Bool) → Answers (cond b (Err refusal.ViewFull) (acted (with_members m s) []))
      by_full true = refl
      by_full false = (members_plain m s same p, refl)

  pub added_answers : (rows : List RowEntry) (pair : Pair) (s : Session) → P s → Answers (view_added_to schema rows pair s)
  added_answers rows pair s p = unless_answers s.stage _ (by_live (is_live rows pair.who))
    where
      by_live : (b : Bool) → Answers (cond b (if_room (view_added schema rows pair s.members) s) (Err (refusal.Table NoRef)))
      by_live true = room_answers (view_added schema rows pair s.members) s refl p
      by_live false = refl

  pub removed_answers : (rows : List RowEntry) (pair : Pair) (s : Session) → P s → Answers (view_removed_from schema rows pair s)
  removed_answers rows pair s p = unless_answers s.stage _ (by_live (is_live rows pair.who))
    where
      by_live : (b : Bool) → Answers (cond b (acted (with_members (view_removed schema rows pair s.members) s) []) (Err (refusal.Table NoRef)))
      by_live true = (members_plain (view_removed schema rows pair s.members) s refl p, refl)
      by_live false = refl

  pub keep_answers : (ms : ℕ) (s : Session) → P s → Answers (keep_set ms s)
  keep_answers ms s p = unless_answers s.stage _ (record { named = p.named; queue = p.queue; sees = p.sees }, refl)

  -- a message to all
  pub session_told : (s : Session) (x : Result Acted Refusal) → P s → Answers x → P (session_after s x)
  session_told s (Ok a) p h = h.0
  session_told s (Err f) p h = p

  pub outs_told : (x : Result Acted Refusal) → Answers x → list_all fits_out (outs_after x) ≡ true
  outs_told (Ok a) h = h.1
  outs_told (Err f) h = refl

-- what is made of each has a line
pub each_fits : {X Y : Type 0} (test : Y → Bool) (Q : X → Type 0) (f : X → List Y) → ((x : X) → Q x → list_all test (f x) ≡ true) → (xs : List X) → All Q xs → list_all test (flat_map f xs) ≡ true
each_fits test Q f fits [] all = refl
each_fits test Q f fits (x ∷ xs) all = all_append test (f x) (flat_map f xs) (fits x (All-head Q x xs all)) (each_fits test Q f fits xs (All-tail Q x xs all))

-- ---- frames

id_bytes : (w : List ℕ) → is_id w ≡ true → are_bytes w ≡ true
id_bytes w h = utf8_bytes w (utf8_from_id_bytes w (and_parts (length w == 9) (list_all is_id_byte w) h).1)

pub join_small : (fresh : List ℕ) → is_id fresh ≡ true → are_bytes (join_frame fresh) ≡ true
join_small fresh h =
    let nine : length fresh ≡ 9 = eqb-true (length fresh) 9 (and_parts (length fresh == 9) (list_all is_id_byte fresh) h).0 in
    let behind : List ℕ = short_text (codes "schema") ++ [] in
    byte_before 10 (length fresh ∷ (fresh ++ behind)) (omega arith) (byte_before (length fresh) (fresh ++ behind) (omega arith) (bytes_append fresh behind (id_bytes fresh h) refl))

kind_small : (k : MsgKind) → is_kind k ≡ true → are_bytes (kind_bytes k) ≡ true
kind_small (Name t) h = text_small t (and_parts (are_bytes t) (is_utf8 t) (and_parts (is_text t) _ h).0).0
kind_small (Num z) h = number_small z

pub message_small : (k : MsgKind) (payload : List ℕ) → is_kind k ≡ true → are_bytes payload ≡ true → are_bytes (server_bytes (server.Msg k payload)) ≡ true
message_small k payload h p = byte_before 13 (kind_bytes k ++ payload) (omega arith) (bytes_append (kind_bytes k) payload (kind_small k h) p)

pub raw_small : (k : MsgKind) (payload : List ℕ) → is_kind k ≡ true → are_bytes payload ≡ true → are_bytes (server_bytes (server.Raw k payload)) ≡ true
raw_small k payload h p = byte_before 17 (kind_bytes k ++ payload) (omega arith) (bytes_append (kind_bytes k) payload (kind_small k h) p)

pub fault_small : (code : ℕ) (t : List ℕ) → are_bytes t ≡ true → are_bytes (server_bytes (server.Fault (pos code) t)) ≡ true
fault_small code t h = byte_before 11 (number_bytes (pos code) ++ text_bytes t) (omega arith) (bytes_append (number_bytes (pos code)) (text_bytes t) (number_small (pos code)) (text_small t h))
