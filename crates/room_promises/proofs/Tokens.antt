-- The tokens of a room's seats: each is one session's, and that by which a session comes back is nobody's any more.
use Rattle.std.proofs.Common.{◌≡◌, ℕ, Bool, true, false, not, cond, ◌||◌, List, [], ◌∷◌, ◌++◌, map, filter, Option, Some, None, Result, Ok, Err, refl, sym, ap, subst, ◌∙◌}
use Rattle.std.specs.List.{find, list_any}
use Rattle.std.specs.Option.{option_map}
use Rattle.std.specs.Str.{bytes_eq}
use Rattle.lists.proofs.SameBytes.{same_bytes, bytes_eq_self}
use Rattle.state_model.specs.State.{State}
use Rattle.state_model.specs.Commands.{do_command}
use Rattle.state_model.specs.declared.command.TableFault.{TableFault}
use Rattle.frame_model.specs.Frames.{server_bytes}
use Rattle.frame_model.specs.Reading.{read_client}
use Rattle.frame_model.specs.declared.fault.FrameFault.{FrameFault}
use Rattle.frame_model.specs.declared.frame.ClientFrame.{ClientFrame}
use Rattle.frame_model.specs.declared.frame.ClientFrame.TheVariants as client
use Rattle.frame_model.specs.declared.frame.ServerFrame.TheVariants as server
use Rattle.room_model.specs.declared.event.Act.{Act}
use Rattle.room_model.specs.declared.event.Act.TheVariants as act
use Rattle.room_model.specs.declared.event.RoomEvent.{RoomEvent}
use Rattle.room_model.specs.declared.event.RoomEvent.TheVariants as event
use Rattle.room_model.specs.declared.refusal.Refusal.{Refusal}
use Rattle.room_model.specs.declared.seat.Seat.{Seat}
use Rattle.room_model.specs.declared.seat.Seat.TheVariants as seat
use Rattle.room_model.specs.declared.seat.SeatEntry.{SeatEntry}
use Rattle.room_model.specs.Seats.{Seats, seat_of, seated_entry}
use Rattle.room_model.specs.Ledger.{has_as_token, keep_of}
use Rattle.room_model.specs.Sessions.{Acted, session_of, told_to, view_added_to, view_removed_from, keep_set}
use Rattle.room_model.specs.Room.{RoomValue, room_step, after_read, after_act, after_answer, accepted, acted_on}
use Rattle.room_promises.proofs.EventCases.{enter_cases, where_cases, loss_cases, moment_cases, kick_cases}
use Rattle.room_laws.proofs.AlikeLists.{found_seat}

-- ---- whose a token is

-- of these entries only this session's has the token
abbrev pub Owned : List ℕ → List ℕ → List SeatEntry → Type 0
Owned token session [] = Unit {0}
Owned token session (e ∷ es) = (has_as_token token e.seat ≡ true → e.session ≡ session) × Owned token session es

-- each token is one session's
abbrev pub OneEach : List SeatEntry → Type 0
OneEach es = (token : List ℕ) → (session : List ℕ) × Owned token session es

found_first : (e : SeatEntry) (s : Seat) → Some e.seat ≡ Some s → e.seat ≡ s
found_first e s h = cc

-- whoever is found to have it is the one
found_owner : (token session q : List ℕ) (s : Seat) (es : List SeatEntry) → Owned token session es → found_seat es q ≡ Some s → has_as_token token s ≡ true → q ≡ session
found_owner token session q s [] own found has = cc
found_owner token session q s (e ∷ es) own found has =
    let go : (b : Bool) → bytes_eq e.session q ≡ b → option_map (λ (e : SeatEntry). e.seat) (cond b (Some e) (find (λ (e : SeatEntry). bytes_eq e.session q) es)) ≡ Some s → q ≡ session = elim [
      | true ↦ λ is here. sym (same_bytes e.session q is) ∙ own.0 (ap (has_as_token token) (found_first e s here) ∙ has)
      | false ↦ λ is here. found_owner token session q s es own.1 here has
    ] in go (bytes_eq e.session q) refl found

-- of a token that nobody has nobody is found to have it
found_none : (token q : List ℕ) (s : Seat) (es : List SeatEntry) → list_any (λ (e : SeatEntry). has_as_token token e.seat) es ≡ false → found_seat es q ≡ Some s → has_as_token token s ≡ false
found_none token q s [] none found = cc
found_none token q s (e ∷ es) none found =
    let by_name : (b : Bool) → has_as_token token e.seat ≡ false → list_any (λ (e : SeatEntry). has_as_token token e.seat) es ≡ false
    → option_map (λ (e : SeatEntry). e.seat) (cond b (Some e) (find (λ (e : SeatEntry). bytes_eq e.session q) es)) ≡ Some s → has_as_token token s ≡ false = elim [
      | true ↦ λ first rest here. ap (has_as_token token) (sym (found_first e s here)) ∙ first
      | false ↦ λ first rest here. found_none token q s es rest here
    ] in
    let by_first : (b : Bool) → has_as_token token e.seat ≡ b → (b || list_any (λ (e : SeatEntry). has_as_token token e.seat) es) ≡ false → has_as_token token s ≡ false = elim [
      | true ↦ λ is all. absurd (cc)
      | false ↦ λ is all. by_name (bytes_eq e.session q) is all found
    ] in by_first (has_as_token token e.seat) refl none

-- a token that nobody has may be anyone's
owned_none : (token session : List ℕ) (es : List SeatEntry) → list_any (λ (e : SeatEntry). has_as_token token e.seat) es ≡ false → Owned token session es
owned_none token session [] none = tt
owned_none token session (e ∷ es) none =
    let go : (b : Bool) → has_as_token token e.seat ≡ b → (b || list_any (λ (e : SeatEntry). has_as_token token e.seat) es) ≡ false
    → (has_as_token token e.seat ≡ true → e.session ≡ session) × Owned token session es = elim [
      | true ↦ λ is all. absurd (cc)
      | false ↦ λ is all. (λ has. absurd (let never = sym is ∙ has in cc), owned_none token session es all)
    ] in go (has_as_token token e.seat) refl none

-- ---- what stays so

-- one more entry, without a token
owned_more : (token session q : List ℕ) (lapse : ℕ) (es : List SeatEntry) → Owned token session es → Owned token session (es ++ record { session = q; seat = seat.Reserved lapse } ∷ [])
owned_more token session q lapse [] own = (λ has. absurd (cc), tt)
owned_more token session q lapse (e ∷ es) own = (own.0, owned_more token session q lapse es own.1)

-- fewer entries
owned_fewer : (token session : List ℕ) (p : SeatEntry → Bool) (es : List SeatEntry) → Owned token session es → Owned token session (filter p es)
owned_fewer token session p [] own = tt
owned_fewer token session p (e ∷ es) own =
    let go : (b : Bool) → Owned token session (cond b (e ∷ filter p es) (filter p es)) = elim [
      | true ↦ (own.0, owned_fewer token session p es own.1)
      | false ↦ owned_fewer token session p es own.1
    ] in go (p e)

-- another seat of a session that may have it
owned_seated : (token session q : List ℕ) (s : Seat) (es : List SeatEntry) → (has_as_token token s ≡ true → q ≡ session) → Owned token session es → Owned token session (map (seated_entry q s) es)
owned_seated token session q s [] may own = tt
owned_seated token session q s (e ∷ es) may own = (go (bytes_eq e.session q) refl, owned_seated token session q s es may own.1)
  where
    go : (b : Bool) → bytes_eq e.session q ≡ b → has_as_token token (let x : SeatEntry = cond b (record { session = e.session; seat = s }) e in x).seat ≡ true
        → (let x : SeatEntry = cond b (record { session = e.session; seat = s }) e in x).session ≡ session
    go true is has = same_bytes e.session q is ∙ may has
    go false is has = own.0 has

-- a seat with a fresh token
each_taken : (q fresh : List ℕ) (es : List SeatEntry) → list_any (λ (e : SeatEntry). has_as_token fresh e.seat) es ≡ false → OneEach es → OneEach (map (seated_entry q (seat.Taken fresh)) es)
each_taken q fresh es new one token = go (bytes_eq fresh token) refl
  where
    go : (b : Bool) → bytes_eq fresh token ≡ b → (session : List ℕ) × Owned token session (map (seated_entry q (seat.Taken fresh)) es)
    go true is =
        (q, owned_seated token q q (seat.Taken fresh) es (λ has. refl) (owned_none token q es (subst (λ t. list_any (λ (e : SeatEntry). has_as_token t e.seat) es ≡ false) (same_bytes fresh token is) new)))
    go false is = ((one token).0, owned_seated token (one token).0 q (seat.Taken fresh) es (λ has. absurd (let never = sym is ∙ has in cc)) (one token).1)

-- a kept seat with the token of the seat
each_kept : (q t : List ℕ) (lapse : ℕ) (es : List SeatEntry) → found_seat es q ≡ Some (seat.Taken t) → OneEach es → OneEach (map (seated_entry q (seat.Kept t lapse)) es)
each_kept q t lapse es found one token =
    ((one token).0, owned_seated token (one token).0 q (seat.Kept t lapse) es (λ has. found_owner token (one token).0 q (seat.Taken t) es (one token).1 found has) (one token).1)

-- ---- a token that was used

-- a fresh token is another one
fresh_apart : (q t fresh : List ℕ) (lapse : ℕ) (es : List SeatEntry) → list_any (λ (e : SeatEntry). has_as_token fresh e.seat) es ≡ false → found_seat es q ≡ Some (seat.Kept t lapse) → bytes_eq fresh t ≡ false
fresh_apart q t fresh lapse es new found = by_same (bytes_eq fresh t) refl
  where
    by_same : (b : Bool) → bytes_eq fresh t ≡ b → b ≡ false
    by_same true is =
        sym (subst (λ f. bytes_eq t f ≡ true) (sym (same_bytes fresh t is)) (bytes_eq_self t)) ∙ found_none fresh q (seat.Kept t lapse) es new found
    by_same false is = refl

-- where a session alone had a token it has another one, and nobody has that
none_left : (q t fresh : List ℕ) (es : List SeatEntry) → bytes_eq fresh t ≡ false → Owned t q es → list_any (λ (e : SeatEntry). has_as_token t e.seat) (map (seated_entry q (seat.Taken fresh)) es) ≡ false
none_left q t fresh [] other own = refl
none_left q t fresh (e ∷ es) other own =
    ap (λ b. b || list_any (λ (e : SeatEntry). has_as_token t e.seat) (map (seated_entry q (seat.Taken fresh)) es)) (first (bytes_eq e.session q) refl) ∙ none_left q t fresh es other own.1
  where
    apart : (b : Bool) → has_as_token t e.seat ≡ b → bytes_eq e.session q ≡ false → b ≡ false
    apart true has other = sym (subst (λ n. bytes_eq n q ≡ true) (sym (own.0 has)) (bytes_eq_self q)) ∙ other
    apart false has other = refl

    first : (b : Bool) → bytes_eq e.session q ≡ b → has_as_token t (let x : SeatEntry = cond b (record { session = e.session; seat = seat.Taken fresh }) e in x).seat ≡ false
    first true is = other
    first false is = apart (has_as_token t e.seat) refl is

-- once a session came back by it, it is nobody's
pub used_dead : (q t fresh : List ℕ) (lapse : ℕ) (es : List SeatEntry) → OneEach es → list_any (λ (e : SeatEntry). has_as_token fresh e.seat) es ≡ false → found_seat es q ≡ Some (seat.Kept t lapse)
    → list_any (λ (e : SeatEntry). has_as_token t e.seat) (map (seated_entry q (seat.Taken fresh)) es) ≡ false
used_dead q t fresh lapse es one new found =
    none_left q t fresh es (fresh_apart q t fresh lapse es new found)
    (subst (λ s. Owned t s es) (sym (found_owner t (one t).0 q (seat.Kept t lapse) es (one t).1 found (bytes_eq_self t))) (one t).1)

-- ---- events

-- the tokens of a room
abbrev pub OneEachIn : RoomValue → Type 0
OneEachIn r = OneEach r.seats.entries

fewer_in : (p : SeatEntry → Bool) (es : List SeatEntry) → OneEach es → OneEach (filter p es)
fewer_in p es one token = ((one token).0, owned_fewer token (one token).0 p es (one token).1)

read_tokens : (r : RoomValue) (id : List ℕ) (x : Result ClientFrame FrameFault) → OneEachIn r → OneEachIn (after_read r id x).0
read_tokens r id (Ok client.Ack) one = one
read_tokens r id (Ok client.Leave) one = fewer_in (λ (e : SeatEntry). not (bytes_eq e.session id)) r.seats.entries one
read_tokens r id (Ok (client.Msg kind payload)) one = one
read_tokens r id (Ok (client.Raw kind payload)) one = one
read_tokens r id (Err f) one = one

kept_tokens : (seats : Seats) (id : List ℕ) (lapse : ℕ) (o : Option Seat) → seat_of seats id ≡ o → OneEach seats.entries → OneEach (accepted seats (keep_of seats id lapse o)).entries
kept_tokens seats id lapse None at one = one
kept_tokens seats id lapse (Some (seat.Reserved l)) at one = one
kept_tokens seats id lapse (Some (seat.Taken t)) at one = each_kept id t lapse seats.entries at one
kept_tokens seats id lapse (Some (seat.Kept t l)) at one = one

answer_tokens : (r : RoomValue) (x : Result (State × Option ℕ) TableFault) → OneEachIn r → OneEachIn (after_answer r x).0
answer_tokens r (Ok x) one = one
answer_tokens r (Err f) one = one

acted_tokens : (r : RoomValue) (id : List ℕ) (x : Option (Result Acted Refusal)) → OneEachIn r → OneEachIn (acted_on r id x).0
acted_tokens r id None one = one
acted_tokens r id (Some (Err f)) one = one
acted_tokens r id (Some (Ok a)) one = one

act_tokens : (r : RoomValue) (a : Act) → OneEachIn r → OneEachIn (after_act r a).0
act_tokens r (act.State c) one = answer_tokens r (do_command r.schema r.state c) one
act_tokens r (act.ViewAdd id pair) one = acted_tokens r id (option_map (view_added_to r.schema r.state.rows pair) (session_of r.sessions id)) one
act_tokens r (act.ViewDel id pair) one = acted_tokens r id (option_map (view_removed_from r.schema r.state.rows pair) (session_of r.sessions id)) one
act_tokens r (act.Send id kind bytes) one = acted_tokens r id (option_map (told_to (server_bytes (server.Msg kind bytes))) (session_of r.sessions id)) one
act_tokens r (act.Raw id kind bytes) one = acted_tokens r id (option_map (told_to (server_bytes (server.Raw kind bytes))) (session_of r.sessions id)) one
act_tokens r (act.ToAll kind bytes) one = one
act_tokens r (act.Kick id code) one =
    kick_cases (λ x. OneEachIn x.0) r id code (λ f nobody. one) (λ s found. fewer_in (λ (e : SeatEntry). not (bytes_eq e.session id)) r.seats.entries one)
act_tokens r act.Lock one = one
act_tokens r act.Unlock one = one
act_tokens r (act.Keep id ms) one = acted_tokens r id (option_map (keep_set ms) (session_of r.sessions id)) one

pub step_tokens : (r : RoomValue) (e : RoomEvent) → OneEachIn r → OneEachIn (room_step r e).0
step_tokens r (event.Reserve session lapse) one = λ token. ((one token).0, owned_more token (one token).0 session lapse r.seats.entries (one token).1)
step_tokens r (event.Enter session token fresh) one =
    enter_cases (λ x. OneEachIn x.0) r session fresh token one one (λ lapse at new. each_taken session fresh r.seats.entries new one) (λ t lapse is at new. each_taken session fresh r.seats.entries new one)
step_tokens r (event.Frame session bytes) one =
    where_cases (λ x. OneEachIn x.0) r (session_of r.sessions session) (λ s. after_read r session (read_client bytes)) (λ off. one) (λ s found is. read_tokens r session (read_client bytes) one)
step_tokens r (event.Lost session now) one =
    loss_cases (λ x. OneEachIn x.0) r session now (λ off. one) (λ s lapse found is. kept_tokens r.seats session lapse (seat_of r.seats session) refl one)
    (λ s found is. fewer_in (λ (e : SeatEntry). not (bytes_eq e.session session)) r.seats.entries one)
step_tokens r (event.Moment now) one = moment_cases (λ x. OneEachIn x.0) r now one (λ x id one. fewer_in (λ (e : SeatEntry). not (bytes_eq e.session id)) x.0.seats.entries one)
step_tokens r (event.Act a) one = act_tokens r a one
step_tokens r event.Tick one = one
