-- Entries of places and sessions that tell the same, one by one: what is found of a name, and what stays so.
use Rattle.std.proofs.Common.{◌≡◌, ℕ, Bool, true, false, not, cond, List, [], ◌∷◌, ◌++◌, map, filter, Option, Some, None, refl, sym, ap, ap₂, subst, ◌∙◌}
use Rattle.std.specs.List.{find}
use Rattle.std.specs.Option.{option_map, option_map_or}
use Rattle.std.specs.Str.{bytes_eq}
use Rattle.std.proofs.lemmas.List.{map-append}
use Rattle.lists.proofs.SameBytes.{same_bytes}
use Rattle.room_model.specs.declared.event.Stage.{Stage}
use Rattle.room_model.specs.declared.event.Stage.TheVariants.{Reserved, Joining, Due, Live, Kept}
use Rattle.room_model.specs.declared.seat.Seat.{Seat}
use Rattle.room_model.specs.declared.seat.Seat.TheVariants as seat
use Rattle.room_model.specs.declared.seat.SeatEntry.{SeatEntry}
use Rattle.room_model.specs.Seats.{seat_of, is_reservation, is_taken_seat, is_kept_seat, seated_entry}
use Rattle.room_model.specs.Sessions.{Session, session_of, change_session, sessions_but, is_connected}
use Rattle.room_model.specs.Room.{RoomValue}
use Rattle.room_laws.specs.Placed.{Placed, AreDistinct, stage_of, stands, is_reserved, is_kept, standing, standing_of, entry_tells, session_tells}

-- the first and the rest of lists that are one
first_same : {X : Type 0} (x y : X) (xs ys : List X) → x ∷ xs ≡ y ∷ ys → x ≡ y
first_same x y xs ys h = cc

rest_same : {X : Type 0} (x y : X) (xs ys : List X) → x ∷ xs ≡ y ∷ ys → xs ≡ ys
rest_same x y xs ys h = cc

abbrev pub Alike : List SeatEntry → List Session → Type 0
Alike es ss = map entry_tells es ≡ map session_tells ss

-- the first ones tell the same, and so do the rest
pub first_alike : (e : SeatEntry) (s : Session) (es : List SeatEntry) (ss : List Session) → Alike (e ∷ es) (s ∷ ss) → entry_tells e ≡ session_tells s
first_alike e s es ss h = first_same (entry_tells e) (session_tells s) (map entry_tells es) (map session_tells ss) h

pub rest_alike : (e : SeatEntry) (s : Session) (es : List SeatEntry) (ss : List Session) → Alike (e ∷ es) (s ∷ ss) → Alike es ss
rest_alike e s es ss h = rest_same (entry_tells e) (session_tells s) (map entry_tells es) (map session_tells ss) h

-- ---- what is found of a name

-- the seat of a name
abbrev pub found_seat : List SeatEntry → List ℕ → Option Seat
found_seat es q = option_map (λ (e : SeatEntry). e.seat) (find (λ (e : SeatEntry). bytes_eq e.session q) es)

told_at : (q : List ℕ) (es : List SeatEntry) (ss : List Session) → Alike es ss → option_map standing_of (found_seat es q) ≡ option_map standing (stage_of ss q)
told_at q [] [] h = refl
told_at q [] (s ∷ ss) h = cc
told_at q (e ∷ es) [] h = cc
told_at q (e ∷ es) (s ∷ ss) h =
    let both = first_alike e s es ss h in
    let name : e.session ≡ s.id = ap (λ x. x.0) both in
    let at : standing_of e.seat ≡ standing s.stage = ap (λ x. x.1) both in
    let rest = rest_alike e s es ss h in
    let go : (b : Bool)
    → option_map standing_of (option_map (λ (e : SeatEntry). e.seat) (cond b (Some e) (find (λ (e : SeatEntry). bytes_eq e.session q) es)))
    ≡ option_map standing (option_map (λ (s : Session). s.stage) (cond b (Some s) (session_of ss q))) = elim [
      | true ↦ ap Some at
      | false ↦ told_at q es ss rest
    ] in
    ap (λ n. option_map standing_of (option_map (λ (e : SeatEntry). e.seat) (cond (bytes_eq n q) (Some e) (find (λ (e : SeatEntry). bytes_eq e.session q) es)))) name
    ∙ go (bytes_eq s.id q)

-- the tests look at where it stands
taken_seen : (o : Option Seat) → is_taken_seat o ≡ option_map_or is_connected (option_map standing_of o) false
taken_seen None = refl
taken_seen (Some (seat.Reserved lapse)) = refl
taken_seen (Some (seat.Taken token)) = refl
taken_seen (Some (seat.Kept token lapse)) = refl

reservation_seen : (o : Option Seat) → is_reservation o ≡ option_map_or is_reserved (option_map standing_of o) false
reservation_seen None = refl
reservation_seen (Some (seat.Reserved lapse)) = refl
reservation_seen (Some (seat.Taken token)) = refl
reservation_seen (Some (seat.Kept token lapse)) = refl

kept_seen : (o : Option Seat) → is_kept_seat o ≡ option_map_or is_kept (option_map standing_of o) false
kept_seen None = refl
kept_seen (Some (seat.Reserved lapse)) = refl
kept_seen (Some (seat.Taken token)) = refl
kept_seen (Some (seat.Kept token lapse)) = refl

-- and so do those of sessions
abbrev LooksAtStanding : (Stage → Bool) → Type 0
LooksAtStanding test = (st : Stage) → test (standing st) ≡ test st

connected_looks : LooksAtStanding is_connected
connected_looks Reserved = refl
connected_looks Joining = refl
connected_looks Due = refl
connected_looks Live = refl
connected_looks Kept = refl

reserved_looks : LooksAtStanding is_reserved
reserved_looks Reserved = refl
reserved_looks Joining = refl
reserved_looks Due = refl
reserved_looks Live = refl
reserved_looks Kept = refl

kept_looks : LooksAtStanding is_kept
kept_looks Reserved = refl
kept_looks Joining = refl
kept_looks Due = refl
kept_looks Live = refl
kept_looks Kept = refl

looked_at : (test : Stage → Bool) (o : Option Stage) → LooksAtStanding test → option_map_or test (option_map standing o) false ≡ option_map_or test o false
looked_at test None looks = refl
looked_at test (Some st) looks = looks st

tested : (test : Stage → Bool) (r : RoomValue) (q : List ℕ) → LooksAtStanding test → Placed r
    → option_map_or test (option_map standing_of (seat_of r.seats q)) false ≡ stands test r.sessions q
tested test r q looks p =
    ap (λ o. option_map_or test o false) (told_at q r.seats.entries r.sessions p.alike) ∙ looked_at test (stage_of r.sessions q) looks

-- a session has a seat where it is connected, a reservation where it is reserved, a kept seat where it is kept
pub has_seat : (r : RoomValue) (q : List ℕ) → Placed r → is_taken_seat (seat_of r.seats q) ≡ stands is_connected r.sessions q
has_seat r q p = taken_seen (seat_of r.seats q) ∙ tested is_connected r q connected_looks p

pub has_reserved : (r : RoomValue) (q : List ℕ) → Placed r → is_reservation (seat_of r.seats q) ≡ stands is_reserved r.sessions q
has_reserved r q p = reservation_seen (seat_of r.seats q) ∙ tested is_reserved r q reserved_looks p

pub has_kept : (r : RoomValue) (q : List ℕ) → Placed r → is_kept_seat (seat_of r.seats q) ≡ stands is_kept r.sessions q
has_kept r q p = kept_seen (seat_of r.seats q) ∙ tested is_kept r q kept_looks p

-- ---- what stays so

-- one more of each
pub alike_more : (es : List SeatEntry) (ss : List Session) (e : SeatEntry) (s : Session) → Alike es ss → entry_tells e ≡ session_tells s → Alike (es ++ e ∷ []) (ss ++ s ∷ [])
alike_more es ss e s h same =
    map-append entry_tells es (e ∷ []) ∙ (ap₂ (λ xs x. xs ++ x ∷ []) h same ∙ sym (map-append session_tells ss (s ∷ [])))

-- another seat, and a change that goes with it
pub alike_changed : (session : List ℕ) (seat : Seat) (change : Session → Session) (es : List SeatEntry) (ss : List Session)
    → ((s : Session) → bytes_eq s.id session ≡ true → session_tells (change s) ≡ (s.id, standing_of seat)) → Alike es ss
    → Alike (map (seated_entry session seat) es) (change_session session change ss)
alike_changed session seat change [] [] goes h = refl
alike_changed session seat change [] (s ∷ ss) goes h = cc
alike_changed session seat change (e ∷ es) [] goes h = cc
alike_changed session seat change (e ∷ es) (s ∷ ss) goes h =
    let both = first_alike e s es ss h in
    let name : e.session ≡ s.id = ap (λ x. x.0) both in
    let rest = rest_alike e s es ss h in
    let go : (b : Bool) → bytes_eq s.id session ≡ b
    → entry_tells (let x : SeatEntry = cond b (record { session = e.session; seat = seat }) e in x) ≡ session_tells (let t : Session = cond b (change s) s in t) = elim [
      | true ↦ λ is. ap (λ n. (n, standing_of seat)) name ∙ sym (goes s is)
      | false ↦ λ is. both
    ] in
    let head : entry_tells (seated_entry session seat e) ≡ session_tells (let t : Session = cond (bytes_eq s.id session) (change s) s in t) =
    ap (λ n. entry_tells (let x : SeatEntry = cond (bytes_eq n session) (record { session = e.session; seat = seat }) e in x)) name ∙ go (bytes_eq s.id session) refl in
    ap₂ (λ x xs. x ∷ xs) head (alike_changed session seat change es ss goes rest)

-- those of a name less
pub alike_but : (id : List ℕ) (es : List SeatEntry) (ss : List Session) → Alike es ss → Alike (filter (λ (e : SeatEntry). not (bytes_eq e.session id)) es) (sessions_but id ss)
alike_but id [] [] h = refl
alike_but id [] (s ∷ ss) h = cc
alike_but id (e ∷ es) [] h = cc
alike_but id (e ∷ es) (s ∷ ss) h =
    let both = first_alike e s es ss h in
    let name : e.session ≡ s.id = ap (λ x. x.0) both in
    let rest = alike_but id es ss (rest_alike e s es ss h) in
    let go : (b : Bool)
    → Alike (cond b (e ∷ filter (λ (e : SeatEntry). not (bytes_eq e.session id)) es) (filter (λ (e : SeatEntry). not (bytes_eq e.session id)) es)) (cond b (s ∷ sessions_but id ss) (sessions_but id ss)) = elim [
      | true ↦ ap₂ (λ x xs. x ∷ xs) both rest
      | false ↦ rest
    ] in
    ap (λ n. map entry_tells (cond (not (bytes_eq n id)) (e ∷ filter (λ (e : SeatEntry). not (bytes_eq e.session id)) es) (filter (λ (e : SeatEntry). not (bytes_eq e.session id)) es))) name
    ∙ go (not (bytes_eq s.id id))

-- sessions that are changed, but for their names and where they stand
pub tells_mapped : (f : Session → Session) (ss : List Session) → ((s : Session) → session_tells (f s) ≡ session_tells s) → map session_tells (map f ss) ≡ map session_tells ss
tells_mapped f [] same = refl
tells_mapped f (s ∷ ss) same = ap₂ (λ x xs. x ∷ xs) (same s) (tells_mapped f ss same)

-- one session that is changed, where it stands as before
pub tells_changed : (id : List ℕ) (change : Session → Session) (ss : List Session) → AreDistinct ss → ((s : Session) → bytes_eq s.id id ≡ true → (change s).id ≡ s.id)
    → ((s : Session) → session_of ss id ≡ Some s → (change s).stage ≡ s.stage) → map session_tells (change_session id change ss) ≡ map session_tells ss
tells_changed id change [] d keeps stages = refl
tells_changed id change (s ∷ ss) d keeps stages =
    let step : (b : Bool) → bytes_eq s.id id ≡ b
    → (session_tells (let t : Session = cond b (change s) s in t) ≡ session_tells s) × (map session_tells (change_session id change ss) ≡ map session_tells ss) = elim [
      | true ↦ λ e. (
        ap₂ (λ n st. (n, standing st)) (keeps s e) (stages s (ap (λ b. cond b (Some s) (session_of ss id)) e)),
        tells_changed id change ss d.1 keeps (λ t found. (let none : session_of ss id ≡ None = subst (λ n. session_of ss n ≡ None) (same_bytes s.id id e) d.0 in cc)),
      )
      | false ↦ λ e. (refl, tells_changed id change ss d.1 keeps (λ t found. stages t (ap (λ b. cond b (Some s) (session_of ss id)) e ∙ found)))
    ] in
    let both = step (bytes_eq s.id id) refl in
    ap₂ (λ x xs. x ∷ xs) both.0 both.1

-- ---- names that differ

-- where no session tells a name none does among those that tell the same
none_told : (id : List ℕ) (ss ts : List Session) → map session_tells ss ≡ map session_tells ts → session_of ss id ≡ None → session_of ts id ≡ None
none_told id [] [] same none = refl
none_told id [] (t ∷ ts) same none = absurd (cc)
none_told id (s ∷ ss) [] same none = refl
none_told id (s ∷ ss) (t ∷ ts) same none =
    let name : s.id ≡ t.id = ap (λ x. x.0) (first_same (session_tells s) (session_tells t) (map session_tells ss) (map session_tells ts) same) in
    let rest = rest_same (session_tells s) (session_tells t) (map session_tells ss) (map session_tells ts) same in
    let go : (b : Bool) → cond b (Some s) (session_of ss id) ≡ None → cond b (Some t) (session_of ts id) ≡ None = elim [
      | true ↦ λ h. absurd (cc)
      | false ↦ λ h. none_told id ss ts rest h
    ] in
    ap (λ n. cond (bytes_eq n id) (Some t) (session_of ts id)) (sym name) ∙ go (bytes_eq s.id id) none

pub distinct_told : (ss ts : List Session) → map session_tells ss ≡ map session_tells ts → AreDistinct ss → AreDistinct ts
distinct_told [] [] same d = tt
distinct_told [] (t ∷ ts) same d = absurd (cc)
distinct_told (s ∷ ss) [] same d = tt
distinct_told (s ∷ ss) (t ∷ ts) same d =
    let name : s.id ≡ t.id = ap (λ x. x.0) (first_same (session_tells s) (session_tells t) (map session_tells ss) (map session_tells ts) same) in
    let rest = rest_same (session_tells s) (session_tells t) (map session_tells ss) (map session_tells ts) same in
    (none_told t.id ss ts rest (subst (λ n. session_of ss n ≡ None) name d.0), distinct_told ss ts rest d.1)
