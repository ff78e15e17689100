-- Each event keeps places and sessions alike.
use Rattle.std.proofs.Common.{◌≡◌, ℕ, Bool, true, false, not, cond, ◌&&◌, List, [], ◌∷◌, ◌++◌, map, length, Option, Some, None, is_some, Result, Ok, Err, refl, sym, ap, ap₂, subst, ◌∙◌}
use Rattle.std.specs.Prelude.{nat_lt, IfOk}
use Rattle.std.specs.Option.{option_map, option_map_or}
use Rattle.std.specs.Str.{bytes_eq}
use Rattle.std.proofs.lemmas.Bool.{and_parts, not-true}
use Rattle.lists.proofs.SameBytes.{same_bytes, bytes_eq_self, bytes_eq_sym}
use Rattle.lists.proofs.Options.{none_there}
use Rattle.state_model.specs.Rows.{root_alone, is_live}
use Rattle.state_model.specs.Members.{Members, no_members, view_added, view_removed, is_view_full}
use Rattle.state_model.specs.declared.row.RowEntry.{RowEntry}
use Rattle.state_model.specs.declared.command.TableFault.TheVariants.{NoRef}
use Rattle.schema_model.specs.Classes.{Schema}
use Rattle.schema_model.specs.declared.place.Pair.{Pair}
use Rattle.room_model.specs.declared.event.Stage.{Stage}
use Rattle.room_model.specs.declared.event.Stage.TheVariants.{Reserved, Joining, Due, Live, Kept}
use Rattle.room_model.specs.declared.event.RoomEvent.TheVariants as event
use Rattle.room_model.specs.declared.refusal.Refusal.{Refusal}
use Rattle.room_model.specs.declared.refusal.Refusal.TheVariants as refusal
use Rattle.room_model.specs.declared.seat.Seat.{Seat}
use Rattle.room_model.specs.declared.seat.Seat.TheVariants as seat
use Rattle.room_model.specs.Seats.{Seats, seated}
use Rattle.room_model.specs.Ledger.{is_full}
use Rattle.room_model.specs.Sessions.{Session, Acted, session_of, change_session, is_connected, at_stage, told_at, queued_for, unless_reserved, if_room, view_added_to, view_removed_from, keep_set, with_members, with_queue, with_keep}
use Rattle.room_model.specs.Room.{RoomValue, after_reserve, with_sessions, with_seats, ended, acted_on}
use Rattle.room_laws.specs.Placed.{Placed, AreDistinct, stands, stage_of, is_reserved, is_kept, standing, standing_of}
use Rattle.room_laws.specs.Places.{has_place_for, is_moment, may_happen}
use Rattle.room_laws.proofs.AlikeLists.{alike_more, alike_changed, alike_but, tells_mapped, tells_changed}
use Rattle.room_laws.proofs.SessionLists.{named_key, session_mapped, session_changed, distinct_more, distinct_mapped, distinct_changed, distinct_but}

-- ---- the stage of a session that is changed

pub changed_other : (id q : List ℕ) (change : Session → Session) (ss : List Session) → ((s : Session) → bytes_eq s.id id ≡ true → (change s).id ≡ s.id) → bytes_eq id q ≡ false → stage_of (change_session id change ss) q ≡ stage_of ss q
changed_other id q change ss keeps apart = ap (option_map (λ (s : Session). s.stage)) (session_changed id q change ss keeps) ∙ by_found (session_of ss q) refl
  where
    by_found : (o : Option Session) → session_of ss q ≡ o → option_map (λ (s : Session). s.stage) (option_map (λ (s : Session). cond (bytes_eq s.id id) (change s) s) o) ≡ option_map (λ (s : Session). s.stage) o
    by_found None found = refl
    by_found (Some s) found =
        let name : s.id ≡ q = named_key (λ (s : Session). s.id) q ss s found in
        let other : bytes_eq s.id id ≡ false = ap (λ n. bytes_eq n id) name ∙ (bytes_eq_sym q id ∙ apart) in
        ap (λ b. let t : Session = cond b (change s) s in Some t.stage) other

pub changed_own : (id : List ℕ) (change : Session → Session) (ss : List Session) (s : Session) → ((s : Session) → bytes_eq s.id id ≡ true → (change s).id ≡ s.id) → session_of ss id ≡ Some s
    → stage_of (change_session id change ss) id ≡ Some (change s).stage
changed_own id change ss s keeps found =
    let name : s.id ≡ id = named_key (λ (s : Session). s.id) id ss s found in
    ap (option_map (λ (s : Session). s.stage)) (session_changed id id change ss keeps ∙ ap (option_map (λ (s : Session). cond (bytes_eq s.id id) (change s) s)) found)
    ∙ ap (λ b. let t : Session = cond b (change s) s in Some t.stage) (ap (λ n. bytes_eq n id) name ∙ bytes_eq_self id)

-- ---- a reservation

pub reserve_placed : (r : RoomValue) (session : List ℕ) (lapse : ℕ) → Placed r → may_happen r (event.Reserve session lapse) ≡ true → Placed (after_reserve r session lapse)
reserve_placed r session lapse p h =
    let free = (and_parts (not r.seats.locked && not (is_full r.seats)) (not (is_some (session_of r.sessions session))) (and_parts (is_moment lapse) (has_place_for r session) h).1).1 in
    let mine : Session = record { id = session; stage = Reserved; members = no_members; permitted = root_alone r.schema; queue = []; keep = r.def.keep } in record {
      distinct = distinct_more r.sessions mine p.distinct (none_there (session_of r.sessions session) (not-true (is_some (session_of r.sessions session)) free));
      alike = alike_more r.seats.entries r.sessions (record { session = session; seat = seat.Reserved lapse }) mine p.alike refl;
    }

-- ---- a session of a stage

-- a session that stands somewhere is there
pub there_at : (test : Stage → Bool) (ss : List Session) (id : List ℕ) → stands test ss id ≡ true → (s : Session) × (session_of ss id ≡ Some s) × (test s.stage ≡ true)
there_at test ss id h = by_found (session_of ss id) refl h
  where
    by_found : (o : Option Session) → session_of ss id ≡ o → option_map_or test (option_map (λ (s : Session). s.stage) o) false ≡ true → (s : Session) × (session_of ss id ≡ Some s) × (test s.stage ≡ true)
    by_found None found h = cc
    by_found (Some s) found h = (s, found, h)

pub stage_is : (ss : List Session) (id : List ℕ) (s : Session) → session_of ss id ≡ Some s → stage_of ss id ≡ Some s.stage
stage_is ss id s found = ap (option_map (λ (s : Session). s.stage)) found

pub reserved_alone : (st : Stage) → is_reserved st ≡ true → (is_connected st ≡ false) × (is_kept st ≡ false)
reserved_alone Reserved h = (refl, refl)
reserved_alone Joining h = cc
reserved_alone Due h = cc
reserved_alone Live h = cc
reserved_alone Kept h = cc

pub kept_alone : (st : Stage) → is_kept st ≡ true → (is_connected st ≡ false) × (is_reserved st ≡ false)
kept_alone Reserved h = cc
kept_alone Joining h = cc
kept_alone Due h = cc
kept_alone Live h = cc
kept_alone Kept h = (refl, refl)

connected_alone : (st : Stage) → is_connected st ≡ true → (is_reserved st ≡ false) × (is_kept st ≡ false)
connected_alone Reserved h = cc
connected_alone Joining h = (refl, refl)
connected_alone Due h = (refl, refl)
connected_alone Live h = (refl, refl)
connected_alone Kept h = cc

-- what a session at a stage stands at
pub stands_by : (test : Stage → Bool) (ss : List Session) (id : List ℕ) (st : Stage) → stage_of ss id ≡ Some st → stands test ss id ≡ test st
stands_by test ss id st at = ap (λ o. option_map_or test o false) at

-- ---- a session with another seat, and at a stage that goes with it

-- the room whose session has a seat from now on
abbrev pub taken_room : RoomValue → List ℕ → Seats → RoomValue
taken_room r session seats = with_seats (with_sessions r (change_session session (at_stage Joining) r.sessions)) seats

pub seated_placed : (r : RoomValue) (session : List ℕ) (seat : Seat) (change : Session → Session) → ((s : Session) → (change s).id ≡ s.id)
    → ((s : Session) → standing (change s).stage ≡ standing_of seat) → Placed r
    → Placed (with_seats (with_sessions r (change_session session change r.sessions)) (seated r.seats session seat))
seated_placed r session seat change keeps goes p = record {
  distinct = distinct_changed session change r.sessions (λ s e. keeps s) p.distinct;
  alike = alike_changed session seat change r.seats.entries r.sessions (λ s e. ap₂ (λ n st. (n, st)) (keeps s) (goes s)) p.alike;
}

-- ---- a session that ends

pub ended_placed : (r : RoomValue) (session : List ℕ) → Placed r → Placed (ended r session)
ended_placed r session p = record { distinct = distinct_but session r.sessions p.distinct; alike = alike_but session r.seats.entries r.sessions p.alike }

-- ---- sessions that change, but for where they stand

pub mapped_stands : (test : Stage → Bool) (f : Session → Session) (ss : List Session) (q : List ℕ) → ((s : Session) → (f s).id ≡ s.id) → ((s : Session) → test (f s).stage ≡ test s.stage) →
    stands test (map f ss) q ≡ stands test ss q
mapped_stands test f ss q keeps alike =
    let go : (o : Option Session) → option_map_or test (option_map (λ (s : Session). s.stage) (option_map f o)) false ≡ option_map_or test (option_map (λ (s : Session). s.stage) o) false = elim [
      | Some s ↦ alike s
      | None ↦ refl
    ] in ap (λ o. option_map_or test (option_map (λ (s : Session). s.stage) o) false) (session_mapped q f ss keeps) ∙ go (session_of ss q)

pub mapped_placed : (r t : RoomValue) (f : Session → Session) → t.seats ≡ r.seats → t.sessions ≡ map f r.sessions → ((s : Session) → (f s).id ≡ s.id) → ((s : Session) → standing (f s).stage ≡ standing s.stage) → Placed r → Placed t
mapped_placed r t f seats sessions keeps stays p = record {
  distinct = subst AreDistinct (sym sessions) (distinct_mapped f r.sessions keeps p.distinct);
  alike = rw (seats, sessions) (p.alike ∙ sym (tells_mapped f r.sessions (λ s. ap₂ (λ n st. (n, st)) (keeps s) (stays s))));
}

-- one session that is changed, where it stands as before
pub changed_placed : (r : RoomValue) (id : List ℕ) (change : Session → Session) → ((s : Session) → bytes_eq s.id id ≡ true → (change s).id ≡ s.id) →
    ((s : Session) → session_of r.sessions id ≡ Some s → (change s).stage ≡ s.stage) → Placed r → Placed (with_sessions r (change_session id change r.sessions))
changed_placed r id change keeps stages p = record {
  distinct = distinct_changed id change r.sessions keeps p.distinct;
  alike = p.alike ∙ sym (tells_changed id change r.sessions p.distinct keeps stages);
}

-- ---- acts on a session keep its name and its stage

abbrev pub Stays : Session → Result Acted Refusal → Type 0
Stays s x = IfOk x (λ a. (a.session.id ≡ s.id) × (a.session.stage ≡ s.stage))

queued_stays : (frame : List ℕ) (s : Session) → Stays s (queued_for frame s)
queued_stays frame s =
    let go : (b : Bool) → Stays s (cond b (Ok (record { session = with_queue (s.queue ++ frame ∷ []) s; outs = [] })) (Err refusal.QueueFull)) = elim [ true ↦ (refl, refl) | false ↦ tt ] in
    go (nat_lt (length s.queue) 256)

pub told_stays : (stage : Stage) (frame : List ℕ) (s : Session) → Stays s (told_at stage frame s)
told_stays Joining frame s = queued_stays frame s
told_stays Due frame s = queued_stays frame s
told_stays Live frame s = (refl, refl)
told_stays Reserved frame s = tt
told_stays Kept frame s = tt

unless_stays : (stage : Stage) (s : Session) (x : Result Acted Refusal) → Stays s x → Stays s (unless_reserved stage x)
unless_stays Reserved s x h = tt
unless_stays Joining s x h = h
unless_stays Due s x h = h
unless_stays Live s x h = h
unless_stays Kept s x h = h

room_stays : (members : Members) (s : Session) → Stays s (if_room members s)
room_stays members s =
    let go : (b : Bool) → Stays s (cond b (Err refusal.ViewFull) (Ok (record { session = with_members members s; outs = [] }))) = elim [ true ↦ tt | false ↦ (refl, refl) ] in
    go (is_view_full members)

pub added_stays : (schema : Schema) (rows : List RowEntry) (p : Pair) (s : Session) → Stays s (view_added_to schema rows p s)
added_stays schema rows p s =
    let go : (b : Bool) → Stays s (cond b (if_room (view_added schema rows p s.members) s) (Err (refusal.Table NoRef))) = elim [ true ↦ room_stays (view_added schema rows p s.members) s | false ↦ tt ] in
    unless_stays s.stage s _ (go (is_live rows p.who))

pub removed_stays : (schema : Schema) (rows : List RowEntry) (p : Pair) (s : Session) → Stays s (view_removed_from schema rows p s)
removed_stays schema rows p s =
    let go : (b : Bool) → Stays s (cond b (Ok (record { session = with_members (view_removed schema rows p s.members) s; outs = [] })) (Err (refusal.Table NoRef))) = elim [ true ↦ (refl, refl) | false ↦ tt ] in
    unless_stays s.stage s _ (go (is_live rows p.who))

pub keep_stays : (ms : ℕ) (s : Session) → Stays s (keep_set ms s)
keep_stays ms s = unless_stays s.stage s (Ok (record { session = with_keep ms s; outs = [] })) (refl, refl)

pub acted_placed : (r : RoomValue) (id : List ℕ) (does : Session → Result Acted Refusal) → ((s : Session) → Stays s (does s)) → Placed r → Placed (acted_on r id (option_map does (session_of r.sessions id))).0
acted_placed r id does stays p = by_found (session_of r.sessions id) refl
  where
    by_answer : (s : Session) (x : Result Acted Refusal) → session_of r.sessions id ≡ Some s → Stays s x → Placed (acted_on r id (Some x)).0
    by_answer s (Err f) found h = p
    by_answer s (Ok a) found h =
        changed_placed r id (λ t. a.session)
        (λ t e. h.0 ∙ (named_key (λ (s : Session). s.id) id r.sessions s found ∙ sym (same_bytes t.id id e)))
        (λ t other. h.1 ∙ ap (λ o. option_map_or (λ (s : Session). s.stage) o Reserved) (sym found ∙ other)) p

    by_found : (o : Option Session) → session_of r.sessions id ≡ o → Placed (acted_on r id (option_map does o)).0
    by_found None found = p
    by_found (Some s) found = by_answer s (does s) found (stays s)
