-- What each event gives to whom, and who is connected after it.
use Rattle.std.proofs.Common.{◌≡◌, ℕ, Bool, true, false, not, cond, ◌&&◌, ◌||◌, List, [], ◌∷◌, ◌++◌, filter, length, Option, Some, None, is_some, refl, sym, ap, subst, ◌∙◌}
use Rattle.std.specs.List.{list_any, flat_map}
use Rattle.std.specs.Option.{option_map, option_map_or}
use Rattle.std.specs.Str.{bytes_eq}
use Rattle.lists.proofs.SameBytes.{same_bytes}
use Rattle.schema_model.specs.Classes.{Schema}
use Rattle.room_model.specs.declared.event.RoomEvent.{RoomEvent}
use Rattle.room_model.specs.declared.event.RoomOut.{RoomOut}
use Rattle.room_model.specs.Sessions.{Session, session_of, change_session, is_connected}
use Rattle.room_model.specs.Room.{RoomValue, dropped, ended}
use Rattle.room_laws.specs.Placed.{AreDistinct, stands, stage_of}
use Rattle.room_laws.specs.StepLaws.{StepLaws, is_answer, is_entry, is_loss, is_end, goes_to, opens, loses, connected}
use Rattle.room_laws.proofs.SessionLists.{named_but, session_changed}
use Rattle.room_laws.proofs.PlacedSteps.{changed_other, changed_own, stage_is}

-- the laws of an event that opens no session
pub laws : (r : RoomValue) (e : RoomEvent) (x : RoomValue × List RoomOut) → opens e ≡ None → ((id : List ℕ) → list_any (is_entry id) x.1 ≡ false) → length (filter is_answer x.1) ≡ 0 →
    ((id : List ℕ) → connected x.0 id ≡ (connected r id && not (list_any (is_end id) x.1))) → ((id : List ℕ) → list_any (goes_to id) x.1 ≡ true → connected r id ≡ true) →
    ((id : List ℕ) → loses e ≡ Some id → list_any (is_loss id) x.1 ≡ true) → StepLaws r e x
laws r e x opens_none no_entry no_answer others told lost = record {
  answered = no_answer ∙ sym (ap (λ o. cond (is_some o) 1 0) opens_none);
  entered = λ id h. absurd (nothing id h);
  others = λ id h. others id;
  lost = lost;
  told = λ id h. ap (λ b. b || list_any (is_entry id) x.1) (told id h);
}
  where
    nothing : (id : List ℕ) → list_any (is_entry id) x.1 ≡ true → ⊥
    nothing id h = let no = no_entry id in cc

-- where nothing ends
stays : (b : Bool) → b ≡ (b && not false)
stays true = refl
stays false = refl

-- the same, where the event ends nothing either and loses nothing
pub quiet_laws : (r : RoomValue) (e : RoomEvent) (x : RoomValue × List RoomOut) → opens e ≡ None → loses e ≡ None → ((id : List ℕ) → list_any (is_entry id) x.1 ≡ false) → ((id : List ℕ) → list_any (is_end id) x.1 ≡ false) →
    length (filter is_answer x.1) ≡ 0 → ((id : List ℕ) → connected x.0 id ≡ connected r id) → ((id : List ℕ) → list_any (goes_to id) x.1 ≡ true → connected r id ≡ true) → StepLaws r e x
quiet_laws r e x opens_none loses_none no_entry no_end no_answer same told =
    laws r e x opens_none no_entry no_answer
    (λ id. same id ∙ (stays (connected r id) ∙ ap (λ b. connected r id && not b) (sym (no_end id)))) told
    (λ id h. absurd (nobody id h))
  where
    nobody : (id : List ℕ) → loses e ≡ Some id → ⊥
    nobody id h = cc

-- ---- who is connected

-- once a session ends
pub ended_connected : (r : RoomValue) (session id : List ℕ) → connected (ended r session) id ≡ (connected r id && not (bytes_eq session id))
ended_connected r session id =
    let go : (b : Bool) → option_map_or is_connected (option_map (λ (s : Session). s.stage) (cond b None (session_of r.sessions id))) false ≡ (connected r id && not b) = elim [
      | true ↦ never (connected r id)
      | false ↦ stays (connected r id)
    ] in ap (λ o. option_map_or is_connected (option_map (λ (s : Session). s.stage) o) false) (named_but (λ (s : Session). s.id) session id r.sessions) ∙ go (bytes_eq session id)
  where
    never : (b : Bool) → false ≡ (b && not true)
    never true = refl
    never false = refl

-- once a seat is kept
pub dropped_connected : (schema : Schema) (ss : List Session) (s : Session) (id : List ℕ) → session_of ss s.id ≡ Some s → stands is_connected (change_session s.id (dropped schema) ss) id ≡ (stands is_connected ss id && not (bytes_eq s.id id))
dropped_connected schema ss s id found =
    let go : (b : Bool) → bytes_eq s.id id ≡ b → stands is_connected (change_session s.id (dropped schema) ss) id ≡ (stands is_connected ss id && not b) = elim [
      | true ↦ λ e. subst (λ n. stands is_connected (change_session s.id (dropped schema) ss) n ≡ (stands is_connected ss n && not true)) (same_bytes s.id id e)
          (ap (λ o. option_map_or is_connected o false) (changed_own s.id (dropped schema) ss s (λ s e. refl) found) ∙ never (stands is_connected ss s.id))
      | false ↦ λ e. ap (λ o. option_map_or is_connected o false) (changed_other s.id id (dropped schema) ss (λ s e. refl) e) ∙ stays (stands is_connected ss id)
    ] in go (bytes_eq s.id id) refl
  where
    never : (b : Bool) → false ≡ (b && not true)
    never true = refl
    never false = refl

-- a session that is changed, where its stage stays
pub changed_stage : (id q : List ℕ) (change : Session → Session) (ss : List Session) → ((s : Session) → bytes_eq s.id id ≡ true → (change s).id ≡ s.id) → ((s : Session) → session_of ss id ≡ Some s → (change s).stage ≡ s.stage) →
    stage_of (change_session id change ss) q ≡ stage_of ss q
changed_stage id q change ss keeps stages =
    let go : (b : Bool) → bytes_eq id q ≡ b → stage_of (change_session id change ss) q ≡ stage_of ss q = elim [
      | true ↦ λ e. subst (λ n. stage_of (change_session id change ss) n ≡ stage_of ss n) (same_bytes id q e) (by_found (session_of ss id) refl)
      | false ↦ λ e. changed_other id q change ss keeps e
    ] in go (bytes_eq id q) refl
  where
    by_found : (o : Option Session) → session_of ss id ≡ o → stage_of (change_session id change ss) id ≡ stage_of ss id
    by_found None found =
        ap (option_map (λ (s : Session). s.stage)) (session_changed id id change ss keeps ∙ ap (option_map (λ (s : Session). cond (bytes_eq s.id id) (change s) s)) found)
        ∙ sym (ap (option_map (λ (s : Session). s.stage)) found)
    by_found (Some s) found = changed_own id change ss s keeps found ∙ (ap Some (stages s found) ∙ sym (stage_is ss id s found))

-- ---- what is given to each of several sessions

pub any_both : {X : Type 0} (p : X → Bool) (xs ys : List X) → list_any p (xs ++ ys) ≡ (list_any p xs || list_any p ys)
any_both p [] ys = refl
any_both p (x ∷ xs) ys =
    let go : (a b c : Bool) → (a || (b || c)) ≡ ((a || b) || c) = elim [ true ↦ λ b c. refl | false ↦ λ b c. refl ] in
    ap (λ b. p x || b) (any_both p xs ys) ∙ go (p x) (list_any p xs) (list_any p ys)

-- frames that go to their own sessions, which are connected
pub each_told : (id : List ℕ) (gives : Session → List RoomOut) (ss : List Session) → AreDistinct ss →
    ((s : Session) → list_any (goes_to id) (gives s) ≡ true → (bytes_eq s.id id ≡ true) × (is_connected s.stage ≡ true)) → list_any (goes_to id) (flat_map gives ss) ≡ true → stands is_connected ss id ≡ true
each_told id gives [] d own h = cc
each_told id gives (s ∷ ss) d own h = by_first (each_told id gives ss d.1 own) (list_any (goes_to id) (gives s)) refl (sym (any_both (goes_to id) (gives s) (flat_map gives ss)) ∙ h)
  where
    stand : Option Session → Bool
    stand o = option_map_or is_connected (option_map (λ (s : Session). s.stage) o) false

    behind : stand (session_of ss id) ≡ true → (b : Bool) → bytes_eq s.id id ≡ b → stand (cond b (Some s) (session_of ss id)) ≡ true
    behind there true e = let none : session_of ss id ≡ None = subst (λ n. session_of ss n ≡ None) (same_bytes s.id id e) d.0 in let no = sym (ap stand none) ∙ there in cc
    behind there false e = there

    by_first : (list_any (goes_to id) (flat_map gives ss) ≡ true → stand (session_of ss id) ≡ true) → (b : Bool) → list_any (goes_to id) (gives s) ≡ b → (b || list_any (goes_to id) (flat_map gives ss)) ≡ true → stand (session_of (s ∷ ss) id) ≡ true
    by_first rest true e h = ap (λ b. stand (cond b (Some s) (session_of ss id))) (own s e).0 ∙ (own s e).1
    by_first rest false e h = behind (rest h) (bytes_eq s.id id) refl

-- what none of them is given
pub each_none : {X : Type 0} (p : RoomOut → Bool) (gives : X → List RoomOut) (xs : List X) → ((x : X) → list_any p (gives x) ≡ false) → list_any p (flat_map gives xs) ≡ false
each_none p gives [] none = refl
each_none p gives (x ∷ xs) none = any_both p (gives x) (flat_map gives xs) ∙ (ap (λ b. b || list_any p (flat_map gives xs)) (none x) ∙ each_none p gives xs none)

-- nothing that passes is counted as nothing
pub none_counted : (p : RoomOut → Bool) (outs : List RoomOut) → list_any p outs ≡ false → length (filter p outs) ≡ 0
none_counted p [] h = refl
none_counted p (o ∷ os) h =
    let go : (b : Bool) → (b || list_any p os) ≡ false → length (cond b (o ∷ filter p os) (filter p os)) ≡ 0 = elim [ true ↦ λ e. absurd (cc) | false ↦ λ e. none_counted p os e ] in
    go (p o) h
