-- What is given to one session, of all that an event gives.
use Rattle.std.proofs.Common.{◌≡◌, ℕ, Bool, true, false, cond, List, [], ◌∷◌, ◌++◌, map, Option, Some, None, refl, ap, subst, ◌∙◌, append-nil}
use Rattle.std.specs.List.{flat_map}
use Rattle.std.specs.Option.{option_map_or}
use Rattle.std.specs.Str.{bytes_eq}
use Rattle.std.proofs.lemmas.Grind.{flat_map-append}
use Rattle.lists.proofs.SameBytes.{same_bytes}
use Rattle.room_model.specs.declared.event.RoomOut.{RoomOut}
use Rattle.room_model.specs.declared.event.RoomOut.TheVariants as out
use Rattle.room_model.specs.Sessions.{Session, session_of}
use Rattle.room_laws.specs.Placed.{AreDistinct}
use Rattle.life_model.specs.Entries.{Sending, Frame}
use Rattle.life_model.specs.RoomLives.{given_by}

-- frames that one session is sent
pub sent_to : (q id : List ℕ) (frames : List (List ℕ)) → flat_map (given_by q) (map (out.Send id) frames) ≡ cond (bytes_eq id q) (map Frame frames) []
sent_to q id [] = (let go : (b : Bool) → (let none : List Sending = [] in none ≡ cond b [] []) = elim [ true ↦ refl | false ↦ refl ] in go (bytes_eq id q))
sent_to q id (f ∷ fs) =
    let go : (b : Bool) → cond b (Frame f ∷ []) [] ++ cond b (map Frame fs) [] ≡ cond b (Frame f ∷ map Frame fs) [] = elim [ true ↦ refl | false ↦ refl ] in
    ap (λ os. cond (bytes_eq id q) (Frame f ∷ []) [] ++ os) (sent_to q id fs) ∙ go (bytes_eq id q)

-- where each session is sent frames of its own, each is given its own
pub own_frames : (q : List ℕ) (gives : Session → List RoomOut) (frames : Session → List (List ℕ)) (ss : List Session) → ((s : Session) → gives s ≡ map (out.Send s.id) (frames s)) → AreDistinct ss
    → flat_map (given_by q) (flat_map gives ss) ≡ option_map_or (λ (s : Session). map Frame (frames s)) (session_of ss q) []
own_frames q gives frames [] sends d = refl
own_frames q gives frames (s ∷ ss) sends d =
    flat_map-append (given_by q) (gives s) (flat_map gives ss)
    ∙ (ap (λ os. os ++ flat_map (given_by q) (flat_map gives ss)) (ap (flat_map (given_by q)) (sends s) ∙ sent_to q s.id (frames s))
    ∙ (ap (λ os. cond (bytes_eq s.id q) (map Frame (frames s)) [] ++ os) (own_frames q gives frames ss sends d.1)
    ∙ by_name (bytes_eq s.id q) refl))
  where
    own : Option Session → List Sending
    own o = option_map_or (λ (s : Session). map Frame (frames s)) o []

    by_name : (b : Bool) → bytes_eq s.id q ≡ b → cond b (map Frame (frames s)) [] ++ own (session_of ss q) ≡ own (cond b (Some s) (session_of ss q))
    by_name true e = ap (λ o. map Frame (frames s) ++ own o) (subst (λ n. session_of ss n ≡ None) (same_bytes s.id q e) d.0) ∙ append-nil (map Frame (frames s))
    by_name false e = refl
