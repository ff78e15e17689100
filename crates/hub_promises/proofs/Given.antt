-- What the connections of a life are given is what its room gives to its session.
use Rattle.std.proofs.Common.{◌≡◌, ℕ, Bool, true, false, cond, ◌&&◌, ◌||◌, List, [], ◌∷◌, ◌++◌, Option, Some, None, is_some, refl, sym, ap, ◌∙◌, map, All}
use Rattle.std.specs.List.{list_any, flat_map}
use Rattle.std.specs.Str.{bytes_eq}
use Rattle.std.proofs.lemmas.Bool.{and_parts}
use Rattle.std.proofs.lemmas.Grind.{flat_map-append}
use Rattle.lists.proofs.SameBytes.{same_bytes}
use Rattle.room_model.specs.declared.event.RoomOut.{RoomOut}
use Rattle.room_model.specs.declared.event.RoomOut.TheVariants as room_out
use Rattle.room_laws.specs.StepLaws.{goes_to, is_entry}
use Rattle.hub_model.specs.declared.event.HubOut.{HubOut}
use Rattle.hub_model.specs.declared.event.HubOut.TheVariants as out
use Rattle.hub_model.specs.declared.conn.HubConn.{HubConn}
use Rattle.hub_model.specs.HubValues.{is_conn_for, conn_for}
use Rattle.hub_model.specs.Dealt.{to_conn, told_out, opened_out}
use Rattle.life_model.specs.Entries.{Sending, Frame, Closing}
use Rattle.life_model.specs.RoomLives.{given_by}
use Rattle.life_model.specs.HubLives.{own_output}
use Rattle.std.proofs.lemmas.List.Elements.{All-head, All-tail}
use Rattle.lists.proofs.Passing.{found_passes}
use Rattle.room_model.specs.Room.{RoomValue, after_enter}
use Rattle.room_promises.proofs.EventCases.{enter_cases}
use Rattle.hub_model.specs.declared.event.HubEvent.TheVariants.{Frame}

-- ---- what is given item by item, or to nobody

pub joined_each : {A B C : Type 0} (f : B → List C) (g : A → List B) (k : A → List C) (xs : List A) → All (λ x. flat_map f (g x) ≡ k x) xs → flat_map f (flat_map g xs) ≡ flat_map k xs
joined_each f g k [] each = refl
joined_each f g k (x ∷ xs) each =
    flat_map-append f (g x) (flat_map g xs)
    ∙ (ap (λ ys. ys ++ flat_map f (flat_map g xs)) (All-head (λ x. flat_map f (g x) ≡ k x) x xs each) ∙ ap (λ ys. k x ++ ys) (joined_each f g k xs (All-tail (λ x. flat_map f (g x) ≡ k x) x xs each)))

-- what belongs to no life
pub nothing_given : {A : Type 0} (own : ℕ → Bool) (f : A → HubOut) (xs : List A) → ((x : A) → own_output own (f x) ≡ []) → flat_map (own_output own) (map f xs) ≡ []
nothing_given own f [] empty = refl
nothing_given own f (x ∷ xs) empty = ap (λ os. os ++ flat_map (own_output own) (map f xs)) (empty x) ∙ nothing_given own f xs empty

-- a refusal is given to nobody
pub refusal_given : (own : ℕ → Bool) (b : Bool) (r : HubOut) → own_output own r ≡ [] → flat_map (own_output own) (cond b [] (r ∷ [])) ≡ []
refusal_given own true r empty = refl
refusal_given own false r empty = ap (λ os. os ++ []) empty

-- nor is what goes to a connection that is no life's
pub unowned : (b : Bool) (x y : Sending) → b ≡ false → cond b (x ∷ []) [] ++ (cond b (y ∷ []) [] ++ []) ≡ []
unowned true x y h = cc
unowned false x y h = refl

-- what a room gives for an opening, where a connection that is refused is no life's
pub opened_given : (own : ℕ → Bool) (conn : ℕ) (fresh : List ℕ) (conns : List HubConn) (id : List ℕ) (r : RoomValue) (session : List ℕ) (token : Option (List ℕ))
    → (list_any (is_entry session) (after_enter r session token fresh).1 ≡ false → own conn ≡ false)
    → flat_map (own_output own) (flat_map (opened_out conn fresh conns id) (after_enter r session token fresh).1) ≡ flat_map (own_output own) (flat_map (told_out conns id) (after_enter r session token fresh).1)
opened_given own conn fresh conns id r session token = enter_cases P r session fresh token (λ free. unowned (own conn) _ _ (free refl)) (λ free. unowned (own conn) _ _ (free refl)) (λ lapse at new free. refl) (λ t lapse is at new free. refl)
  where
    P : RoomValue × List RoomOut → Type 0
    P x = (list_any (is_entry session) x.1 ≡ false → own conn ≡ false) → flat_map (own_output own) (flat_map (opened_out conn fresh conns id) x.1) ≡ flat_map (own_output own) (flat_map (told_out conns id) x.1)

-- ---- what a room gives, as its hub gives it, where the tested connections are those of a session of a room

module _ (own : ℕ → Bool) (conns : List HubConn) (mine session : List ℕ)
    (own_is : (room s : List ℕ) (c : HubConn) → conn_for conns room s ≡ Some c → own c.conn ≡ is_conn_for mine session c) where
  abbrev pub owned : List HubOut → List Sending
  owned outs = flat_map (own_output own) outs

  -- the session has a connection, where it is of this room
  abbrev Has : List ℕ → Type 0
  Has room = bytes_eq room mine ≡ true → is_some (conn_for conns mine session) ≡ true

  to_own : (room s : List ℕ) (x : Sending) (give : ℕ → HubOut) → ((n : ℕ) → own_output own (give n) ≡ cond (own n) (x ∷ []) []) → (bytes_eq s session ≡ true → Has room)
      → owned (to_conn give (conn_for conns room s)) ≡ cond (bytes_eq room mine) (cond (bytes_eq s session) (x ∷ []) []) []
  to_own room s x give gives has = by_conn (conn_for conns room s) refl
    where
      nothing : (a b : Bool) → (a ≡ true → b ≡ true → ⊥) → [] ≡ cond a (cond b (x ∷ []) []) []
      nothing true true never = absurd (never refl refl)
      nothing true false never = refl
      nothing false b never = refl

      both : (a b : Bool) → cond (a && b) (x ∷ []) [] ++ [] ≡ cond a (cond b (x ∷ []) []) []
      both true true = refl
      both true false = refl
      both false b = refl

      by_conn : (o : Option HubConn) → conn_for conns room s ≡ o → owned (to_conn give o) ≡ cond (bytes_eq room mine) (cond (bytes_eq s session) (x ∷ []) []) []
      by_conn None found = nothing (bytes_eq room mine) (bytes_eq s session) never
        where
          never : bytes_eq room mine ≡ true → bytes_eq s session ≡ true → ⊥
          never p q =
              let same : conn_for conns mine session ≡ None = ap (λ n. conn_for conns n session) (sym (same_bytes room mine p)) ∙ (ap (conn_for conns room) (sym (same_bytes s session q)) ∙ found) in
              let some = has q p in
              let no : is_some (conn_for conns mine session) ≡ false = ap is_some same in
              cc
      by_conn (Some c) found =
          let p = and_parts (bytes_eq c.room room) (bytes_eq c.session s) (found_passes (is_conn_for room s) conns c found) in
          ap (λ os. os ++ []) (gives c.conn ∙ ap (λ b. cond b (x ∷ []) [])
          (own_is room s c found ∙ (ap (λ n. bytes_eq n mine && bytes_eq c.session session) (same_bytes c.room room p.0) ∙ ap (λ n. bytes_eq room mine && bytes_eq n session) (same_bytes c.session s p.1))))
          ∙ both (bytes_eq room mine) (bytes_eq s session)

  -- ---- one output, and all of a room

  either_way : (b : Bool) → (let empty : List Sending = [] in empty ≡ cond b [] [])
  either_way true = refl
  either_way false = refl

  told_own : (room : List ℕ) (o : RoomOut) → (goes_to session o ≡ true → Has room) → owned (told_out conns room o) ≡ cond (bytes_eq room mine) (given_by session o) []
  told_own room (room_out.Send s bytes) has = to_own room s (Frame bytes) (λ n. out.Send n bytes) (λ n. refl) has
  told_own room (room_out.Close s code) has = to_own room s (Closing code) (λ n. out.Close n code) (λ n. refl) has
  told_own room (room_out.Entered s) has = either_way (bytes_eq room mine)
  told_own room (room_out.Back s) has = either_way (bytes_eq room mine)
  told_own room (room_out.NoSeat s) has = either_way (bytes_eq room mine)
  told_own room (room_out.TokenInUse s) has = either_way (bytes_eq room mine)
  told_own room (room_out.Message s kind payload) has = either_way (bytes_eq room mine)
  told_own room (room_out.RawMessage s kind payload) has = either_way (bytes_eq room mine)
  told_own room (room_out.Dropped s) has = either_way (bytes_eq room mine)
  told_own room (room_out.Left s) has = either_way (bytes_eq room mine)
  told_own room (room_out.Made n) has = either_way (bytes_eq room mine)
  told_own room (room_out.Refused r) has = either_way (bytes_eq room mine)

  pub all_own : (room : List ℕ) (outs : List RoomOut) → (list_any (goes_to session) outs ≡ true → Has room) → owned (flat_map (told_out conns room) outs) ≡ cond (bytes_eq room mine) (flat_map (given_by session) outs) []
  all_own room [] has = either_way (bytes_eq room mine)
  all_own room (o ∷ os) has =
      flat_map-append (own_output own) (told_out conns room o) (flat_map (told_out conns room) os)
      ∙ (ap (λ xs. xs ++ owned (flat_map (told_out conns room) os)) (told_own room o (λ t. has (ap (λ b. b || list_any (goes_to session) os) t)))
      ∙ (ap (λ xs. cond (bytes_eq room mine) (given_by session o) [] ++ xs) (all_own room os (λ t. has (any_true (goes_to session o) (list_any (goes_to session) os) t)))
      ∙ joined (bytes_eq room mine)))
    where
      any_true : (a b : Bool) → b ≡ true → (a || b) ≡ true
      any_true true b t = refl
      any_true false b t = t

      joined : (b : Bool) → cond b (given_by session o) [] ++ cond b (flat_map (given_by session) os) [] ≡ cond b (given_by session o ++ flat_map (given_by session) os) []
      joined true = refl
      joined false = refl
