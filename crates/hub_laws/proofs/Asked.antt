-- What a request makes and reserves: a new room of an id that nothing has, and a seat in a room that has a place for its session.
use Rattle.std.proofs.Common.{◌≡◌, ℕ, Bool, true, false, not, cond, ◌&&◌, ◌||◌, List, [], ◌∷◌, ◌++◌, Option, Some, None, is_some, refl, sym, ap, subst, ◌∙◌, append-nil, ◌⊎◌, inl, inr, arith}
use Rattle.std.specs.Prelude.{Contains, nat_lt, nat_le, slice_get}
use Rattle.std.specs.List.{find, list_all}
use Rattle.std.specs.Option.{option_map, option_map_or}
use Rattle.std.specs.Str.{bytes_eq}
use Rattle.std.proofs.lemmas.Bool.{and_parts, and_from}
use Rattle.std.proofs.lemmas.Bool.Decides.{nat_tests}
use Rattle.std.proofs.lemmas.List.Elements.{Contains-append_cases, All-contains}
use Rattle.std.proofs.lemmas.List.Sums.{AllPass-from_list_all}
use Rattle.std.proofs.lemmas.Option.{slice_get-map}
use Rattle.lists.proofs.SameBytes.{same_bytes}
use Rattle.lists.proofs.Passing.{found_passes}
use Rattle.schema_model.specs.Classes.{Schema}
use Rattle.room_model.specs.declared.definition.RoomDef.{RoomDef}
use Rattle.room_model.proofs.DefinitionParts.{AreWithin, def_within}
use Rattle.room_model.specs.Definitions.{is_room_def, is_within}
use Rattle.room_model.specs.Seats.{in_use}
use Rattle.room_model.specs.Sessions.{session_of}
use Rattle.room_model.specs.Room.{new_room}
use Rattle.room_laws.specs.Places.{has_place_for}
use Rattle.hub_model.specs.declared.request.Decision.{Decision}
use Rattle.hub_model.specs.declared.request.Decision.TheVariants as decision
use Rattle.hub_model.specs.Decisions.{is_open}
use Rattle.hub_model.specs.HubValues.{HubValue, HubRoom, is_named, room_of, listing_of, listings, knows, is_used}
use Rattle.hub_model.specs.Dealt.{in_use_text}
use Rattle.hub_model.specs.HubStep.{Rules, outcome, drawn, criteria_of, room_made, rooms_made, reserved_in, decided}
use Rattle.hub_laws.proofs.Different.{found_in, here_or_behind, named_own, taken_in, passes_any, RoomsDiffer}
use Rattle.hub_laws.proofs.Decided.{JoinsOpen, outcome_opens}

-- ---- places

-- the definition of a position has a place, and its times are within the limits
pub def_fits : (defs : List RoomDef) (at : ℕ) (def : RoomDef) → list_all is_room_def defs ≡ true → slice_get defs at ≡ Some def → AreWithin def
def_fits defs at def forms there = def_within def (All-contains (λ (d : RoomDef). is_room_def d ≡ true) defs def (AllPass-from_list_all is_room_def defs forms) (taken_in defs at def there))

place_in_new : (schema : Schema) (def : RoomDef) (criteria : List (List ℕ)) (session : List ℕ) → is_within 1 64 def.max ≡ true → has_place_for (new_room schema def criteria) session ≡ true
place_in_new schema def criteria session some = (let short : nat_le def.max 0 ≡ false = by_least def.max (and_parts (nat_le 1 def.max) (nat_le def.max 64) some).0 in ap (λ b. (true && not b) && true) short)
  where
    by_least : (n : ℕ) → nat_le 1 n ≡ true → nat_le n 0 ≡ false
    by_least n h = grind (arith, nat_tests)

place_where_open : (r : HubRoom) (session : List ℕ) → is_open (listing_of r) ≡ true → is_some (session_of r.room.sessions session) ≡ false → has_place_for r.room session ≡ true
place_where_open r session opens new =
    let both = and_parts (not r.room.seats.locked) (nat_lt (in_use r.room.seats) r.room.seats.max) opens in
    let roomy : nat_le r.room.seats.max (in_use r.room.seats) ≡ false = fits (in_use r.room.seats) r.room.seats.max both.1 in
    and_from (not r.room.seats.locked && not (nat_le r.room.seats.max (in_use r.room.seats))) (not (is_some (session_of r.room.sessions session)))
    (and_from (not r.room.seats.locked) (not (nat_le r.room.seats.max (in_use r.room.seats))) both.0 (ap not roomy)) (ap not new)
  where
    fits : (a b : ℕ) → nat_lt a b ≡ true → nat_le b a ≡ false
    fits a b h = grind (arith, nat_tests)

-- ---- what is made, and what has a place

-- a room that is made: of an id that no room has
pub record New (h : HubValue) (rooms : List HubRoom) : Type 0 where
  pub criteria : List (List ℕ)
  pub id : List ℕ
  pub at : ℕ
  pub def : RoomDef
  pub is : rooms ≡ room_made h criteria id at def ∷ []
  pub there : slice_get h.defs at ≡ Some def
  pub free : room_of h id ≡ None

-- what a decision makes and reserves
pub record Reserves (h : HubValue) (criteria : List (List ℕ)) (room session : List ℕ) (d : Decision) : Type 0 where
  pub made : (rooms_made h criteria room d ≡ []) ⊎ New h (rooms_made h criteria room d)
  pub fits : (id : List ℕ) (r : HubRoom) → reserved_in h room d ≡ Some id → Contains (h.rooms ++ rooms_made h criteria room d) r → is_named id r ≡ true → has_place_for r.room session ≡ true

module _ (h : HubValue) (criteria : List (List ℕ)) (room session : List ℕ) (forms : list_all is_room_def h.defs ≡ true) (differ : RoomsDiffer h.rooms) where
  -- what no room knows is neither a room's id nor a session of one
  unknown : (id : List ℕ) (r : HubRoom) → is_used h id ≡ false → Contains h.rooms r → knows id r ≡ true → ⊥
  unknown id r unused there known = (let used = passes_any (knows id) h.rooms r there known in cc)

  not_named : (id : List ℕ) (r : HubRoom) → is_used h id ≡ false → Contains h.rooms r → is_named id r ≡ true → ⊥
  not_named id r unused there named = unknown id r unused there (ap (λ b. b || is_some (session_of r.room.sessions id)) named)

  not_with : (id : List ℕ) (r : HubRoom) → is_used h id ≡ false → Contains h.rooms r → is_some (session_of r.room.sessions id) ≡ false
  not_with id r unused there = by_session (is_some (session_of r.room.sessions id)) refl
    where
      any_true : (b : Bool) → (b || true) ≡ true
      any_true true = refl
      any_true false = refl

      by_session : (b : Bool) → is_some (session_of r.room.sessions id) ≡ b → b ≡ false
      by_session true e = absurd (unknown id r unused there (ap (λ b. is_named id r || b) e ∙ any_true (is_named id r)))
      by_session false e = refl

  nowhere : (id : List ℕ) → is_used h id ≡ false → room_of h id ≡ None
  nowhere id unused = by_room (room_of h id) refl
    where
      by_room : (o : Option HubRoom) → room_of h id ≡ o → o ≡ None
      by_room None e = refl
      by_room (Some r) e = absurd (not_named id r unused (found_in (is_named id) h.rooms r e) (found_passes (is_named id) h.rooms r e))

  refused : (code : ℕ) (text : List ℕ) → Reserves h criteria room session (decision.Refuse code text)
  refused code text = record { made = inl refl; fits = λ id r is there named. cc }

  returned : (at : ℕ) (kept : List ℕ) → Reserves h criteria room session (decision.Return at kept)
  returned at kept = record { made = inl refl; fits = λ id r is there named. cc }

  -- a new room, with its first session
  makes : (at : ℕ) → is_used h room ≡ false → is_used h session ≡ false → Reserves h criteria room session (decision.Make at)
  makes at unused new = record { made = made_by (slice_get h.defs at) refl; fits = λ id r is there named. by_part id r is named (Contains-append_cases h.rooms (made_of (slice_get h.defs at)) r there) }
    where
      made_of : Option RoomDef → List HubRoom
      made_of o = option_map_or (λ def. room_made h criteria room at def ∷ []) o []

      made_by : (o : Option RoomDef) → slice_get h.defs at ≡ o → (made_of o ≡ []) ⊎ New h (made_of o)
      made_by None e = inl refl
      made_by (Some def) e = inr (record { criteria = criteria; id = room; at = at; def = def; is = refl; there = e; free = nowhere room unused })

      has_place : (o : Option RoomDef) (r : HubRoom) → slice_get h.defs at ≡ o → Contains (made_of o) r → has_place_for r.room session ≡ true
      has_place None r e there = absurd (omega (arith, there.1))
      has_place (Some def) r e there =
          let by : (room_made h criteria room at def ≡ r) ⊎ Contains [] r → has_place_for r.room session ≡ true = elim [
            | inl same ↦ subst (λ (x : HubRoom). has_place_for x.room session ≡ true) same (place_in_new h.schema def criteria session (def_fits h.defs at def forms e).max)
            | inr empty ↦ absurd (omega (arith, empty.1))
          ] in by (here_or_behind (room_made h criteria room at def) [] r there)

      by_part : (id : List ℕ) (r : HubRoom) → Some room ≡ Some id → is_named id r ≡ true → Contains h.rooms r ⊎ Contains (made_of (slice_get h.defs at)) r → has_place_for r.room session ≡ true
      by_part id r is named (inl old) = (let same : id ≡ room = cc in absurd (not_named room r unused old (subst (λ n. is_named n r ≡ true) same named)))
      by_part id r is named (inr own) = has_place (slice_get h.defs at) r refl own

  -- a room that is open
  joins : (at : ℕ) → option_map_or is_open (slice_get (listings h) at) false ≡ true → is_used h session ≡ false → Reserves h criteria room session (decision.Join at)
  joins at opens unused = record { made = inl refl; fits = λ id r is there named. by_room (slice_get h.rooms at) refl id r is (subst (λ rs. Contains rs r) (append-nil h.rooms) there) named }
    where
      open_here : (r : HubRoom) → slice_get h.rooms at ≡ Some r → is_open (listing_of r) ≡ true
      open_here r e = sym (ap (λ o. option_map_or is_open o false) (slice_get-map listing_of h.rooms at ∙ ap (option_map listing_of) e)) ∙ opens

      by_room : (o : Option HubRoom) → slice_get h.rooms at ≡ o → (id : List ℕ) (r : HubRoom) → option_map (λ (r : HubRoom). r.id) o ≡ Some id → Contains h.rooms r → is_named id r ≡ true → has_place_for r.room session ≡ true
      by_room None e id r is there named = cc
      by_room (Some x) e id r is there named =
          let mine : Contains h.rooms x = taken_in h.rooms at x e in
          let id_is : x.id ≡ id = cc in
          let one : r.id ≡ x.id = same_bytes r.id id named ∙ sym id_is in
          let own = named_own (λ (r : HubRoom). r.id) h.rooms r differ there in
          let other = named_own (λ (r : HubRoom). r.id) h.rooms x differ mine in
          let twin : Some x ≡ Some r = sym other ∙ (ap (λ n. find (λ (r : HubRoom). bytes_eq r.id n) h.rooms) (sym one) ∙ own) in
          let same : x ≡ r = cc in
          subst (λ (x : HubRoom). has_place_for x.room session ≡ true) same (place_where_open x session (open_here x e) (not_with session x unused mine))

  -- what it comes to, once the drawn ids are looked at
  reserves : (d : Decision) → JoinsOpen (listings h) d → Reserves h criteria room session (drawn h room session d)
  reserves (decision.Refuse code text) opens = refused code text
  reserves (decision.Return at kept) opens = returned at kept
  reserves (decision.Join at) opens =
      let go : (b : Bool) → is_used h session ≡ b → Reserves h criteria room session (cond b (decision.Refuse 4213 (in_use_text session)) (decision.Join at)) = elim [
        | true ↦ λ e. refused 4213 (in_use_text session)
        | false ↦ λ e. joins at (opens at refl) e
      ] in go (is_used h session) refl
  reserves (decision.Make at) opens =
      let inner : is_used h room ≡ false → (b : Bool) → is_used h session ≡ b → Reserves h criteria room session (cond b (decision.Refuse 4213 (in_use_text session)) (decision.Make at)) = λ unused. elim [
        | true ↦ λ e. refused 4213 (in_use_text session)
        | false ↦ λ e. makes at unused e
      ] in
      let go : (b : Bool) → is_used h room ≡ b → Reserves h criteria room session (cond b (decision.Refuse 4213 (in_use_text room)) (cond (is_used h session) (decision.Refuse 4213 (in_use_text session)) (decision.Make at))) = elim [
        | true ↦ λ e. refused 4213 (in_use_text room)
        | false ↦ λ e. inner e (is_used h session) refl
      ] in go (is_used h room) refl

-- ---- a request of a hub

pub request_reserves : (rules : Rules) (h : HubValue) (conn : ℕ) (target body room session : List ℕ) → list_all is_room_def h.defs ≡ true → RoomsDiffer h.rooms
    → Reserves h (criteria_of (rules.read h.defs target body)) room session (decided rules h target body room session)
request_reserves rules h conn target body room session forms differ =
    reserves h (criteria_of (rules.read h.defs target body)) room session forms differ (outcome h (rules.read h.defs target body)) (outcome_opens h (rules.read h.defs target body))
