-- Where sessions were reserved: each session that a room has leads to it.
use Rattle.std.proofs.Common.{◌≡◌, ℕ, ◌||◌, ◌⊎◌, inl, inr, Bool, true, false, List, [], ◌∷◌, Option, Some, None, IfSome, refl, sym, ap, subst, ◌∙◌, cond}
use Rattle.std.specs.Prelude.{is_some}
use Rattle.std.specs.List.{find, list_any}
use Rattle.std.specs.Option.{option_map, option_map_or}
use Rattle.std.specs.Str.{bytes_eq}
use Rattle.std.proofs.lemmas.Map.Text.{is_eq-slice_cmp}
use Rattle.lists.specs.Rising.{RisesFrom, find as find_by, put}
use Rattle.lists.proofs.RisingLaws.{find_key}
use Rattle.lists.proofs.SameBytes.{same_bytes, bytes_eq_self, bytes_eq_sym}
use Rattle.lists.proofs.Passing.{found_passes}
use Rattle.room_model.specs.declared.event.RoomEvent.{RoomEvent}
use Rattle.room_model.specs.Room.{RoomValue}
use Rattle.room_laws.specs.Names.{KeepsNames, has_session, reserves}
use Rattle.hub_model.specs.HubValues.{knows}
use Rattle.hub_core.specs.declared.entry.RoomEntry.{RoomEntry}
use Rattle.hub_core.specs.SessionRooms.{IsHoused, has_in, room_of_session}
use Rattle.hub_core.specs.RoomEntry.{Each, has_id, rooms_in, serial_of}
use Rattle.hub_core.proofs.EachLaws.{Each-found, Each-put, found_number}
use Rattle.hub_core.proofs.RoomLaws.{Renamed}
use Rattle.hub_core.proofs.StandsLaws.{missed}

-- ---- one session

home_noted : (id : List ℕ) (n : ℕ) (session_rooms news : List (List ℕ × ℕ)) → Renamed id (Some n) session_rooms news → room_of_session id news ≡ Some n
home_noted id n session_rooms news step = step id ∙ ap (λ b. cond b (Some n) (room_of_session id session_rooms)) (is_eq-slice_cmp id id ∙ bytes_eq_self id)

home_still : (id other : List ℕ) (n : ℕ) (session_rooms news : List (List ℕ × ℕ)) → Renamed id (Some n) session_rooms news → bytes_eq id other ≡ false → room_of_session other news ≡ room_of_session other session_rooms
home_still id other n session_rooms news step apart = step other ∙ ap (λ b. cond b (Some n) (room_of_session other session_rooms)) (is_eq-slice_cmp id other ∙ apart)

-- ---- a session is noted that no room has

module _ {R : Type 0} (room : R → RoomValue) (id : List ℕ) (n : ℕ) (session_rooms news : List (List ℕ × ℕ)) (step : Renamed id (Some n) session_rooms news) where
  pub noted_home : room_of_session id news ≡ Some n
  noted_home = home_noted id n session_rooms news step

  noted_one : (s : RoomEntry R) → IsHoused room session_rooms s → has_session (room s.room) id ≡ false → IsHoused room news s
  noted_one s housed free other has = by_test (bytes_eq id other) refl
    where
      by_test : (b : Bool) → bytes_eq id other ≡ b → room_of_session other news ≡ Some s.serial
      by_test true same =
          let one : id ≡ other = same_bytes id other same in
          let none : has_session (room s.room) other ≡ false = subst (λ k. has_session (room s.room) k ≡ false) one free in
          absurd cc
      by_test false apart = home_still id other n session_rooms news step apart ∙ housed other has

  pub housed_noted : (ss : List (RoomEntry R)) → Each (IsHoused room session_rooms) ss → Each (λ s. has_session (room s.room) id ≡ false) ss → Each (IsHoused room news) ss
  housed_noted ss housed free k = by_found (find_by serial_of k ss) (housed k) (free k)
    where
      by_found : (o : Option (RoomEntry R)) → IfSome o (IsHoused room session_rooms) → IfSome o (λ s. has_session (room s.room) id ≡ false) → IfSome o (IsHoused room news)
      by_found None h f = tt
      by_found (Some s) h f = noted_one s h f

-- ---- a room behind a step

pub housed_stepped : {R : Type 0} (room : R → RoomValue) (session_rooms : List (List ℕ × ℕ)) (ev : RoomEvent) (after : RoomValue) (s t : RoomEntry R) (ss : List (RoomEntry R))
    → KeepsNames (room s.room) ev after → room t.room ≡ after → t.serial ≡ s.serial
    → ((id : List ℕ) → reserves ev ≡ Some id → room_of_session id session_rooms ≡ Some s.serial) → IsHoused room session_rooms s → Each (IsHoused room session_rooms) ss → Each (IsHoused room session_rooms) (put serial_of t ss)
housed_stepped {R = R} room session_rooms ev after s t ss names now number reserved own all = Each-put (IsHoused room session_rooms) t ss all (λ id has. by_name id (names id (subst (λ r. has_session r id ≡ true) now has)) ∙ ap Some (sym number))
  where
    by_name : (id : List ℕ) → (has_session (room s.room) id ≡ true) ⊎ (reserves ev ≡ Some id) → room_of_session id session_rooms ≡ Some s.serial
    by_name id (inl has) = own id has
    by_name id (inr is) = reserved id is

-- ---- whether an id is a room's or a session's

abbrev has_of : {R : Type 0} → (R → RoomValue) → List ℕ → RoomEntry R → Bool
has_of room id s = has_session (room s.room) id

either_known : {R : Type 0} (room : R → RoomValue) (id : List ℕ) (ss : List (RoomEntry R)) → (is_some (find (has_id id) ss) || is_some (find (has_of room id) ss)) ≡ list_any (knows id) (rooms_in room ss)
either_known room id [] = refl
either_known {R = R} room id (x ∷ ss) = by_tests (has_id id x) (has_of room id x) ∙ ap (λ b. (has_id id x || has_of room id x) || b) (either_known room id ss)
  where
    shuffled : (a b : Bool) → (a || true) ≡ true
    shuffled true b = refl
    shuffled false b = refl

    by_tests : (a b : Bool) → (is_some (cond a (Some x) (find (has_id id) ss)) || is_some (cond b (Some x) (find (has_of room id) ss))) ≡ ((a || b) || (is_some (find (has_id id) ss) || is_some (find (has_of room id) ss)))
    by_tests true b = refl
    by_tests false true = shuffled (is_some (find (has_id id) ss)) true
    by_tests false false = refl

has_home : {R : Type 0} (room : R → RoomValue) (session_rooms : List (List ℕ × ℕ)) (id : List ℕ) (ss : List (RoomEntry R)) → RisesFrom serial_of 0 ss → Each (IsHoused room session_rooms) ss
    → option_map_or (λ n. has_in room ss n id) (room_of_session id session_rooms) false ≡ is_some (find (has_of room id) ss)
has_home {R = R} room session_rooms id ss rises housed = by_found (find (has_of room id) ss) refl
  where
    none_at : find (has_of room id) ss ≡ None → (n : ℕ) (o : Option (RoomEntry R)) → find_by serial_of n ss ≡ o → option_map_or (has_of room id) o false ≡ false
    none_at none n None is = refl
    none_at none n (Some s) is = missed (has_of room id) n s ss none is

    none_home : find (has_of room id) ss ≡ None → (o : Option ℕ) → option_map_or (λ n. has_in room ss n id) o false ≡ false
    none_home none None = refl
    none_home none (Some n) = none_at none n (find_by serial_of n ss) refl

    by_found : (o : Option (RoomEntry R)) → find (has_of room id) ss ≡ o → option_map_or (λ n. has_in room ss n id) (room_of_session id session_rooms) false ≡ is_some o
    by_found None none = none_home none (room_of_session id session_rooms)
    by_found (Some s) found =
        let has : has_session (room s.room) id ≡ true = found_passes (has_of room id) ss s found in
        let home : room_of_session id session_rooms ≡ Some s.serial = Each-found (IsHoused room session_rooms) (has_of room id) 0 ss s rises housed found id has in
        ap (λ o. option_map_or (λ n. has_in room ss n id) o false) home ∙ ap (λ o. option_map_or (has_of room id) o false) (found_number (has_of room id) 0 ss s rises found) ∙ has

used_is : {R : Type 0} (room : R → RoomValue) (session_rooms : List (List ℕ × ℕ)) (id : List ℕ) (ss : List (RoomEntry R)) → RisesFrom serial_of 0 ss → Each (IsHoused room session_rooms) ss
    → (is_some (find (has_id id) ss) || option_map_or (λ n. has_in room ss n id) (room_of_session id session_rooms) false) ≡ list_any (knows id) (rooms_in room ss)
used_is room session_rooms id ss rises housed = ap (λ b. is_some (find (has_id id) ss) || b) (has_home room session_rooms id ss rises housed) ∙ either_known room id ss

-- the same by the number of the room of the id
pub used_by : {R : Type 0} (room : R → RoomValue) (session_rooms : List (List ℕ × ℕ)) (id : List ℕ) (ss : List (RoomEntry R)) (o : Option ℕ) → RisesFrom serial_of 0 ss
    → Each (IsHoused room session_rooms) ss → o ≡ option_map serial_of (find (has_id id) ss)
    → (is_some o || option_map_or (λ n. has_in room ss n id) (room_of_session id session_rooms) false) ≡ list_any (knows id) (rooms_in room ss)
used_by {R = R} room session_rooms id ss o rises housed is = ap (λ b. b || option_map_or (λ n. has_in room ss n id) (room_of_session id session_rooms) false) (ap is_some is ∙ same (find (has_id id) ss)) ∙ used_is room session_rooms id ss rises housed
  where
    same : (o : Option (RoomEntry R)) → is_some (option_map serial_of o) ≡ is_some o
    same None = refl
    same (Some s) = refl

-- where it is none, no room has it as a session
pub none_has : {R : Type 0} (room : R → RoomValue) (id : List ℕ) (ss : List (RoomEntry R)) → list_any (knows id) (rooms_in room ss) ≡ false → Each (λ s. has_session (room s.room) id ≡ false) ss
none_has {R = R} room id ss none k = by_found (find (has_of room id) ss) refl
  where
    no : (a : Bool) → (a || true) ≡ false → ⊥
    no true h = absurd cc
    no false h = absurd cc

    of_none : find (has_of room id) ss ≡ None → (o : Option (RoomEntry R)) → find_by serial_of k ss ≡ o → IfSome o (λ s. has_session (room s.room) id ≡ false)
    of_none free None is = tt
    of_none free (Some s) is = missed (has_of room id) k s ss free is

    by_found : (o : Option (RoomEntry R)) → find (has_of room id) ss ≡ o → IfSome (find_by serial_of k ss) (λ s. has_session (room s.room) id ≡ false)
    by_found None free = of_none free (find_by serial_of k ss) refl
    by_found (Some s) found = absurd (no (is_some (find (has_id id) ss)) (sym (ap (λ o. is_some (find (has_id id) ss) || is_some o) found) ∙ (either_known room id ss ∙ none)))

-- ---- sessions that rooms still have

-- each session of a room leads to it by what is kept or by what is left to look at
abbrev pub AreStill : {R : Type 0} → (R → RoomValue) → List (RoomEntry R) → List (List ℕ × ℕ) → List (List ℕ × ℕ) → Type 0
AreStill room ss kept rest = (n : ℕ) (id : List ℕ) → has_in room ss n id ≡ true → (room_of_session id kept ≡ Some n) ⊎ (room_of_session id rest ≡ Some n)

module _ {R : Type 0} (room : R → RoomValue) (ss : List (RoomEntry R)) where
  pub home_of : (session_rooms : List (List ℕ × ℕ)) → Each (IsHoused room session_rooms) ss → (n : ℕ) (id : List ℕ) → has_in room ss n id ≡ true → room_of_session id session_rooms ≡ Some n
  home_of session_rooms housed n id has = by_found (find_by serial_of n ss) refl (housed n) has
    where
      by_found : (o : Option (RoomEntry R)) → find_by serial_of n ss ≡ o → IfSome o (IsHoused room session_rooms) → option_map_or (has_of room id) o false ≡ true → room_of_session id session_rooms ≡ Some n
      by_found None is h has = absurd cc
      by_found (Some s) is h has = h id has ∙ ap Some (find_key serial_of n ss s is)

  pub still_first : (session_rooms kept : List (List ℕ × ℕ)) → Each (IsHoused room session_rooms) ss → AreStill room ss kept session_rooms
  still_first session_rooms kept housed n id has = inr (home_of session_rooms housed n id has)

  pub still_kept : (session_rooms kept news rest : List (List ℕ × ℕ)) (key : List ℕ) (at : ℕ) → Each (IsHoused room session_rooms) ss → has_in room ss at key ≡ true
      → Renamed key (Some at) kept news → AreStill room ss kept ((key, at) ∷ rest) → AreStill room ss news rest
  still_kept session_rooms kept news rest key at housed own step still n id has = by_test (bytes_eq key id) refl (still n id has)
    where
      by_test : (b : Bool) → bytes_eq key id ≡ b → (room_of_session id kept ≡ Some n) ⊎ (room_of_session id ((key, at) ∷ rest) ≡ Some n) → (room_of_session id news ≡ Some n) ⊎ (room_of_session id rest ≡ Some n)
      by_test true same h =
          let one : key ≡ id = same_bytes key id same in
          let both : Some at ≡ Some n = sym (home_of session_rooms housed at key own) ∙ (ap (λ k. room_of_session k session_rooms) one ∙ home_of session_rooms housed n id has) in
          inl (subst (λ k. room_of_session k news ≡ Some at) one (home_noted key at kept news step) ∙ both)
      by_test false apart (inl h) = inl (home_still key id at kept news step apart ∙ h)
      by_test false apart (inr h) = inr (sym (ap (λ b. cond b (Some at) (room_of_session id rest)) (is_eq-slice_cmp id key ∙ (bytes_eq_sym id key ∙ apart))) ∙ h)

  pub still_passed : (kept rest : List (List ℕ × ℕ)) (key : List ℕ) (at : ℕ) → has_in room ss at key ≡ false → AreStill room ss kept ((key, at) ∷ rest) → AreStill room ss kept rest
  still_passed kept rest key at gone still n id has = by_side (still n id has)
    where
      by_test : (b : Bool) → bytes_eq id key ≡ b → cond b (Some at) (room_of_session id rest) ≡ Some n → room_of_session id rest ≡ Some n
      by_test true same h =
          let one : id ≡ key = same_bytes id key same in
          let number : at ≡ n = cc in
          let none : has_in room ss n id ≡ false = subst (λ k. has_in room ss n k ≡ false) (sym one) (subst (λ m. has_in room ss m key ≡ false) number gone) in
          absurd cc
      by_test false apart h = h

      by_side : (room_of_session id kept ≡ Some n) ⊎ (room_of_session id ((key, at) ∷ rest) ≡ Some n) → (room_of_session id kept ≡ Some n) ⊎ (room_of_session id rest ≡ Some n)
      by_side (inl h) = inl h
      by_side (inr h) = inr (by_test (bytes_eq id key) refl (sym (ap (λ b. cond b (Some at) (room_of_session id rest)) (is_eq-slice_cmp id key)) ∙ h))

  pub still_last : (kept rest : List (List ℕ × ℕ)) → rest ≡ [] → AreStill room ss kept rest → Each (IsHoused room kept) ss
  still_last kept rest none still k = by_found (find_by serial_of k ss) refl
    where
      by_side : (id : List ℕ) → (room_of_session id kept ≡ Some k) ⊎ (room_of_session id rest ≡ Some k) → room_of_session id kept ≡ Some k
      by_side id (inl h) = h
      by_side id (inr h) = absurd (let no : None ≡ Some k = sym (ap (room_of_session id) none) ∙ h in cc)

      by_found : (o : Option (RoomEntry R)) → find_by serial_of k ss ≡ o → IfSome o (IsHoused room kept)
      by_found None is = tt
      by_found (Some s) is = λ id has. by_side id (still k id (ap (λ o. option_map_or (has_of room id) o false) is ∙ has)) ∙ ap Some (sym (find_key serial_of k ss s is))
