-- What a request leads to, by the rooms of one definition, or by one room.
use Rattle.std.proofs.Common.{◌≡◌, ℕ, zero, suc, ◌+◌, not, ◌<◌, Bool, true, false, cond, List, [], ◌∷◌, Option, Some, None, filter, length, map, refl, sym, ap, ap₂, subst, ◌∙◌, arith, codes}
use Rattle.std.specs.Prelude.{nat_lt, slice_get, option_and_then, IfSome}
use Rattle.std.specs.List.{find, position, position_or_len}
use Rattle.std.specs.Option.{option_map, option_map_or}
use Rattle.std.specs.Str.{bytes_eq}
use Rattle.std.proofs.lemmas.Bool.Decides.{nat_tests}
use Rattle.std.proofs.lemmas.List.Folds.{find_at}
use Rattle.std.proofs.lemmas.Option.{slice_get_within, slice_get-map}
use Rattle.lists.specs.Rising.{RisesFrom}
use Rattle.lists.proofs.SameBytes.{same_bytes}
use Rattle.lists.proofs.Passing.{found_passes}
use Rattle.room_model.specs.declared.definition.RoomDef.{RoomDef}
use Rattle.room_model.specs.Ledger.{kept_by}
use Rattle.room_model.specs.Room.{RoomValue}
use Rattle.hub_model.specs.declared.request.Decision.{Decision}
use Rattle.hub_model.specs.declared.request.Decision.TheVariants as decision
use Rattle.hub_model.specs.declared.request.Listing.{Listing}
use Rattle.hub_model.specs.declared.request.Method.{Method}
use Rattle.hub_model.specs.declared.request.Method.TheVariants as method
use Rattle.hub_model.specs.declared.request.Request.{Request}
use Rattle.frame_model.specs.declared.codes.TheConstants.{INVALID_CRITERIA, NO_HANDLER}
use Rattle.matchmaker.specs.Found.{found_decision}
use Rattle.hub_model.specs.Decisions as decisions
use Rattle.hub_model.specs.Decisions.{decide, in_def, is_open, joined_at, joined_or, kept_at, meets, room_at, room_is_locked, room_not_found}
use Rattle.hub_model.specs.HubStep.{kept_session}
use Rattle.hub_model.specs.HubValues.{HubRoom, HubValue, listing_of, listings, room_of}
use Rattle.hub_laws.proofs.Decided.{position_passes}
use Rattle.hub_laws.proofs.Different.{find-map}
use Rattle.hub_core.specs.declared.parts.Parts.{Parts}
use Rattle.hub_core.specs.declared.entry.RoomEntry.{RoomEntry}
use Rattle.schema_model.specs.Ids.{is_id}
use Rattle.hub_core.specs.Hubs.{IsGood, hub_of}
use Rattle.hub_core.specs.Outcome.{IsAt, Leads, def_named, is_by_id, outcome_in, listed, oldest_of_def}
use Rattle.hub_core.specs.RoomEntry.{Each, has_id, room_in, rooms_in, serial_of}
use Rattle.hub_core.proofs.EachLaws.{Each-first, Each-rest}
use Rattle.hub_core.proofs.HandleLaws.{room_found}

-- ---- positions

-- where something is found is its position
pub record Found {X : Type 0} (p : X → Bool) (xs : List X) (x : X) : Type 0 where
  pub at : ℕ
  pub position_is : position p xs ≡ Some at
  pub there : slice_get xs at ≡ Some x

below : (a b : ℕ) → a < b → nat_lt a b ≡ true
below a b h = grind (arith, nat_tests)

pub position_found : {X : Type 0} (p : X → Bool) (xs : List X) (x : X) → find p xs ≡ Some x → Found p xs x
position_found p xs x h =
    let is : slice_get xs (position_or_len p xs) ≡ Some x = sym (find_at p xs) ∙ h in
    let less : nat_lt (position_or_len p xs) (length xs) ≡ true = below (position_or_len p xs) (length xs) (slice_get_within xs (position_or_len p xs) x is) in
    record { at = position_or_len p xs; position_is = ap (λ b. cond b (Some (position_or_len p xs)) None) less; there = is }

none_found : {X : Type 0} (p : X → Bool) (xs : List X) (x : X) (i : ℕ) → find p xs ≡ None → slice_get xs i ≡ Some x → p x ≡ false
none_found p [] x i none is = absurd cc
none_found {X = X} p (y ∷ ys) x i none is = by_first (p y) refl none i is (λ k rest there. none_found p ys x k rest there)
  where
    by_first : (b : Bool) → p y ≡ b → cond b (Some y) (find p ys) ≡ None → (i : ℕ) → slice_get (y ∷ ys) i ≡ Some x → ((k : ℕ) → find p ys ≡ None → slice_get ys k ≡ Some x → p x ≡ false) → p x ≡ false
    by_first true here is i there rest = absurd cc
    by_first false other is zero there rest = (let one : y ≡ x = cc in subst (λ z. p z ≡ false) one other)
    by_first false other is (suc i) there rest = rest i is there

pub position_none : {X : Type 0} (p : X → Bool) (xs : List X) → find p xs ≡ None → position p xs ≡ None
position_none {X = X} p xs none = by_place (position p xs) refl
  where
    by_place : (o : Option ℕ) → position p xs ≡ o → o ≡ None
    by_place None is = refl
    by_place (Some i) is =
        let here = position_passes p xs i is in
        let no : p here.0 ≡ false = none_found p xs here.0 i none here.1 in
        let yes : p here.0 ≡ true = here.2 in
        absurd cc

-- found among those that pass a wider test
find_within : {X : Type 0} (p q : X → Bool) (xs : List X) → ((x : X) → q x ≡ false → p x ≡ false) → find p (filter q xs) ≡ find p xs
find_within p q [] wider = refl
find_within {X = X} p q (x ∷ xs) wider = by_test (q x) refl (find_within p q xs wider)
  where
    by_test : (b : Bool) → q x ≡ b → find p (filter q xs) ≡ find p xs → find p (cond b (x ∷ filter q xs) (filter q xs)) ≡ cond (p x) (Some x) (find p xs)
    by_test true is rest = ap (λ o. cond (p x) (Some x) o) rest
    by_test false is rest = rest ∙ sym (ap (λ b. cond b (Some x) (find p xs)) (wider x is))

module _ {R : Type 0} (room : R → RoomValue) (ss : List (RoomEntry R)) where
  abbrev pub all : List Listing
  all = map listing_of (rooms_in room ss)

  -- a room's listing, found among all
  among_all : (p : Listing → Bool) → find p all ≡ option_map (λ (s : RoomEntry R). listing_of (room_in room s)) (find (λ s. p (listing_of (room_in room s))) ss)
  among_all p = find-map p listing_of (rooms_in room ss) ∙ (ap (option_map listing_of) (find-map (λ r. p (listing_of r)) (room_in room) ss) ∙ twice (find (λ s. p (listing_of (room_in room s))) ss))
    where
      twice : (o : Option (RoomEntry R)) → option_map listing_of (option_map (room_in room) o) ≡ option_map (λ (s : RoomEntry R). listing_of (room_in room s)) o
      twice None = refl
      twice (Some s) = refl

  taken : (i : ℕ) → slice_get all i ≡ option_map (λ (s : RoomEntry R). listing_of (room_in room s)) (slice_get ss i)
  taken i = slice_get-map listing_of (rooms_in room ss) i ∙ (ap (option_map listing_of) (slice_get-map (room_in room) ss i) ∙ twice (slice_get ss i))
    where
      twice : (o : Option (RoomEntry R)) → option_map listing_of (option_map (room_in room) o) ≡ option_map (λ (s : RoomEntry R). listing_of (room_in room s)) o
      twice None = refl
      twice (Some s) = refl

  -- the first listing that passes is that of the first room that does, and stands at its place
  pub record At (p : Listing → Bool) (s : RoomEntry R) : Type 0 where
    pub at : ℕ
    pub position_is : position p all ≡ Some at
    pub there : slice_get ss at ≡ Some s

  pub at_place : (p : Listing → Bool) (s : RoomEntry R) → find (λ s. p (listing_of (room_in room s))) ss ≡ Some s → At p s
  at_place p s found =
      let whole = position_found p all (listing_of (room_in room s)) (among_all p ∙ ap (option_map (λ (s : RoomEntry R). listing_of (room_in room s))) found) in
      let own = position_found (λ s. p (listing_of (room_in room s))) ss s found in
      record { at = whole.at; position_is = whole.position_is; there = same_place whole.at own.at whole.position_is own.position_is own.there }
    where
      same_or_len : (xs : List (RoomEntry R)) → position_or_len p (map listing_of (rooms_in room xs)) ≡ position_or_len (λ s. p (listing_of (room_in room s))) xs
      same_or_len [] = refl
      same_or_len (x ∷ xs) = ap (λ n. cond (not (p (listing_of (room_in room x)))) (1 + n) 0) (same_or_len xs)

      same_length : (xs : List (RoomEntry R)) → length (map listing_of (rooms_in room xs)) ≡ length xs
      same_length [] = refl
      same_length (x ∷ xs) = ap suc (same_length xs)

      same_position : position p all ≡ position (λ s. p (listing_of (room_in room s))) ss
      same_position = subst (λ n. position p all ≡ cond (nat_lt n (length ss)) (Some n) None) (same_or_len ss) (ap (λ n. cond (nat_lt (position_or_len p all) n) (Some (position_or_len p all)) None) (same_length ss))

      same_place : (i k : ℕ) → position p all ≡ Some i → position (λ s. p (listing_of (room_in room s))) ss ≡ Some k → slice_get ss k ≡ Some s → slice_get ss i ≡ Some s
      same_place i k a b there =
          let both : Some i ≡ Some k = sym a ∙ (same_position ∙ b) in
          let one : i ≡ k = cc in
          ap (slice_get ss) one ∙ there

  pub at_none : (p : Listing → Bool) → find (λ s. p (listing_of (room_in room s))) ss ≡ None → position p all ≡ None
  at_none p none = position_none p all (among_all p ∙ ap (option_map (λ (s : RoomEntry R). listing_of (room_in room s))) none)

-- ---- by the room of an id

position_one : {X : Type 0} (p : X → Bool) (x : X) → p x ≡ true → position p (x ∷ []) ≡ Some 0
position_one p x h = ap (λ b. cond (nat_lt (cond (not b) (1 + 0) 0) (length (x ∷ []))) (Some (cond (not b) (1 + 0) 0)) None) h

module _ {R : Type 0} (room : R → RoomValue) (p : Parts R) (q : Request) where
  abbrev pub ss : List (RoomEntry R)
  ss = p.registry.rooms

  abbrev pub h : HubValue
  h = hub_of room p

  abbrev named : Listing → Bool
  named r = bytes_eq r.id q.name

  id_nowhere : (m : Method) (kept : Option (List ℕ)) → find (has_id q.name) ss ≡ None → is_by_id m ≡ true → Leads ss (length p.defs) q.criteria (decisions.decided m h.defs (listings h) q kept) (outcome_in 0 [] (decisions.decided m h.defs [] q None))
  id_nowhere method.JoinById kept none by = ap (joined_at (listings h) q.name) (at_none room ss named none)
  id_nowhere method.Reconnect kept none by = ap (kept_at q.name kept) (at_none room ss named none) ∙ nothing kept
    where
      nothing : (kept : Option (List ℕ)) → kept_at q.name kept None ≡ room_not_found q.name
      nothing None = refl
      nothing (Some k) = refl
  id_nowhere method.JoinOrCreate kept none by = absurd cc
  id_nowhere method.Create kept none by = absurd cc
  id_nowhere method.Join kept none by = absurd cc

  pub leads_nowhere : find (has_id q.name) ss ≡ None → is_by_id q.method ≡ true → Leads ss (length p.defs) q.criteria (decide h.defs (listings h) q (kept_session h q)) (outcome_in 0 [] (decide h.defs [] q None))
  leads_nowhere none by = id_nowhere q.method (kept_session h q) none by

  module _ (s : RoomEntry R) (found : find (has_id q.name) ss ≡ Some s) where
    place : At room ss named s
    place = at_place room ss named s found

    is_at : IsAt ss s.serial place.at
    is_at = record { it = s; is = place.there; number = refl }

    abbrev one : List Listing
    one = listed (room_in room s) ∷ []

    own : bytes_eq s.id q.name ≡ true
    own = found_passes (has_id q.name) ss s found

    seen : slice_get (listings h) place.at ≡ Some (listing_of (room_in room s))
    seen = taken room ss place.at ∙ ap (option_map (λ (s : RoomEntry R). listing_of (room_in room s))) place.there

    abbrev opens : Bool
    opens = is_open (listing_of (room_in room s))

    open_leads : (b : Bool) → opens ≡ b → Leads ss (length p.defs) q.criteria (joined_at (listings h) q.name (Some place.at)) (outcome_in s.serial [] (cond b (decision.Join 0) (room_is_locked q.name)))
    open_leads true is = (place.at, is_at, ap (λ o. cond (option_map_or is_open o false) (decision.Join place.at) (room_is_locked q.name)) seen ∙ ap (λ b. cond b (decision.Join place.at) (room_is_locked q.name)) is)
    open_leads false is = ap (λ o. cond (option_map_or is_open o false) (decision.Join place.at) (room_is_locked q.name)) seen ∙ ap (λ b. cond b (decision.Join place.at) (room_is_locked q.name)) is

    kept_leads : (kept : Option (List ℕ)) → Leads ss (length p.defs) q.criteria (kept_at q.name kept (Some place.at)) (outcome_in s.serial [] (kept_at q.name kept (Some 0)))
    kept_leads None = refl
    kept_leads (Some k) = (place.at, is_at, refl)

    id_there : (m : Method) (kept : Option (List ℕ)) → is_by_id m ≡ true → Leads ss (length p.defs) q.criteria (decisions.decided m h.defs (listings h) q kept) (outcome_in s.serial [] (decisions.decided m h.defs one q kept))
    id_there method.JoinById kept by =
        subst (λ o. Leads ss (length p.defs) q.criteria (joined_at (listings h) q.name o) (outcome_in s.serial [] (joined_at one q.name (room_at one q.name)))) (sym place.position_is)
        (subst (λ o. Leads ss (length p.defs) q.criteria (joined_at (listings h) q.name (Some place.at)) (outcome_in s.serial [] (joined_at one q.name o))) (sym (position_one named (listed (room_in room s)) own)) (open_leads opens refl))
    id_there method.Reconnect kept by =
        subst (λ o. Leads ss (length p.defs) q.criteria (kept_at q.name kept o) (outcome_in s.serial [] (kept_at q.name kept (room_at one q.name)))) (sym place.position_is)
        (subst (λ o. Leads ss (length p.defs) q.criteria (kept_at q.name kept (Some place.at)) (outcome_in s.serial [] (kept_at q.name kept o))) (sym (position_one named (listed (room_in room s)) own)) (kept_leads kept))
    id_there method.JoinOrCreate kept by = absurd cc
    id_there method.Create kept by = absurd cc
    id_there method.Join kept by = absurd cc

    keeps : kept_session h q ≡ option_and_then (kept_by (room s.room).seats) q.token
    keeps = by_token q.token
      where
        by_token : (o : Option (List ℕ)) → option_and_then (λ token. option_and_then (λ (r : HubRoom). kept_by r.room.seats token) (room_of h q.name)) o ≡ option_and_then (kept_by (room s.room).seats) o
        by_token None = refl
        by_token (Some token) = ap (option_and_then (λ (r : HubRoom). kept_by r.room.seats token)) (room_found room q.name ss ∙ ap (option_map (room_in room)) found)

    pub leads_there : is_by_id q.method ≡ true → Leads ss (length p.defs) q.criteria (decide h.defs (listings h) q (kept_session h q))
        (outcome_in s.serial [] (decide h.defs (listed (room_in room s) ∷ []) q (option_and_then (kept_by (room s.room).seats) q.token)))
    leads_there by = subst (λ k. Leads ss (length p.defs) q.criteria (decide h.defs (listings h) q k) (outcome_in s.serial [] (decide h.defs one q (option_and_then (kept_by (room s.room).seats) q.token))))
        (sym keeps) (id_there q.method (option_and_then (kept_by (room s.room).seats) q.token) by)

-- ---- by a definition

module _ {R : Type 0} (room : R → RoomValue) (ss : List (RoomEntry R)) (def count : ℕ) (q : Request) (within : def < count) where
  abbrev fits : Listing → Bool
  fits = meets def q.criteria

  module _ (s : RoomEntry R) (found : find (λ s. fits (listing_of (room_in room s))) ss ≡ Some s) where
    joins : (other : Decision) → Leads ss count q.criteria (joined_or other (position fits (all room ss))) (outcome_in s.serial q.criteria (joined_or other (Some 0)))
    joins other =
        let whole = at_place room ss fits s found in
        (whole.at, record { it = s; is = whole.there; number = refl }, ap (joined_or other) whole.position_is)

    pub some_leads : (m : Method) → is_by_id m ≡ false → Leads ss count q.criteria (in_def m (all room ss) q def) (outcome_in s.serial q.criteria (found_decision m (Some def) (Some 0)))
    some_leads method.JoinOrCreate by = joins (decision.Make def)
    some_leads method.Join by = joins (decision.Refuse INVALID_CRITERIA (codes "no room meets the criteria"))
    some_leads method.Create by = (refl, refl, within)
    some_leads method.JoinById by = absurd cc
    some_leads method.Reconnect by = absurd cc

  pub none_leads : find (λ s. fits (listing_of (room_in room s))) ss ≡ None → (m : Method) → is_by_id m ≡ false → Leads ss count q.criteria (in_def m (all room ss) q def) (outcome_in 0 q.criteria (found_decision m (Some def) None))
  none_leads none method.JoinOrCreate by = (ap (joined_or (decision.Make def)) (at_none room ss fits none), refl, within)
  none_leads none method.Join by = ap (joined_or (decision.Refuse INVALID_CRITERIA (codes "no room meets the criteria"))) (at_none room ss fits none)
  none_leads none method.Create by = (refl, refl, within)
  none_leads none method.JoinById by = absurd cc
  none_leads none method.Reconnect by = absurd cc

-- ---- which definition

by_def_is : (defs : List RoomDef) (rooms : List Listing) (q : Request) (kept : Option (List ℕ)) → is_by_id q.method ≡ false → decide defs rooms q kept ≡ decisions.by_def defs rooms q
by_def_is defs rooms q kept by = by_method q.method by
  where
    by_method : (m : Method) → is_by_id m ≡ false → decisions.decided m defs rooms q kept ≡ decisions.by_def defs rooms q
    by_method method.JoinOrCreate by = refl
    by_method method.Create by = refl
    by_method method.Join by = refl
    by_method method.JoinById by = absurd cc
    by_method method.Reconnect by = absurd cc

-- the number of the oldest room, and its place among the rooms that are looked at, which is the only one
abbrev pub number_or : Option ℕ → ℕ
number_or None = 0
number_or (Some n) = n

abbrev pub place_of : Option ℕ → Option ℕ
place_of None = None
place_of (Some n) = Some 0

module _ {R : Type 0} (room : R → RoomValue) (p : Parts R) (q : Request) (by : is_by_id q.method ≡ false) where
  abbrev pub among : List (RoomEntry R)
  among = p.registry.rooms

  abbrev pub whole : Decision
  whole = decide p.defs (listings (hub_of room p)) q (kept_session (hub_of room p) q)

  abbrev decided_in : List Listing → Option ℕ → Decision
  decided_in rooms o = option_map_or (in_def q.method rooms q) o (decision.Refuse NO_HANDLER (codes "no handler"))

  within_defs : (def : ℕ) → position (def_named q.name) p.defs ≡ Some def → def < length p.defs
  within_defs def is = (let here = position_passes (def_named q.name) p.defs def is in slice_get_within p.defs def here.0 here.1)

  pub leads_found : (o n : Option ℕ) → o ≡ position (def_named q.name) p.defs → n ≡ option_and_then (oldest_of_def room among q.criteria) o
      → Leads among (length p.defs) q.criteria whole (outcome_in (number_or n) q.criteria (found_decision q.method o (place_of n)))
  leads_found o n is oldest =
      subst (λ d. Leads among (length p.defs) q.criteria d (outcome_in (number_or n) q.criteria (found_decision q.method o (place_of n))))
      (sym (by_def_is p.defs (listings (hub_of room p)) q (kept_session (hub_of room p) q) by ∙ ap (decided_in (listings (hub_of room p))) (sym is))) (by_def o is oldest)
    where
      by_found : (def : ℕ) → def < length p.defs → (f : Option (RoomEntry R)) → find (λ s. meets def q.criteria (listing_of (room_in room s))) among ≡ f → n ≡ option_map serial_of f
          → Leads among (length p.defs) q.criteria (in_def q.method (listings (hub_of room p)) q def) (outcome_in (number_or n) q.criteria (found_decision q.method (Some def) (place_of n)))
      by_found def within None found none = rw none (none_leads room among def (length p.defs) q within found q.method by)
      by_found def within (Some s) found some = rw some (some_leads room among def (length p.defs) q within s found q.method by)

      by_def : (o : Option ℕ) → o ≡ position (def_named q.name) p.defs → n ≡ option_and_then (oldest_of_def room among q.criteria) o
          → Leads among (length p.defs) q.criteria (decided_in (listings (hub_of room p)) o) (outcome_in (number_or n) q.criteria (found_decision q.method o (place_of n)))
      by_def None there none = refl
      by_def (Some def) there oldest = by_found def (within_defs def (sym there)) (find (λ s. meets def q.criteria (listing_of (room_in room s))) among) refl oldest

-- ---- ids

-- what is no id is no room's
pub none_named : {R : Type 0} (room : R → RoomValue) (Holds : RoomValue → Type 0) (low : ℕ) (name : List ℕ) (ss : List (RoomEntry R)) → RisesFrom serial_of low ss → Each (IsGood room Holds) ss → is_id name ≡ false → find (has_id name) ss ≡ None
none_named room Holds low name [] rises good other = refl
none_named {R = R} room Holds low name (x ∷ ss) rises good other = by_name (bytes_eq x.id name) refl (none_named room Holds (suc x.serial) name ss rises.1 (Each-rest (IsGood room Holds) low x ss rises good) other)
  where
    by_name : (b : Bool) → bytes_eq x.id name ≡ b → find (has_id name) ss ≡ None → cond b (Some x) (find (has_id name) ss) ≡ None
    by_name true here rest =
        let one : x.id ≡ name = same_bytes x.id name here in
        let named : is_id name ≡ true = subst (λ n. is_id n ≡ true) one (Each-first (IsGood room Holds) x ss good).named in
        absurd cc
    by_name false apart rest = rest

-- ---- the definition of a name

pub def_is : (ds defs : List RoomDef) (name other : List ℕ) (o : Option ℕ) → o ≡ position (λ (d : RoomDef). bytes_eq d.name other) ds → ds ≡ defs → other ≡ name → o ≡ position (def_named name) defs
def_is ds defs name other o is same one = is ∙ ap₂ (λ xs n. position (λ (d : RoomDef). bytes_eq d.name n) xs) same one

pub def_within : (defs : List RoomDef) (name : List ℕ) (o : Option ℕ) → o ≡ position (def_named name) defs → IfSome o (λ def. def < length defs)
def_within defs name None is = tt
def_within defs name (Some def) is = (let here = position_passes (def_named name) defs def (sym is) in slice_get_within defs def here.0 here.1)
