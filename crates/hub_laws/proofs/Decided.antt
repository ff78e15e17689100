-- A room that a request leads to join is open.
use Rattle.std.proofs.Common.{◌≡◌, ℕ, ◌≤◌, Bool, true, false, cond, ◌&&◌, List, length, Option, Some, None, Result, Ok, Err, refl, sym, ap, subst, ◌∙◌, arith, codes, ◌<◌, ◌==◌}
use Rattle.std.specs.Prelude.{nat_lt, slice_get}
use Rattle.std.specs.List.{find, position, position_or_len}
use Rattle.std.specs.Option.{option_map_or}
use Rattle.std.specs.Str.{bytes_eq}
use Rattle.std.proofs.lemmas.Bool.{and_parts}
use Rattle.std.proofs.lemmas.Bool.Decides.{nat_tests}
use Rattle.std.proofs.lemmas.List.Folds.{find_at}
use Rattle.std.proofs.lemmas.Option.{slice_get_cases}
use Rattle.lists.proofs.Passing.{found_passes}
use Rattle.room_model.specs.declared.definition.RoomDef.{RoomDef}
use Rattle.hub_model.specs.declared.request.AskFault.{AskFault}
use Rattle.hub_model.specs.declared.request.AskFault.TheVariants.{NoMethod, BadPayload, NoHandler, Memory}
use Rattle.hub_model.specs.declared.request.Decision.{Decision}
use Rattle.hub_model.specs.declared.request.Decision.TheVariants as decision
use Rattle.hub_model.specs.declared.request.Listing.{Listing}
use Rattle.hub_model.specs.declared.request.Method.{Method}
use Rattle.hub_model.specs.declared.request.Method.TheVariants as method
use Rattle.hub_model.specs.declared.request.Request.{Request}
use Rattle.hub_model.specs.Decisions as decisions
use Rattle.hub_model.specs.Decisions.{is_open, meets, joined_or, joined_at, kept_at, in_def, room_at, texts_eq, room_is_locked}
use Rattle.hub_model.specs.HubValues.{HubValue, listings}
use Rattle.hub_model.specs.HubStep.{outcome, kept_session}

-- the item of a position passes
pub position_passes : {X : Type 0} (p : X → Bool) (xs : List X) (i : ℕ) → position p xs ≡ Some i → (x : X) × (slice_get xs i ≡ Some x) × (p x ≡ true)
position_passes {X} p xs i h = by_place (nat_lt (position_or_len p xs) (length xs)) refl h
  where
    Here : Type 0
    Here = (x : X) × (slice_get xs i ≡ Some x) × (p x ≡ true)

    found : (o : Option X) → find p xs ≡ o → slice_get xs i ≡ o → i < length xs → Here
    found (Some x) a b short = (x, b, found_passes p xs x a)
    found None a b short = absurd (omega (arith, gone b short))
      where
        gone : slice_get xs i ≡ None → i < length xs → length xs ≤ i
        gone empty short = grind (arith, slice_get_cases xs i)

    below : (a b : ℕ) → nat_lt a b ≡ true → a < b
    below a b h = grind (arith, nat_tests)

    by_place : (b : Bool) → nat_lt (position_or_len p xs) (length xs) ≡ b → cond b (Some (position_or_len p xs)) None ≡ Some i → Here
    by_place true e h =
        let same : position_or_len p xs ≡ i = cc in
        let short : position_or_len p xs < length xs = below (position_or_len p xs) (length xs) e in
        found (find p xs) refl (sym (find_at p xs ∙ ap (slice_get xs) same)) (subst (λ k. k < length xs) same short)
    by_place false e h = cc

-- ---- a room that is joined is open, by each method

abbrev pub JoinsOpen : List Listing → Decision → Type 0
JoinsOpen rooms d = (at : ℕ) → d ≡ decision.Join at → option_map_or is_open (slice_get rooms at) false ≡ true

oldest_open : (rooms : List Listing) (q : Request) (def : ℕ) (other : Decision) → JoinsOpen rooms other → (o : Option ℕ) → position (meets def q.criteria) rooms ≡ o → JoinsOpen rooms (joined_or other o)
oldest_open rooms q def other opens None found at is = opens at is
oldest_open rooms q def other opens (Some i) found at is =
    let same : i ≡ at = cc in
    let here = position_passes (meets def q.criteria) rooms i found in
    let both = and_parts (is_open here.0) ((here.0.def == def) && texts_eq here.0.criteria q.criteria) here.2 in
    subst (λ k. option_map_or is_open (slice_get rooms k) false ≡ true) same (ap (λ o. option_map_or is_open o false) here.1 ∙ both.0)

def_opens : (rooms : List Listing) (q : Request) (m : Method) (o : Option ℕ) → JoinsOpen rooms (option_map_or (in_def m rooms q) o (decision.Refuse 4210 (codes "no handler")))
def_opens rooms q m None at is = cc
def_opens rooms q method.JoinOrCreate (Some def) at is = oldest_open rooms q def (decision.Make def) (λ k e. cc) (position (meets def q.criteria) rooms) refl at is
def_opens rooms q method.Join (Some def) at is = oldest_open rooms q def (decision.Refuse 4211 (codes "no room meets the criteria")) (λ k e. cc) (position (meets def q.criteria) rooms) refl at is
def_opens rooms q method.Create (Some def) at is = cc
def_opens rooms q method.JoinById (Some def) at is = cc
def_opens rooms q method.Reconnect (Some def) at is = cc

joined_opens : (rooms : List Listing) (name : List ℕ) (o : Option ℕ) → JoinsOpen rooms (joined_at rooms name o)
joined_opens rooms name None at is = cc
joined_opens rooms name (Some i) at is =
    let go : (b : Bool) → option_map_or is_open (slice_get rooms i) false ≡ b → cond b (decision.Join i) (room_is_locked name) ≡ decision.Join at → option_map_or is_open (slice_get rooms at) false ≡ true = elim [
      | true ↦ λ e h. (let same : i ≡ at = cc in subst (λ k. option_map_or is_open (slice_get rooms k) false ≡ true) same e)
      | false ↦ λ e h. cc
    ] in go (option_map_or is_open (slice_get rooms i) false) refl is

kept_opens : (rooms : List Listing) (name : List ℕ) (kept : Option (List ℕ)) (o : Option ℕ) → JoinsOpen rooms (kept_at name kept o)
kept_opens rooms name None None at is = cc
kept_opens rooms name (Some s) None at is = cc
kept_opens rooms name None (Some i) at is = cc
kept_opens rooms name (Some s) (Some i) at is = cc

decided_opens : (m : Method) (defs : List RoomDef) (rooms : List Listing) (q : Request) (kept : Option (List ℕ)) → JoinsOpen rooms (decisions.decided m defs rooms q kept)
decided_opens method.JoinById defs rooms q kept = joined_opens rooms q.name (room_at rooms q.name)
decided_opens method.Reconnect defs rooms q kept = kept_opens rooms q.name kept (room_at rooms q.name)
decided_opens m defs rooms q kept = def_opens rooms q q.method (position (λ (d : RoomDef). bytes_eq d.name q.name) defs)

pub outcome_opens : (h : HubValue) (x : Result Request AskFault) → JoinsOpen (listings h) (outcome h x)
outcome_opens h (Ok q) at is = decided_opens q.method h.defs (listings h) q (kept_session h q) at is
outcome_opens h (Err NoMethod) at is = cc
outcome_opens h (Err BadPayload) at is = cc
outcome_opens h (Err NoHandler) at is = cc
outcome_opens h (Err Memory) at is = cc
