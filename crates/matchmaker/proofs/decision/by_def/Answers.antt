use Rattle.std.proofs.Common.{◌≡◌, ◌∙◌, ℕ, true, List, Option, Some, None, IfOk, OnErr, refl, ap, ap₂, subst}
use Rattle.std.specs.Prelude.{codes, option_and_then}
use Rattle.std.specs.List.{position}
use Rattle.std.specs.Option.{option_map_or}
use Rattle.std.specs.Str.{bytes_eq}
use Rattle.room_model.specs.declared.definition.RoomDef.{RoomDef}
use Rattle.frame_model.specs.declared.codes.TheConstants.{NO_HANDLER}
use Rattle.hub_model.specs.declared.request.Decision.TheVariants as decision
use Rattle.hub_model.specs.declared.request.Listing.{Listing}
use Rattle.hub_model.specs.declared.request.Method.{Method}
use Rattle.hub_model.specs.declared.request.Method.TheVariants.{JoinOrCreate, Create, Join, JoinById, Reconnect}
use Rattle.hub_model.specs.declared.request.Request.{Request}
use Rattle.hub_model.specs.Decisions.{by_def, in_def, meets}
use Rattle.matchmaker.specs.Found.{found_decision}
use Rattle.matchmaker.specs.Gives.{is_refusal}
use Rattle.matchmaker.proofs.decision.by_def.Goals as goal

found_is : (m : Method) (rooms : List Listing) (q : Request) (o : Option ℕ) → found_decision m o (option_and_then (λ d. position (meets d q.criteria) rooms) o) ≡ option_map_or (in_def m rooms q) o (decision.Refuse NO_HANDLER (codes "no handler"))
found_is m rooms q None = refl
found_is JoinOrCreate rooms q (Some def) = refl
found_is Create rooms q (Some def) = refl
found_is Join rooms q (Some def) = refl
found_is JoinById rooms q (Some def) = refl
found_is Reconnect rooms q (Some def) = refl

-- what it found is what it is said to find
is : (m : Method) (defs : List RoomDef) (rooms : List Listing) (q : Request) (name : List ℕ) (criteria : List (List ℕ)) (def room : Option ℕ) → m ≡ q.method → name ≡ q.name
    → criteria ≡ q.criteria → def ≡ position (λ (d : RoomDef). bytes_eq d.name name) defs
    → room ≡ option_and_then (λ d. position (meets d criteria) rooms) def → found_decision m def room ≡ by_def defs rooms q
is m defs rooms q name criteria def room method named same defined oldest =
    ap (found_decision m def) (oldest ∙ ap (λ (cs : List (List ℕ)). option_and_then (λ d. position (meets d cs) rooms) def) same) ∙ found_is m rooms q def
    ∙ ap₂ (λ m o. option_map_or (in_def m rooms q) o (decision.Refuse NO_HANDLER (codes "no handler"))) method (defined ∙ ap (λ n. position (λ (d : RoomDef). bytes_eq d.name n) defs) named)

same : (c : goal.After-decide_found) → found_decision c.args.request.now.method c.def_at-def.result c.oldest_in-room.result ≡ by_def c.args.defs.now c.args.rooms.now c.args.request.now
same c = is c.args.request.now.method c.args.defs.now c.args.rooms.now c.args.request.now _ _ c.def_at-def.result c.oldest_in-room.result refl c.as_str.ensures c.as_slice.ensures c.def_at-def.ensures c.oldest_in-room.ensures

pub returns-clause-value : goal.returns-clause-value
returns-clause-value c = subst (λ x. IfOk c.decide_found.result (λ d. d ≡ x)) (same c) c.decide_found.ensures.value

pub returns-clause-memory : goal.returns-clause-memory
returns-clause-memory c = subst (λ x. OnErr c.decide_found.result (is_refusal x ≡ true)) (same c) c.decide_found.ensures.memory
