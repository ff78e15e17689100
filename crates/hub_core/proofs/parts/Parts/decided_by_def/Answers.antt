use Rattle.std.proofs.Common.{◌≡◌, ◌∙◌, ℕ, List, Option, Some, None, length, refl, sym, ap, ap₂, subst}
use Rattle.std.specs.Prelude.{option_and_then}
use Rattle.std.specs.Option.{option_map, unwrap_or}
use Rattle.hub_model.specs.Decisions.{decide}
use Rattle.hub_model.specs.HubStep.{kept_session}
use Rattle.hub_model.specs.HubValues.{listings}
use Rattle.hub_core.specs.Hubs.{hub_of}
use Rattle.hub_core.specs.Outcome.{Leads, oldest_of_def, outcome_in}
use Rattle.matchmaker.specs.Found.{found_decision}
use Rattle.hub_core.proofs.OutcomeLaws.{def_is, leads_found, number_or, place_of}
use Rattle.hub_core.proofs.parts.Parts.decided_by_def.Goals as goal

number_is : (o : Option ℕ) → unwrap_or o 0 ≡ number_or o
number_is None = refl
number_is (Some n) = refl

place_is : (o : Option ℕ) → option_map (λ n. 0) o ≡ place_of o
place_is None = refl
place_is (Some n) = refl

pub returns : goal.returns
returns g c =
    let old = c.args.self.now in
    let q = c.args.request in
    let h = hub_of g.R.RoomLike.room old in
    let o = c.def_at-def.result in
    let n = c.in_ok-oldest.oldest in
    let o_is = def_is c.as_slice.result.now old.defs q.name c.as_str.result.now o c.def_at-def.ensures c.as_slice.ensures c.as_str.ensures in
    let n_is : n ≡ option_and_then (oldest_of_def g.R.RoomLike.room old.registry.rooms q.criteria) o = c.in_ok-oldest.ensures
    ∙ ap (λ (cs : List (List ℕ)). option_and_then (oldest_of_def g.R.RoomLike.room old.registry.rooms cs) o) c.as_slice-2.ensures in
    let place : c.only_place-room.result ≡ place_of n = c.only_place-room.ensures ∙ place_is n in
    let leads_to : c.in_room.result ≡ outcome_in (number_or n) q.criteria (found_decision q.method o (place_of n)) =
    c.in_room.ensures ∙ ap₂ (λ k d. outcome_in k q.criteria d) (c.unwrap_or.ensures ∙ number_is n) (c.in_ok-decision.ensures.value ∙ ap (found_decision q.method o) place) in
    subst (Leads old.registry.rooms (length old.defs) q.criteria (decide old.defs (listings h) q (kept_session h q))) (sym leads_to) (leads_found g.R.RoomLike.room old q c.requires.by_def o n o_is n_is)
