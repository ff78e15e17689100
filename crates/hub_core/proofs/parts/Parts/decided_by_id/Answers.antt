use Rattle.std.proofs.Common.{rules, ◌≡◌, ◌∙◌, ◌∷◌, [], ℕ, List, Option, None, length, sym, ap, ap₂, subst}
use Rattle.std.specs.List.{find}
use Rattle.room_model.specs.declared.definition.RoomDef.{RoomDef}
use Rattle.hub_model.specs.declared.request.Decision.{Decision}
use Rattle.hub_model.specs.declared.request.Listing.{Listing}
use Rattle.hub_model.specs.declared.request.Request.{Request}
use Rattle.hub_model.specs.Decisions.{decide}
use Rattle.hub_model.specs.HubStep.{kept_session}
use Rattle.hub_model.specs.HubValues.{listings}
use Rattle.hub_core.specs.Hubs.{hub_of}
use Rattle.hub_core.specs.Outcome.{Leads, outcome_in}
use Rattle.hub_core.specs.RoomEntry.{has_id}
use Rattle.hub_core.proofs.OutcomeLaws.{leads_nowhere, leads_there}
use Rattle.hub_core.proofs.parts.Parts.decided_by_id.Goals as goal

decide_same : (defs ds : List RoomDef) (rooms ls : List Listing) (q : Request) (kept k : Option (List ℕ)) → ds ≡ defs → ls ≡ rooms → k ≡ kept → decide ds ls q k ≡ decide defs rooms q kept
decide_same defs ds rooms ls q kept k a b c = ap₂ (λ ds ls. decide ds ls q k) a b ∙ ap (decide defs rooms q) c

led_same : (n : ℕ) (criteria : List (List ℕ)) (d : Decision) → criteria ≡ [] → outcome_in n criteria d ≡ outcome_in n [] d
led_same n criteria d none = ap (λ ts. outcome_in n ts d) none

pub returns-in_default : goal.returns-in_default
returns-in_default g c =
    let old = c.args.self.now in
    let q = c.args.request.now in
    let h = hub_of g.R.RoomLike.room old in
    subst (Leads old.registry.rooms (length old.defs) q.criteria (decide old.defs (listings h) q (kept_session h q)))
    (sym (c.in_room.ensures ∙ led_same 0 _ _ (search rules) ∙ ap (outcome_in 0 []) (c.in_ok-decision.ensures.value ∙ ap (λ ds. decide ds [] q None) c.as_slice.ensures)))
    (leads_nowhere g.R.RoomLike.room old q (ap (λ n. find (has_id n) old.registry.rooms) (sym c.as_str.ensures) ∙ sym c.in_default.ensures) c.requires.by_id)

pub returns : goal.returns
returns g c =
    let old = c.args.self.now in
    let q = c.args.request.now in
    let h = hub_of g.R.RoomLike.room old in
    let s = c.in-Some.entry.now in
    subst (Leads old.registry.rooms (length old.defs) q.criteria (decide old.defs (listings h) q (kept_session h q)))
    (sym (c.in_room-2.ensures ∙ led_same s.serial _ _ (search rules) ∙ ap (outcome_in s.serial []) (c.in_ok-decision-2.ensures.value ∙ decide_same _ _ _ _ q _ _ c.as_slice-2.ensures (ap (λ l. l ∷ []) c.listed.ensures) c.kept_by-kept.ensures)))
    (leads_there g.R.RoomLike.room old q s (ap (λ n. find (has_id n) old.registry.rooms) (sym c.as_str.ensures) ∙ sym c.in-Some.ensures) c.requires.by_id)
