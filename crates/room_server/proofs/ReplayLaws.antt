-- What was printed of the events so far, and what is still to come.
use Rattle.std.proofs.Common.{◌≡◌, ◌+◌, ℕ, suc, true, false, List, [], ◌∷◌, ◌++◌, length, Option, refl, sym, ap, ◌∙◌, append_assoc, append-nil, arith}
use Rattle.std.specs.List.{flat_map, list_all}
use Rattle.std.proofs.lemmas.Bool.{and_parts}
use Rattle.std.proofs.lemmas.Grind.{flat_map-append}
use Rattle.hub_core.specs.Held.{Held, may_take}
use Rattle.hub_model.specs.declared.event.HubEvent.{HubEvent}
use Rattle.hub_model.specs.declared.event.HubOut.{HubOut}
use Rattle.hub_model.specs.HubStep.{hub_step, outs_from}
use Rattle.hub_model.specs.HubValues.{HubValue}
use Rattle.text_model.specs.Outputs.{out_line}
use Rattle.room_server.specs.Turns.{rules, outs_text}
use Rattle.outside.specs.Streams.{Takes, TakesPrefix}
use Rattle.outside.proofs.TakeLaws.{takes_none, takes_both, no_prefix, longer_prefix, prefix_behind}

-- the sink took a prefix, and this is what is left of the whole
pub record SoFar (before now : Option (List ℕ)) (rest whole : List ℕ) : Type 0 where
  pub bytes : List ℕ
  pub took : Takes before now bytes
  pub joined : bytes ++ rest ≡ whole

pub at_first : (now : Option (List ℕ)) (whole : List ℕ) → SoFar now now whole whole
at_first now whole = record { bytes = []; took = takes_none now; joined = refl }

-- a piece of what is left was taken
pub one_further : (before now after : Option (List ℕ)) (rest whole a b : List ℕ) → SoFar before now rest whole → rest ≡ a ++ b → Takes now after a → SoFar before after b whole
one_further before now after rest whole a b s is took = record {
  bytes = s.bytes ++ a;
  took = takes_both before now after s.bytes a s.took took;
  joined = append_assoc s.bytes a b ∙ (ap (λ r. s.bytes ++ r) (sym is) ∙ s.joined);
}

-- a prefix of a piece of what is left was taken
pub stopped_within : (before now after : Option (List ℕ)) (rest whole a b : List ℕ) → SoFar before now rest whole → rest ≡ a ++ b → TakesPrefix now after a → TakesPrefix before after whole
stopped_within before now after rest whole a b s is prefix =
    rw (← s.joined, is) (prefix_behind before now after s.bytes (a ++ b) s.took (longer_prefix now after a b prefix))

-- nothing more was taken
pub stopped_here : (before now : Option (List ℕ)) (rest whole : List ℕ) → SoFar before now rest whole → TakesPrefix before now whole
stopped_here before now rest whole s = rw (← s.joined) (prefix_behind before now now s.bytes rest s.took (no_prefix now rest))

-- nothing is left
pub all_taken : (before now : Option (List ℕ)) (whole : List ℕ) → SoFar before now [] whole → Takes before now whole
all_taken before now whole s = rw (← (sym (append-nil s.bytes) ∙ s.joined)) s.took

-- ---- an event of what is left

-- it may be taken, and so may the others
pub takes_on : (rest next : List HubEvent) (event : HubEvent) → rest ≡ event ∷ next → list_all may_take rest ≡ true → may_take event ≡ true
takes_on rest next event is may = (and_parts (may_take event) (list_all may_take next) (sym (ap (list_all may_take) is) ∙ may)).0

pub takes_rest : (rest next : List HubEvent) (event : HubEvent) → rest ≡ event ∷ next → list_all may_take rest ≡ true → list_all may_take next ≡ true
takes_rest rest next event is may = (and_parts (may_take event) (list_all may_take next) (sym (ap (list_all may_take) is) ∙ may)).1

-- the lines of what it gives, and of what the others give behind it
pub outs_text_on : (hub : HubValue) (after : Held) (rest next : List HubEvent) (event : HubEvent) (outs : List HubOut) → rest ≡ event ∷ next
    → outs ≡ (hub_step rules hub event).1 → after ≡ record { hub = (hub_step rules hub event).0; spent = false } → outs_text hub rest ≡ flat_map out_line outs ++ outs_text after.hub next
outs_text_on hub after rest next event outs is gives leads =
    ap (outs_text hub) is
    ∙ (flat_map-append out_line (hub_step rules hub event).1 (outs_from rules (hub_step rules hub event).0 next)
    ∙ (ap (λ os. flat_map out_line os ++ outs_text (hub_step rules hub event).0 next) (sym gives)
    ∙ ap (λ (h : Held). flat_map out_line outs ++ outs_text h.hub next) (sym leads)))

-- nothing is left
pub none_left : {X : Type 0} (xs : List X) (n : ℕ) → n ≡ length xs → n ≡ 0 → xs ≡ []
none_left [] n is none = refl
none_left (x ∷ xs) n is none = absurd (let one : suc (length xs) ≡ 0 = sym is ∙ none in cc)

-- one fewer is left
pub shorter : {X : Type 0} (n m : ℕ) (rest next : List X) (x : X) → n + 1 ≡ m → m ≡ length rest → rest ≡ x ∷ next → n ≡ length next
shorter n m rest next x less is cons = (let one : m ≡ suc (length next) = is ∙ ap length cons in omega (arith, less, one))
