-- The refusal of a word, looked for from one place on.
use Rattle.std.proofs.Common.{◌≡◌, ℕ, ◌+◌, ◌<◌, false, cond, List, length, drop, get_or, Some, sym, ap, ◌∙◌}
use Rattle.std.specs.List.{find}
use Rattle.std.proofs.lemmas.List.{at_drop_more}
use Rattle.room_model.specs.declared.refusal.Refusal.{Refusal}
use Rattle.text_model.specs.Lines.{is_word}
use Rattle.text_model.specs.OutLines.{refusals}
use Rattle.text_model.specs.Outputs.{refusal_word}

pub refusal_more : (w : List ℕ) (i : ℕ) (d : Refusal) (text : List ℕ) → i < length refusals → text ≡ refusal_word (get_or refusals i d) → is_word text w ≡ false
    → find (λ r. is_word (refusal_word r) w) (drop i refusals) ≡ find (λ r. is_word (refusal_word r) w) (drop (i + 1) refusals)
refusal_more w i d text within is other =
    at_drop_more (find (λ r. is_word (refusal_word r) w)) refusals i d within
    ∙ ap (λ b. cond b (Some (get_or refusals i d)) (find (λ r. is_word (refusal_word r) w) (drop (i + 1) refusals))) (ap (λ t. is_word t w) (sym is) ∙ other)
