-- The links of a row, place by place.
use Rattle.std.proofs.Common.{◌≡◌, ℕ, zero, suc, ◌+◌, ◌<◌, ◌≤◌, List, [], ◌∷◌, ◌++◌, length, take, Option, sym, ap, ◌∙◌, arith}
use Rattle.std.specs.Prelude.{slice_get}
use Rattle.std.specs.List.{flat_map}
use Rattle.std.specs.Option.{option_to_list}
use Rattle.std.proofs.lemmas.List.{append-nil, append_assoc, length-append}
use Rattle.std.proofs.Math.Seq.{take-length}
use Rattle.schema_model.specs.declared.value.Value.{Value}
use Rattle.state_model.specs.Values.{held_by}
use Rattle.command_laws.specs.Accounts.{held_in_value}

-- the numbers that the first values hold
abbrev pub held_first : ℕ → List Value → List ℕ
held_first n values = flat_map held_by (take n values)

-- one value more
pub held_next : (n : ℕ) (values : List Value) → n < length values → held_first (n + 1) values ≡ held_first n values ++ held_in_value (slice_get values n)
held_next n [] h = absurd (omega arith)
held_next zero (v ∷ vs) h = append-nil (held_by v)
held_next (suc n) (v ∷ vs) h =
    let more : suc n + 1 ≡ suc (n + 1) = omega arith in
    ap (λ m. held_first m (v ∷ vs)) more ∙ ap (λ l. held_by v ++ l) (held_next n vs (omega arith)) ∙ sym (append_assoc (held_by v) (held_first n vs) (held_in_value (slice_get vs n)))

-- what the first values hold, and the next one, is no more than what all hold
pub first_held : (n : ℕ) (values : List Value) → n < length values → length (held_first n values) + length (held_in_value (slice_get values n)) ≤ length (flat_map held_by values)
first_held n [] h = absurd (omega arith)
first_held zero (v ∷ vs) h = omega (arith, length-append (held_by v) (flat_map held_by vs))
first_held (suc n) (v ∷ vs) h = omega (arith, first_held n vs (omega arith), length-append (held_by v) (held_first n vs), length-append (held_by v) (flat_map held_by vs))

pub links_next : (old mid now : List ℕ) (n : ℕ) (values : List Value) (found : Option ℕ) → n < length values → option_to_list found ≡ held_in_value (slice_get values n)
    → mid ≡ old ++ held_first n values → now ≡ mid ++ option_to_list found → now ≡ old ++ held_first (n + 1) values
links_next old mid now n values found h e m p =
    p ∙ (ap (λ l. l ++ option_to_list found) m
    ∙ (append_assoc old (held_first n values) (option_to_list found)
    ∙ ap (λ l. old ++ l) (ap (λ l. held_first n values ++ l) e ∙ sym (held_next n values h))))

pub links_all : (old now : List ℕ) (n : ℕ) (values : List Value) → n ≡ length values → now ≡ old ++ held_first n values → now ≡ old ++ flat_map held_by values
links_all old now n values h p = p ∙ ap (λ l. old ++ flat_map held_by l) (ap (λ m. take m values) h ∙ take-length values)
