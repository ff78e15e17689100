-- The answer to a command has a line: the number of a row has 32 bits, and a refusal is told.
use Rattle.std.proofs.Common.{◌≡◌, ℕ, suc, ◌^◌, ◌≤◌, Bool, true, false, cond, List, [], ◌∷◌, Option, Some, None, Ok, Err, refl, ap, subst, ◌∙◌, arith, inl, inr, lt-ltb}
use Rattle.std.specs.List.{list_all}
use Rattle.std.proofs.lemmas.Bool.{and_parts}
use Rattle.schema_model.specs.Classes.{Schema, is_kept}
use Rattle.state_model.specs.declared.command.Command.{Command}
use Rattle.state_model.specs.declared.command.TableFault.{TableFault}
use Rattle.state_model.specs.declared.row.Row.{Row}
use Rattle.state_model.specs.Commands.{answer_of, causes_over, do_command, first_cause, number_made, refusal_of, row_for, state_after}
use Rattle.state_model.specs.State.{State, last_number}
use Rattle.state_model.specs.Worded.{is_worded_command}
use Rattle.command_laws.proofs.Accepted.{outcome}
use Rattle.room_model.specs.declared.refusal.Refusal.TheVariants.{Table}
use Rattle.room_promises.proofs.StateFacts.{GoodStates, command_states}
use Rattle.text_model.specs.Acts.{is_ref}
use Rattle.text_model.specs.OutLines.{is_told}

-- ---- a refusal

abbrev is_told_cause : Bool × TableFault → Bool
is_told_cause c = is_told (Table c.1)

causes_told : (schema : Schema) (s : State) (c : Command) (row : Option Row) → list_all is_told_cause (causes_over schema s c row) ≡ true
causes_told schema s c row = refl

first_told : (cs : List (Bool × TableFault)) (f : TableFault) → list_all is_told_cause cs ≡ true → first_cause cs ≡ Some f → is_told (Table f) ≡ true
first_told [] f told h = absurd (cc)
first_told (c ∷ cs) f told h = by_test c.0 h (first_told cs f p.1)
  where
    p : (is_told_cause c ≡ true) × (list_all is_told_cause cs ≡ true)
    p = and_parts (is_told_cause c) (list_all is_told_cause cs) told

    by_test : (b : Bool) → cond b (Some c.1) (first_cause cs) ≡ Some f → (first_cause cs ≡ Some f → is_told (Table f) ≡ true) → is_told (Table f) ≡ true
    by_test true k rest = (let same : c.1 ≡ f = cc in subst (λ f. is_told (Table f) ≡ true) same p.0)
    by_test false k rest = rest k

pub refusal_told : (schema : Schema) (s : State) (c : Command) (f : TableFault) → do_command schema s c ≡ Err f → is_told (Table f) ≡ true
refusal_told schema s c f h = by_cause (refusal_of schema s c) refl h
  where
    by_cause : (o : Option TableFault) → refusal_of schema s c ≡ o → answer_of o (state_after schema s c) (number_made s c) ≡ Err f → is_told (Table f) ≡ true
    by_cause None e k = absurd (cc)
    by_cause (Some g) e k = (let same : g ≡ f = cc in first_told (causes_over schema s c (row_for s.rows c)) f (causes_told schema s c (row_for s.rows c)) (e ∙ ap Some same))

-- ---- the number of a row

pub number_fits : (schema : Schema) (last now : State) (c : Command) (t : State) (n : ℕ) → is_kept schema ≡ true → is_worded_command c ≡ true
    → GoodStates schema last now → do_command schema now c ≡ Ok (t, Some n) → is_ref n ≡ true
number_fits schema last now c t n kept words g h = elim (outcome schema now c t (Some n) h) [
  | inl m ↦
      let few : t.given ≤ last_number = (command_states schema last now c t (Some n) kept words g h).few in
      let given : t.given ≡ suc now.given = ap (λ (s : State). s.given) m.after in
      let same : n ≡ suc now.given = (let is = m.number in cc) in
      lt-ltb n (2 ^ 32) (omega (arith, few, given, same))
  | inr d ↦ absurd (let none = d.number in cc)
]
