-- The state of a room at the last tick and now: what commands and sweeps keep of them.
use Rattle.std.proofs.Common.{◌≡◌, inl, inr, ℕ, zero, suc, ◌≤◌, ◌<◌, Bool, true, false, cond, not, ◌&&◌, ◌||◌, ◌==◌, List, [], length, filter, Option, Some, None, Ok, nat_le, refl, sym, ap, subst, ◌∙◌, zero-le, arith}
use Rattle.std.proofs.lemmas.Bool.Decides.{nat_tests}
use Rattle.std.proofs.lemmas.List.Filters.{sum_by-filter_both}
use Rattle.schema_model.specs.Classes.{Schema, is_kept}
use Rattle.state_model.specs.declared.row.Row.{Row}
use Rattle.state_model.specs.declared.row.Row.TheVariants.{Struct, Map, Array, Set}
use Rattle.state_model.specs.declared.row.RowEntry.{RowEntry}
use Rattle.state_model.specs.declared.command.Command.{Command}
use Rattle.state_model.specs.declared.command.TableFault.{TableFault}
use Rattle.state_model.specs.Rows.{values_in, emptied, place_count, put_row}
use Rattle.state_model.specs.Reached.{times, swept_once, is_among, all_held}
use Rattle.state_model.specs.Spelled.{are_spelled}
use Rattle.state_model.specs.State.{State, new_state, next_item, swept, places_limit, last_number}
use Rattle.state_model.specs.Commands.{answer_of, do_command, edited, makes_row, number_made, refusal_of, state_after}
use Rattle.command_laws.specs.Kept.{IsKept}
use Rattle.state_model.specs.Worded.{is_worded_command}
use Rattle.command_laws.proofs.Accepted.{command_accepted, outcome}
use Rattle.command_laws.proofs.Accounts.{accepted_fits}
use Rattle.command_laws.proofs.KeptStates.{command_keeps, new_state_kept}
use Rattle.command_laws.proofs.RowSums.{put_row_sum}
use Rattle.command_laws.proofs.SoundRows.{sound_rises}
use Rattle.command_laws.proofs.SpelledStates.{command_spells, sweep_spells}
use Rattle.command_laws.proofs.SweptStates.{sweep_keeps}
use Rattle.command_laws.specs.Later.{IsLater}
use Rattle.instance_table.proofs.ChangedTables.{places_changed, places_within}
use Rattle.command_laws.proofs.LaterLaws.{later_same, later_swept, later_command}
use Rattle.command_laws.proofs.LaterAgain.{later_again}

-- two states of which the second is later: both are kept and have bytes, and the second is within the limits
pub record GoodStates (schema : Schema) (last now : State) : Type 0 where
  pub was : IsKept schema last
  pub was_spelled : are_spelled last.rows ≡ true
  pub kept : IsKept schema now
  pub spelled : are_spelled now.rows ≡ true
  pub few : now.given ≤ last_number
  pub places : place_count now.rows ≤ places_limit
  pub later : IsLater last now

-- ---- a new state

pub new_states : (schema : Schema) → is_kept schema ≡ true → GoodStates schema (new_state schema) (new_state schema)
new_states schema h = record {
  was = new_state_kept schema h;
  was_spelled = refl;
  kept = new_state_kept schema h;
  spelled = refl;
  few = zero-le;
  places = zero-le;
  later = later_same (new_state schema);
}

-- ---- a command

made_places : (row : Row) → values_in (emptied row) ≡ []
made_places (Struct class fields) = refl
made_places (Map home items) = refl
made_places (Array home values) = refl
made_places (Set home items) = refl

-- the places after a command
command_places : (schema : Schema) (s : State) (c : Command) (t : State) (made : Option ℕ) → IsKept schema s → place_count s.rows ≤ places_limit → do_command schema s c ≡ Ok (t, made) → place_count t.rows ≤ places_limit
command_places schema s c t made kept few h = elim (outcome schema s c t made h) [
  | inl m ↦
      let rise = sound_rises schema s.rows kept.sound in
      let empty : length (values_in m.row) ≡ 0 = ap (λ r. length (values_in r)) (sym m.new.empty) ∙ ap length (made_places m.row) in
      let sum = put_row_sum (λ r. length (values_in r)) s.rows (suc s.given) m.row rise in
      subst (λ (q : State). place_count q.rows ≤ places_limit) (sym m.after) (omega (arith, empty, sum, few))
  | inr d ↦
      let rise = sound_rises schema s.rows kept.sound in
      let fit = accepted_fits schema s c d.holder d.row kept.sound d.stands d.free in
      let places = places_changed schema s.rows c d.holder (next_item s d.holder) d.row rise d.stands d.names fit in
      let within = places_within schema s.rows c d.row fit d.free.places_left few in
      let now : place_count (put_row d.holder (edited c (next_item s d.holder) d.row) s.rows) ≤ places_limit = omega (arith, places, within) in
      subst (λ (q : State). place_count q.rows ≤ places_limit) (sym d.after) now
]

-- the numbers that were given after a command
answer_made : (f : Option TableFault) (s t : State) (made given : Option ℕ) → answer_of f s made ≡ Ok (t, given) → given ≡ made
answer_made (Some f) s t made given h = cc
answer_made None s t made given h =
    let both : (s, made) ≡ (t, given) = cc in
    sym (ap (λ (p : State × Option ℕ). p.1) both)

makes_one : (b : Bool) (n m : ℕ) → Some m ≡ cond b (Some n) None → b ≡ true
makes_one true n m h = refl
makes_one false n m h = cc

command_few : (schema : Schema) (s : State) (c : Command) (t : State) (made : Option ℕ) → s.given ≤ last_number → do_command schema s c ≡ Ok (t, made) → t.given ≤ last_number
command_few schema s c t made few h = elim (outcome schema s c t made h) [
  | inl m ↦
      let number : made ≡ number_made s c = answer_made (refusal_of schema s c) (state_after schema s c) t (number_made s c) made h in
      let makes : makes_row c ≡ true = makes_one (makes_row c) (suc s.given) (suc s.given) (sym m.number ∙ number) in
      let left : nat_le last_number s.given ≡ false = sym (ap (λ b. b && nat_le last_number s.given) makes) ∙ (command_accepted schema s c t made h).refs_left in
      let less : s.given < last_number = grind (arith, nat_tests, left) in
      subst (λ (q : State). q.given ≤ last_number) (sym m.after) (omega (arith, less))
  | inr d ↦ subst (λ (q : State). q.given ≤ last_number) (sym d.after) few
]

pub command_states : (schema : Schema) (last now : State) (c : Command) (t : State) (made : Option ℕ) → is_kept schema ≡ true → is_worded_command c ≡ true → GoodStates schema last now → do_command schema now c ≡ Ok (t, made)
    → GoodStates schema last t
command_states schema last now c t made limits words g h =
    let few = command_few schema now c t made g.few h in
    let places = command_places schema now c t made g.kept g.places h in
    record {
      was = g.was;
      was_spelled = g.was_spelled;
      kept = command_keeps schema now c t made limits g.kept h;
      spelled = command_spells schema now c t made g.kept words few places h g.spelled;
      few = few;
      places = places;
      later = later_again schema last now t g.was g.later (later_command schema now c t made g.kept h);
    }

-- ---- a sweep

-- rows that pass a test have no more places
filter_places : (test : RowEntry → Bool) (rows : List RowEntry) → place_count (filter test rows) ≤ place_count rows
filter_places test rows = let both = sum_by-filter_both test (λ e. not (test e)) (λ e. refl) (λ (e : RowEntry). length (values_in e.row)) rows in omega (arith, both)

sweeps_places : (n : ℕ) (rows : List RowEntry) → place_count (times n swept_once rows) ≤ place_count rows
sweeps_places zero rows = omega arith
sweeps_places (suc n) rows =
    let rest = sweeps_places n (swept_once rows) in
    let first = filter_places (λ (e : RowEntry). (e.who == 0) || is_among e.who (all_held rows)) rows in
    omega (arith, rest, first)

pub swept_states : (schema : Schema) (last now : State) → GoodStates schema last now → GoodStates schema (swept now) (swept now)
swept_states schema last now g = record {
  was = sweep_keeps schema now g.kept;
  was_spelled = sweep_spells now g.spelled;
  kept = sweep_keeps schema now g.kept;
  spelled = sweep_spells now g.spelled;
  few = g.few;
  places = (let fewer = sweeps_places (length now.rows) now.rows in omega (arith, fewer, g.places));
  later = later_same (swept now);
}

-- the swept state is later than that of the last tick
pub swept_later : (schema : Schema) (last now : State) → GoodStates schema last now → IsLater last (swept now)
swept_later schema last now g = later_again schema last now (swept now) g.was g.later (later_swept schema now g.kept)
