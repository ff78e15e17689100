-- A table after a command that changes a row.
use Rattle.std.proofs.Common.{◌≡◌, ℕ, suc, ◌+◌, ◌-◌, ◌<◌, ◌≤◌, Bool, true, false, cond, not, ◌&&◌, List, [], length, Option, Some, None, Ok, nat_lt, nat_le, refl, sym, ap, ap₂, ◌∙◌, subst, arith}
use Rattle.std.specs.Option.{option_map, option_and_then, is_some}
use Rattle.std.proofs.lemmas.Bool.Decides.{nat_tests}
use Rattle.lists.specs.Rising.{RisesFrom}
use Rattle.schema_model.specs.Classes.{Schema}
use Rattle.state_model.specs.declared.row.Row.{Row}
use Rattle.state_model.specs.declared.row.RowEntry.{RowEntry}
use Rattle.state_model.specs.declared.command.Command.{Command}
use Rattle.state_model.specs.declared.command.Command.TheVariants.{Make, MakeFor, Put, Unset, PutKey, DelKey, Push, SetAt, DelAt, Add, Del, Clear}
use Rattle.state_model.specs.Rows as state
use Rattle.state_model.specs.Rows.{held_in, place_count, put_row, row_at, text_bytes_of, values_in}
use Rattle.state_model.specs.State.{State, places_limit, text_limit}
use Rattle.state_model.specs.Commands.{adds_place, answer_of, do_command, edited, holder_of, is_no_field, made_row, number_made, refusal_of, row_for, state_after, value_put, with_change, with_new}
use Rattle.command_laws.specs.Accounts.{IsFit, is_clear, one_if, replaced, row_text}
use Rattle.state_model.specs.Worded.{is_worded_command}
use Rattle.command_laws.proofs.Accepted.{IsAccepted, accepted}
use Rattle.command_laws.proofs.Accounts.{accepted_fits, adds_place_is, clear_counts, edited_counts, edited_places, edited_text}
use Rattle.command_laws.proofs.KeptStates.{command_keeps}
use Rattle.command_laws.proofs.RowSums.{put_row_places, put_row_text}
use Rattle.command_laws.proofs.SoundRows.{sound_rises}
use Rattle.command_laws.proofs.SpelledStates.{command_spells}
use Rattle.instance_table.specs.declared.node.Node.{Node}
use Rattle.instance_table.specs.declared.body.Body.{Body}
use Rattle.instance_table.specs.Amounts.{places_after, text_after, text_of_place}
use Rattle.instance_table.specs.Bodies.{row_of, next_in}
use Rattle.instance_table.specs.Nodes.{rows_in}
use Rattle.instance_table.specs.Changes.{changed, place_changed, row_cleared}
use Rattle.instance_table.specs.Table.{IsExact, IsTable, state_in}
use Rattle.instance_table.proofs.ExactLaws.{HoldersAre}
use Rattle.instance_table.proofs.LetGoLaws.{body_at}
use Rattle.instance_table.proofs.NodeStates.{nodes_rise, row_by_body}
use Rattle.instance_table.proofs.ChangedStates.{changed_bodies, changed_length, changed_rise, changed_rows, changed_state}
use Rattle.instance_table.proofs.ChangedHolders.{clear_exact, exact_held, held_exact, place_exact, row_counts}
use Rattle.instance_table.proofs.AmountLaws.{makes_none}

-- ---- what an accepted command does

-- the state after it
after_change : (schema : Schema) (s : State) (c : Command) (h : ℕ) (row : Row) → holder_of c ≡ Some h → row_at s.rows h ≡ Some row → state_after schema s c ≡ with_change s c (Some h) (Some row)
after_change schema s c h row names stands =
    let none = makes_none c h names in
    let found : row_for s.rows c ≡ Some row = ap (option_and_then (row_at s.rows)) names ∙ stands in
    ap (λ b. cond b (with_new s (made_row schema c)) (with_change s c (holder_of c) (row_for s.rows c))) none ∙ ap₂ (with_change s c) names found

-- what a command that isn't refused answers
answers_change : (schema : Schema) (s : State) (c : Command) (h : ℕ) (row : Row) → refusal_of schema s c ≡ None → holder_of c ≡ Some h → row_at s.rows h ≡ Some row
    → do_command schema s c ≡ Ok (with_change s c (Some h) (Some row), None)
answers_change schema s c h row free names stands =
    ap (λ f. answer_of f (state_after schema s c) (number_made s c)) free
    ∙ ap₂ (λ (t : State) (m : Option ℕ). Ok (t, m)) (after_change schema s c h row names stands) (ap (λ b. cond b (Some (suc s.given)) None) (makes_none c h names))

-- ---- places and text

-- a change that clears a row is of its holder
clears : (c : Command) (h : ℕ) → holder_of c ≡ Some h → is_clear c ≡ true → c ≡ Clear h
clears (Clear r) h e t = ap Clear (let same : Some r ≡ Some h = e in cc)
clears (Make class) h e t = cc
clears (MakeFor home) h e t = cc
clears (Put r f v) h e t = cc
clears (Unset r f) h e t = cc
clears (PutKey r k v) h e t = cc
clears (DelKey r k) h e t = cc
clears (Push r v) h e t = cc
clears (SetAt r at v) h e t = cc
clears (DelAt r at) h e t = cc
clears (Add r v) h e t = cc
clears (Del r v) h e t = cc

-- the places and the text after a change
pub places_changed : (schema : Schema) (rows : List RowEntry) (c : Command) (h next : ℕ) (row : Row) → RisesFrom state.number_of 0 rows → row_at rows h ≡ Some row → holder_of c ≡ Some h → IsFit schema rows c row
    → places_after c row (place_count rows) ≡ place_count (put_row h (edited c next row) rows)
places_changed schema rows c h next row rise stands names fit = by_test (is_clear c) refl
  where
    sum : place_count (put_row h (edited c next row) rows) + length (values_in row) ≡ place_count rows + length (values_in (edited c next row))
    sum = put_row_places rows h row (edited c next row) rise stands

    by_test : (t : Bool) → is_clear c ≡ t → cond t (place_count rows - length (values_in row)) (place_count rows + one_if (is_some (value_put c)) - one_if (is_some (replaced c row))) ≡ place_count (put_row h (edited c next row) rows)
    by_test true t =
        let is = clears c h names t in
        let empty : values_in (edited c next row) ≡ [] = ap (λ d. values_in (edited d next row)) is ∙ (clear_counts schema h next row (ap (λ d. is_no_field schema d (Some row)) (sym is) ∙ fit.field)).1 in
        omega (arith, sum, ap length empty)
    by_test false t = omega (arith, sum, edited_places schema rows c next row t fit)

pub text_changed : (schema : Schema) (rows : List RowEntry) (c : Command) (h next : ℕ) (row : Row) → RisesFrom state.number_of 0 rows → row_at rows h ≡ Some row → holder_of c ≡ Some h → IsFit schema rows c row
    → text_after c row (text_bytes_of rows) ≡ text_bytes_of (put_row h (edited c next row) rows)
text_changed schema rows c h next row rise stands names fit = by_test (is_clear c) refl
  where
    sum : text_bytes_of (put_row h (edited c next row) rows) + row_text row ≡ text_bytes_of rows + row_text (edited c next row)
    sum = put_row_text rows h row (edited c next row) rise stands

    by_test : (t : Bool) → is_clear c ≡ t → cond t (text_bytes_of rows - row_text row) (text_of_place c row (text_bytes_of rows)) ≡ text_bytes_of (put_row h (edited c next row) rows)
    by_test true t =
        let is = clears c h names t in
        let empty : row_text (edited c next row) ≡ 0 = ap (λ d. row_text (edited d next row)) is ∙ (clear_counts schema h next row (ap (λ d. is_no_field schema d (Some row)) (sym is) ∙ fit.field)).2 in
        omega (arith, sum, empty)
    by_test false t = omega (arith, sum, edited_text schema rows c next row t fit)

-- the places stay within the limit
pub places_within : (schema : Schema) (rows : List RowEntry) (c : Command) (row : Row) → IsFit schema rows c row → (adds_place c (Some row) && nat_le places_limit (place_count rows)) ≡ false → place_count rows ≤ places_limit
    → places_after c row (place_count rows) ≤ places_limit
places_within schema rows c row fit left few = by_test (is_clear c) (is_some (value_put c)) refl (is_some (replaced c row)) refl
  where
    adds : adds_place c (Some row) ≡ (is_some (value_put c) && not (is_some (replaced c row)))
    adds = adds_place_is schema rows c row fit

    by_test : (t p : Bool) → is_some (value_put c) ≡ p → (r : Bool) → is_some (replaced c row) ≡ r
        → cond t (place_count rows - length (values_in row)) (place_count rows + one_if (is_some (value_put c)) - one_if (is_some (replaced c row))) ≤ places_limit
    by_test true p e r f = omega arith
    by_test false true e true f = omega (arith, ap one_if e, ap one_if f)
    by_test false true e false f =
        let adds : adds_place c (Some row) ≡ true = adds ∙ (ap (λ b. b && not (is_some (replaced c row))) e ∙ ap (λ b. true && not b) f) in
        let full : nat_le places_limit (place_count rows) ≡ false = sym (ap (λ b. b && nat_le places_limit (place_count rows)) adds) ∙ left in
        let less : place_count rows < places_limit = grind (arith, nat_tests, full) in
        omega (arith, ap one_if e, ap one_if f, less)
    by_test false false e r f = omega (arith, ap one_if e)

-- ---- the table

-- the holders after a change
changed_exact : (schema : Schema) (c : Command) (h : ℕ) (b : Body) (es : List (ℕ × Node)) → IsExact es → row_at (rows_in es) h ≡ Some (row_of b) → holder_of c ≡ Some h → IsFit schema (rows_in es) c (row_of b)
    → rows_in (changed c h b es) ≡ put_row h (edited c (next_in b) (row_of b)) (rows_in es) → IsExact (changed c h b es)
changed_exact schema c h b es x at names fit rows = held_exact (changed c h b es) (subst (λ l. HoldersAre (row_counts l) (changed c h b es)) (sym rows) (by_test (is_clear c) refl))
  where
    new : Row
    new = edited c (next_in b) (row_of b)

    by_test : (t : Bool) → is_clear c ≡ t → HoldersAre (row_counts (put_row h new (rows_in es))) (cond t (row_cleared c h b es) (place_changed c h b es))
    by_test true t =
        let is = clears c h names t in
        let empty : held_in new ≡ [] = ap (λ d. held_in (edited d (next_in b) (row_of b))) is ∙ (clear_counts schema h (next_in b) (row_of b) (ap (λ d. is_no_field schema d (Some (row_of b))) (sym is) ∙ fit.field)).0 in
        clear_exact c h b es new (exact_held es x) at empty
    by_test false t = place_exact c h b es new (exact_held es x) at (λ n. edited_counts schema (rows_in es) c (next_in b) (row_of b) n t fit)

-- a table after a change is one, and its state is the command's
pub record IsChanged (schema : Schema) (es fs : List (ℕ × Node)) (given places text : ℕ) (c : Command) (b : Body) : Type 0 where
  pub table : IsTable schema fs given (places_after c (row_of b) places) (text_after c (row_of b) text)
  pub answer : do_command schema (state_in es given) c ≡ Ok (state_in fs given, None)
  pub long : length fs ≡ length es

pub changed_table : (schema : Schema) (es : List (ℕ × Node)) (given places text h : ℕ) (c : Command) (b : Body)
    → IsTable schema es given places text → is_worded_command c ≡ true → refusal_of schema (state_in es given) c ≡ None → holder_of c ≡ Some h → body_at es h ≡ Some b
    → IsChanged schema es (changed c h b es) given places text c b
changed_table schema es given places text h c b t words free names at =
    let s = state_in es given in
    let fs = changed c h b es in
    let stands : row_at (rows_in es) h ≡ Some (row_of b) = row_by_body es h ∙ ap (option_map row_of) at in
    let found : row_for s.rows c ≡ Some (row_of b) = ap (option_and_then (row_at s.rows)) names ∙ stands in
    let taken : IsAccepted schema s c (Some (row_of b)) = subst (λ o. IsAccepted schema s c o) found (accepted schema s c (row_for s.rows c) free) in
    let fit = accepted_fits schema s c h (row_of b) t.kept.sound stands taken in
    let rows_rise = sound_rises schema s.rows t.kept.sound in
    let rise = nodes_rise 0 es rows_rise in
    let bodies = changed_bodies c h es b at in
    let after_rise = changed_rise c h b es rise in
    let rows = changed_rows c h es fs b rise after_rise bodies in
    let after : state_in fs given ≡ with_change s c (Some h) (Some (row_of b)) = changed_state c h given es fs b rise after_rise at bodies in
    let answer : do_command schema s c ≡ Ok (state_in fs given, None) = answers_change schema s c h (row_of b) free names stands ∙ ap (λ (q : State). Ok (q, None)) (sym after) in
    let left : nat_lt text_limit (text_bytes_of (rows_in fs)) ≡ false = ap (λ (q : State). nat_lt text_limit (text_bytes_of q.rows)) (after ∙ sym (after_change schema s c h (row_of b) names stands)) ∙ taken.text_left in
    let places_now = places_changed schema (rows_in es) c h (next_in b) (row_of b) rows_rise stands names fit in
    let text_now = text_changed schema (rows_in es) c h (next_in b) (row_of b) rows_rise stands names fit in
    let placed : places_after c (row_of b) places ≡ place_count (rows_in fs) = ap (places_after c (row_of b)) t.placed ∙ (places_now ∙ ap place_count (sym rows)) in
    let texts : text_after c (row_of b) text ≡ text_bytes_of (rows_in fs) = ap (text_after c (row_of b)) t.texts ∙ (text_now ∙ ap text_bytes_of (sym rows)) in
    let before : place_count (rows_in es) ≤ places_limit = subst (λ n. n ≤ places_limit) t.placed t.places_few in
    let within = places_within schema (rows_in es) c (row_of b) fit taken.places_left before in
    let few : places_after c (row_of b) places ≤ places_limit =
    subst (λ n. places_after c (row_of b) n ≤ places_limit) (sym t.placed) within in
    let few_now : place_count (rows_in fs) ≤ places_limit = subst (λ n. n ≤ places_limit) placed few in
    record {
      table = record {
        schema_kept = t.schema_kept;
        kept = command_keeps schema s c (state_in fs given) None t.schema_kept t.kept answer;
        spelled = command_spells schema s c (state_in fs given) None t.kept words t.given_few few_now answer t.spelled;
        exact = changed_exact schema c h b es t.exact stands names fit rows;
        placed = placed;
        texts = texts;
        rows_few = omega (arith, changed_length c h b es, t.rows_few);
        places_few = few;
        text_few = subst (λ n. n ≤ text_limit) (sym texts) (grind (arith, nat_tests, left));
        given_few = t.given_few;
      };
      answer = answer;
      long = changed_length c h b es;
    }
