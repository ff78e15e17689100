-- What a table knows before a command that changes a row, and what it keeps where memory was wanting.
use Rattle.std.proofs.Common.{◌≡◌, inl, inr, ℕ, ◌≤◌, Bool, true, false, ◌&&◌, List, [], ◌∷◌, length, Option, Some, None, Result, Err, nat_lt, refl, sym, ap, ap₂, ◌∙◌, subst, arith}
use Rattle.std.specs.List.{list_any}
use Rattle.std.specs.Option.{is_some, option_map, option_map_or, option_and_then}
use Rattle.std.proofs.lemmas.Bool.{or_parts, true≢false}
use Rattle.std.proofs.lemmas.Bool.Decides.{nat_tests}
use Rattle.lists.specs.Rising.{RisesFrom}
use Rattle.schema_model.specs.Classes.{Schema}
use Rattle.state_model.specs.declared.command.Command.{Command}
use Rattle.state_model.specs.declared.command.TableFault.{TableFault}
use Rattle.state_model.specs.declared.command.TableFault.TheVariants as fault
use Rattle.state_model.specs.Rows as state
use Rattle.state_model.specs.Rows.{is_live, place_count, row_at, text_bytes_of, values_in}
use Rattle.state_model.specs.Spelled.{are_spelled}
use Rattle.state_model.specs.State.{State, next_item, last_number, text_limit}
use Rattle.state_model.specs.Commands.{causes_over, first_cause, gives_number, holder_of, refusal_of, row_for, value_put}
use Rattle.state_laws.proofs.Numbers.{live_row}
use Rattle.command_laws.specs.Accounts.{row_text}
use Rattle.command_laws.specs.Kept.{IsKept}
use Rattle.command_laws.proofs.Accepted.{IsAccepted, accepted, holder_live}
use Rattle.command_laws.proofs.RowSums.{removed_row_places, removed_row_text}
use Rattle.command_laws.proofs.SoundRows.{sound_rises}
use Rattle.instance_table.specs.declared.node.Node.{Node}
use Rattle.instance_table.specs.Bodies.{CanEdit, HasNumber, row_of, next_in}
use Rattle.instance_table.specs.Nodes.{node_at, rows_in, counts_in, held_more, held_less}
use Rattle.instance_table.specs.Changes.{IsUndone, hold_link, let_go_link, link_in}
use Rattle.instance_table.specs.Table.{Answers, IsExact, IsTable, TableState, state_in}
use Rattle.instance_table.proofs.ExactLaws.{HoldersAre, link_held, link_let_go, same_held}
use Rattle.instance_table.proofs.StateLaws.{counts_same, node_row, row_found, rows_same}
use Rattle.instance_table.proofs.NodeStates.{next_found, nodes_rise}
use Rattle.instance_table.proofs.ChangedStates.{given_counts, length_hold, length_link_let_go}
use Rattle.instance_table.proofs.ChangedHolders.{exact_held, held_exact, row_counts}

-- the row that a command changes is there
pub holder_stands : (schema : Schema) (es : List (ℕ × Node)) (given h : ℕ) (c : Command) → refusal_of schema (state_in es given) c ≡ None → holder_of c ≡ Some h → (n : Node) × (node_at es h ≡ Some n)
holder_stands schema es given h c free names = by_node (node_at es h) refl (sym (row_found es h))
  where
    live : is_some (row_at (rows_in es) h) ≡ true
    live = sym (live_row (rows_in es) h) ∙ holder_live (rows_in es) c (accepted schema (state_in es given) c (row_for (rows_in es) c) free).named h names

    by_node : (o : Option Node) → node_at es h ≡ o → option_map (λ (x : Node). row_of x.body) (node_at es h) ≡ row_at (rows_in es) h → (n : Node) × (node_at es h ≡ Some n)
    by_node (Some n) e found = (n, e)
    by_node None e found = absurd (true≢false (sym live ∙ (ap is_some (sym found) ∙ ap (λ o. is_some (option_map (λ (x : Node). row_of x.body) o)) e)))

-- no row has more text or more places than all have
pub row_text_few : (schema : Schema) (es : List (ℕ × Node)) (given places text h : ℕ) (n : Node) → IsTable schema es given places text → node_at es h ≡ Some n → row_text (row_of n.body) ≤ text_limit
row_text_few schema es given places text h n t at =
    omega (arith, removed_row_text (rows_in es) h (row_of n.body) (sound_rises schema (rows_in es) t.kept.sound) (node_row es h n at), t.texts, t.text_few)

pub can_edit : (schema : Schema) (es : List (ℕ × Node)) (given places text h : ℕ) (c : Command) (n : Node) → IsTable schema es given places text → refusal_of schema (state_in es given) c ≡ None → holder_of c ≡ Some h → node_at es h ≡ Some n
    → CanEdit c n.body
can_edit schema es given places text h c n t free names at = record {
  number = λ g.
      let next = next_found es given h n.body (nodes_rise 0 es rise) (ap (option_map (λ (x : Node). x.body)) at) in
      let left = numbers g in
      subst HasNumber (sym (given_counts c n.body g)) (within next left);
  few = omega (arith, removed_row_places (rows_in es) h (row_of n.body) rise (node_row es h n at), t.placed, t.places_few);
}
  where
    rise : RisesFrom state.number_of 0 (rows_in es)
    rise = sound_rises schema (rows_in es) t.kept.sound

    found : row_for (rows_in es) c ≡ Some (row_of n.body)
    found = ap (option_and_then (row_at (rows_in es))) names ∙ node_row es h n at

    taken : IsAccepted schema (state_in es given) c (Some (row_of n.body))
    taken = subst (λ o. IsAccepted schema (state_in es given) c o) found (accepted schema (state_in es given) c (row_for (rows_in es) c) free)

    numbers : gives_number c (Some (row_of n.body)) ≡ true → nat_lt last_number (next_item (state_in es given) h) ≡ false
    numbers g =
        ap (λ o. nat_lt last_number (option_map_or (next_item (state_in es given)) o 0)) (sym names)
        ∙ (ap (λ b. b && nat_lt last_number (option_map_or (next_item (state_in es given)) (holder_of c) 0)) (sym g) ∙ taken.numbers_left)

    within : next_item (state_in es given) h ≡ next_in n.body → nat_lt last_number (next_item (state_in es given) h) ≡ false → next_in n.body ≤ last_number
    within next left = let left : nat_lt last_number (next_in n.body) ≡ false = ap (nat_lt last_number) (sym next) ∙ left in grind (arith, nat_tests, left)

-- ---- where memory was wanting

-- the rows and the counts are as before
rows_undone : (link : Option ℕ) (h : ℕ) (es : List (ℕ × Node)) → rows_in (let_go_link link h (hold_link link h es)) ≡ rows_in es
rows_undone None h es = refl
rows_undone (Some k) h es = rows_same k (held_less h) _ (λ n. refl) ∙ rows_same k (held_more h) es (λ n. refl)

counts_undone : (link : Option ℕ) (h : ℕ) (es : List (ℕ × Node)) → counts_in (let_go_link link h (hold_link link h es)) ≡ counts_in es
counts_undone None h es = refl
counts_undone (Some k) h es = counts_same k (held_less h) _ (λ n. refl) ∙ counts_same k (held_more h) es (λ n. refl)

exact_undone : (link : Option ℕ) (h : ℕ) (es : List (ℕ × Node)) → IsExact es → IsExact (let_go_link link h (hold_link link h es))
exact_undone link h es x =
    let held = link_held (row_counts (rows_in es)) link h es (exact_held es x) in
    let back = link_let_go _ link h (hold_link link h es) held in
    let same = same_held _ (row_counts (rows_in es)) (let_go_link link h (hold_link link h es)) (λ who j. omega arith) back in
    held_exact (let_go_link link h (hold_link link h es)) (subst (λ l. HoldersAre (row_counts l) (let_go_link link h (hold_link link h es))) (sym (rows_undone link h es)) same)

-- a table that is as before, but that a link was held and let go again
pub record IsBack (schema : Schema) (es fs : List (ℕ × Node)) (given places text : ℕ) : Type 0 where
  pub table : IsTable schema fs given places text
  pub same : state_in fs given ≡ state_in es given
  pub long : length fs ≡ length es

back_table : (schema : Schema) (link : Option ℕ) (h : ℕ) (es : List (ℕ × Node)) (given places text : ℕ) → IsTable schema es given places text → IsBack schema es (let_go_link link h (hold_link link h es)) given places text
back_table schema link h es given places text t =
    let fs = let_go_link link h (hold_link link h es) in
    let rows = rows_undone link h es in
    let same = ap₂ (λ rows counts. let s : State = record { rows = rows; given = given; counts = counts } in s) rows (counts_undone link h es) in
    let long = length_link_let_go link h (hold_link link h es) ∙ length_hold link h es in
    record {
      table = record {
        schema_kept = t.schema_kept;
        kept = subst (λ s. IsKept schema s) (sym same) t.kept;
        spelled = ap are_spelled rows ∙ t.spelled;
        exact = exact_undone link h es t.exact;
        placed = t.placed ∙ ap place_count (sym rows);
        texts = t.texts ∙ ap text_bytes_of (sym rows);
        rows_few = omega (arith, long, t.rows_few);
        places_few = t.places_few;
        text_few = t.text_few;
        given_few = t.given_few;
      };
      same = same;
      long = long;
    }

pub undone_table : (schema : Schema) (c : Command) (h : ℕ) (es fs : List (ℕ × Node)) (given places text : ℕ) → IsTable schema es given places text → IsUndone c h es fs → IsBack schema es fs given places text
undone_table schema c h es fs given places text t undone = elim undone [
  | inl same ↦ subst (λ l. IsBack schema es l given places text) (sym same) (record { table = t; same = refl; long = refl })
  | inr back ↦ subst (λ l. IsBack schema es l given places text) (sym back) (back_table schema (link_in (value_put c)) h es given places text t)
]

-- ---- a command that is refused

-- out of memory
abbrev is_memory : TableFault → Bool
is_memory fault.Memory = true
is_memory f = false

-- the first cause is one of these
cause_among : (cs : List (Bool × TableFault)) (f : TableFault) → list_any (λ (c : Bool × TableFault). is_memory c.1) cs ≡ false → first_cause cs ≡ Some f → is_memory f ≡ false
cause_among [] f none is = cc
cause_among ((true, g) ∷ cs) f none is = let same : g ≡ f = cc in ap is_memory (sym same) ∙ (or_parts (is_memory g) (list_any (λ (c : Bool × TableFault). is_memory c.1) cs) none).0
cause_among ((false, g) ∷ cs) f none is = cause_among cs f (or_parts (is_memory g) (list_any (λ (c : Bool × TableFault). is_memory c.1) cs) none).1 is

-- no cause is out of memory
pub never_memory : (schema : Schema) (s : State) (c : Command) → refusal_of schema s c ≡ Some fault.Memory → ⊥
never_memory schema s c h = true≢false (cause_among (causes_over schema s c (row_for s.rows c)) fault.Memory refl h)

-- a refusal that the definition tells is an answer, where the table is as before
pub refused_answers : (does : Result (State × Option ℕ) TableFault) (old new : TableState) (f : TableFault) → does ≡ Err f → new ≡ old → Answers does old new (Err f)
refused_answers does old new fault.NoRef e s = (e, s)
refused_answers does old new fault.NoField e s = (e, s)
refused_answers does old new fault.NoItem e s = (e, s)
refused_answers does old new fault.WrongType e s = (e, s)
refused_answers does old new fault.OutOfRange e s = (e, s)
refused_answers does old new fault.Cycle e s = (e, s)
refused_answers does old new fault.Duplicate e s = (e, s)
refused_answers does old new fault.InstancesFull e s = (e, s)
refused_answers does old new fault.PlacesFull e s = (e, s)
refused_answers does old new fault.TextFull e s = (e, s)
refused_answers does old new fault.TextTooLong e s = (e, s)
refused_answers does old new fault.RefsSpent e s = (e, s)
refused_answers does old new fault.NumbersSpent e s = (e, s)
refused_answers does old new fault.Present e s = (e, s)
refused_answers does old new fault.Memory e s = s
