-- A table after a command that makes a row.
use Rattle.std.proofs.Common.{◌≡◌, ℕ, suc, ◌+◌, ◌<◌, ◌≤◌, Bool, true, false, cond, ◌&&◌, ◌==◌, List, [], ◌∷◌, ◌++◌, length, Option, Some, None, Ok, nat_le, refl, sym, ap, ap₂, ◌∙◌, subst, arith}
use Rattle.std.specs.Option.{is_some, option_map, option_map_or, option_or}
use Rattle.std.proofs.lemmas.Bool.Decides.{nat_tests}
use Rattle.std.proofs.lemmas.List.{append-nil, length-map, length_push}
use Rattle.lists.specs.Rising.{IsAbove, find}
use Rattle.lists.proofs.RisingLaws.{find-append, find_above, put-last}
use Rattle.schema_model.specs.Classes.{Schema}
use Rattle.state_model.specs.declared.row.Row.{Row}
use Rattle.state_model.specs.declared.row.Row.TheVariants.{Struct, Map, Array, Set}
use Rattle.state_model.specs.declared.row.RowEntry.{RowEntry}
use Rattle.state_model.specs.declared.command.Command.{Command}
use Rattle.state_model.specs.declared.command.Command.TheVariants.{Make, MakeFor, Put, Unset, PutKey, DelKey, Push, SetAt, DelAt, Add, Del, Clear}
use Rattle.state_model.specs.Rows as state
use Rattle.state_model.specs.Rows.{emptied, held_in, is_live, place_count, put_row, row_at, text_bytes_of, values_in}
use Rattle.state_model.specs.State.{State, ItemCount, rows_limit, places_limit, last_number}
use Rattle.state_model.specs.Commands.{answer_of, counts_items, do_command, holder_of, made_row, makes_row, number_made, put_count, refusal_of, row_for, state_after, with_change, with_new}
use Rattle.state_laws.proofs.Numbers.{live_row}
use Rattle.command_laws.specs.Accounts.{count_of, row_text}
use Rattle.command_laws.specs.Kept.{IsKept}
use Rattle.command_laws.proofs.Accepted.{accepted, made_new}
use Rattle.command_laws.proofs.ItemCounts.{who_of}
use Rattle.command_laws.proofs.KeptStates.{command_keeps}
use Rattle.command_laws.proofs.RowSums.{new_row_places, new_row_text}
use Rattle.command_laws.proofs.SoundRows.{sound_rises}
use Rattle.command_laws.proofs.SpelledStates.{command_spells, makes_worded}
use Rattle.plain_rows.specs.Links.{held_at}
use Rattle.instance_table.specs.declared.node.Node.{Node}
use Rattle.instance_table.specs.declared.body.Body.{Body}
use Rattle.instance_table.specs.Bodies.{row_of, given_of, body_from}
use Rattle.instance_table.specs.Nodes.{number_of, node_at, rows_in, counts_in, entry_row}
use Rattle.instance_table.specs.Table.{IsExact, IsTable, state_in}
use Rattle.instance_table.proofs.ExactLaws.{Held, NodeHeld, by_nodes}
use Rattle.instance_table.proofs.ChangedHolders.{held_exact, held_put, row_counts}
use Rattle.instance_table.proofs.HolderLists.{none_holds}
use Rattle.instance_table.proofs.NodeStates.{row_again}
use Rattle.instance_table.proofs.StateLaws.{counts_push, row_found, rows_above, rows_push}

-- ---- numbers

-- what is at most a number is below the next
above_live : (k : ℕ) (es : List (ℕ × Node)) → ((n : ℕ) → is_some (node_at es n) ≡ true → n < k) → IsAbove number_of k es
above_live k [] h = tt
above_live k (e ∷ es) h = (h e.0 (grind (arith, nat_tests)), above_live k es (λ n t. h n (there n t (e.0 == n))))
  where
    there : (n : ℕ) → is_some (node_at es n) ≡ true → (b : Bool) → is_some (option_map (λ (x : ℕ × Node). x.1) (cond b (Some e) (find number_of n es))) ≡ true
    there n t true = refl
    there n t false = t

-- the next number is above all
pub next_above : (schema : Schema) (es : List (ℕ × Node)) (given : ℕ) → IsKept schema (state_in es given) → IsAbove number_of (given + 1) es
next_above schema es given kept = above_live (given + 1) es (λ n t. omega (arith, kept.given n (live_row (rows_in es) n ∙ (ap is_some (row_found es n) ∙ (some_map (node_at es n) ∙ t)))))
  where
    some_map : (o : Option Node) → is_some (option_map (λ (x : Node). row_of x.body) o) ≡ is_some o
    some_map None = refl
    some_map (Some n) = refl

counts_above : (k : ℕ) (es : List (ℕ × Node)) → IsAbove number_of k es → IsAbove who_of k (counts_in es)
counts_above k [] a = tt
counts_above k (e ∷ es) a = from (given_of e.1.body) (counts_above k es a.1)
  where
    from : (o : Option ℕ) → IsAbove who_of k (counts_in es) → IsAbove who_of k (option_map_or (λ (n : ℕ). let c : ItemCount = record { who = e.0; count = n } in c ∷ []) o [] ++ counts_in es)
    from None rest = rest
    from (Some n) rest = (a.0, rest)

-- ---- a new row

-- a new row has no places, holds nothing and has no text
record IsEmpty (row : Row) : Type 0 where
  values : values_in row ≡ []
  held : held_in row ≡ []
  text : row_text row ≡ 0

emptied_empty : (row : Row) → IsEmpty (emptied row)
emptied_empty (Struct class fields) = record { values = refl; held = refl; text = refl }
emptied_empty (Map home items) = record { values = refl; held = refl; text = refl }
emptied_empty (Array home values) = record { values = refl; held = refl; text = refl }
emptied_empty (Set home items) = record { values = refl; held = refl; text = refl }

-- the node of a new row
abbrev pub new_node : Row → Node
new_node row = record { body = body_from row (Some 0); holders = []; waits = true }

abbrev pub with_node : ℕ → Row → List (ℕ × Node) → List (ℕ × Node)
with_node k row es = es ++ (k, new_node row) ∷ []

new_rows : (k : ℕ) (row : Row) (es : List (ℕ × Node)) → IsAbove number_of k es → rows_in (with_node k row es) ≡ put_row k row (rows_in es)
new_rows k row es a =
    rows_push (k, new_node row) es
    ∙ (ap (λ (r : Row). let e : RowEntry = record { who = k; row = r } in rows_in es ++ e ∷ []) (row_again row (Some 0))
    ∙ sym (put-last state.number_of (record { who = k; row = row }) (rows_in es) (rows_above k es a)))

new_counts : (k : ℕ) (row : Row) (es : List (ℕ × Node)) → IsAbove number_of k es → counts_in (with_node k row es) ≡ cond (counts_items row) (put_count k 0 (counts_in es)) (counts_in es)
new_counts k row es a = counts_push (k, new_node row) es ∙ from row
  where
    one : ItemCount
    one = record { who = k; count = 0 }

    last : counts_in es ++ one ∷ [] ≡ put_count k 0 (counts_in es)
    last = sym (put-last who_of one (counts_in es) (counts_above k es a))

    from : (row : Row) → counts_in es ++ option_map_or (λ (n : ℕ). let c : ItemCount = record { who = k; count = n } in c ∷ []) (given_of (body_from row (Some 0))) [] ≡ cond (counts_items row) (put_count k 0 (counts_in es)) (counts_in es)
    from (Struct class fields) = append-nil (counts_in es)
    from (Map home items) = last
    from (Array home values) = append-nil (counts_in es)
    from (Set home items) = last

-- the holders stay exact
new_exact : (schema : Schema) (es : List (ℕ × Node)) (given places text : ℕ) (row : Row) → IsTable schema es given places text → IsAbove number_of (given + 1) es → held_in row ≡ [] → IsExact (with_node (given + 1) row es)
new_exact schema es given places text row t a empty =
    held_exact (with_node k row es) (by_nodes (row_counts (rows_in (with_node k row es))) (with_node k row es) (λ who n at. node who n (node_at es who) refl (sym (found who) ∙ at)))
  where
    k : ℕ
    k = given + 1

    rows : List RowEntry
    rows = rows_in es

    after : Held
    after = row_counts (rows_in (with_node k row es))

    gone : node_at es k ≡ None
    gone = ap (option_map (λ (x : ℕ × Node). x.1)) (find_above number_of k es k a (omega arith))

    none : row_at rows k ≡ None
    none = row_found es k ∙ ap (option_map (λ (x : Node). row_of x.body)) gone

    held_test : (h : ℕ) (b : Bool) → (k == h) ≡ b → cond b (held_in row) (held_at rows h) ≡ held_at rows h
    held_test h true e =
        let same : k ≡ h = grind (arith, nat_tests) in
        empty ∙ sym (ap (held_at rows) (sym same) ∙ ap (λ o. option_map_or held_in o []) none)
    held_test h false e = refl

    held : (who h : ℕ) → after who h ≡ count_of who (held_at rows h)
    held who h = ap (count_of who) (ap (λ l. held_at l h) (new_rows k row es a) ∙ (held_put rows k row h ∙ held_test h (k == h) refl))

    either : (o p : Option (ℕ × Node)) → option_map (λ (x : ℕ × Node). x.1) (option_or o p) ≡ option_or (option_map (λ (x : ℕ × Node). x.1) o) (option_map (λ (x : ℕ × Node). x.1) p)
    either None p = refl
    either (Some x) p = refl

    last : ℕ → Option Node
    last who = option_map (λ (x : ℕ × Node). x.1) (cond (k == who) (Some (k, new_node row)) None)

    found : (who : ℕ) → node_at (with_node k row es) who ≡ option_or (node_at es who) (last who)
    found who = ap (option_map (λ (x : ℕ × Node). x.1)) (find-append number_of es ((k, new_node row) ∷ []) who) ∙ either (find number_of who es) (cond (k == who) (Some (k, new_node row)) None)

    alone : (who : ℕ) → node_at es who ≡ None → NodeHeld after who (new_node row)
    alone who e = record {
      counts = λ h. sym (held who h ∙ none_holds schema rows t.kept.sound who (row_found es who ∙ ap (option_map (λ (x : Node). row_of x.body)) e) h);
      ascend = tt;
      wait = λ root none. refl;
    }

    new : (who : ℕ) (n : Node) → node_at es who ≡ None → (b : Bool) → option_map (λ (x : ℕ × Node). x.1) (cond b (Some (k, new_node row)) None) ≡ Some n → NodeHeld after who n
    new who n e true at = let is : new_node row ≡ n = (let both : Some (new_node row) ≡ Some n = at in cc) in subst (NodeHeld after who) is (alone who e)
    new who n e false at = cc

    node : (who : ℕ) (n : Node) (o : Option Node) → node_at es who ≡ o → option_or (node_at es who) (last who) ≡ Some n → NodeHeld after who n
    node who n (Some m) e at =
        let is : m ≡ n = (let both : Some m ≡ Some n = sym (ap (λ o. option_or o (last who)) e) ∙ at in cc) in
        let here : node_at es who ≡ Some n = e ∙ ap Some is in
        record {
          counts = λ h. t.exact.counts who h n here ∙ sym (held who h);
          ascend = t.exact.ascend who n here;
          wait = t.exact.wait who n here;
        }
    node who n None e at = new who n e (k == who) (sym (ap (λ o. option_or o (last who)) e) ∙ at)

-- ---- what an accepted command does

makes_one : (c : Command) → holder_of c ≡ None → makes_row c ≡ true
makes_one (Make class) e = refl
makes_one (MakeFor home) e = refl
makes_one (Put r f v) e = cc
makes_one (Unset r f) e = cc
makes_one (PutKey r k v) e = cc
makes_one (DelKey r k) e = cc
makes_one (Push r v) e = cc
makes_one (SetAt r at v) e = cc
makes_one (DelAt r at) e = cc
makes_one (Add r v) e = cc
makes_one (Del r v) e = cc
makes_one (Clear r) e = cc

-- the state with a new row is that of the nodes with its node
new_state : (schema : Schema) (es : List (ℕ × Node)) (given : ℕ) (row : Row) → IsAbove number_of (given + 1) es → state_in (with_node (given + 1) row es) (given + 1) ≡ with_new (state_in es given) (Some row)
new_state schema es given row a =
    let next : given + 1 ≡ suc given = omega arith in
    ap (λ k. state_in (with_node k row es) k) next
    ∙ ap₂ (λ rows counts. let t : State = record { rows = rows; given = suc given; counts = counts } in t)
    (new_rows (suc given) row es (subst (λ k. IsAbove number_of k es) next a))
    (new_counts (suc given) row es (subst (λ k. IsAbove number_of k es) next a))

-- what a command that isn't refused answers
answers_new : (schema : Schema) (s : State) (c : Command) (row : Row) → refusal_of schema s c ≡ None → holder_of c ≡ None → made_row schema c ≡ Some row → do_command schema s c ≡ Ok (with_new s (Some row), Some (suc s.given))
answers_new schema s c row free names made =
    ap (λ f. answer_of f (state_after schema s c) (number_made s c)) free
    ∙ ap₂ (λ (t : State) (m : Option ℕ). Ok (t, m))
    (ap (λ b. cond b (with_new s (made_row schema c)) (with_change s c (holder_of c) (row_for s.rows c))) (makes_one c names) ∙ ap (with_new s) made)
    (ap (λ b. cond b (Some (suc s.given)) None) (makes_one c names))

-- a table with a new row is one, and its state is the command's
pub record IsMade (schema : Schema) (es fs : List (ℕ × Node)) (given places text : ℕ) (c : Command) : Type 0 where
  pub table : IsTable schema fs (given + 1) places text
  pub answer : do_command schema (state_in es given) c ≡ Ok (state_in fs (given + 1), Some (given + 1))

pub made_table : (schema : Schema) (es : List (ℕ × Node)) (given places text : ℕ) (c : Command) (row : Row) → IsTable schema es given places text → refusal_of schema (state_in es given) c ≡ None → holder_of c ≡ None → made_row schema c ≡ Some row
    → IsMade schema es (with_node (given + 1) row es) given places text c
made_table schema es given places text c row t free names made =
    let s = state_in es given in
    let k = given + 1 in
    let fs = with_node k row es in
    let a = next_above schema es given t.kept in
    let taken = accepted schema s c (row_for s.rows c) free in
    let new = made_new schema c row made in
    let empty = subst IsEmpty new.empty (emptied_empty row) in
    let next : given + 1 ≡ suc given = omega arith in
    let answer : do_command schema s c ≡ Ok (state_in fs k, Some k) =
    answers_new schema s c row free names made ∙ ap₂ (λ (t : State) (m : ℕ). Ok (t, Some m)) (sym (new_state schema es given row a)) (sym next) in
    let gone : row_at s.rows k ≡ None = row_found es k ∙ ap (λ o. option_map (λ (x : Node). row_of x.body) (option_map (λ (x : ℕ × Node). x.1) o)) (find_above number_of k es k a (omega arith)) in
    let rise = sound_rises schema s.rows t.kept.sound in
    let placed : places ≡ place_count (rows_in fs) = t.placed ∙ (omega (arith, new_row_places s.rows k row rise gone, ap length empty.values) ∙ ap place_count (sym (new_rows k row es a))) in
    let texts : text ≡ text_bytes_of (rows_in fs) = t.texts ∙ (omega (arith, new_row_text s.rows k row rise gone, empty.text) ∙ ap text_bytes_of (sym (new_rows k row es a))) in
    let rows_left : nat_le rows_limit (length (rows_in es)) ≡ false = sym (ap (λ b. b && nat_le rows_limit (length (rows_in es))) (makes_one c names)) ∙ taken.rows_left in
    let refs_left : nat_le last_number given ≡ false = sym (ap (λ b. b && nat_le last_number given) (makes_one c names)) ∙ taken.refs_left in
    let less : given < last_number = grind (arith, nat_tests, refs_left) in
    let given_few : k ≤ last_number = omega (arith, less) in
    let words = makes_worded c (makes_one c names) in
    let few : place_count (rows_in fs) ≤ places_limit = subst (λ n. n ≤ places_limit) placed t.places_few in
    record {
      table = record {
        schema_kept = t.schema_kept;
        kept = command_keeps schema s c (state_in fs k) (Some k) t.schema_kept t.kept answer;
        spelled = command_spells schema s c (state_in fs k) (Some k) t.kept words given_few few answer t.spelled;
        exact = new_exact schema es given places text row t a empty.held;
        placed = placed;
        texts = texts;
        rows_few = (let less : length (rows_in es) < rows_limit = grind (arith, nat_tests, rows_left) in omega (arith, less, length_push es (k, new_node row), length-map es entry_row));
        places_few = t.places_few;
        text_few = t.text_few;
        given_few = given_few;
      };
      answer = answer;
    }

-- the same, by the body that was made
pub made_by_body : (schema : Schema) (es fs : List (ℕ × Node)) (given places text : ℕ) (c : Command) (o : Option Body) (b : Body) → IsTable schema es given places text → refusal_of schema (state_in es given) c ≡ None → holder_of c ≡ None
    → o ≡ option_map (λ r. body_from r (Some 0)) (made_row schema c) → o ≡ Some b → fs ≡ es ++ (given + 1, record { body = b; holders = []; waits = true }) ∷ [] → IsMade schema es fs given places text c
made_by_body schema es fs given places text c o b t free names made some is = by_row (made_row schema c) refl
  where
    by_row : (r : Option Row) → made_row schema c ≡ r → IsMade schema es fs given places text c
    by_row None e = let clash : Some b ≡ None = sym some ∙ (made ∙ ap (option_map (λ r. body_from r (Some 0))) e) in cc
    by_row (Some row) e =
        let both : Some b ≡ Some (body_from row (Some 0)) = sym some ∙ (made ∙ ap (option_map (λ r. body_from r (Some 0))) e) in
        let same : b ≡ body_from row (Some 0) = cc in
        let nodes : fs ≡ with_node (given + 1) row es = is ∙ ap (λ (x : Body). let n : Node = record { body = x; holders = []; waits = true } in es ++ (given + 1, n) ∷ []) same in
        subst (λ l. IsMade schema es l given places text c) (sym nodes) (made_table schema es given places text c row t free names e)
