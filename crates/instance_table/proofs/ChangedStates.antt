-- The state of nodes after a command that changes a row.
use Rattle.std.proofs.Common.{◌≡◌, ℕ, suc, ◌+◌, Bool, true, false, cond, ◌&&◌, ◌==◌, List, length, Option, Some, None, refl, sym, ap, ap₂, ◌∙◌, arith}
use Rattle.std.specs.Option.{option_map, is_some}
use Rattle.std.proofs.lemmas.Bool.{true≢false}
use Rattle.std.proofs.lemmas.Bool.Decides.{nat_tests}
use Rattle.lists.specs.Rising.{RisesFrom, find}
use Rattle.lists.proofs.RisingLaws.{same_rising}
use Rattle.state_model.specs.declared.row.Row.{Row}
use Rattle.state_model.specs.declared.row.Row.TheVariants as row
use Rattle.state_model.specs.declared.command.Command.{Command}
use Rattle.state_model.specs.Rows as state
use Rattle.state_model.specs.State.{State, ItemCount, next_item}
use Rattle.state_model.specs.Commands.{counts_items, edited, gives_number, value_put, with_change}
use Rattle.state_model.specs.Rows.{held_in}
use Rattle.state_laws.proofs.Numbers.{put_rises}
use Rattle.command_laws.specs.Accounts.{is_clear, one_if, replaced}
use Rattle.command_laws.proofs.EditedRows.{counts_given, edited_kind}
use Rattle.command_laws.proofs.ItemCounts.{who_of, counts_with, counts_with_rise, find_count}
use Rattle.command_laws.proofs.LinkedRows.{row_put}
use Rattle.command_laws.proofs.Sweeping.{same_rows}
use Rattle.instance_table.specs.declared.node.Node.{Node}
use Rattle.instance_table.specs.declared.body.Body.{Body}
use Rattle.instance_table.specs.declared.body.Body.TheVariants.{Struct, Map, Array, Set}
use Rattle.instance_table.specs.Bodies.{row_of, given_of, body_from, next_in, given_by, edited_body}
use Rattle.instance_table.specs.Nodes.{number_of, node_at, at_node, rows_in, counts_in, held_more, held_less}
use Rattle.instance_table.specs.Changes.{edited_node, hold_link, let_go_link, let_go_each, link_in, row_cleared, place_changed, changed}
use Rattle.instance_table.specs.Table.{state_in}
use Rattle.instance_table.proofs.LetGoLaws.{body_at, body_same, body_let_go, length_let_go, rises_let_go}
use Rattle.instance_table.proofs.ChangeLaws.{body_hold}
use Rattle.instance_table.proofs.NodeLaws.{rises_at, length_at}
use Rattle.instance_table.proofs.WaitingLaws.{node_at_edited}
use Rattle.instance_table.proofs.StateLaws.{rows_rise}
use Rattle.instance_table.proofs.NodeStates.{row_by_body, body_count, count_found, counts_rise, row_again, next_found}

-- ---- bodies

-- the body of a number after an edit
body_edited : (c : Command) (h : ℕ) (es : List (ℕ × Node)) (b : Body) → body_at es h ≡ Some b → (n : ℕ) → body_at (at_node h (edited_node c) es) n ≡ cond (n == h) (Some (edited_body c b)) (body_at es n)
body_edited c h es b at n = ap (option_map (λ (x : Node). x.body)) (node_at_edited h n (edited_node c) es) ∙ by_test (n == h) refl
  where
    edit : (o : Option Node) → option_map (λ (x : Node). x.body) (option_map (λ x. edited_node c x) o) ≡ option_map (edited_body c) (option_map (λ (x : Node). x.body) o)
    edit None = refl
    edit (Some x) = refl

    keep : (o : Option Node) → option_map (λ (x : Node). x.body) (option_map (λ x. x) o) ≡ option_map (λ (x : Node). x.body) o
    keep None = refl
    keep (Some x) = refl

    by_test : (t : Bool) → (n == h) ≡ t → option_map (λ (x : Node). x.body) (option_map (λ x. cond t (edited_node c x) x) (node_at es n)) ≡ cond t (Some (edited_body c b)) (body_at es n)
    by_test false t = keep (node_at es n)
    by_test true t =
        let same : n ≡ h = grind (arith, nat_tests) in
        edit (node_at es n) ∙ ap (option_map (edited_body c)) (ap (body_at es) same ∙ at)

body_link_let_go : (link : Option ℕ) (h : ℕ) (es : List (ℕ × Node)) (who : ℕ) → body_at (let_go_link link h es) who ≡ body_at es who
body_link_let_go None h es who = refl
body_link_let_go (Some k) h es who = body_same k (held_less h) es (λ n. refl) who

-- the same where the bodies before the edit are these
edited_from : (c : Command) (h : ℕ) (start es : List (ℕ × Node)) (b : Body) → ((n : ℕ) → body_at es n ≡ body_at start n) → body_at start h ≡ Some b
    → (n : ℕ) → body_at (at_node h (edited_node c) es) n ≡ cond (n == h) (Some (edited_body c b)) (body_at start n)
edited_from c h start es b same at n = body_edited c h es b (same h ∙ at) n ∙ ap (λ o. cond (n == h) (Some (edited_body c b)) o) (same n)

-- the nodes after the row let go of all, and after the new link is held
abbrev pub all_let_go : ℕ → Body → List (ℕ × Node) → List (ℕ × Node)
all_let_go h b es = let_go_each (held_in (row_of b)) h es

abbrev pub put_held : Command → ℕ → List (ℕ × Node) → List (ℕ × Node)
put_held c h es = hold_link (link_in (value_put c)) h es

-- the bodies after a change
pub changed_bodies : (c : Command) (h : ℕ) (es : List (ℕ × Node)) (b : Body) → body_at es h ≡ Some b → (n : ℕ) → body_at (changed c h b es) n ≡ cond (n == h) (Some (edited_body c b)) (body_at es n)
changed_bodies c h es b at n = by_test (is_clear c)
  where
    by_test : (t : Bool) → body_at (cond t (row_cleared c h b es) (place_changed c h b es)) n ≡ cond (n == h) (Some (edited_body c b)) (body_at es n)
    by_test true = edited_from c h es (all_let_go h b es) b (body_let_go (held_in (row_of b)) h es) at n
    by_test false = body_link_let_go (link_in (replaced c (row_of b))) h (at_node h (edited_node c) (put_held c h es)) n ∙ edited_from c h es (put_held c h es) b (body_hold (link_in (value_put c)) h es) at n

-- ---- what stays of the nodes

rises_hold : (link : Option ℕ) (h : ℕ) (es : List (ℕ × Node)) → RisesFrom number_of 0 es → RisesFrom number_of 0 (hold_link link h es)
rises_hold None h es r = r
rises_hold (Some k) h es r = rises_at k 0 (held_more h) es r

rises_link_let_go : (link : Option ℕ) (h : ℕ) (es : List (ℕ × Node)) → RisesFrom number_of 0 es → RisesFrom number_of 0 (let_go_link link h es)
rises_link_let_go None h es r = r
rises_link_let_go (Some k) h es r = rises_at k 0 (held_less h) es r

pub changed_rise : (c : Command) (h : ℕ) (b : Body) (es : List (ℕ × Node)) → RisesFrom number_of 0 es → RisesFrom number_of 0 (changed c h b es)
changed_rise c h b es r = by_test (is_clear c)
  where
    by_test : (t : Bool) → RisesFrom number_of 0 (cond t (row_cleared c h b es) (place_changed c h b es))
    by_test true = rises_at h 0 (edited_node c) (all_let_go h b es) (rises_let_go (held_in (row_of b)) h es r)
    by_test false =
        rises_link_let_go (link_in (replaced c (row_of b))) h (at_node h (edited_node c) (put_held c h es)) (rises_at h 0 (edited_node c) (put_held c h es) (rises_hold (link_in (value_put c)) h es r))

pub length_hold : (link : Option ℕ) (h : ℕ) (es : List (ℕ × Node)) → length (hold_link link h es) ≡ length es
length_hold None h es = refl
length_hold (Some k) h es = length_at k (held_more h) es

pub length_link_let_go : (link : Option ℕ) (h : ℕ) (es : List (ℕ × Node)) → length (let_go_link link h es) ≡ length es
length_link_let_go None h es = refl
length_link_let_go (Some k) h es = length_at k (held_less h) es

pub changed_length : (c : Command) (h : ℕ) (b : Body) (es : List (ℕ × Node)) → length (changed c h b es) ≡ length es
changed_length c h b es = by_test (is_clear c)
  where
    by_test : (t : Bool) → length (cond t (row_cleared c h b es) (place_changed c h b es)) ≡ length es
    by_test true = length_at h (edited_node c) (all_let_go h b es) ∙ length_let_go (held_in (row_of b)) h es
    by_test false =
        length_link_let_go (link_in (replaced c (row_of b))) h (at_node h (edited_node c) (put_held c h es)) ∙ (length_at h (edited_node c) (put_held c h es) ∙ length_hold (link_in (value_put c)) h es)

-- ---- the state

-- nodes whose bodies are as after a change have the rows of it
pub changed_rows : (c : Command) (h : ℕ) (es fs : List (ℕ × Node)) (b : Body) → RisesFrom number_of 0 es → RisesFrom number_of 0 fs → ((n : ℕ) → body_at fs n ≡ cond (n == h) (Some (edited_body c b)) (body_at es n))
    → rows_in fs ≡ state.put_row h (edited c (next_in b) (row_of b)) (rows_in es)
changed_rows c h es fs b r s bodies =
    same_rows (rows_in fs) (state.put_row h new (rows_in es)) (rows_rise 0 fs s) (put_rises (rows_in es) h new (rows_rise 0 es r))
    (λ n. row_by_body fs n ∙ (ap (option_map row_of) (bodies n) ∙ (by_test n (n == h) (h == n) (grind (arith, nat_tests)) ∙ sym (row_put (rows_in es) h new n))))
  where
    new : Row
    new = edited c (next_in b) (row_of b)

    by_test : (n : ℕ) (t u : Bool) → t ≡ u → option_map row_of (cond t (Some (edited_body c b)) (body_at es n)) ≡ cond u (Some new) (state.row_at (rows_in es) n)
    by_test n true true e = ap Some (row_again new _)
    by_test n false false e = sym (row_by_body es n)
    by_test n true false e = cc
    by_test n false true e = cc

-- what a body has given where it counts
pub given_counts : (c : Command) (b : Body) → gives_number c (Some (row_of b)) ≡ true → given_of b ≡ Some (next_in b)
given_counts c b g = from b (counts_given c (row_of b) g)
  where
    from : (b : Body) → counts_items (row_of b) ≡ true → given_of b ≡ Some (next_in b)
    from (Struct class fields) t = cc
    from (Map home items) t = refl
    from (Array home values) t = cc
    from (Set home items) t = refl

given_from : (r : Row) (g : Option ℕ) → counts_items r ≡ is_some g → given_of (body_from r g) ≡ g
given_from (row.Struct class fields) None e = refl
given_from (row.Struct class fields) (Some k) e = cc
given_from (row.Map home items) None e = cc
given_from (row.Map home items) (Some k) e = refl
given_from (row.Array home values) None e = refl
given_from (row.Array home values) (Some k) e = cc
given_from (row.Set home items) None e = cc
given_from (row.Set home items) (Some k) e = refl

counts_emptied : (r : Row) → counts_items (state.emptied r) ≡ counts_items r
counts_emptied (row.Struct class fields) = refl
counts_emptied (row.Map home items) = refl
counts_emptied (row.Array home values) = refl
counts_emptied (row.Set home items) = refl

counts_body : (b : Body) (f : ℕ → ℕ) → counts_items (row_of b) ≡ is_some (option_map f (given_of b))
counts_body (Struct class fields) f = refl
counts_body (Map home items) f = refl
counts_body (Array home values) f = refl
counts_body (Set home items) f = refl

-- what a body has given after a command
pub given_edited : (c : Command) (b : Body) → given_of (edited_body c b) ≡ option_map (λ k. k + given_by c b) (given_of b)
given_edited c b =
    let r = edited c (next_in b) (row_of b) in
    let kind : counts_items r ≡ counts_items (row_of b) = sym (counts_emptied r) ∙ (ap counts_items (edited_kind c (next_in b) (row_of b)) ∙ counts_emptied (row_of b)) in
    given_from r (option_map (λ k. k + given_by c b) (given_of b)) (kind ∙ counts_body b (λ k. k + given_by c b))

pub changed_counts : (c : Command) (h : ℕ) (es fs : List (ℕ × Node)) (b : Body) → RisesFrom number_of 0 es → RisesFrom number_of 0 fs → body_at es h ≡ Some b → ((n : ℕ) → body_at fs n ≡ cond (n == h) (Some (edited_body c b)) (body_at es n))
    → counts_in fs ≡ counts_with (gives_number c (Some (row_of b))) h (suc (next_in b)) (counts_in es)
changed_counts c h es fs b r s at bodies =
    same_rising who_of 0 0 (counts_in fs) (counts_with g h (suc (next_in b)) (counts_in es)) (counts_rise 0 fs s) (counts_with_rise g h (suc (next_in b)) (counts_in es) (counts_rise 0 es r))
    (λ n. count_found 0 fs n s ∙ (ap (body_count n) (bodies n) ∙ (by_test n (n == h) refl (h == n) refl ∙ sym (find_count g h (suc (next_in b)) (counts_in es) n))))
  where
    g : Bool
    g = gives_number c (Some (row_of b))

    one : ℕ → ℕ → ItemCount
    one n k = record { who = n; count = k }

    same : (n : ℕ) (o : Option ℕ) → option_map (one n) (option_map (λ k. k + 0) o) ≡ option_map (one n) o
    same n None = refl
    same n (Some k) = let e : k + 0 ≡ k = omega arith in ap (λ m. Some (one n m)) e

    here : (n : ℕ) → n ≡ h → (t : Bool) → g ≡ t → option_map (one n) (option_map (λ k. k + one_if t) (given_of b)) ≡ cond (t && true) (Some (one h (suc (next_in b)))) (option_map (one n) (given_of b))
    here n is true e =
        let more : next_in b + 1 ≡ suc (next_in b) = omega arith in
        ap (λ o. option_map (one n) (option_map (λ k. k + 1) o)) (given_counts c b e) ∙ ap₂ (λ w k. Some (one w k)) is more
    here n is false e = same n (given_of b)

    by_test : (n : ℕ) (t : Bool) → (n == h) ≡ t → (u : Bool) → (h == n) ≡ u
        → body_count n (cond t (Some (edited_body c b)) (body_at es n)) ≡ cond (g && u) (Some (one h (suc (next_in b)))) (find who_of n (counts_in es))
    by_test n true t true u =
        let is : n ≡ h = grind (arith, nat_tests) in
        let found : find who_of n (counts_in es) ≡ option_map (one n) (given_of b) = count_found 0 es n r ∙ ap (body_count n) (ap (body_at es) is ∙ at) in
        ap (option_map (one n)) (given_edited c b) ∙ (here n is g refl ∙ ap (λ o. cond (g && true) (Some (one h (suc (next_in b)))) o) (sym found))
    by_test n false t false u = sym (count_found 0 es n r) ∙ neither g
      where
        neither : (g : Bool) → find who_of n (counts_in es) ≡ cond (g && false) (Some (one h (suc (next_in b)))) (find who_of n (counts_in es))
        neither true = refl
        neither false = refl
    by_test n true t false u = absurd (true≢false (grind (arith, nat_tests)))
    by_test n false t true u = absurd (true≢false (grind (arith, nat_tests)))

-- the state after a change is what the command makes of it
pub changed_state : (c : Command) (h given : ℕ) (es fs : List (ℕ × Node)) (b : Body) → RisesFrom number_of 0 es → RisesFrom number_of 0 fs → body_at es h ≡ Some b → ((n : ℕ) → body_at fs n ≡ cond (n == h) (Some (edited_body c b)) (body_at es n))
    → state_in fs given ≡ with_change (state_in es given) c (Some h) (Some (row_of b))
changed_state c h given es fs b r s at bodies =
    let next : next_in b ≡ next_item (state_in es given) h = sym (next_found es given h b r at) in
    ap₂ (λ rows counts. let t : State = record { rows = rows; given = given; counts = counts } in t)
    (changed_rows c h es fs b r s bodies ∙ ap (λ n. state.put_row h (edited c n (row_of b)) (rows_in es)) next)
    (changed_counts c h es fs b r s at bodies ∙ ap (λ n. counts_with (gives_number c (Some (row_of b))) h (suc n) (counts_in es)) next)
