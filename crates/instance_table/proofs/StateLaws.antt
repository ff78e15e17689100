-- The rows that nodes are, and their counts of item numbers, after edits.
use Rattle.std.proofs.Common.{◌≡◌, ℕ, suc, ◌≤◌, Bool, true, false, cond, not, ◌==◌, List, [], ◌∷◌, ◌++◌, Option, Some, None, refl, sym, ap, ap₂, ◌∙◌, subst, arith, ltb, ltb-true}
use Rattle.std.specs.Option.{option_map, option_map_or}
use Rattle.std.proofs.lemmas.Bool.Decides.{nat_tests}
use Rattle.std.proofs.lemmas.List.{append-nil, map-append}
use Rattle.std.proofs.lemmas.List.Concat.{flat_map-append}
use Rattle.lists.specs.Rising.{RisesFrom, IsAbove, find, put, remove}
use Rattle.lists.proofs.RisingLaws.{find_below}
use Rattle.state_model.specs.declared.row.Row.{Row}
use Rattle.state_model.specs.declared.row.RowEntry.{RowEntry}
use Rattle.state_model.specs.Rows as state
use Rattle.state_model.specs.State.{ItemCount}
use Rattle.plain_rows.specs.Links.{held_at}
use Rattle.instance_table.specs.declared.node.Node.{Node}
use Rattle.instance_table.specs.Bodies.{row_of, given_of}
use Rattle.instance_table.specs.Nodes.{number_of, node_at, at_node, rows_in, counts_in, entry_row, entry_counts}
use Rattle.instance_table.proofs.NodeLaws.{at_none}

-- ---- rows

pub row_found : (es : List (ℕ × Node)) (n : ℕ) → state.row_at (rows_in es) n ≡ option_map (λ (x : Node). row_of x.body) (node_at es n)
row_found [] n = refl
row_found (e ∷ es) n = grind (arith, nat_tests, row_found es n)

-- the same, by the node that was found
pub row_there : (es : List (ℕ × Node)) (n : ℕ) (o : Option Node) → o ≡ node_at es n → state.row_at (rows_in es) n ≡ option_map (λ (x : Node). row_of x.body) o
row_there es n o h = row_found es n ∙ ap (option_map (λ (x : Node). row_of x.body)) (sym h)

-- the row of a node
pub node_row : (es : List (ℕ × Node)) (n : ℕ) (x : Node) → node_at es n ≡ Some x → state.row_at (rows_in es) n ≡ Some (row_of x.body)
node_row es n x h = row_found es n ∙ ap (option_map (λ (y : Node). row_of y.body)) h

-- what the row of a number holds, by the node that was found
pub held_found : (es : List (ℕ × Node)) (n : ℕ) (o : Option Node) → o ≡ node_at es n
    → held_at (rows_in es) n ≡ option_map_or (λ (x : Node). state.held_in (row_of x.body)) o []
held_found es n o h = ap (λ r. option_map_or state.held_in r []) (row_found es n ∙ ap (option_map (λ (x : Node). row_of x.body)) (sym h)) ∙ from o
  where
    from : (o : Option Node) → option_map_or state.held_in (option_map (λ (x : Node). row_of x.body) o) [] ≡ option_map_or (λ (x : Node). state.held_in (row_of x.body)) o []
    from None = refl
    from (Some x) = refl

pub rows_rise : (low : ℕ) (es : List (ℕ × Node)) → RisesFrom number_of low es → RisesFrom state.number_of low (rows_in es)
rows_rise low [] r = tt
rows_rise low (e ∷ es) r = (r.0, rows_rise (suc (e.0)) es r.1)

pub rows_above : (k : ℕ) (es : List (ℕ × Node)) → IsAbove number_of k es → IsAbove state.number_of k (rows_in es)
rows_above k [] a = tt
rows_above k (e ∷ es) a = (a.0, rows_above k es a.1)

-- an edit that leaves the body leaves the rows
pub rows_same : (k : ℕ) (f : Node → Node) (es : List (ℕ × Node)) → ((n : Node) → (f n).body ≡ n.body) → rows_in (at_node k f es) ≡ rows_in es
rows_same k f [] h = refl
rows_same k f (e ∷ es) h =
    let go : (b : Bool) → rows_in (cond b (e.0, f e.1) e ∷ at_node k f es) ≡ rows_in (e ∷ es)
    = elim [
      | true ↦ ap₂ (λ (b : Row) l. let x : RowEntry = record { who = e.0; row = b } in x ∷ l) (ap row_of (h e.1)) (rows_same k f es h)
      | false ↦ ap (λ l. entry_row e ∷ l) (rows_same k f es h)
    ] in
    go (e.0 == k)

pub counts_same : (k : ℕ) (f : Node → Node) (es : List (ℕ × Node)) → ((n : Node) → (f n).body ≡ n.body) → counts_in (at_node k f es) ≡ counts_in es
counts_same k f [] h = refl
counts_same k f (e ∷ es) h =
    let one : ℕ → ItemCount = λ n. record { who = e.0; count = n } in
    let go : (b : Bool) → counts_in (cond b (e.0, f e.1) e ∷ at_node k f es) ≡ counts_in (e ∷ es)
    = elim [
      | true ↦ ap₂ (λ o l. option_map_or (λ n. one n ∷ []) o [] ++ l) (ap given_of (h e.1)) (counts_same k f es h)
      | false ↦ ap (λ l. entry_counts e ++ l) (counts_same k f es h)
    ] in
    go (e.0 == k)

-- an edit of a body puts the row
pub rows_put : (k low : ℕ) (f : Node → Node) (es : List (ℕ × Node)) (n : Node) → RisesFrom number_of low es → node_at es k ≡ Some n
    → rows_in (at_node k f es) ≡ state.put_row k (row_of (f n).body) (rows_in es)
rows_put k low f [] n r h = cc
rows_put k low f (e ∷ es) n r h = go (e.0 == k) refl h (rows_put k (suc (e.0)) f es n r.1)
  where
    new : RowEntry
    new = record { who = k; row = row_of (f n).body }

    others : List RowEntry
    others = put state.number_of new (rows_in es)

    not_below : option_map (λ (x : ℕ × Node). x.1) (find number_of k es) ≡ Some n → (b : Bool) → ltb k e.0 ≡ b → b ≡ false
    not_below g false l = refl
    not_below g true l =
        absurd (let none = find_below number_of (suc (e.0)) es k r.1 (omega (arith, ltb-true k e.0 l)) in let clash : None ≡ Some n = sym (ap (option_map (λ (x : ℕ × Node). x.1)) none) ∙ g in cc)

    go : (b : Bool) → (e.0 == k) ≡ b → option_map (λ (x : ℕ × Node). x.1) (cond b (Some e) (find number_of k es)) ≡ Some n
        → (node_at es k ≡ Some n → rows_in (at_node k f es) ≡ others)
        → entry_row (cond b (e.0, f e.1) e) ∷ rows_in (at_node k f es)
        ≡ cond (ltb k e.0) (new ∷ entry_row e ∷ rows_in es) (cond b (new ∷ rows_in es) (entry_row e ∷ others))
    go true b g more =
        let same : e.1 ≡ n = cc in
        let is : e.0 ≡ k = grind (arith, nat_tests) in
        let place : ltb k e.0 ≡ false = grind (arith, nat_tests) in
        let rest = at_none k (suc (e.0)) f es r.1 (omega (arith, is)) in
        ap₂ (λ w m. let x : RowEntry = record { who = w; row = row_of (f m).body } in x ∷ rows_in (at_node k f es)) is same
        ∙ (ap (λ l. new ∷ rows_in l) rest ∙ sym (ap (λ c. cond c (new ∷ entry_row e ∷ rows_in es) (new ∷ rows_in es)) place))
    go false b g more =
        let place = not_below g (ltb k e.0) refl in
        ap (λ l. entry_row e ∷ l) (more g)
        ∙ sym (ap (λ c. cond c (new ∷ entry_row e ∷ rows_in es) (entry_row e ∷ others)) place)

-- a node more
pub rows_push : (e : ℕ × Node) (es : List (ℕ × Node)) → rows_in (es ++ e ∷ []) ≡ rows_in es ++ entry_row e ∷ []
rows_push e es = map-append entry_row es (e ∷ [])

pub counts_push : (e : ℕ × Node) (es : List (ℕ × Node)) → counts_in (es ++ e ∷ []) ≡ counts_in es ++ entry_counts e
counts_push e es = flat_map-append entry_counts es (e ∷ []) ∙ ap (λ l. counts_in es ++ l) (append-nil (entry_counts e))

-- a node less
pub rows_removed : (k : ℕ) (es : List (ℕ × Node)) → rows_in (remove number_of k es) ≡ remove state.number_of k (rows_in es)
rows_removed k [] = refl
rows_removed k (e ∷ es) =
    let go : (b : Bool) → rows_in (cond (not b) (e ∷ remove number_of k es) (remove number_of k es)) ≡ cond (not b) (entry_row e ∷ remove state.number_of k (rows_in es)) (remove state.number_of k (rows_in es))
    = elim [ true ↦ rows_removed k es | false ↦ ap (λ l. entry_row e ∷ l) (rows_removed k es) ] in
    go (e.0 == k)

-- ---- rows that are copied one by one

-- what stands before a node is below it
above_prefix : (low : ℕ) (prefix : List (ℕ × Node)) (e : ℕ × Node) (back : List (ℕ × Node)) → RisesFrom number_of low (prefix ++ e ∷ back) → (low ≤ e.0) × IsAbove number_of e.0 prefix
above_prefix low [] e back r = (r.0, tt)
above_prefix low (d ∷ prefix) e back r =
    let rest = above_prefix (suc (d.0)) prefix e back r.1 in
    (omega (arith, r.0, rest.0), (omega (arith, rest.0), rest.1))

pub rows_before : (es prefix : List (ℕ × Node)) (e : ℕ × Node) (back : List (ℕ × Node)) → RisesFrom number_of 0 es → es ≡ prefix ++ e ∷ back → IsAbove state.number_of e.0 (rows_in prefix)
rows_before es prefix e back r split = rows_above e.0 prefix (above_prefix 0 prefix e back (subst (λ l. RisesFrom number_of 0 l) split r)).1
