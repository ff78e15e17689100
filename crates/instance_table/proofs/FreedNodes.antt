-- Nodes of which one that nothing holds rests, lets go of what it held and is taken out.
use Rattle.std.proofs.Common.{◌≡◌, ℕ, Bool, true, false, cond, not, ◌&&◌, ◌==◌, List, [], ◌∷◌, ◌++◌, length, filter, Option, Some, None, IfSome, refl, sym, ap, ◌∙◌, subst, arith}
use Rattle.std.specs.Option.{option_map, option_map_or}
use Rattle.std.proofs.lemmas.Bool.{and_parts}
use Rattle.std.proofs.lemmas.Bool.Decides.{nat_tests}
use Rattle.std.proofs.lemmas.List.Elements.{filter-append}
use Rattle.lists.specs.Rising.{RisesFrom, find, remove}
use Rattle.lists.proofs.RisingLaws.{find-remove}
use Rattle.state_model.specs.declared.row.RowEntry.{RowEntry}
use Rattle.state_model.specs.Rows as state
use Rattle.state_model.specs.Reached.{is_among, all_held}
use Rattle.state_model.specs.State.{ItemCount}
use Rattle.state_laws.proofs.Numbers.{row_chosen, holder_row}
use Rattle.plain_rows.specs.Links.{held_at}
use Rattle.command_laws.specs.Accounts.{count_of}
use Rattle.state_laws.proofs.Counts.{count_among}
use Rattle.instance_table.specs.declared.node.Node.{Node}
use Rattle.instance_table.specs.declared.body.Body.{Body}
use Rattle.instance_table.specs.Bodies.{given_of}
use Rattle.instance_table.specs.Changes.{let_go_each}
use Rattle.instance_table.specs.Graph.{waits_at}
use Rattle.instance_table.specs.Nodes.{number_of, node_at, at_node, rows_in, counts_in, entry_counts, held_not, rested}
use Rattle.instance_table.specs.Table.{IsExact}
use Rattle.instance_table.proofs.ExactLaws.{HoldersAre, links_let_go, none_counted}
use Rattle.instance_table.proofs.StateLaws.{rows_same, rows_removed}
use Rattle.instance_table.proofs.WaitingLaws.{node_at_edited, waits_edited}
use Rattle.std.proofs.lemmas.Bool.{or_parts}
use Rattle.lists.proofs.Numbers.{same_number}
use Rattle.instance_table.proofs.ChangedHolders.{exact_held, row_counts}
use Rattle.instance_table.proofs.LetGoLaws.{body_at, body_let_go, rows_let_go}

-- ---- edits of several nodes

-- edits of two nodes go in either order
edits_commute : (j k : ℕ) (f g : Node → Node) (es : List (ℕ × Node)) → (j == k) ≡ false → at_node j f (at_node k g es) ≡ at_node k g (at_node j f es)
edits_commute j k f g [] d = refl
edits_commute j k f g (e ∷ es) d = grind (arith, nat_tests, edits_commute j k f g es d)

-- an edit of a node that isn't let go
edit_let_go : (ns : List ℕ) (h k : ℕ) (f : Node → Node) (es : List (ℕ × Node)) → is_among k ns ≡ false → let_go_each ns h (at_node k f es) ≡ at_node k f (let_go_each ns h es)
edit_let_go [] h k f es d = refl
edit_let_go (n ∷ ns) h k f es d =
    let parts = or_parts (n == k) (is_among k ns) d in
    ap (let_go_each ns h) (edits_commute n k (held_not h) f es parts.0) ∙ edit_let_go ns h k f (at_node n (held_not h) es) parts.1

-- what was asked of its body before is so after
pub asked_after : (P : Body → Type 0) (ns : List ℕ) (h k : ℕ) (es left : List (ℕ × Node)) (n : Node) → left ≡ let_go_each ns h es → Some n ≡ node_at left k
    → IfSome (node_at es k) (λ n. P n.body) → P n.body
asked_after P ns h k es left n e found asked = from (node_at es k) asked (sym (body_let_go ns h es k) ∙ (ap (λ l. body_at l k) (sym e) ∙ sym (ap (option_map (λ (x : Node). x.body)) found)))
  where
    from : (o : Option Node) → IfSome o (λ n. P n.body) → option_map (λ (x : Node). x.body) o ≡ Some n.body → P n.body
    from None a h = cc
    from (Some m) a h = let is : m.body ≡ n.body = cc in subst P is a

-- and the other way round
pub asked_before : (P : Body → Type 0) (ns : List ℕ) (h k : ℕ) (es left : List (ℕ × Node)) (n : Node) → left ≡ let_go_each ns h es → Some n ≡ node_at left k
    → P n.body → IfSome (node_at es k) (λ n. P n.body)
asked_before P ns h k es left n e found asked = from (node_at es k) (sym (body_let_go ns h es k) ∙ (ap (λ l. body_at l k) (sym e) ∙ sym (ap (option_map (λ (x : Node). x.body)) found)))
  where
    from : (o : Option Node) → option_map (λ (x : Node). x.body) o ≡ Some n.body → IfSome o (λ n. P n.body)
    from None h = tt
    from (Some m) h = let is : m.body ≡ n.body = cc in subst P (sym is) asked

-- where none is found after, none was there before
pub asked_nothing : (P : Node → Type 0) (ns : List ℕ) (h k : ℕ) (es left : List (ℕ × Node)) → left ≡ let_go_each ns h es → None ≡ node_at left k → IfSome (node_at es k) P
asked_nothing P ns h k es left e found = from (node_at es k) (sym (body_let_go ns h es k) ∙ (ap (λ l. body_at l k) (sym e) ∙ sym (ap (option_map (λ (x : Node). x.body)) found)))
  where
    from : (o : Option Node) → option_map (λ (x : Node). x.body) o ≡ None → IfSome o P
    from None h = tt
    from (Some m) h = cc

-- an edit of the node that is taken out
edit_removed : (k : ℕ) (f : Node → Node) (es : List (ℕ × Node)) → remove number_of k (at_node k f es) ≡ remove number_of k es
edit_removed k f [] = refl
edit_removed k f (e ∷ es) = grind (arith, nat_tests, edit_removed k f es)

-- the count of one node without another
entry_count_removed : (k : ℕ) (e : ℕ × Node) → filter (λ (c : ItemCount). not (c.who == k)) (entry_counts e) ≡ cond (e.0 == k) [] (entry_counts e)
entry_count_removed k e = from (given_of e.1.body)
  where
    one : ℕ → ItemCount
    one n = record { who = e.0; count = n }

    from : (o : Option ℕ) → filter (λ (c : ItemCount). not (c.who == k)) (option_map_or (λ n. one n ∷ []) o []) ≡ cond (e.0 == k) [] (option_map_or (λ n. one n ∷ []) o [])
    from None = grind (arith, nat_tests)
    from (Some n) = grind (arith, nat_tests)

-- the counts of item numbers without a node
pub counts_removed : (k : ℕ) (es : List (ℕ × Node)) → counts_in (remove number_of k es) ≡ filter (λ (c : ItemCount). not (c.who == k)) (counts_in es)
counts_removed k [] = refl
counts_removed k (e ∷ es) =
    let keep : ItemCount → Bool = λ c. not (c.who == k) in
    let go : (b : Bool) → counts_in (cond (not b) (e ∷ remove number_of k es) (remove number_of k es)) ≡ cond b [] (entry_counts e) ++ filter keep (counts_in es)
    = elim [ true ↦ counts_removed k es | false ↦ ap (λ l. entry_counts e ++ l) (counts_removed k es) ] in
    go (e.0 == k) ∙ (sym (ap (λ l. l ++ filter keep (counts_in es)) (entry_count_removed k e)) ∙ sym (filter-append keep (entry_counts e) (counts_in es)))

-- ---- the nodes after one was freed

-- the nodes without one, after what it held was let go
abbrev pub without : ℕ → List (ℕ × Node) → List (ℕ × Node)
without k es = remove number_of k (let_go_each (held_at (rows_in es) k) k es)

-- the rows are those without its row
pub rows_without : (k : ℕ) (es : List (ℕ × Node)) → rows_in (without k es) ≡ remove state.number_of k (rows_in es)
rows_without k es = rows_removed k (let_go_each (held_at (rows_in es) k) k es) ∙ ap (remove state.number_of k) (rows_let_go (held_at (rows_in es) k) k es)

-- a node that rests holds what it held
held_rested : (k : ℕ) (es : List (ℕ × Node)) → held_at (rows_in (at_node k rested es)) k ≡ held_at (rows_in es) k
held_rested k es = ap (λ rows. held_at rows k) (rows_same k rested es (λ n. refl))

-- whether it waits is nothing to the others
pub without_rested : (k : ℕ) (es : List (ℕ × Node)) → is_among k (held_at (rows_in es) k) ≡ false → without k (at_node k rested es) ≡ without k es
without_rested k es d =
    ap (λ ns. remove number_of k (let_go_each ns k (at_node k rested es))) (held_rested k es)
    ∙ (ap (remove number_of k) (edit_let_go (held_at (rows_in es) k) k k rested es d) ∙ edit_removed k rested (let_go_each (held_at (rows_in es) k) k es))

-- a node that rests does so while it lets go of others
pub rests_on : (k : ℕ) (es : List (ℕ × Node)) → is_among k (held_at (rows_in es) k) ≡ false
    → waits_at (let_go_each (held_at (rows_in (at_node k rested es)) k) k (at_node k rested es)) k ≡ false
rests_on k es d =
    ap (λ ns. waits_at (let_go_each ns k (at_node k rested es)) k) (held_rested k es)
    ∙ (ap (λ l. waits_at l k) (edit_let_go (held_at (rows_in es) k) k k rested es d)
    ∙ (waits_edited k k rested (let_go_each (held_at (rows_in es) k) k es) ∙ rest (node_at (let_go_each (held_at (rows_in es) k) k es) k) (k == k) (grind (arith, nat_tests))))
  where
    rest : (o : Option Node) (b : Bool) → b ≡ true → cond b (option_map_or (λ n. (rested n).waits) o false) (option_map_or (λ (n : Node). n.waits) o false) ≡ false
    rest None true h = refl
    rest (Some n) true h = refl
    rest o false h = cc

-- what is found without a node is another, as it was
found_without : (k who : ℕ) (es : List (ℕ × Node)) (n : Node) → node_at (remove number_of k es) who ≡ Some n → ((who == k) ≡ false) × (node_at es who ≡ Some n)
found_without k who es n h = from (k == who) refl (sym (ap (option_map (λ (e : ℕ × Node). e.1)) (find-remove number_of k es who)) ∙ h)
  where
    from : (b : Bool) → (k == who) ≡ b → option_map (λ (e : ℕ × Node). e.1) (cond b None (find number_of who es)) ≡ Some n → ((who == k) ≡ false) × (node_at es who ≡ Some n)
    from true t g = cc
    from false t g = (grind (arith, nat_tests), g)

-- what is held by the rows without one: by its number nothing, by others what they held
held_without : (k h : ℕ) (rows : List RowEntry) → held_at (remove state.number_of k rows) h ≡ cond (h == k) [] (held_at rows h)
held_without k h rows = ap (λ o. option_map_or state.held_in o []) (row_chosen (λ n. not (n == k)) rows h) ∙ from (h == k)
  where
    from : (b : Bool) → option_map_or state.held_in (cond (not b) (state.row_at rows h) None) [] ≡ cond b [] (held_at rows h)
    from true = refl
    from false = refl

-- the holders are exact after a node was freed
pub exact_without : (k : ℕ) (es : List (ℕ × Node)) → IsExact es → IsExact (without k es)
exact_without k es x = record {
  counts = λ who h n at. let f = found_without k who left n at in held.counts who h n f.1 ∙ same who h (k == h) refl (is_among who ns) refl;
  ascend = λ who n at. let f = found_without k who left n at in held.ascend who n f.1;
  wait = λ who n at. let f = found_without k who left n at in held.wait who n f.1;
}
  where
    ns : List ℕ
    ns = held_at (rows_in es) k

    left : List (ℕ × Node)
    left = let_go_each ns k es

    held : HoldersAre (λ who j. cond (is_among who ns && k == j) 0 (row_counts (rows_in es) who j)) left
    held = links_let_go (row_counts (rows_in es)) ns k es (exact_held es x)

    after : (who h : ℕ) (b : Bool) → (h == k) ≡ b → count_of who (held_at (rows_in (without k es)) h) ≡ count_of who (cond b [] (held_at (rows_in es) h))
    after who h b t = ap (λ rows. count_of who (held_at rows h)) (rows_without k es) ∙ ap (count_of who) (held_without k h (rows_in es) ∙ ap (λ b. cond b [] (held_at (rows_in es) h)) t)

    same : (who h : ℕ) (b : Bool) → (k == h) ≡ b → (c : Bool) → is_among who ns ≡ c → cond (c && b) 0 (row_counts (rows_in es) who h) ≡ row_counts (rows_in (without k es)) who h
    same who h true t true u = sym (after who h true (grind (arith, nat_tests)))
    same who h true t false u =
        let here : k ≡ h = grind (arith, nat_tests) in
        ap (λ j. count_of who (held_at (rows_in es) j)) (sym here) ∙ (none_counted who ns u ∙ sym (after who h true (grind (arith, nat_tests))))
    same who h false t true u = sym (after who h false (grind (arith, nat_tests)))
    same who h false t false u = sym (after who h false (grind (arith, nat_tests)))

-- ---- a node that nothing holds

-- a node is there that nothing holds, and it isn't the root
abbrev pub loose_at : ℕ → List (ℕ × Node) → Bool
loose_at k es = option_map_or (λ n. not (k == 0) && (length n.holders == 0)) (node_at es k) false

-- such a node
pub record IsLoose (k : ℕ) (es : List (ℕ × Node)) (n : Node) : Type 0 where
  pub at : node_at es k ≡ Some n
  pub other : (k == 0) ≡ false
  pub none : (length n.holders == 0) ≡ true

-- the node of a number that rests
pub at_rested : (k : ℕ) (es : List (ℕ × Node)) → node_at (at_node k rested es) k ≡ option_map rested (node_at es k)
at_rested k es = node_at_edited k k rested es ∙ ap (λ b. option_map (λ n. cond b (rested n) n) (node_at es k)) (same_number k)

-- where the test holds of the nodes of which it rests, there is such a node
pub loose_node : (k : ℕ) (es : List (ℕ × Node)) → loose_at k (at_node k rested es) ≡ true → (n : Node) × IsLoose k es n
loose_node k es h = from (node_at es k) refl (sym (ap test (at_rested k es)) ∙ h)
  where
    test : Option Node → Bool
    test o = option_map_or (λ n. not (k == 0) && (length n.holders == 0)) o false

    from : (o : Option Node) → node_at es k ≡ o → test (option_map rested o) ≡ true → (n : Node) × IsLoose k es n
    from None e t = cc
    from (Some n) e t =
        let parts = and_parts (not (k == 0)) (length n.holders == 0) t in
        (n, record { at = e; other = grind (arith, nat_tests, parts.0); none = parts.1 })

-- where there are no holders none is counted
nothing_counted : (h : ℕ) (ns : List ℕ) → (length ns == 0) ≡ true → count_of h ns ≡ 0
nothing_counted h [] e = refl
nothing_counted h (n ∷ ns) e = absurd (grind (arith, nat_tests))

-- no row of a number holds it
pub unheld : (k h : ℕ) (es : List (ℕ × Node)) (n : Node) → IsExact es → IsLoose k es n → is_among k (held_at (rows_in es) h) ≡ false
unheld k h es n x l =
    let law = count_among k (held_at (rows_in es) h) in
    let count = x.counts k h n l.at in
    let none = nothing_counted h n.holders l.none in
    grind (arith, nat_tests)

-- so it isn't held anywhere
pub unheld_anywhere : (k : ℕ) (rows : List RowEntry) → RisesFrom state.number_of 0 rows → ((h : ℕ) → is_among k (held_at rows h) ≡ false) → is_among k (all_held rows) ≡ false
unheld_anywhere k rows rise none = from (is_among k (all_held rows)) refl
  where
    from : (b : Bool) → is_among k (all_held rows) ≡ b → is_among k (all_held rows) ≡ false
    from false t = t
    from true t =
        let holder = holder_row rows k rise t in
        let held : is_among k (held_at rows holder.0) ≡ true = ap (λ o. is_among k (option_map_or state.held_in o [])) holder.2 ∙ holder.3 in
        let not_held = none holder.0 in
        cc
