-- Which nodes wait, after edits of nodes.
use Rattle.std.proofs.Common.{◌≡◌, ℕ, suc, ◌+◌, ◌<◌, ◌≤◌, Bool, true, false, cond, not, ◌&&◌, ◌||◌, ◌==◌, List, [], ◌∷◌, ◌++◌, length, Option, Some, None, refl, sym, ap, ◌∙◌, subst, arith}
use Rattle.std.specs.Option.{option_map, option_map_or}
use Rattle.std.proofs.lemmas.Bool.{and_parts, true≢false}
use Rattle.std.proofs.lemmas.Bool.Decides.{nat_tests}
use Rattle.std.proofs.lemmas.List.{length_push}
use Rattle.std.proofs.lemmas.List.Sums.{sum_by-cons}
use Rattle.lists.specs.Rising.{RisesFrom, IsAbove, find, remove}
use Rattle.lists.proofs.RisingLaws.{find-remove, find_below, remove_missing}
use Rattle.state_model.specs.Reached.{is_among}
use Rattle.instance_table.specs.declared.node.Node.{Node}
use Rattle.instance_table.specs.Nodes.{number_of, node_at, at_node}
use Rattle.instance_table.specs.Graph.{numbers_differ, waits_at, waiting_count, AreListed}
use Rattle.instance_table.proofs.NodeLaws.{at_none}

-- ---- a node after an edit

pub node_at_edited : (k j : ℕ) (f : Node → Node) (es : List (ℕ × Node)) → node_at (at_node k f es) j ≡ option_map (λ n. cond (j == k) (f n) n) (node_at es j)
node_at_edited k j f [] = refl
node_at_edited k j f (e ∷ es) = grind (arith, nat_tests, node_at_edited k j f es)

-- which node waits after an edit
pub waits_edited : (k j : ℕ) (f : Node → Node) (es : List (ℕ × Node))
    → waits_at (at_node k f es) j ≡ cond (j == k) (option_map_or (λ n. (f n).waits) (node_at es j) false) (waits_at es j)
waits_edited k j f es = ap (λ o. option_map_or (λ (n : Node). n.waits) o false) (node_at_edited k j f es) ∙ from (node_at es j) (j == k)
  where
    from : (o : Option Node) (b : Bool) → option_map_or (λ (n : Node). n.waits) (option_map (λ n. cond b (f n) n) o) false
        ≡ cond b (option_map_or (λ n. (f n).waits) o false) (option_map_or (λ (n : Node). n.waits) o false)
    from None true = refl
    from None false = refl
    from (Some n) true = refl
    from (Some n) false = refl

-- ---- how many wait

abbrev one_if : Bool → ℕ
one_if b = cond b 1 0

count_first : (e : ℕ × Node) (es : List (ℕ × Node)) → waiting_count (e ∷ es) ≡ cond e.1.waits 1 0 + waiting_count es
count_first e es = sum_by-cons (λ x. cond x.1.waits 1 0) e es

pub waiting_within : (es : List (ℕ × Node)) → waiting_count es ≤ length es
waiting_within [] = omega arith
waiting_within (e ∷ es) = grind (arith, nat_tests, count_first e es, waiting_within es)

-- where one doesn't wait fewer do than there are
pub waiting_less : (k : ℕ) (es : List (ℕ × Node)) (n : Node) → node_at es k ≡ Some n → n.waits ≡ false → waiting_count es < length es
waiting_less k [] n h w = cc
waiting_less k (e ∷ es) n h w = grind (arith, nat_tests, count_first e es, waiting_within es, waiting_less k es n)

-- an edit changes the count as it changes the node
pub waiting_edited : (k low : ℕ) (f : Node → Node) (es : List (ℕ × Node)) (n : Node) → node_at es k ≡ Some n → RisesFrom number_of low es
    → waiting_count (at_node k f es) + cond n.waits 1 0 ≡ waiting_count es + cond (f n).waits 1 0
waiting_edited k low f [] n h r = cc
waiting_edited k low f (e ∷ es) n h r =
    let go : (b : Bool) → (e.0 == k) ≡ b → option_map (λ x. x.1) (cond b (Some e) (find number_of k es)) ≡ Some n
    → waiting_count (cond b (e.0, f e.1) e ∷ at_node k f es) + cond n.waits 1 0 ≡ waiting_count (e ∷ es) + cond (f n).waits 1 0
    = elim [
      | true ↦ λ b h.
          let same : e.1 ≡ n = cc in
          let rest : at_node k f es ≡ es = at_none k (suc (e.0)) f es r.1 (grind (arith, nat_tests)) in
          let old = ap (λ m. one_if m.waits) same in
          let new = ap (λ m. one_if (f m).waits) same in
          omega (arith, count_first (e.0, f e.1) (at_node k f es), ap waiting_count rest, count_first e es, old, new)
      | false ↦ λ b h. omega (arith, count_first e (at_node k f es), count_first e es, waiting_edited k (suc (e.0)) f es n h r.1)
    ] in
    go (e.0 == k) refl h

-- an edit of a number that has no node
pub unedited : (k : ℕ) (f : Node → Node) (es : List (ℕ × Node)) → node_at es k ≡ None → at_node k f es ≡ es
unedited k f [] h = refl
unedited k f (e ∷ es) h = grind (arith, nat_tests, unedited k f es)

-- ---- the list of those that wait

among_push : (n m : ℕ) (ns : List ℕ) → is_among n (ns ++ m ∷ []) ≡ (is_among n ns || (m == n))
among_push n m [] = grind (arith, nat_tests)
among_push n m (k ∷ ns) = grind (arith, nat_tests, among_push n m ns)

differ_push : (n : ℕ) (ns : List ℕ) → numbers_differ ns ≡ true → is_among n ns ≡ false → numbers_differ (ns ++ n ∷ []) ≡ true
differ_push n [] d h = refl
differ_push n (m ∷ ns) d h =
    let parts = and_parts (not (is_among m ns)) (numbers_differ ns) d in
    grind (arith, nat_tests, parts.0, among_push m n ns, differ_push n ns parts.1)

-- an edit that leaves each node waiting or not
pub listed_same : (k : ℕ) (f : Node → Node) (es : List (ℕ × Node)) (loose : List ℕ) → RisesFrom number_of 0 es → ((n : Node) → node_at es k ≡ Some n → (f n).waits ≡ n.waits)
    → AreListed es loose → AreListed (at_node k f es) loose
listed_same k f es loose r same l = from (node_at es k) refl
  where
    waits : (n : Node) → node_at es k ≡ Some n → (who : ℕ) (b : Bool) → (who == k) ≡ b
        → waits_at es who ≡ cond b (option_map_or (λ n. (f n).waits) (node_at es who) false) (waits_at es who)
    waits n e who false t = refl
    waits n e who true t =
        let is : who ≡ k = grind (arith, nat_tests) in
        let here : node_at es who ≡ Some n = ap (node_at es) is ∙ e in
        ap (λ o. option_map_or (λ (n : Node). n.waits) o false) here ∙ (sym (same n e) ∙ sym (ap (λ o. option_map_or (λ n. (f n).waits) o false) here))

    from : (o : Option Node) → node_at es k ≡ o → AreListed (at_node k f es) loose
    from None e = subst (λ x. AreListed x loose) (sym (unedited k f es e)) l
    from (Some n) e = record {
      listed = λ who. l.listed who ∙ (waits n e who (who == k) refl ∙ sym (waits_edited k who f es));
      once = l.once;
      counted = omega (arith, l.counted, waiting_edited k 0 f es n e r, ap one_if (same n e));
    }

-- an edit by which a node waits that didn't
pub listed_more : (k : ℕ) (f : Node → Node) (es : List (ℕ × Node)) (loose : List ℕ) (n : Node) → RisesFrom number_of 0 es → node_at es k ≡ Some n → n.waits ≡ false → (f n).waits ≡ true
    → AreListed es loose → AreListed (at_node k f es) (loose ++ k ∷ [])
listed_more k f es loose n r e old new l = record {
  listed = λ who. among_push who k loose ∙ (waits who (k == who) refl ∙ sym (waits_edited k who f es));
  once = differ_push k loose l.once (l.listed k ∙ (ap (λ o. option_map_or (λ (n : Node). n.waits) o false) e ∙ old));
  counted = omega (arith, length_push loose k, l.counted, waiting_edited k 0 f es n e r, ap one_if old, ap one_if new);
}
  where
    waits : (who : ℕ) (b : Bool) → (k == who) ≡ b
        → (is_among who loose || (k == who)) ≡ cond (who == k) (option_map_or (λ n. (f n).waits) (node_at es who) false) (waits_at es who)
    waits who false t = let before = l.listed who in grind (arith, nat_tests)
    waits who true t =
        let is : who ≡ k = grind (arith, nat_tests) in
        let here : option_map_or (λ n. (f n).waits) (node_at es who) false ≡ true = ap (λ j. option_map_or (λ n. (f n).waits) (node_at es j) false) is ∙ (ap (λ o. option_map_or (λ n. (f n).waits) o false) e ∙ new) in
        grind (arith, nat_tests)

-- the last of the list, which rests
differ_last : (n : ℕ) (ns : List ℕ) → numbers_differ (ns ++ n ∷ []) ≡ true → (numbers_differ ns ≡ true) × (is_among n ns ≡ false)
differ_last n [] d = (refl, refl)
differ_last n (m ∷ ns) d =
    let parts = and_parts (not (is_among m (ns ++ n ∷ []))) (numbers_differ (ns ++ n ∷ [])) d in
    let rest = differ_last n ns parts.1 in
    (grind (arith, nat_tests, parts.0, among_push m n ns, rest.0), grind (arith, nat_tests, parts.0, among_push m n ns, rest.1))

pub listed_less : (k : ℕ) (f : Node → Node) (es : List (ℕ × Node)) (loose : List ℕ) → RisesFrom number_of 0 es → ((n : Node) → (f n).waits ≡ false)
    → AreListed es (loose ++ k ∷ []) → AreListed (at_node k f es) loose
listed_less k f es loose r rests l = from (node_at es k) refl
  where
    ends : (numbers_differ loose ≡ true) × (is_among k loose ≡ false)
    ends = differ_last k loose l.once

    there : waits_at es k ≡ true
    there = sym (l.listed k) ∙ (among_push k k loose ∙ grind (arith, nat_tests))

    waits : (n : Node) → node_at es k ≡ Some n → (who : ℕ) (b : Bool) → (who == k) ≡ b
        → is_among who loose ≡ cond b (option_map_or (λ n. (f n).waits) (node_at es who) false) (waits_at es who)
    waits n e who false t = let before = sym (among_push who k loose) ∙ l.listed who in grind (arith, nat_tests)
    waits n e who true t =
        let is : who ≡ k = grind (arith, nat_tests) in
        ap (λ j. is_among j loose) is ∙ (ends.1 ∙ (sym (rests n) ∙ sym (ap (λ o. option_map_or (λ n. (f n).waits) o false) (ap (node_at es) is ∙ e))))

    from : (o : Option Node) → node_at es k ≡ o → AreListed (at_node k f es) loose
    from None e = absurd (true≢false (sym there ∙ ap (λ o. option_map_or (λ (n : Node). n.waits) o false) e))
    from (Some n) e =
        let old : n.waits ≡ true = sym (ap (λ o. option_map_or (λ (n : Node). n.waits) o false) e) ∙ there in
        record {
          listed = λ who. waits n e who (who == k) refl ∙ sym (waits_edited k who f es);
          once = ends.0;
          counted = omega (arith, length_push loose k, l.counted, waiting_edited k 0 f es n e r, ap one_if old, ap one_if (rests n));
        }

-- a node more, which waits or doesn't
waits_above : (k : ℕ) (es : List (ℕ × Node)) → IsAbove number_of k es → (n : Node) (j : ℕ) → waits_at (es ++ (k, n) ∷ []) j ≡ (waits_at es j || ((k == j) && n.waits))
waits_above k [] a n j = grind (arith, nat_tests)
waits_above k (e ∷ es) a n j = grind (arith, nat_tests, a.0, waits_above k es a.1 n j)

count_push : (e : ℕ × Node) (es : List (ℕ × Node)) → waiting_count (es ++ e ∷ []) ≡ waiting_count es + cond e.1.waits 1 0
count_push e [] = omega (arith, count_first e [])
count_push e (d ∷ es) = omega (arith, count_first d (es ++ e ∷ []), count_first d es, count_push e es)

none_above : (k : ℕ) (es : List (ℕ × Node)) → IsAbove number_of k es → waits_at es k ≡ false
none_above k [] a = refl
none_above k (e ∷ es) a = grind (arith, nat_tests, a.0, none_above k es a.1)

pub listed_push : (k : ℕ) (n : Node) (es : List (ℕ × Node)) (loose : List ℕ) → IsAbove number_of k es → n.waits ≡ true → AreListed es loose
    → AreListed (es ++ (k, n) ∷ []) (loose ++ k ∷ [])
listed_push k n es loose a w l = record {
  listed = λ who. let before = l.listed who in among_push who k loose ∙ (grind (arith, nat_tests) ∙ sym (waits_above k es a n who));
  once = differ_push k loose l.once (l.listed k ∙ none_above k es a);
  counted = omega (arith, length_push loose k, l.counted, count_push (k, n) es, ap one_if w);
}

pub listed_beside : (k : ℕ) (n : Node) (es : List (ℕ × Node)) (loose : List ℕ) → IsAbove number_of k es → n.waits ≡ false → AreListed es loose
    → AreListed (es ++ (k, n) ∷ []) loose
listed_beside k n es loose a w l = record {
  listed = λ who. let before = l.listed who in grind (arith, nat_tests) ∙ sym (waits_above k es a n who);
  once = l.once;
  counted = omega (arith, l.counted, count_push (k, n) es, ap one_if w);
}

-- a node less, which didn't wait
waits_removed : (k : ℕ) (es : List (ℕ × Node)) → waits_at es k ≡ false → (j : ℕ) → waits_at (remove number_of k es) j ≡ waits_at es j
waits_removed k es w j = ap (λ o. option_map_or (λ (n : Node). n.waits) (option_map (λ e. e.1) o) false) (find-remove number_of k es j) ∙ from (k == j) refl
  where
    from : (b : Bool) → (k == j) ≡ b → option_map_or (λ (n : Node). n.waits) (option_map (λ e. e.1) (cond b None (find number_of j es))) false ≡ waits_at es j
    from true h = let same : k ≡ j = grind (arith, nat_tests) in sym w ∙ ap (waits_at es) same
    from false h = refl

count_removed : (k low : ℕ) (es : List (ℕ × Node)) → RisesFrom number_of low es → waits_at es k ≡ false → waiting_count (remove number_of k es) ≡ waiting_count es
count_removed k low [] r w = refl
count_removed k low (e ∷ es) r w =
    let go : (b : Bool) → (e.0 == k) ≡ b → option_map_or (λ (n : Node). n.waits) (option_map (λ x. x.1) (cond b (Some e) (find number_of k es))) false ≡ false
    → waiting_count (cond (not b) (e ∷ remove number_of k es) (remove number_of k es)) ≡ waiting_count (e ∷ es)
    = elim [
      | true ↦ λ b w.
          let above : k < suc (e.0) = grind (arith, nat_tests) in
          let rest = remove_missing number_of k es (find_below number_of (suc (e.0)) es k r.1 above) in
          omega (arith, ap waiting_count rest, count_first e es, ap one_if w)
      | false ↦ λ b w. omega (arith, count_first e (remove number_of k es), count_first e es, count_removed k (suc (e.0)) es r.1 w)
    ] in
    go (e.0 == k) refl w

pub listed_without : (k : ℕ) (es : List (ℕ × Node)) (loose : List ℕ) → RisesFrom number_of 0 es → waits_at es k ≡ false → AreListed es loose → AreListed (remove number_of k es) loose
listed_without k es loose r w l = record {
  listed = λ who. l.listed who ∙ sym (waits_removed k es w who);
  once = l.once;
  counted = l.counted ∙ sym (count_removed k 0 es r w);
}
