-- Who holds the nodes, after each edit: how often a number is a holder, that holders rise, and that what nothing holds waits.
use Rattle.std.proofs.Common.{◌≡◌, ℕ, ◌+◌, ◌-◌, Bool, true, false, cond, not, ◌&&◌, ◌==◌, List, [], ◌∷◌, length, filter, Option, Some, None, refl, sym, ap, ◌∙◌, subst, arith}
use Rattle.std.specs.Option.{option_map, option_map_or}
use Rattle.std.proofs.lemmas.Bool.Decides.{nat_tests}
use Rattle.state_model.specs.Reached.{is_among}
use Rattle.state_model.specs.declared.command.Command.{Command}
use Rattle.command_laws.specs.Accounts.{count_of, one_if}
use Rattle.state_laws.proofs.Counts.{count_among}
use Rattle.instance_table.specs.declared.node.Node.{Node}
use Rattle.instance_table.specs.Holders.{AscendsFrom, with_holder, without_one}
use Rattle.instance_table.specs.Nodes.{node_at, at_node, held_more, held_less, held_not, woken}
use Rattle.instance_table.specs.Changes.{edited_node, hold_link, let_go_link, let_go_each}
use Rattle.instance_table.proofs.HolderLaws.{ascends_with, ascends_without, ascends_filter}
use Rattle.instance_table.proofs.HolderCounts.{count_with, count_without, count_left}
use Rattle.instance_table.proofs.WaitingLaws.{node_at_edited}

-- how often each number (second) is told to hold each node (first)
abbrev pub Held : Type 0
Held = ℕ → ℕ → ℕ

-- the holders of the nodes are those that are told; they rise, and what nothing holds waits, unless it is the root
pub record HoldersAre (m : Held) (es : List (ℕ × Node)) : Type 0 where
  pub counts : (who h : ℕ) (n : Node) → node_at es who ≡ Some n → count_of h n.holders ≡ m who h
  pub ascend : (who : ℕ) (n : Node) → node_at es who ≡ Some n → AscendsFrom 0 n.holders
  pub wait : (who : ℕ) (n : Node) → node_at es who ≡ Some n → (who == 0) ≡ false → (length n.holders == 0) ≡ true → n.waits ≡ true

-- ---- one node

-- what is asked of the node of a number
pub record NodeHeld (m : Held) (who : ℕ) (n : Node) : Type 0 where
  pub counts : (h : ℕ) → count_of h n.holders ≡ m who h
  pub ascend : AscendsFrom 0 n.holders
  pub wait : (who == 0) ≡ false → (length n.holders == 0) ≡ true → n.waits ≡ true

pub of_nodes : (m : Held) (es : List (ℕ × Node)) → HoldersAre m es → (who : ℕ) (n : Node) → node_at es who ≡ Some n → NodeHeld m who n
of_nodes m es h who n at = record { counts = λ k. h.counts who k n at; ascend = h.ascend who n at; wait = h.wait who n at }

pub by_nodes : (m : Held) (es : List (ℕ × Node)) → ((who : ℕ) (n : Node) → node_at es who ≡ Some n → NodeHeld m who n) → HoldersAre m es
by_nodes m es h = record { counts = λ who k n at. (h who n at).counts k; ascend = λ who n at. (h who n at).ascend; wait = λ who n at. (h who n at).wait }

-- an edit of one node leaves the others
pub edited_nodes : (m after : Held) (k : ℕ) (f : Node → Node) (es : List (ℕ × Node)) → HoldersAre m es
    → ((n : Node) → NodeHeld m k n → NodeHeld after k (f n)) → ((who h : ℕ) → (who == k) ≡ false → after who h ≡ m who h) → HoldersAre after (at_node k f es)
edited_nodes m after k f es held here there = by_nodes after (at_node k f es) (λ who n at. found who (node_at es who) refl (who == k) refl n (sym (node_at_edited k who f es) ∙ at))
  where
    found : (who : ℕ) (o : Option Node) → node_at es who ≡ o → (b : Bool) → (who == k) ≡ b → (n : Node) → option_map (λ n. cond b (f n) n) (node_at es who) ≡ Some n → NodeHeld after who n
    found who None e b t n h = let none : None ≡ Some n = sym (ap (option_map (λ n. cond b (f n) n)) e) ∙ h in cc
    found who (Some x) e true t n h =
        let same : who ≡ k = grind (arith, nat_tests) in
        let is : f x ≡ n = let both : Some (f x) ≡ Some n = sym (ap (option_map (λ n. f n)) e) ∙ h in cc in
        let old : NodeHeld m k x = of_nodes m es held k x (sym (ap (node_at es) same) ∙ e) in
        subst (λ w. NodeHeld after w n) (sym same) (subst (NodeHeld after k) is (here x old))
    found who (Some x) e false t n h =
        let is : x ≡ n = let both : Some x ≡ Some n = sym (ap (option_map (λ (n : Node). n)) e) ∙ h in cc in
        let old : NodeHeld m who n = of_nodes m es held who n (e ∙ ap Some is) in
        record { counts = λ k. old.counts k ∙ sym (there who k t); ascend = old.ascend; wait = old.wait }

-- ---- the edits

-- a place more of a holder
abbrev pub more : Held → ℕ → ℕ → Held
more m k h who j = m who j + one_if (who == k && h == j)

-- a place less of a holder
abbrev pub less : Held → ℕ → ℕ → Held
less m k h who j = m who j - one_if (who == k && h == j)

-- no place of a holder
abbrev pub none : Held → ℕ → ℕ → Held
none m k h who j = cond (who == k && h == j) 0 (m who j)

with_some : (h : ℕ) (ns : List ℕ) → (length (with_holder h ns) == 0) ≡ false
with_some h [] = refl
with_some h (n ∷ ns) = grind (arith, nat_tests)

pub held_once_more : (m : Held) (k h : ℕ) (es : List (ℕ × Node)) → HoldersAre m es → HoldersAre (more m k h) (at_node k (held_more h) es)
held_once_more m k h es held = edited_nodes m (more m k h) k (held_more h) es held here (λ who j t. grind (arith, nat_tests))
  where
    here : (n : Node) → NodeHeld m k n → NodeHeld (more m k h) k (held_more h n)
    here n old = record {
      counts = λ j. let one = count_with j h n.holders in let was = old.counts j in grind (arith, nat_tests);
      ascend = ascends_with h 0 n.holders (omega arith) old.ascend;
      wait = λ t e. let some = with_some h n.holders in cc;
    }

-- what nothing holds after it was let go waits
pub woken_held : (after : Held) (k : ℕ) (ns : List ℕ) (n : Node) → ((j : ℕ) → count_of j ns ≡ after k j) → AscendsFrom 0 ns → NodeHeld after k (woken ns n)
woken_held after k ns n counts ascend = record {
  counts = counts;
  ascend = ascend;
  wait = λ t e. grind (arith, nat_tests);
}

pub none_counted : (h : ℕ) (ns : List ℕ) → is_among h ns ≡ false → count_of h ns ≡ 0
none_counted h ns e = let law = count_among h ns in grind (arith, nat_tests)

count_taken : (j h : ℕ) (ns : List ℕ) → count_of j (without_one h ns) ≡ count_of j ns - one_if (h == j)
count_taken j h ns = let law = count_without j h ns in let none : is_among h ns ≡ false → count_of h ns ≡ 0 = none_counted h ns in grind (arith, nat_tests)

pub held_once_less : (m : Held) (k h : ℕ) (es : List (ℕ × Node)) → HoldersAre m es → HoldersAre (less m k h) (at_node k (held_less h) es)
held_once_less m k h es held = edited_nodes m (less m k h) k (held_less h) es held here (λ who j t. grind (arith, nat_tests))
  where
    here : (n : Node) → NodeHeld m k n → NodeHeld (less m k h) k (held_less h n)
    here n old = woken_held (less m k h) k (without_one h n.holders) n
        (λ j. let one = count_taken j h n.holders in let was = old.counts j in grind (arith, nat_tests))
        (ascends_without h 0 n.holders old.ascend)

pub held_no_more : (m : Held) (k h : ℕ) (es : List (ℕ × Node)) → HoldersAre m es → HoldersAre (none m k h) (at_node k (held_not h) es)
held_no_more m k h es held = edited_nodes m (none m k h) k (held_not h) es held here (λ who j t. grind (arith, nat_tests))
  where
    here : (n : Node) → NodeHeld m k n → NodeHeld (none m k h) k (held_not h n)
    here n old = woken_held (none m k h) k (filter (λ i. not (i == h)) n.holders) n
        (λ j. let one = count_left j h n.holders in let was = old.counts j in grind (arith, nat_tests))
        (ascends_filter (λ i. not (i == h)) 0 n.holders old.ascend)

-- a command that changes the body leaves who holds it
pub body_edited : (m : Held) (k : ℕ) (c : Command) (es : List (ℕ × Node)) → HoldersAre m es → HoldersAre m (at_node k (edited_node c) es)
body_edited m k c es held = edited_nodes m m k (edited_node c) es held (λ n old. record { counts = old.counts; ascend = old.ascend; wait = old.wait }) (λ who j t. refl)

-- ---- links

-- the same is told
pub same_held : (m after : Held) (es : List (ℕ × Node)) → ((who h : ℕ) → after who h ≡ m who h) → HoldersAre m es → HoldersAre after es
same_held m after es same held = by_nodes after es (λ who n at. let old = of_nodes m es held who n at in record { counts = λ h. old.counts h ∙ sym (same who h); ascend = old.ascend; wait = old.wait })

pub link_held : (m : Held) (link : Option ℕ) (h : ℕ) (es : List (ℕ × Node)) → HoldersAre m es
    → HoldersAre (λ who j. m who j + one_if (option_map_or (λ k. who == k && h == j) link false)) (hold_link link h es)
link_held m (Some k) h es held = held_once_more m k h es held
link_held m None h es held = same_held m (λ who j. m who j + 0) es (λ who j. omega arith) held

pub link_let_go : (m : Held) (link : Option ℕ) (h : ℕ) (es : List (ℕ × Node)) → HoldersAre m es
    → HoldersAre (λ who j. m who j - one_if (option_map_or (λ k. who == k && h == j) link false)) (let_go_link link h es)
link_let_go m (Some k) h es held = held_once_less m k h es held
link_let_go m None h es held = same_held m (λ who j. m who j - 0) es (λ who j. omega arith) held

pub links_let_go : (m : Held) (ns : List ℕ) (h : ℕ) (es : List (ℕ × Node)) → HoldersAre m es
    → HoldersAre (λ who j. cond (is_among who ns && h == j) 0 (m who j)) (let_go_each ns h es)
links_let_go m [] h es held = held
links_let_go m (k ∷ ns) h es held =
    same_held _ (λ who j. cond (is_among who (k ∷ ns) && h == j) 0 (m who j)) (let_go_each ns h (at_node k (held_not h) es)) (λ who j. grind (arith, nat_tests)) (links_let_go (none m k h) ns h (at_node k (held_not h) es) (held_no_more m k h es held))
