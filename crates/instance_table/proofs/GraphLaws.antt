-- A graph's list of those that wait, with room for all, after each edit.
use Rattle.std.proofs.Common.{◌≡◌, ℕ, ◌+◌, ◌<◌, ◌≤◌, Bool, true, false, cond, not, ◌==◌, List, [], ◌∷◌, ◌++◌, length, Option, Some, None, refl, sym, ap, ◌∙◌, subst, arith}
use Rattle.std.specs.Option.{option_map_or}
use Rattle.std.proofs.lemmas.Bool.{and_parts}
use Rattle.std.proofs.lemmas.Bool.Decides.{nat_tests}
use Rattle.std.proofs.lemmas.List.{length_push}
use Rattle.lists.specs.Rising.{RisesFrom, IsAbove, remove}
use Rattle.lists.proofs.RisingLaws.{length-remove}
use Rattle.instance_table.specs.declared.node.Node.{Node}
use Rattle.instance_table.specs.Nodes.{number_of, node_at, at_node, wakes, woken, rested}
use Rattle.instance_table.specs.Graph.{AreListed, waits_at}
use Rattle.instance_table.proofs.WaitingLaws.{waiting_less, listed_same, listed_more, listed_less, listed_push, listed_without}
use Rattle.instance_table.proofs.NodeLaws.{length_at}

-- those that wait are listed, and there is room for all nodes
abbrev pub HasRoom : List (ℕ × Node) → List ℕ → ℕ → Type 0
HasRoom es loose room = AreListed es loose × (length es ≤ room)

fits_at : (k : ℕ) (f : Node → Node) (es : List (ℕ × Node)) (room : ℕ) → length es ≤ room → length (at_node k f es) ≤ room
fits_at k f es room h = omega (arith, length_at k f es)

-- an edit that leaves each node waiting or not, or none for out of memory
pub room_same : (b : Bool) (k : ℕ) (f : Node → Node) (es new : List (ℕ × Node)) (loose : List ℕ) (room : ℕ) → ((n : Node) → (f n).waits ≡ n.waits) → new ≡ cond b (at_node k f es) es
    → RisesFrom number_of 0 es → HasRoom es loose room → HasRoom new loose room
room_same true k f es new loose room same e r l =
    subst (λ x. HasRoom x loose room) (sym e) (listed_same k f es loose r (λ n p. same n) l.0, fits_at k f es room l.1)
room_same false k f es new loose room same e r l = subst (λ x. HasRoom x loose room) (sym e) l

-- whether a number's node wakes with these holders
abbrev pub wakes_at : (Node → List ℕ) → Option Node → Bool
wakes_at g o = option_map_or (λ n. wakes (g n) n.waits) o false

-- a node that wakes didn't wait
woke : (g : Node → List ℕ) (es : List (ℕ × Node)) (k : ℕ) → wakes_at g (node_at es k) ≡ true
    → (n : Node) × (node_at es k ≡ Some n) × (n.waits ≡ false) × ((woken (g n) n).waits ≡ true)
woke g es k h = from (node_at es k) refl h
  where
    from : (o : Option Node) → node_at es k ≡ o → wakes_at g o ≡ true → (n : Node) × (node_at es k ≡ Some n) × (n.waits ≡ false) × ((woken (g n) n).waits ≡ true)
    from None e h = cc
    from (Some n) e h =
        let parts = and_parts (length (g n) == 0) (not n.waits) h in
        let slept : n.waits ≡ false = grind (arith, nat_tests, parts.1) in
        (n, e, slept, ap (λ b. cond b true n.waits) h)

pub room_more : (g : Node → List ℕ) (es : List (ℕ × Node)) (k : ℕ) (loose : List ℕ) (room : ℕ) → true ≡ wakes_at g (node_at es k)
    → HasRoom es loose room → length loose < room
room_more g es k loose room h l =
    let w = woke g es k (sym h) in
    omega (arith, l.0.counted, waiting_less k es w.0 w.1 w.2, l.1)

pub room_woken : (g : Node → List ℕ) (es new : List (ℕ × Node)) (k : ℕ) (loose now : List ℕ) (room after : ℕ) → RisesFrom number_of 0 es → true ≡ wakes_at g (node_at es k)
    → new ≡ at_node k (λ n. woken (g n) n) es → now ≡ loose ++ k ∷ [] → room ≤ after → HasRoom es loose room → HasRoom new now after
room_woken g es new k loose now room after r h e p o l =
    let w = woke g es k (sym h) in
    let f : Node → Node = λ n. woken (g n) n in
    rw (e, p) (listed_more k f es loose w.0 r w.1 w.2 w.3 l.0, fits_at k f es after (omega (arith, l.1)))

pub room_kept : (g : Node → List ℕ) (es new : List (ℕ × Node)) (k : ℕ) (loose : List ℕ) (room : ℕ) → RisesFrom number_of 0 es → false ≡ wakes_at g (node_at es k)
    → new ≡ at_node k (λ n. woken (g n) n) es → HasRoom es loose room → HasRoom new loose room
room_kept g es new k loose room r h e l =
    let f : Node → Node = λ n. woken (g n) n in
    let same : (n : Node) → node_at es k ≡ Some n → (f n).waits ≡ n.waits =
    λ n p. ap (λ b. cond b true n.waits) (sym (ap (wakes_at g) p) ∙ sym h) in
    rw e (listed_same k f es loose r same l.0, fits_at k f es room l.1)

-- one that waited rests
pub room_rested : (es new : List (ℕ × Node)) (k : ℕ) (loose now : List ℕ) (room after : ℕ) → RisesFrom number_of 0 es → new ≡ at_node k rested es → loose ≡ now ++ k ∷ []
    → room ≤ after → HasRoom es loose room → HasRoom new now after
room_rested es new k loose now room after r e p o l =
    rw e (listed_less k rested es now r (λ n. refl) (rw p at l).0, fits_at k rested es after (omega (arith, l.1)))

-- a node more
pub room_added : (es new : List (ℕ × Node)) (k : ℕ) (n : Node) (loose now : List ℕ) (after : ℕ) → IsAbove number_of k es → n.waits ≡ true → new ≡ es ++ (k, n) ∷ []
    → now ≡ loose ++ k ∷ [] → length es + 1 ≤ after → AreListed es loose → HasRoom new now after
room_added es new k n loose now after a w e p o l = rw (e, p) (listed_push k n es loose a w l, omega (arith, length_push es (k, n)))

-- a node that doesn't wait is taken out
pub room_removed : (k : ℕ) (es new : List (ℕ × Node)) (loose : List ℕ) (room : ℕ) → RisesFrom number_of 0 es → waits_at es k ≡ false → new ≡ remove number_of k es
    → HasRoom es loose room → HasRoom new loose room
room_removed k es new loose room r w e l =
    rw e (listed_without k es loose r w l.0, omega (arith, length-remove number_of 0 k es r, l.1))
