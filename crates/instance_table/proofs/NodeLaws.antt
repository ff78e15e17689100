-- Entries of nodes by their numbers: what is found, and what an edit leaves.
use Rattle.std.proofs.Common.{◌≡◌, ℕ, zero, suc, ◌+◌, ◌<◌, Bool, true, false, cond, ◌==◌, List, [], ◌∷◌, ◌++◌, length, get_or, set, take, drop, Option, Some, None, IfSome, HoldsAt, refl, sym, ap, ◌∙◌, arith}
use Rattle.std.specs.Option.{option_map, option_to_list}
use Rattle.std.proofs.lemmas.Bool.Decides.{nat_tests}
use Rattle.lists.specs.Rising.{IsAbove, RisesFrom, find, remove}
use Rattle.lists.proofs.RisingLaws.{key_at, remove_missing}
use Rattle.trees.specs.declared.slot.Slot.{Slot}
use Rattle.trees.specs.Slots.{AreOwn, entries_in, entry_of, slot_number}
use Rattle.trees.proofs.SlotLaws.{entry_agrees, find_at_slot, find_no_slot, items_rise, length-taken, rises-set}
use Rattle.instance_table.specs.declared.node.Node.{Node}
use Rattle.instance_table.specs.Nodes.{at_node, at_slot, node_at, number_of}

-- an edit of a number below all changes nothing
pub at_none : (k low : ℕ) (f : Node → Node) (es : List (ℕ × Node)) → RisesFrom number_of low es → k < low → at_node k f es ≡ es
at_none k low f [] r h = refl
at_none k low f (e ∷ es) r h = grind (arith, nat_tests, r.0, at_none k (suc (e.0)) f es r.1)

-- where the number has no node an edit changes nothing
pub at_missing : (k : ℕ) (f : Node → Node) (es : List (ℕ × Node)) → find number_of k es ≡ None → at_node k f es ≡ es
at_missing k f [] h = refl
at_missing k f (e ∷ es) h = grind (arith, nat_tests, at_missing k f es)

pub rises_at : (k low : ℕ) (f : Node → Node) (es : List (ℕ × Node)) → RisesFrom number_of low es → RisesFrom number_of low (at_node k f es)
rises_at k low f [] r = tt
rises_at k low f (e ∷ es) r =
    let go : (b : Bool) → RisesFrom number_of low (cond b (e.0, f e.1) e ∷ at_node k f es)
    = elim [ true ↦ (r.0, rises_at k (suc (e.0)) f es r.1) | false ↦ (r.0, rises_at k (suc (e.0)) f es r.1) ] in
    go (e.0 == k)

at_same : (k : ℕ) (es : List (ℕ × Node)) → at_node k (λ n. n) es ≡ es
at_same k [] = refl
at_same k (e ∷ es) =
    let go : (b : Bool) → cond b (e.0, e.1) e ∷ at_node k (λ n. n) es ≡ e ∷ es = elim [ true ↦ ap (λ l. e ∷ l) (at_same k es) | false ↦ ap (λ l. e ∷ l) (at_same k es) ] in
    go (e.0 == k)

-- an edit that is made or not
pub at_if : (b : Bool) (k : ℕ) (f : Node → Node) (es : List (ℕ × Node)) → at_node k (λ n. cond b (f n) n) es ≡ cond b (at_node k f es) es
at_if true k f es = refl
at_if false k f es = at_same k es

-- ---- nodes in slots

own_entry : (n : ℕ) (o : Option Node) → IfSome {T = ℕ × Node} (option_map (λ (x : Node). (n, x)) o) (λ e. e.0 ≡ n)
own_entry n None = tt
own_entry n (Some x) = refl

pub entries_own : (ss : List (Slot Node)) → AreOwn entry_of number_of ss
entries_own [] = tt
entries_own (s ∷ ss) = (own_entry s.number s.item, entries_own ss)

-- the entries rise as their slots do
pub entries_rise : (low : ℕ) (ss : List (Slot Node)) → RisesFrom slot_number low ss → RisesFrom number_of low (entries_in ss)
entries_rise low ss r = items_rise entry_of entry_agrees number_of low ss r (entries_own ss)

-- the node of a slot is that of its number
pub slot_found : (n : ℕ) (ss : List (Slot Node)) (at : ℕ) (d : Slot Node) → RisesFrom slot_number 0 ss → at < length ss → slot_number (get_or ss at d) ≡ n → node_at (entries_in ss) n ≡ (get_or ss at d).item
slot_found n ss at d r l h = ap (option_map (λ e. e.1)) (find_at_slot entry_of entry_agrees number_of n ss at d r (entries_own ss) l h) ∙ again (get_or ss at d).item
  where
    again : (o : Option Node) → option_map (λ (e : ℕ × Node). e.1) (option_map (λ (x : Node). ((get_or ss at d).number, x)) o) ≡ o
    again None = refl
    again (Some x) = refl

-- a number without a slot has no node
pub slot_missing : (n : ℕ) (ss : List (Slot Node)) (at : ℕ) → RisesFrom slot_number 0 ss → IsAbove slot_number n (take at ss) → RisesFrom slot_number (suc n) (drop at ss) → find number_of n (entries_in ss) ≡ None
slot_missing n ss at r above below = find_no_slot entry_of entry_agrees number_of n ss at r (entries_own ss) above below

changed_here : (n number : ℕ) (f : Node → Node) (o : Option Node) (es : List (ℕ × Node)) → number ≡ n → RisesFrom number_of (suc number) es →
    option_to_list (option_map (λ (x : Node). (number, x)) (option_map f o)) ++ es ≡ at_node n f (option_to_list (option_map (λ (x : Node). (number, x)) o) ++ es)
changed_here n number f None es same rises = sym (at_none n (suc number) f es rises (omega (arith, same)))
changed_here n number f (Some x) es same rises = let rest = at_none n (suc number) f es rises (omega (arith, same)) in grind (arith, nat_tests, same, rest)

changed_there : (n number : ℕ) (f : Node → Node) (o : Option Node) (new es : List (ℕ × Node)) → number < n → new ≡ at_node n f es →
    option_to_list (option_map (λ (x : Node). (number, x)) o) ++ new ≡ at_node n f (option_to_list (option_map (λ (x : Node). (number, x)) o) ++ es)
changed_there n number f None new es less rest = rest
changed_there n number f (Some x) new es less rest = grind (arith, nat_tests, less, rest)

-- an edit of a slot is one of its node
pub slot_changed : (f : Node → Node) (low n : ℕ) (ss : List (Slot Node)) (at : ℕ) (d : Slot Node) → RisesFrom slot_number low ss → at < length ss → slot_number (get_or ss at d) ≡ n →
    entries_in (set ss at (at_slot f (get_or ss at d))) ≡ at_node n f (entries_in ss)
slot_changed f low n [] at d r l h = absurd (omega arith)
slot_changed f low n (s ∷ ss) zero d r l h = changed_here n s.number f s.item (entries_in ss) h (entries_rise (suc s.number) ss r.1)
slot_changed f low n (s ∷ ss) (suc at) d r l h =
    changed_there n s.number f s.item _ (entries_in ss) (omega (arith, h, key_at slot_number (suc s.number) ss at d r.1 (omega arith))) (slot_changed f (suc s.number) n ss at d r.1 (omega arith) h)

-- how many nodes there are stays
pub length_at : (k : ℕ) (f : Node → Node) (es : List (ℕ × Node)) → length (at_node k f es) ≡ length es
length_at k f [] = refl
length_at k f (e ∷ es) = ap suc (length_at k f es)

set_own : (ss : List (Slot Node)) (at : ℕ) (d : Slot Node) → set ss at (get_or ss at d) ≡ ss
set_own [] at d = refl
set_own (s ∷ ss) zero d = refl
set_own (s ∷ ss) (suc at) d = ap (λ l. s ∷ l) (set_own ss at d)

-- the slots after an edit of one, which is made or not
pub slots_edited : (b : Bool) (f : Node → Node) (n : ℕ) (ss : List (Slot Node)) (at : ℕ) (d new : Slot Node) (len : ℕ) → RisesFrom slot_number 0 ss → len ≡ length (entries_in ss) → at < length ss
    → HoldsAt (λ s. slot_number s ≡ n) ss at → d ≡ get_or ss at d → new ≡ cond b (at_slot f d) d
    → (RisesFrom slot_number 0 (set ss at new) × (len ≡ length (entries_in (set ss at new)))) × (entries_in (set ss at new) ≡ cond b (at_node n f (entries_in ss)) (entries_in ss))
slots_edited true f n ss at d new len rises count less here own is =
    let whole : new ≡ at_slot f (get_or ss at d) = is ∙ ap (at_slot f) own in
    let after : entries_in (set ss at new) ≡ at_node n f (entries_in ss) = ap (λ s. entries_in (set ss at s)) whole ∙ slot_changed f 0 n ss at d rises less (here d) in
    ((rises-set 0 ss at new d rises less (ap slot_number whole), count ∙ sym (ap length after ∙ length_at n f (entries_in ss))), after)
slots_edited false f n ss at d new len rises count less here own is =
    let same : set ss at new ≡ ss = ap (λ s. set ss at s) (is ∙ own) ∙ set_own ss at d in
    (rw same (rises, count), ap entries_in same)

-- ---- taking a node out

none_found : (o : Option (ℕ × Node)) → option_map (λ e. e.1) o ≡ None → o ≡ None
none_found None h = refl
none_found (Some e) h = cc

-- where there is no node nothing goes
pub remove_none : (k : ℕ) (es : List (ℕ × Node)) → node_at es k ≡ None → remove number_of k es ≡ es
remove_none k es h = remove_missing number_of k es (none_found (find number_of k es) h)

-- one goes
pub length_left : (k : ℕ) (es : List (ℕ × Node)) (n : Node) → RisesFrom number_of 0 es → node_at es k ≡ Some n → length (remove number_of k es) + 1 ≡ length es
length_left k es n rises h = go (find number_of k es) refl h
  where
    go : (o : Option (ℕ × Node)) → find number_of k es ≡ o → option_map (λ e. e.1) o ≡ Some n → length (remove number_of k es) + 1 ≡ length es
    go None is some = cc
    go (Some e) is some = length-taken entry_of entry_agrees number_of 0 k es e rises is

-- ---- slot by slot

-- the entries from a slot on: its own, and those behind it
pub entries_behind : (ss : List (Slot Node)) (at : ℕ) (s : Slot Node) → at < length ss → s ≡ get_or ss at s → entries_in (drop at ss) ≡ option_to_list (entry_of s) ++ entries_in (drop (at + 1) ss)
entries_behind [] at s l is = absurd (omega arith)
entries_behind (t ∷ ss) zero s l is = ap (λ u. option_to_list (entry_of u) ++ entries_in ss) (sym is)
entries_behind (t ∷ ss) (suc at) s l is = let next : suc at + 1 ≡ suc (at + 1) = omega arith in rw next (entries_behind ss at s (omega arith) is)
