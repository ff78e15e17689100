-- A walk in one list: the first of its numbers are seen, and the others wait.
use Rattle.std.proofs.Common.{◌≡◌, ◌∙◌, ℕ, zero, suc, ◌+◌, ◌<◌, ◌≤◌, Bool, true, false, cond, not, ◌&&◌, ◌||◌, ◌==◌, List, [], ◌∷◌, ◌++◌, length, drop, take, get_or, Some, None, refl, sym, ap, arith}
use Rattle.std.specs.List.{list_any, slice_get}
use Rattle.std.proofs.lemmas.Bool.Decides.{nat_tests}
use Rattle.std.proofs.lemmas.List.{drop_more, length_push, take-append-le, take_all, take_more}
use Rattle.std.proofs.lemmas.Option.{get_or_from_slice_get, slice_get_read, slice_get_within}
use Rattle.lists.specs.Rising.{RisesFrom}
use Rattle.lists.proofs.ListFacts.{past_end}
use Rattle.lists.proofs.Passing.{length-filter_less, length-filter_most, list_any-map, list_any_narrower}
use Rattle.lists.proofs.Tests.{both_ways, either_case}
use Rattle.state_model.specs.declared.row.Row.{Row}
use Rattle.state_model.specs.declared.row.RowEntry.{RowEntry}
use Rattle.state_model.specs.Reached.{is_among, reached}
use Rattle.state_model.specs.Rows.{held_in, is_live, number_of, row_at}
use Rattle.state_laws.proofs.Numbers.{among_both, keep_same, live_at}
use Rattle.state_laws.proofs.ReachedLaws.{reached_closed, reached_least, reached_start}
use Rattle.plain_rows.specs.Links.{held_at}
use Rattle.plain_rows.proofs.Walks.{row_held, held_row}
use Rattle.instance_table.specs.declared.node.Node.{Node}
use Rattle.instance_table.specs.Nodes.{entry_row, node_at, rows_in}
use Rattle.instance_table.specs.Table.{IsExact}
use Rattle.instance_table.specs.Ways.{AreFew, with_each}
use Rattle.instance_table.proofs.WayLaws.{holder_among}

-- ---- what a list has with others

pub among_each : (ns ms : List ℕ) (k : ℕ) → is_among k (with_each ns ms) ≡ (is_among k ns || is_among k ms)
among_each ns [] k = grind (arith, nat_tests)
among_each ns (m ∷ ms) k =
    let old = among_each ns ms k in
    let more = among_each (ns ++ m ∷ []) ms k in
    let go : (b : Bool) → is_among m ns ≡ b → is_among k (with_each (cond b ns (ns ++ m ∷ [])) ms) ≡ (is_among k ns || is_among k (m ∷ ms))
    = elim [
      | true ↦ λ there. grind (arith, nat_tests, keep_same (λ n. is_among n ns) m k)
      | false ↦ λ new. grind (arith, nat_tests, among_both ns (m ∷ []) k)
    ] in
    go (is_among m ns) refl

-- its first stay
take_each : (ns ms : List ℕ) (n : ℕ) → n ≤ length ns → take n (with_each ns ms) ≡ take n ns
take_each ns [] n h = refl
take_each ns (m ∷ ms) n h =
    let go : (b : Bool) → take n (with_each (cond b ns (ns ++ m ∷ [])) ms) ≡ take n ns
    = elim [
      | true ↦ take_each ns ms n h
      | false ↦ take_each (ns ++ m ∷ []) ms n (omega (arith, length_push ns m)) ∙ take-append-le n ns (m ∷ []) h
    ] in
    go (is_among m ns)

-- ---- no more than the nodes

-- a number more that a node has
pub few_more : (es : List (ℕ × Node)) (ns : List ℕ) (k : ℕ) → AreFew es ns → is_among k ns ≡ false → is_live (rows_in es) k ≡ true → AreFew es (ns ++ k ∷ []) × (length ns < length es)
few_more es ns k few new live =
    let test : ℕ × Node → Bool = λ e. not (is_among e.0 ns) && not (not (is_among e.0 (ns ++ k ∷ []))) in
    let here : list_any (λ (e : ℕ × Node). e.0 == k) es ≡ true = sym (list_any-map (λ (e : RowEntry). e.who == k) entry_row es) ∙ live in
    let there : list_any test es ≡ true = list_any_narrower (λ (e : ℕ × Node). e.0 == k) test es (λ e h. grind (arith, nat_tests, keep_same (λ n. is_among n ns) e.0 k, among_both ns (k ∷ []) e.0)) here in
    let less = length-filter_less (λ (e : ℕ × Node). not (is_among e.0 (ns ++ k ∷ []))) (λ e. not (is_among e.0 ns)) es (λ e h. grind (arith, nat_tests, among_both ns (k ∷ []) e.0)) there in
    (omega (arith, length_push ns k), omega arith)

-- one number that a node has
pub few_one : (es : List (ℕ × Node)) (k : ℕ) → is_live (rows_in es) k ≡ true → AreFew es (k ∷ []) × (0 < length es)
few_one es k live = few_more es [] k (omega (arith, length-filter_most (λ (e : ℕ × Node). not (is_among e.0 [])) es)) refl live

-- a holder has a node
pub holder_lives : (es : List (ℕ × Node)) (who h : ℕ) (n : Node) → IsExact es → node_at es who ≡ Some n → is_among h n.holders ≡ true → is_live (rows_in es) h ≡ true
holder_lives es who h n exact at among =
    let holds = held_row (rows_in es) h who (sym (holder_among es who h n exact at) ∙ among) in
    live_at (rows_in es) h holds.0 holds.1

-- a number of a list is among it
slice_among : (ns : List ℕ) (i n : ℕ) → slice_get ns i ≡ Some n → is_among n ns ≡ true
slice_among [] i n h = cc
slice_among (m ∷ ns) zero n h = grind (arith, nat_tests)
slice_among (m ∷ ns) (suc i) n h = grind (arith, nat_tests, slice_among ns i n h)

-- a holder that isn't there yet fits
pub holder_fits : (es : List (ℕ × Node)) (who i h : ℕ) (n : Node) (hs ns : List ℕ) → IsExact es → Some n ≡ node_at es who → hs ≡ n.holders → i < length hs → h ≡ get_or hs i h → AreFew es ns → is_among h ns ≡ false
    → AreFew es (ns ++ h ∷ []) × (length ns < length es)
holder_fits es who i h n hs ns exact at is within item few new =
    let among : is_among h n.holders ≡ true = ap (is_among h) (sym is) ∙ slice_among hs i h (slice_get_read hs (length hs) i h refl within item) in
    few_more es ns h few new (holder_lives es who h n exact (sym at) among)

-- one holder more
pub each_more : (ns hs : List ℕ) (i h : ℕ) (b : Bool) → i < length hs → h ≡ get_or hs i h → is_among h ns ≡ b → with_each (cond b ns (ns ++ h ∷ [])) (drop (i + 1) hs) ≡ with_each ns (drop i hs)
each_more ns hs i h b within item is =
    ap (λ c. with_each (cond c ns (ns ++ h ∷ [])) (drop (i + 1) hs)) (sym is)
    ∙ sym (ap (with_each ns) (drop_more hs i h within ∙ ap (λ n. n ∷ drop (i + 1) hs) (sym item)))

-- ---- the walk

-- from a start: what is found, the first so many seen
pub record IsWalked (rows : List RowEntry) (start : ℕ) (found : List ℕ) (at : ℕ) : Type 0 where
  pub first : is_among start found ≡ true
  pub within : (k : ℕ) → is_among k found ≡ true → is_among k (reached rows start) ≡ true
  pub closed : (a b : ℕ) (r : Row) → is_among a (take at found) ≡ true → row_at rows a ≡ Some r → is_among b (held_in r) ≡ true → is_among b found ≡ true

pub walked_none : (rows : List RowEntry) (start : ℕ) → IsWalked rows start (start ∷ []) 0
walked_none rows start = record {
  first = grind (arith, nat_tests);
  within = λ k h. let same : start ≡ k = grind (arith, nat_tests) in ap (λ n. is_among n (reached rows start)) (sym same) ∙ reached_start rows start;
  closed = λ a b r h s t. cc;
}

-- one more is seen
pub walked_on : (rows : List RowEntry) (start : ℕ) (found : List ℕ) (at who : ℕ) → RisesFrom number_of 0 rows → slice_get found at ≡ Some who → IsWalked rows start found at
    → IsWalked rows start (with_each found (held_at rows who)) (at + 1)
walked_on rows start found at who rise here w = record {
  first = among_each found (held_at rows who) start ∙ ap (λ b. b || is_among start (held_at rows who)) w.first;
  within = λ k h. either_case (is_among k found) (is_among k (held_at rows who)) (sym (among_each found (held_at rows who) k) ∙ h) (λ t. w.within k t)
      (λ t. let p = held_row rows who k t in reached_closed rows start who k p.0 rise (w.within who (slice_among found at who here)) p.1 p.2);
  closed = λ a b r h s t. among_each found (held_at rows who) b ∙ closed_on a b r (sym (seen a) ∙ h) s t;
}
  where
    within : at < length found
    within = slice_get_within found at who here

    seen : (a : ℕ) → is_among a (take (at + 1) (with_each found (held_at rows who))) ≡ (is_among a (take at found) || is_among a (who ∷ []))
    seen a =
        ap (is_among a) (take_each found (held_at rows who) (at + 1) (omega (arith, within))
        ∙ (take_more found at who within ∙ ap (λ n. take at found ++ n ∷ []) (get_or_from_slice_get found at who who here)))
        ∙ among_both (take at found) (who ∷ []) a

    closed_on : (a b : ℕ) (r : Row) → (is_among a (take at found) || is_among a (who ∷ [])) ≡ true → row_at rows a ≡ Some r → is_among b (held_in r) ≡ true → (is_among b found || is_among b (held_at rows who)) ≡ true
    closed_on a b r h s t =
        either_case (is_among a (take at found)) (is_among a (who ∷ [])) h
        (λ old. ap (λ c. c || is_among b (held_at rows who)) (w.closed a b r old s t))
        (λ new. let same : who ≡ a = grind (arith, nat_tests) in let held : is_among b (held_at rows who) ≡ true = ap (λ k. is_among b (held_at rows k)) same ∙ (ap (is_among b) (row_held rows a r s) ∙ t) in grind (arith, nat_tests))

-- where none is left, one more may as well be seen
pub walked_past : (rows : List RowEntry) (start : ℕ) (found : List ℕ) (at : ℕ) → slice_get found at ≡ None → IsWalked rows start found at → IsWalked rows start found (at + 1)
walked_past rows start found at none w = record {
  first = w.first;
  within = w.within;
  closed = λ a b r h s t. w.closed a b r (ap (is_among a) (take_all at found (past_end found at none) ∙ sym (take_all (at + 1) found (omega (arith, past_end found at none)))) ∙ h) s t;
}

-- where all are seen, what is found is what is reached
pub walked_all : (rows : List RowEntry) (start end : ℕ) (found : List ℕ) (at : ℕ) → RisesFrom number_of 0 rows → length found ≤ at → IsWalked rows start found at
    → is_among end found ≡ is_among end (reached rows start)
walked_all rows start end found at rise all w = both_ways (is_among end found) (is_among end (reached rows start)) (λ h. w.within end h)
    (λ h. reached_least rows start (λ n. is_among n found) rise w.first (λ a b r k s t. w.closed a b r (ap (is_among a) (take_all at found all) ∙ k) s t) end h)
