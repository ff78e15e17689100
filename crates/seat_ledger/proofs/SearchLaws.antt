-- A search among slots.
use Rattle.std.proofs.Common.{◌≡◌, ℕ, ◌+◌, ◌<◌, ◌≤◌, true, false, List, length, get_or, refl, sym, ◌∙◌, arith, Bool, Some}
use Rattle.std.specs.Prelude.{slice_get}
use Rattle.std.specs.List.{prefix_len}
use Rattle.std.proofs.lemmas.Option.{slice_get-get_or}
use Rattle.seat_ledger.specs.declared.slot.Slot.{Slot}
use Rattle.seat_ledger.specs.Slots.{precedes, IsSorted}
use Rattle.seat_ledger.specs.Search.{IsSearched}
use Rattle.seat_ledger.proofs.SlotLaws.{in_front, point_is}

pub all_open : (ss : List Slot) (x : Slot) (n : ℕ) → n ≡ length ss → IsSearched ss x 0 n
all_open ss x n h = record {
  order = omega arith;
  within = omega (arith, h);
  prefix = λ i d l. absurd (omega (arith, l));
  back = λ i d l k. absurd (omega (arith, h, l, k));
}

pub low_moved : (ss : List Slot) (x : Slot) (low high middle : ℕ) → IsSorted ss → IsSearched ss x low high → middle < high → ((s : Slot) → slice_get ss middle ≡ Some s → precedes s x ≡ true) → IsSearched ss x (middle + 1) high
low_moved ss x low high middle sorted is above before = record {
  order = omega (arith, above);
  within = is.within;
  prefix = λ i d l. in_front x ss sorted i middle d (omega (arith, l)) (omega (arith, above, is.within)) (before (get_or ss middle d) (slice_get-get_or ss middle d (omega (arith, above, is.within))));
  back = is.back;
}

-- what stands behind one that doesn't stand first doesn't either
behind_it : (ss : List Slot) (x : Slot) (middle i : ℕ) (d : Slot) (b : Bool) → IsSorted ss → middle ≤ i → i < length ss → precedes (get_or ss middle d) x ≡ false → precedes (get_or ss i d) x ≡ b → b ≡ false
behind_it ss x middle i d true sorted order within fails holds = absurd (let wrong : (let t : Bool = false in t) ≡ true = sym fails ∙ in_front x ss sorted middle i d order within holds in cc)
behind_it ss x middle i d false sorted order within fails holds = refl

pub high_moved : (ss : List Slot) (x : Slot) (low high middle : ℕ) → IsSorted ss → IsSearched ss x low high → low ≤ middle → middle < high → ((s : Slot) → slice_get ss middle ≡ Some s → precedes s x ≡ false) → IsSearched ss x low middle
high_moved ss x low high middle sorted is below above before = record {
  order = below;
  within = omega (arith, above, is.within);
  prefix = is.prefix;
  back = λ i d l k. behind_it ss x middle i d (precedes (get_or ss i d) x) sorted l k (before (get_or ss middle d) (slice_get-get_or ss middle d (omega (arith, l, k)))) refl;
}

pub searched : (ss : List Slot) (x : Slot) (low high : ℕ) → IsSearched ss x low high → high ≤ low → low ≡ prefix_len (λ s. precedes s x) ss
searched ss x low high is met =
    point_is (λ s. precedes s x) ss low (omega (arith, is.order, is.within, met)) (λ i d h l. is.prefix i d l, λ i d h l. is.back i d (omega (arith, met, h)) l)
