-- Rooms in slots: adding one, exchanging one for itself, and taking one out are those of rising lists.
use Rattle.std.proofs.Common.{◌≡◌, ℕ, zero, suc, ◌<◌, ◌≤◌, ◌==◌, Bool, true, false, cond, List, [], ◌∷◌, ◌++◌, Option, Some, None, refl, sym, ap, subst, ◌∙◌, arith, zero-le}
use Rattle.std.specs.List.{slice_get}
use Rattle.std.specs.Option.{IsSome, option_and_then, option_map, option_to_list}
use Rattle.std.specs.BTreeMap.{insert_entry, is_at}
use Rattle.std.specs.Map.{lookup, remove_entry, values_of}
use Rattle.std.specs.Ordering.{nat_cmp}
use Rattle.std.proofs.lemmas.Bool.Decides.{nat_tests}
use Rattle.slab.specs.Slab.{Slab, ContainsKey, get, with_value}
use Rattle.slab.proofs.SlabLemmas.{Updates-with_value}
use Rattle.lists.specs.Rising.{IsAbove, RisesFrom, find as find_by, put, remove}
use Rattle.lists.proofs.RisingLaws.{RisesFrom-put, RisesFrom-push, RisesFrom-remove, find-put, find-remove, find_above, find_below, put-last, remove_missing, same_rising}
use Rattle.hub_core.specs.declared.entry.RoomEntry.{RoomEntry}
use Rattle.hub_core.specs.RoomEntry.{serial_of}
use Rattle.hub_core.specs.Slots.{AreFilled, AreSlots, IsSlotOf, entry_number, in_slots}

-- ---- entries as rising lists

pub slot_at : (n : ℕ) (es : List (ℕ × ℕ)) → lookup (is_at (nat_cmp n)) es ≡ option_map (λ (e : ℕ × ℕ). e.1) (find_by entry_number n es)
slot_at n [] = refl
slot_at n (e ∷ es) = grind (arith, nat_tests, slot_at n es)

pub entries_put : (n k : ℕ) (es : List (ℕ × ℕ)) → insert_entry nat_cmp es n k ≡ put entry_number (n, k) es
entries_put n k [] = refl
entries_put n k (e ∷ es) = grind (arith, nat_tests, entries_put n k es)

pub entries_remove : (n low : ℕ) (es : List (ℕ × ℕ)) → RisesFrom entry_number low es → remove_entry (is_at (nat_cmp n)) es ≡ remove entry_number n es
entries_remove n low [] rises = refl
entries_remove n low (e ∷ es) rises =
    grind (arith, nat_tests, entries_remove n (suc e.0) es rises.1, remove_missing entry_number n es, find_below entry_number (suc e.0) es n rises.1)

-- what stands in each slot
abbrev Slot : Type 0 → Type 0
Slot R = ℕ → Option (RoomEntry R)

by_place : (P : ℕ → Type 0) (k j : ℕ) → (j ≡ k → P j) → ((j ≡ k → ⊥) → P j) → P j
by_place P k j same other =
    let go : (b : Bool) → (j == k) ≡ b → P j = elim [ true ↦ λ h. same (grind (arith, nat_tests, h)) | false ↦ λ h. other (λ e. absurd (grind (arith, nat_tests, h, e))) ] in go (j == k) refl

module _ {R : Type 0} where
  -- ---- a room is found by its number

  first_slot : (slot : Slot R) (e : ℕ × ℕ) (es : List (ℕ × ℕ)) (n : ℕ) (o : Option (RoomEntry R)) → slot e.1 ≡ o → option_map serial_of o ≡ Some e.0
      → find_by serial_of n (in_slots slot es) ≡ option_and_then slot (lookup (is_at (nat_cmp n)) es) → find_by serial_of n (option_to_list o ++ in_slots slot es) ≡ option_and_then slot (lookup (is_at (nat_cmp n)) (e ∷ es))
  first_slot slot e es n None is filled rest = absurd cc
  first_slot slot e es n (Some s) is filled rest = let number : s.serial ≡ e.0 = cc in grind (arith, nat_tests, number, rest, is)

  pub find_slot : (slot : Slot R) (es : List (ℕ × ℕ)) (n : ℕ) → AreFilled slot es → find_by serial_of n (in_slots slot es) ≡ option_and_then slot (lookup (is_at (nat_cmp n)) es)
  find_slot slot [] n filled = refl
  find_slot slot (e ∷ es) n filled = first_slot slot e es n (slot e.1) refl filled.0 (find_slot slot es n filled.1)

  first_rises : (e : ℕ × ℕ) (low : ℕ) (rest : List (RoomEntry R)) (o : Option (RoomEntry R)) → option_map serial_of o ≡ Some e.0 → low ≤ e.0 → RisesFrom serial_of (suc e.0) rest → RisesFrom serial_of low (option_to_list o ++ rest)
  first_rises e low rest None filled above rises = absurd cc
  first_rises e low rest (Some s) filled above rises =
      let number : s.serial ≡ e.0 = cc in (rw number above, subst (λ k. RisesFrom serial_of (suc k) rest) (sym number) rises)

  pub rises_slots : (slot : Slot R) (low : ℕ) (es : List (ℕ × ℕ)) → AreFilled slot es → RisesFrom entry_number low es → RisesFrom serial_of low (in_slots slot es)
  rises_slots slot low [] filled rises = tt
  rises_slots slot low (e ∷ es) filled rises = first_rises e low (in_slots slot es) (slot e.1) filled.0 rises.0 (rises_slots slot (suc e.0) es filled.1 rises.1)

  -- each entry's room is there
  pub filled_at : (slot : Slot R) (es : List (ℕ × ℕ)) (n k : ℕ) → AreFilled slot es → lookup (is_at (nat_cmp n)) es ≡ Some k → option_map serial_of (slot k) ≡ Some n
  filled_at slot [] n k filled at = absurd cc
  filled_at slot (e ∷ es) n k filled at = grind (arith, nat_tests, at, filled.0, filled_at slot es n k filled.1)

  -- the room in a slot is found by its number
  pub found_there : (slot : Slot R) (es : List (ℕ × ℕ)) (n k : ℕ) (s : RoomEntry R) → AreSlots slot es → slot k ≡ Some s → option_map serial_of (slot k) ≡ Some n → find_by serial_of n (in_slots slot es) ≡ Some s
  found_there slot es n k s are at number =
      let own : Some s.serial ≡ Some n = sym (ap (option_map serial_of) at) ∙ number in
      let one : s.serial ≡ n = cc in
      find_slot slot es n are.filled ∙ (ap (option_and_then slot) (subst (λ m. lookup (is_at (nat_cmp m)) es ≡ Some k) one (are.noted k s at)) ∙ at)

  -- where the entries lead is the slot of a number
  pub slot_by_entry : (slot : Slot R) (es : List (ℕ × ℕ)) (n : ℕ) (o : Option ℕ) → AreSlots slot es → o ≡ lookup (is_at (nat_cmp n)) es → IsSlotOf slot es n o
  slot_by_entry slot es n None are is = find_slot slot es n are.filled ∙ ap (option_and_then slot) (sym is)
  slot_by_entry slot es n (Some k) are is = filled_at slot es n k are.filled (sym is)

  -- the room of a place
  pub nth_slot : (slot : Slot R) (es : List (ℕ × ℕ)) (n : ℕ) → AreFilled slot es → slice_get (in_slots slot es) n ≡ option_and_then slot (slice_get (values_of es) n)
  nth_slot slot [] n filled = refl
  nth_slot slot (e ∷ es) n filled = by_first (slot e.1) refl filled.0 (λ m. nth_slot slot es m filled.1) n
    where
      by_first : (o : Option (RoomEntry R)) → slot e.1 ≡ o → option_map serial_of o ≡ Some e.0 → ((m : ℕ) → slice_get (in_slots slot es) m ≡ option_and_then slot (slice_get (values_of es) m)) → (m : ℕ)
          → slice_get (option_to_list o ++ in_slots slot es) m ≡ option_and_then slot (slice_get (values_of (e ∷ es)) m)
      by_first None is own rest m = absurd cc
      by_first (Some s) is own rest zero = sym is
      by_first (Some s) is own rest (suc m) = rest m

  -- ---- slots that keep what entries need

  pub filled_same : (slot now : Slot R) (es : List (ℕ × ℕ)) → ((k : ℕ) (n : ℕ) → option_map serial_of (slot k) ≡ Some n → option_map serial_of (now k) ≡ Some n) → AreFilled slot es → AreFilled now es
  filled_same slot now [] keeps filled = tt
  filled_same slot now (e ∷ es) keeps filled = (keeps e.1 e.0 filled.0, filled_same slot now es keeps filled.1)

  pub slots_same : (slot now : Slot R) (es : List (ℕ × ℕ)) → ((k : ℕ) (s : RoomEntry R) → slot k ≡ Some s → now k ≡ Some s) → AreFilled slot es → in_slots now es ≡ in_slots slot es
  slots_same slot now [] keeps filled = refl
  slots_same slot now (e ∷ es) keeps filled = by_first (slot e.1) refl filled.0 (slots_same slot now es keeps filled.1)
    where
      by_first : (o : Option (RoomEntry R)) → slot e.1 ≡ o → option_map serial_of o ≡ Some e.0 → in_slots now es ≡ in_slots slot es → option_to_list (now e.1) ++ in_slots now es ≡ option_to_list (slot e.1) ++ in_slots slot es
      by_first None is filled rest = absurd cc
      by_first (Some s) is filled rest = (let own : now e.1 ≡ Some s = keeps e.1 s is in rw (own, is, rest) refl)

  -- ---- a slot that changes

  -- one slot has this; the others keep theirs
  pub record IsSet (slot now : Slot R) (k : ℕ) (o : Option (RoomEntry R)) : Type 0 where
    pub here : now k ≡ o
    pub others : (j : ℕ) → (j ≡ k → ⊥) → now j ≡ slot j

  -- an empty slot is filled
  module _ (slot now : Slot R) (k : ℕ) (x : RoomEntry R) (es : List (ℕ × ℕ)) (are : AreSlots slot es) (empty : slot k ≡ None) (set : IsSet slot now k (Some x)) where
    pub kept_filled : (j : ℕ) (s : RoomEntry R) → slot j ≡ Some s → now j ≡ Some s
    kept_filled j s at = set.others j (λ e. let there : slot k ≡ Some s = subst (λ i. slot i ≡ Some s) e at in cc) ∙ at

    numbers_filled : (j n : ℕ) → option_map serial_of (slot j) ≡ Some n → option_map serial_of (now j) ≡ Some n
    numbers_filled j n at = by_slot (slot j) refl at
      where
        by_slot : (o : Option (RoomEntry R)) → slot j ≡ o → option_map serial_of o ≡ Some n → option_map serial_of (now j) ≡ Some n
        by_slot None is h = absurd cc
        by_slot (Some s) is h = ap (option_map serial_of) (kept_filled j s is) ∙ h

    pub slots_filled : in_slots now es ≡ in_slots slot es
    slots_filled = slots_same slot now es kept_filled are.filled

    module _ (above : IsAbove serial_of x.serial (in_slots slot es)) where
      no_number : (low : ℕ) (fs : List (ℕ × ℕ)) → AreFilled slot fs → IsAbove serial_of x.serial (in_slots slot fs) → IsAbove entry_number x.serial fs
      no_number low [] filled over = tt
      no_number low (e ∷ fs) filled over = by_first (slot e.1) filled.0 (no_number low fs filled.1) over
        where
          by_first : (o : Option (RoomEntry R)) → option_map serial_of o ≡ Some e.0 → (IsAbove serial_of x.serial (in_slots slot fs) → IsAbove entry_number x.serial fs)
              → IsAbove serial_of x.serial (option_to_list o ++ in_slots slot fs) → IsAbove entry_number x.serial (e ∷ fs)
          by_first None h rest over = absurd cc
          by_first (Some s) h rest over = (let number : s.serial ≡ e.0 = cc in (subst (λ n. n < x.serial) number over.0, rest over.1))

      new_last : insert_entry nat_cmp es x.serial k ≡ es ++ (x.serial, k) ∷ []
      new_last = entries_put x.serial k es ∙ put-last entry_number (x.serial, k) es (no_number 0 es are.filled above)

      last_slot : (fs : List (ℕ × ℕ)) → in_slots now (fs ++ (x.serial, k) ∷ []) ≡ in_slots now fs ++ x ∷ []
      last_slot [] = rw set.here refl
      last_slot (e ∷ fs) = ap (λ l. option_to_list (now e.1) ++ l) (last_slot fs) ∙ sym (joined (now e.1))
        where
          joined : (o : Option (RoomEntry R)) → (option_to_list o ++ in_slots now fs) ++ x ∷ [] ≡ option_to_list o ++ (in_slots now fs ++ x ∷ [])
          joined None = refl
          joined (Some s) = refl

      filled_last : (fs : List (ℕ × ℕ)) → AreFilled now fs → AreFilled now (fs ++ (x.serial, k) ∷ [])
      filled_last [] filled = (ap (option_map serial_of) set.here, tt)
      filled_last (e ∷ fs) filled = (filled.0, filled_last fs filled.1)

      pub pushed_slots : in_slots now (insert_entry nat_cmp es x.serial k) ≡ in_slots slot es ++ x ∷ []
      pushed_slots = ap (in_slots now) new_last ∙ last_slot es ∙ ap (λ l. l ++ x ∷ []) slots_filled

      pub pushed_are : AreSlots now (insert_entry nat_cmp es x.serial k)
      pushed_are = record {
        rises = rw (entries_put x.serial k es, put-last entry_number (x.serial, k) es (no_number 0 es are.filled above)) (RisesFrom-push entry_number 0 es (x.serial, k) are.rises (no_number 0 es are.filled above) zero-le);
        filled = rw new_last (filled_last es (filled_same slot now es numbers_filled are.filled));
        noted = λ j s at. slot_at s.serial (insert_entry nat_cmp es x.serial k)
            ∙ ap (option_map (λ (e : ℕ × ℕ). e.1)) (ap (find_by entry_number s.serial) (entries_put x.serial k es) ∙ find-put entry_number (x.serial, k) es s.serial)
            ∙ by_place (λ i. now i ≡ Some s → option_map (λ (e : ℕ × ℕ). e.1) (cond (x.serial == s.serial) (Some (x.serial, k)) (find_by entry_number s.serial es)) ≡ Some i) k j
            (λ e own. let one : x ≡ s = (let there : now k ≡ Some s = subst (λ i. now i ≡ Some s) e own in let h = set.here in cc) in
            let number : (x.serial == s.serial) ≡ true = (let n : x.serial ≡ s.serial = ap serial_of one in grind (arith, nat_tests, n)) in rw (number, e) refl)
            (λ other own. let was : slot j ≡ Some s = sym (set.others j other) ∙ own in
            let there : lookup (is_at (nat_cmp s.serial)) es ≡ Some j = are.noted j s was in
            let found : option_map (λ (e : ℕ × ℕ). e.1) (find_by entry_number s.serial es) ≡ Some j = sym (slot_at s.serial es) ∙ there in
            let none = find_above entry_number x.serial es s.serial (no_number 0 es are.filled above) in
            grind (arith, nat_tests, found, none)) at;
      }

    -- it is emptied again
    pub undone_are : (back : Slot R) → IsSet now back k None → AreSlots back es × (in_slots back es ≡ in_slots slot es)
    undone_are back out = (
      record {
        rises = are.rises;
        filled = filled_same slot back es (λ j n at. by_slot (slot j) refl at) are.filled;
        noted = λ j s at. are.noted j s (by_place (λ i. back i ≡ Some s → slot i ≡ Some s) k j (λ e own. absurd (let there : back k ≡ Some s = subst (λ i. back i ≡ Some s) e own in let none = out.here in cc))
            (λ other own. sym (set.others j other) ∙ (sym (out.others j other) ∙ own)) at);
      },
      slots_same slot back es kept are.filled,
    )
      where
        kept : (j : ℕ) (s : RoomEntry R) → slot j ≡ Some s → back j ≡ Some s
        kept j s at = (let apart : j ≡ k → ⊥ = λ e. (let there : slot k ≡ Some s = subst (λ i. slot i ≡ Some s) e at in cc) in out.others j apart ∙ (set.others j apart ∙ at))

        by_slot : {j n : ℕ} (o : Option (RoomEntry R)) → slot j ≡ o → option_map serial_of o ≡ Some n → option_map serial_of (back j) ≡ Some n
        by_slot None is h = absurd cc
        by_slot {j} {n} (Some s) is h = ap (option_map serial_of) (kept j s is) ∙ h

  -- a room is exchanged for one of its number
  module _ (slot now : Slot R) (k : ℕ) (s t : RoomEntry R) (es : List (ℕ × ℕ)) (are : AreSlots slot es) (was : slot k ≡ Some s) (same : t.serial ≡ s.serial) (set : IsSet slot now k (Some t)) where
    numbers_set : (j n : ℕ) → option_map serial_of (slot j) ≡ Some n → option_map serial_of (now j) ≡ Some n
    numbers_set j n at =
        by_place (λ i. option_map serial_of (slot i) ≡ Some n → option_map serial_of (now i) ≡ Some n) k j
        (λ e own. let there : option_map serial_of (slot k) ≡ Some n = subst (λ i. option_map serial_of (slot i) ≡ Some n) e own in
        let number : Some s.serial ≡ Some n = sym (ap (option_map serial_of) was) ∙ there in
        ap (λ i. option_map serial_of (now i)) e ∙ (ap (option_map serial_of) set.here ∙ (ap Some same ∙ number)))
        (λ other own. ap (option_map serial_of) (set.others j other) ∙ own) at

    pub set_are : AreSlots now es
    set_are = record {
      rises = are.rises;
      filled = filled_same slot now es numbers_set are.filled;
      noted = λ j x at.
          by_place (λ i. now i ≡ Some x → lookup (is_at (nat_cmp x.serial)) es ≡ Some i) k j
          (λ e own. let there : now k ≡ Some x = subst (λ i. now i ≡ Some x) e own in
          let one : t ≡ x = (let h = set.here in cc) in
          let number : x.serial ≡ s.serial = sym (ap serial_of one) ∙ same in
          rw (number, e) (are.noted k s was))
          (λ other own. are.noted j x (sym (set.others j other) ∙ own)) at;
    }

    pub found_set : find_by serial_of s.serial (in_slots slot es) ≡ Some s
    found_set = find_slot slot es s.serial are.filled ∙ (ap (option_and_then slot) (are.noted k s was) ∙ was)

    pub set_found : (n : ℕ) → s.serial ≡ n → find_by serial_of n (in_slots now es) ≡ Some t
    set_found n one = find_slot now es n set_are.filled ∙ (ap (option_and_then now) (subst (λ m. lookup (is_at (nat_cmp m)) es ≡ Some k) one (are.noted k s was)) ∙ set.here)

    find_set : (n : ℕ) → find_by serial_of n (in_slots now es) ≡ find_by serial_of n (put serial_of t (in_slots slot es))
    find_set n = find_slot now es n set_are.filled ∙ (by_found (lookup (is_at (nat_cmp n)) es) refl ∙ sym (find-put serial_of t (in_slots slot es) n ∙ ap (cond (t.serial == n) (Some t)) (find_slot slot es n are.filled)))
      where
        by_found : (o : Option ℕ) → lookup (is_at (nat_cmp n)) es ≡ o → option_and_then now o ≡ cond (t.serial == n) (Some t) (option_and_then slot o)
        by_found None none =
            let apart : (b : Bool) → (t.serial == n) ≡ b → None ≡ cond b (Some t) None = elim [
              | true ↦ λ h. absurd (let number : s.serial ≡ n = (let k : t.serial ≡ n = grind (arith, nat_tests, h) in sym same ∙ k) in let there = are.noted k s was in
                  let lost : lookup (is_at (nat_cmp n)) es ≡ Some k = subst (λ m. lookup (is_at (nat_cmp m)) es ≡ Some k) number there in cc)
              | false ↦ λ h. refl
            ] in apart (t.serial == n) refl
        by_found (Some j) at =
            let number : option_map serial_of (slot j) ≡ Some n = filled_at slot es n j are.filled at in
            by_place (λ i. option_map serial_of (slot i) ≡ Some n → now i ≡ cond (t.serial == n) (Some t) (slot i)) k j
            (λ e own. let there : Some s.serial ≡ Some n = sym (ap (option_map serial_of) was) ∙ subst (λ i. option_map serial_of (slot i) ≡ Some n) e own in
            let here : (t.serial == n) ≡ true = (let m : s.serial ≡ n = cc in grind (arith, nat_tests, m, same)) in
            ap now e ∙ (set.here ∙ sym (ap (λ b. cond b (Some t) (slot j)) here)))
            (λ other own. let apart : (t.serial == n) ≡ false = elsewhere (t.serial == n) refl other own in set.others j other ∙ sym (ap (λ b. cond b (Some t) (slot j)) apart)) number
          where
            elsewhere : (b : Bool) → (t.serial == n) ≡ b → (j ≡ k → ⊥) → option_map serial_of (slot j) ≡ Some n → b ≡ false
            elsewhere true h other own = absurd (
                let m : s.serial ≡ n = (let q : t.serial ≡ n = grind (arith, nat_tests, h) in sym same ∙ q) in
                let there : lookup (is_at (nat_cmp n)) es ≡ Some k = subst (λ m. lookup (is_at (nat_cmp m)) es ≡ Some k) m (are.noted k s was) in
                other (let one : Some j ≡ Some k = sym at ∙ there in cc))
            elsewhere false h other own = refl

    pub set_slots : in_slots now es ≡ put serial_of t (in_slots slot es)
    set_slots =
        same_rising serial_of 0 0 (in_slots now es) (put serial_of t (in_slots slot es)) (rises_slots now 0 es set_are.filled are.rises)
        (RisesFrom-put serial_of 0 t (in_slots slot es) (rises_slots slot 0 es are.filled are.rises) zero-le) find_set

  -- a write to a slot that isn't empty
  module _ (s : Slab (RoomEntry R)) (es : List (ℕ × ℕ)) (n k : ℕ) (x t : RoomEntry R) where
    pub record IsWritten : Type 0 where
      pub there : find_by serial_of n (in_slots (get s) es) ≡ Some x
      pub are : AreSlots (get (with_value s k t)) es
      pub now : find_by serial_of n (in_slots (get (with_value s k t)) es) ≡ Some t
      pub rooms : in_slots (get (with_value s k t)) es ≡ put serial_of t (in_slots (get s) es)

    pub written : AreSlots (get s) es → option_map serial_of (get s k) ≡ Some n → get s k ≡ Some x → t.serial ≡ x.serial → IsWritten
    written are number at same =
        let present : ContainsKey s k = subst IsSome (sym at) refl in
        let updates = Updates-with_value s k t present in
        let set : IsSet (get s) (get (with_value s k t)) k (Some t) = record { here = updates.changed; others = updates.others } in
        let own : Some x.serial ≡ Some n = sym (ap (option_map serial_of) at) ∙ number in
        record {
          there = found_there (get s) es n k x are at number;
          are = set_are (get s) (get (with_value s k t)) k x t es are at same set;
          now = set_found (get s) (get (with_value s k t)) k x t es are at same set n (let one : x.serial ≡ n = cc in one);
          rooms = set_slots (get s) (get (with_value s k t)) k x t es are at same set;
        }

  -- a room is taken out
  module _ (slot now : Slot R) (k : ℕ) (n : ℕ) (es : List (ℕ × ℕ)) (are : AreSlots slot es) (at : lookup (is_at (nat_cmp n)) es ≡ Some k) (set : IsSet slot now k None) where
    abbrev fs : List (ℕ × ℕ)
    fs = remove_entry (is_at (nat_cmp n)) es

    left : fs ≡ remove entry_number n es
    left = entries_remove n 0 es are.rises

    own_number : option_map serial_of (slot k) ≡ Some n
    own_number = filled_at slot es n k are.filled at

    filled_left : (gs : List (ℕ × ℕ)) → AreFilled slot gs → AreFilled now (remove entry_number n gs)
    filled_left [] filled = tt
    filled_left (e ∷ gs) filled = by_first (e.0 == n) refl (filled_left gs filled.1)
      where
        by_first : (b : Bool) → (e.0 == n) ≡ b → AreFilled now (remove entry_number n gs) → AreFilled now (remove entry_number n (e ∷ gs))
        by_first true here rest = rw here rest
        by_first false other rest =
            let apart : e.1 ≡ k → ⊥ = λ one. (let there : option_map serial_of (slot k) ≡ Some e.0 = subst (λ i. option_map serial_of (slot i) ≡ Some e.0) one filled.0 in
            let number : Some n ≡ Some e.0 = sym own_number ∙ there in let m : n ≡ e.0 = cc in grind (arith, nat_tests, other, m)) in
            rw other (ap (option_map serial_of) (set.others e.1 apart) ∙ filled.0, rest)

    slot_left : (m : ℕ) → lookup (is_at (nat_cmp m)) fs ≡ cond (n == m) None (lookup (is_at (nat_cmp m)) es)
    slot_left m =
        slot_at m fs ∙ (ap (λ gs. option_map (λ (e : ℕ × ℕ). e.1) (find_by entry_number m gs)) left
        ∙ (ap (option_map (λ (e : ℕ × ℕ). e.1)) (find-remove entry_number n es m) ∙ by_test (n == m) ∙ sym (ap (cond (n == m) None) (slot_at m es))))
      where
        by_test : (b : Bool) → option_map (λ (e : ℕ × ℕ). e.1) (cond b None (find_by entry_number m es)) ≡ cond b None (option_map (λ (e : ℕ × ℕ). e.1) (find_by entry_number m es))
        by_test true = refl
        by_test false = refl

    pub removed_are : AreSlots now fs
    removed_are = record {
      rises = rw left (RisesFrom-remove entry_number 0 n es are.rises);
      filled = rw left (filled_left es are.filled);
      noted = λ j x own.
          by_place (λ i. now i ≡ Some x → lookup (is_at (nat_cmp x.serial)) fs ≡ Some i) k j
          (λ e is. absurd (let there : now k ≡ Some x = subst (λ i. now i ≡ Some x) e is in let none = set.here in cc))
          (λ other is. let was : slot j ≡ Some x = sym (set.others j other) ∙ is in
          let there : lookup (is_at (nat_cmp x.serial)) es ≡ Some j = are.noted j x was in
          let apart : (n == x.serial) ≡ false = elsewhere j x there other (n == x.serial) refl in
          slot_left x.serial ∙ (ap (λ b. cond b None (lookup (is_at (nat_cmp x.serial)) es)) apart ∙ there)) own;
    }
      where
        elsewhere : (j : ℕ) (x : RoomEntry R) → lookup (is_at (nat_cmp x.serial)) es ≡ Some j → (j ≡ k → ⊥) → (b : Bool) → (n == x.serial) ≡ b → b ≡ false
        elsewhere j x there other true h = absurd (
            let m : n ≡ x.serial = grind (arith, nat_tests, h) in
            other (let one : Some j ≡ Some k = sym there ∙ subst (λ i. lookup (is_at (nat_cmp i)) es ≡ Some k) m at in cc))
        elsewhere j x there other false h = refl

    pub removed_slots : in_slots now fs ≡ remove serial_of n (in_slots slot es)
    removed_slots =
        same_rising serial_of 0 0 (in_slots now fs) (remove serial_of n (in_slots slot es)) (rises_slots now 0 fs removed_are.filled removed_are.rises)
        (RisesFrom-remove serial_of 0 n (in_slots slot es) (rises_slots slot 0 es are.filled are.rises)) find_left
      where
        by_found : (m : ℕ) (b : Bool) → (n == m) ≡ b → (o : Option ℕ) → lookup (is_at (nat_cmp m)) es ≡ o → option_and_then now (cond b None o) ≡ cond b None (option_and_then slot o)
        by_found m true here o is = refl
        by_found m false other None is = refl
        by_found m false other (Some j) is = set.others j (λ e. let there : lookup (is_at (nat_cmp m)) es ≡ Some k = subst (λ i. lookup (is_at (nat_cmp m)) es ≡ Some i) e is in
            let mine = own_number in let others_own = filled_at slot es m k are.filled there in let one : Some n ≡ Some m = sym mine ∙ others_own in let k : n ≡ m = cc in grind (arith, nat_tests, other, k))

        find_left : (m : ℕ) → find_by serial_of m (in_slots now fs) ≡ find_by serial_of m (remove serial_of n (in_slots slot es))
        find_left m =
            find_slot now fs m removed_are.filled ∙ (ap (option_and_then now) (slot_left m) ∙ (by_found m (n == m) refl (lookup (is_at (nat_cmp m)) es) refl
            ∙ (ap (cond (n == m) None) (sym (find_slot slot es m are.filled)) ∙ sym (find-remove serial_of n (in_slots slot es) m))))

    pub removed_found : slot k ≡ find_by serial_of n (in_slots slot es)
    removed_found = sym (find_slot slot es n are.filled ∙ ap (option_and_then slot) at)
