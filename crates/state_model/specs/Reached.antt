-- What rows hold, step by step: reached rows, cycles, and rows that nothing holds. Ours.
use Rattle.std.specs.Prelude.{◌≡◌, ℕ, zero, suc, Bool, false, ◌||◌, List, [], ◌∷◌, length, filter, ◌==◌}
use Rattle.std.specs.List.{flat_map, list_any}
use Rattle.lists.specs.Rising as rising
use Rattle.state_model.specs.declared.row.RowEntry.{RowEntry}
use Rattle.state_model.specs.Rows.{held_in, rows_of}

-- a step taken so many times
abbrev pub times : {A : Type 0} → ℕ → (A → A) → A → A
times zero step a = a
times (suc n) step a = times n step (step a)

-- a number is among these
abbrev pub is_among : ℕ → List ℕ → Bool
is_among n ns = list_any (λ m. m == n) ns

-- the numbers with one more, rising, where they rise
abbrev pub with_number : List ℕ → ℕ → List ℕ
with_number ns n = rising.put (λ m. m) n ns

-- the numbers with all of these
abbrev pub with_numbers : List ℕ → List ℕ → List ℕ
with_numbers ns [] = ns
with_numbers ns (m ∷ ms) = with_numbers (with_number ns m) ms

-- the numbers that rows hold
abbrev pub all_held : List RowEntry → List ℕ
all_held rows = flat_map (λ (e : RowEntry). held_in e.row) rows

-- the numbers, and those that their rows hold
abbrev pub grown : List RowEntry → List ℕ → List ℕ
grown rows ns = with_numbers ns (all_held (rows_of ns rows))

-- the number, and every number that places lead to from it, rising
abbrev pub reached : List RowEntry → ℕ → List ℕ
reached rows from = times (length rows) (grown rows) (from ∷ [])

-- to put a link to one row into another makes a cycle: the other is reached from it
abbrev pub makes_cycle : List RowEntry → ℕ → ℕ → Bool
makes_cycle rows holder linked = is_among holder (reached rows linked)

-- a row holds one from which it is reached
abbrev pub is_in_cycle : List RowEntry → RowEntry → Bool
is_in_cycle rows e = list_any (λ n. is_among e.who (reached rows n)) (held_in e.row)

-- no row reaches itself through a place
abbrev pub HasNoCycle : List RowEntry → Type 0
HasNoCycle rows = list_any (is_in_cycle rows) rows ≡ false

-- the rows without those other than 0 that no row holds
abbrev pub swept_once : List RowEntry → List RowEntry
swept_once rows = filter (λ (e : RowEntry). (e.who == 0) || is_among e.who (all_held rows)) rows

-- the same, as often as needed
abbrev pub freed : List RowEntry → List RowEntry
freed rows = times (length rows) swept_once rows
