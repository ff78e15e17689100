-- Lists of holders: they rise, and one that holds in several places stands as often.
use Rattle.std.specs.Prelude.{ℕ, ◌≤◌, Bool, false, Option, Some, None, List, [], ◌∷◌, filter, map, nat_le, ◌==◌, if◌then◌else◌}
use Rattle.std.specs.List.{flat_map}
use Rattle.state_model.specs.declared.row.RowEntry.{RowEntry}
use Rattle.state_model.specs.Rows.{held_in}

-- the numbers rise from this one on, with repeats
abbrev pub AscendsFrom : ℕ → List ℕ → Type 0
AscendsFrom low [] = Unit {0}
AscendsFrom low (n ∷ ns) = (low ≤ n) × AscendsFrom n ns

-- a number is the holder
abbrev pub is_holder : ℕ → Option ℕ → Bool
is_holder h None = false
is_holder h (Some n) = n == h

-- the numbers with one more, behind its equals
abbrev pub with_holder : ℕ → List ℕ → List ℕ
with_holder h [] = h ∷ []
with_holder h (n ∷ ns) = if nat_le n h then n ∷ with_holder h ns else h ∷ n ∷ ns

-- the numbers without the first that is this one
abbrev pub without_one : ℕ → List ℕ → List ℕ
without_one h [] = []
without_one h (n ∷ ns) = if n == h then ns else n ∷ without_one h ns

-- the holders of the places of a row that hold a number: the row's number, as often
abbrev pub holders_in : ℕ → RowEntry → List ℕ
holders_in who e = map (λ m. e.who) (filter (λ m. m == who) (held_in e.row))

-- the holder of each place that holds a number, rising by holder, and then as its places stand
abbrev pub holders_of : List RowEntry → ℕ → List ℕ
holders_of rows who = flat_map (holders_in who) rows
