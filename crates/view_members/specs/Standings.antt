-- How pairs stand, by their ranks, and the members that this comes to.
use Rattle.std.specs.Prelude.{ℕ, ◌+◌, ◌/◌, ◌%◌, ◌^◌, ◌≡◌, ◌≤◌, ◌<◌, ◌==◌, Bool, true, false, cond, not, ◌&&◌, List, [], ◌∷◌, length, map, filter, Option, Some, None, Result, Ok, Err, is_none, is_some, nat_le, pos, ◌-ℤ◌}
use Rattle.std.specs.List.{list_any}
use Rattle.std.specs.Int.{w16}
use Rattle.std.specs.Int.RustNames.{FitsSigned}
use Rattle.std.specs.Option.{option_map}
use Rattle.lists.specs.Rising.{RisesFrom, IsAbove, find, put, remove}
use Rattle.schema_model.specs.declared.place.Pair.{Pair}
use Rattle.state_model.specs.Members.{Members, pair_rank}
use Rattle.view_members.specs.declared.fault.MemberFault.{MemberFault}
use Rattle.view_members.specs.declared.fault.MemberFault.TheVariants.{ViewFull, Memory}
use Rattle.view_members.specs.declared.standing.Standing.{Standing}
use Rattle.view_members.specs.declared.standing.Standing.TheVariants.{Stays, Came, Left, Passed, Spare}

-- ranks that rise, and how many they have room for
pub record RanksState : Type 0 where
  pub numbers : List ℕ
  pub room : ℕ

-- a number by itself
abbrev pub itself : ℕ → ℕ
itself n = n

-- a member now
abbrev pub is_now : Standing → Bool
is_now Stays = true
is_now Came = true
is_now Left = false
is_now Passed = false
is_now Spare = false

-- a member at the last tick
abbrev pub is_last : Standing → Bool
is_last Stays = true
is_last Came = false
is_last Left = true
is_last Passed = false
is_last Spare = false

-- a member at some time since then
abbrev pub is_kept : Standing → Bool
is_kept Stays = true
is_kept Came = true
is_kept Left = true
is_kept Passed = true
is_kept Spare = false

-- a member at exactly one of both times
abbrev pub is_changed : Standing → Bool
is_changed Stays = false
is_changed Came = true
is_changed Left = true
is_changed Passed = false
is_changed Spare = false

-- a member in between alone
abbrev pub is_passed : Standing → Bool
is_passed Stays = false
is_passed Came = false
is_passed Left = false
is_passed Passed = true
is_passed Spare = false

-- room alone
abbrev pub is_spare : Standing → Bool
is_spare Stays = false
is_spare Came = false
is_spare Left = false
is_spare Passed = false
is_spare Spare = true

-- any standing
abbrev pub is_any : Standing → Bool
is_any s = true

-- after the pair is added
abbrev pub after_coming : Standing → Standing
after_coming Stays = Stays
after_coming Came = Came
after_coming Left = Stays
after_coming Passed = Came
after_coming Spare = Came

-- after it is taken out
abbrev pub after_leaving : Standing → Standing
after_leaving Stays = Left
after_leaving Came = Passed
after_leaving Left = Left
after_leaving Passed = Passed
after_leaving Spare = Spare

-- the rank of an entry
abbrev pub entry_rank : ℕ × Standing → ℕ
entry_rank e = e.0

-- the entries rise, and their ranks are of pairs
abbrev pub IsKept : List (ℕ × Standing) → Type 0
IsKept es = RisesFrom entry_rank 0 es × IsAbove entry_rank (2 ^ 48) es

-- how the pair of a rank stands
abbrev pub standing_of : ℕ → List (ℕ × Standing) → Option Standing
standing_of r es = option_map (λ (e : ℕ × Standing). e.1) (find entry_rank r es)

-- the first rank that isn't below this one
abbrev pub first_from : ℕ → List (ℕ × Standing) → Option ℕ
first_from r [] = None
first_from r (e ∷ es) = cond (nat_le r e.0) (Some e.0) (first_from r es)

-- the ranks of the entries that pass
abbrev pub ranks_of : (Standing → Bool) → List (ℕ × Standing) → List ℕ
ranks_of test es = map entry_rank (filter (λ (e : ℕ × Standing). test e.1) es)

-- the pair of a rank
abbrev pub pair_of_rank : ℕ → Pair
pair_of_rank r = record { who = r / 65536; tag = pos (r % 65536) -ℤ pos 32768 }

-- the pairs of the entries that pass
abbrev pub pairs_of : (Standing → Bool) → List (ℕ × Standing) → List Pair
pairs_of test es = map pair_of_rank (ranks_of test es)

-- the members that the entries come to
abbrev pub members_of : List (ℕ × Standing) → Members
members_of es = record { now = pairs_of is_now es; last = pairs_of is_last es; kept = pairs_of is_kept es }

-- the entries with this standing of a pair that has one
abbrev pub set_at : ℕ → Option Standing → List (ℕ × Standing) → List (ℕ × Standing)
set_at r None es = es
set_at r (Some s) es = put entry_rank (r, s) es

-- after the pair of a rank came
abbrev pub add_at : ℕ → List (ℕ × Standing) → List (ℕ × Standing)
add_at r es = set_at r (option_map after_coming (standing_of r es)) es

-- after it left
abbrev pub remove_at : ℕ → List (ℕ × Standing) → List (ℕ × Standing)
remove_at r es = set_at r (option_map after_leaving (standing_of r es)) es

-- after pairs came
abbrev pub add_all : List Pair → List (ℕ × Standing) → List (ℕ × Standing)
add_all [] es = es
add_all (p ∷ ps) es = add_all ps (add_at (pair_rank p) es)

-- with room for the pair of a rank
abbrev pub with_spare : ℕ → List (ℕ × Standing) → List (ℕ × Standing)
with_spare r es = cond (is_some (find entry_rank r es)) es (put entry_rank (r, Spare) es)

-- with room for pairs
abbrev pub with_spares : List Pair → List (ℕ × Standing) → List (ℕ × Standing)
with_spares [] es = es
with_spares (p ∷ ps) es = with_spares ps (with_spare (pair_rank p) es)

-- the pair of a rank is among pairs
abbrev pub is_ranked : List Pair → ℕ → Bool
is_ranked ps r = list_any (λ (p : Pair). pair_rank p == r) ps

-- without the room of pairs
abbrev pub without_spares : List Pair → List (ℕ × Standing) → List (ℕ × Standing)
without_spares ps es = filter (λ (e : ℕ × Standing). not (is_spare e.1 && is_ranked ps e.0)) es

-- without the room of the pair of a rank
abbrev pub without_spare : ℕ → List (ℕ × Standing) → List (ℕ × Standing)
without_spare r es = filter (λ (e : ℕ × Standing). not (is_spare e.1 && r == e.0)) es

-- what an answer tells of room for one pair; out of memory is told only where the pair isn't one too many
abbrev pub MakesRoom : ℕ → List (ℕ × Standing) → List (ℕ × Standing) → Result (Unit {0}) MemberFault → Type 0
MakesRoom r old new (Ok done) = (new ≡ with_spare r old) × (length new ≤ 65536)
MakesRoom r old new (Err ViewFull) = (new ≡ old) × (65536 < length (with_spare r old))
MakesRoom r old new (Err Memory) = (new ≡ old) × (length (with_spare r old) ≤ 65536)

-- room for the pair of a rank is an entry more, where room for these pairs is taken behind it
abbrev pub is_missing : ℕ → List Pair → List (ℕ × Standing) → Bool
is_missing r later es = is_none (standing_of r es) && not (is_ranked later r)

-- how many entries more there are with room for pairs
abbrev pub missing : List Pair → List (ℕ × Standing) → ℕ
missing [] es = 0
missing (p ∷ ps) es = cond (is_missing (pair_rank p) ps es) 1 0 + missing ps es

-- why there is no room for pairs: they are too many; out of memory is told only where they aren't
abbrev pub HasNoRoom : List Pair → List (ℕ × Standing) → MemberFault → Type 0
HasNoRoom ps es ViewFull = 65536 < length (with_spares ps es)
HasNoRoom ps es Memory = length (with_spares ps es) ≤ 65536

-- what an answer tells of room for pairs
abbrev pub TakesRoom : List Pair → List (ℕ × Standing) → List (ℕ × Standing) → Result (Unit {0}) MemberFault → Type 0
TakesRoom ps old new (Ok done) = (new ≡ with_spares ps old) × (length new ≤ 65536) × (without_spares ps new ≡ old)
TakesRoom ps old new (Err fault) = (new ≡ old) × HasNoRoom ps old fault

-- the entries once a tick ended for a pair that changed and stands so
abbrev pub settled : ℕ → Option Standing → List (ℕ × Standing) → List (ℕ × Standing)
settled r None es = remove entry_rank r es
settled r (Some Stays) es = remove entry_rank r es
settled r (Some Came) es = put entry_rank (r, Stays) es
settled r (Some Left) es = remove entry_rank r es
settled r (Some Passed) es = remove entry_rank r es
settled r (Some Spare) es = remove entry_rank r es

-- once a tick ended for the pair of a rank, which changed
abbrev pub settled_at : ℕ → List (ℕ × Standing) → List (ℕ × Standing)
settled_at r es = settled r (standing_of r es) es

-- the tags of all pairs are within an i16
abbrev pub AllFit : List Pair → Type 0
AllFit [] = Unit {0}
AllFit (p ∷ ps) = FitsSigned w16 p.tag × AllFit ps
