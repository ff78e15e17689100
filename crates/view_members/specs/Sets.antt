-- What calls make of the members of a view.
use Rattle.std.specs.Prelude.{◌≡◌, ℕ, ℤ, true, false, not, ◌==◌, List, filter, Result, Ok, Err}
use Rattle.schema_model.specs.declared.place.Pair.{Pair}
use Rattle.lists.specs.Rising.{RisesFrom}
use Rattle.state_model.specs.Members.{Members, pair_rank, with_pairs, without_pairs, is_view_full}
use Rattle.state_model.specs.Shown.{is_member}
use Rattle.view_members.specs.declared.fault.MemberFault.{MemberFault}
use Rattle.view_members.specs.declared.fault.MemberFault.TheVariants.{ViewFull, Memory}

-- the members with these pairs
abbrev pub with_all : List Pair → Members → Members
with_all pairs m = record { now = with_pairs m.now pairs; last = m.last; kept = with_pairs m.kept pairs }

-- the members without these pairs
abbrev pub without_all : List Pair → Members → Members
without_all pairs m = record { now = without_pairs m.now pairs; last = m.last; kept = m.kept }

-- the members without the pairs of a row
abbrev pub without_row : ℕ → Members → Members
without_row who m = record { now = filter (λ (p : Pair). not (p.who == who)) m.now; last = m.last; kept = m.kept }

-- what an answer tells of pairs that are added: they are members; or they would be too many, whatever memory does, and
-- nothing changed; or it is out of memory for pairs that aren't too many, and nothing changed
abbrev pub Adds : List Pair → Members → Members → Result (Unit {0}) MemberFault → Type 0
Adds pairs old new (Ok done) = (is_view_full (with_all pairs old) ≡ false) × (new ≡ with_all pairs old)
Adds pairs old new (Err ViewFull) = (is_view_full (with_all pairs old) ≡ true) × (new ≡ old)
Adds pairs old new (Err Memory) = (is_view_full (with_all pairs old) ≡ false) × (new ≡ old)

-- the pairs now, at the last tick and kept rise, by row and then by tag, and those now are among those kept
pub record AreKept (m : Members) : Type 0 where
  pub now : RisesFrom pair_rank 0 m.now
  pub last : RisesFrom pair_rank 0 m.last
  pub kept : RisesFrom pair_rank 0 m.kept
  pub within : (who : ℕ) (tag : ℤ) → is_member m.now who tag ≡ true → is_member m.kept who tag ≡ true
