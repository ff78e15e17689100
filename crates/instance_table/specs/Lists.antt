-- Lists that have room.
use Rattle.std.specs.Prelude.{ℕ, List}

-- its numbers, and how many it has room for
pub record RoomyState : Type 0 where
  pub numbers : List ℕ
  pub room : ℕ

-- what a walk keeps: the numbers that it saw, rising, and those that wait
pub record WalkState : Type 0 where
  pub seen : List ℕ
  pub waiting : List ℕ
