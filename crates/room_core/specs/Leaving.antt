-- A moment, lapse by lapse.
use Rattle.std.specs.Prelude.{◌≡◌, ℕ, Bool, false, List, [], ◌∷◌, Option, None, if◌then◌else◌}
use Rattle.room_model.specs.declared.event.RoomOut.{RoomOut}
use Rattle.room_model.specs.declared.event.RoomOut.TheVariants as out
use Rattle.room_model.specs.declared.event.Stage.{Stage}
use Rattle.room_model.specs.Ledger.{expire}
use Rattle.room_laws.specs.Placed.{is_kept}
use Rattle.room_model.specs.Seats.{Seats}
use Rattle.room_model.specs.Room.{RoomValue, after_lapse}

-- what is found to lapse first ends, and is told where it was kept; the answer is no where nothing was found
pub record Lapses (before : RoomValue × List RoomOut) (first : Option (List ℕ × Seats)) (after : RoomValue × List RoomOut) (found : Bool) : Type 0 where
  pub step : after ≡ after_lapse before first
  pub last : found ≡ false → first ≡ None

-- what is told of a session that lapses
abbrev pub lapse_told : List ℕ → Stage → List RoomOut
lapse_told session stage = if is_kept stage then out.Left session ∷ [] else []

-- what lapses first by a moment ends
abbrev pub lapsed_at : ℕ → RoomValue × List RoomOut → RoomValue × List RoomOut
lapsed_at now so_far = after_lapse so_far (expire so_far.0.seats now)
