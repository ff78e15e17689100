-- A definition of which a room may be made, by its parts.
use Rattle.std.proofs.Common.{◌≡◌, true, ◌&&◌, length, nat_le}
use Rattle.std.proofs.lemmas.Bool.{and_parts}
use Rattle.state_model.specs.Sound.{keys_differ}
use Rattle.room_model.specs.declared.definition.RoomDef.{RoomDef}
use Rattle.room_model.specs.Definitions.{is_room_def, is_within}

-- the numbers are within the limits
pub record AreWithin (d : RoomDef) : Type 0 where
  pub max : is_within 1 64 d.max ≡ true
  pub seat : is_within 1 3600000 d.seat ≡ true
  pub patch : is_within 1 3600000 d.patch ≡ true
  pub keep : is_within 0 3600000 d.keep ≡ true

pub def_within : (d : RoomDef) → is_room_def d ≡ true → AreWithin d
def_within d h =
    let differ = and_parts (is_within 1 64 d.max && is_within 1 3600000 d.seat && is_within 1 3600000 d.patch && is_within 0 3600000 d.keep && nat_le (length d.filter) 4) (keys_differ d.filter) h in
    let few = and_parts (is_within 1 64 d.max && is_within 1 3600000 d.seat && is_within 1 3600000 d.patch && is_within 0 3600000 d.keep) (nat_le (length d.filter) 4) differ.0 in
    let keep = and_parts (is_within 1 64 d.max && is_within 1 3600000 d.seat && is_within 1 3600000 d.patch) (is_within 0 3600000 d.keep) few.0 in
    let patch = and_parts (is_within 1 64 d.max && is_within 1 3600000 d.seat) (is_within 1 3600000 d.patch) keep.0 in
    let seat = and_parts (is_within 1 64 d.max) (is_within 1 3600000 d.seat) patch.0 in
    record { max = seat.0; seat = seat.1; patch = patch.1; keep = keep.1 }
