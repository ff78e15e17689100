-- The definitions of which a room may be made. Ours.
use Rattle.std.specs.Prelude.{ℕ, Bool, ◌&&◌, length, nat_le}
use Rattle.state_model.specs.Sound.{keys_differ}
use Rattle.room_model.specs.declared.definition.RoomDef.{RoomDef}
use Rattle.room_model.specs.Limits.{most_places, longest_time, most_filters}

-- a number is from one to another
abbrev pub is_within : ℕ → ℕ → ℕ → Bool
is_within low high n = nat_le low n && nat_le n high

-- places and times are within the limits, and the keys of the filter are few and differ
abbrev pub is_room_def : RoomDef → Bool
is_room_def d =
    is_within 1 most_places d.max && is_within 1 longest_time d.seat && is_within 1 longest_time d.patch && is_within 0 longest_time d.keep
    && nat_le (length d.filter) most_filters && keys_differ d.filter
