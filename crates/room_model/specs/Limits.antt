-- The limits of rooms. Ours.
use Rattle.std.specs.Prelude.{ℕ, ◌^◌}

-- the most seats and reservations that a definition may allow
abbrev pub most_places : ℕ
most_places = 64

-- the longest time that a definition may name, in milliseconds
abbrev pub longest_time : ℕ
longest_time = 3600000

-- the most keys by which the rooms of a definition may be told apart
abbrev pub most_filters : ℕ
most_filters = 4

-- the moments and lapses of a room are below this, in milliseconds
abbrev pub moment_bound : ℕ
moment_bound = 2 ^ 54

-- the kind of a message is shorter than this, in bytes
abbrev pub kind_bound : ℕ
kind_bound = 2 ^ 32

-- how many messages may wait for a client's full state
abbrev pub most_queued : ℕ
most_queued = 256
