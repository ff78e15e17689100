-- The state frames that a client decodes: those from its latest full state on. After Colyseus 0.16.
use Rattle.std.specs.Prelude.{ℕ, List, [], ◌∷◌, ◌++◌, if◌then◌else◌, ◌==◌}
use Rattle.std.specs.List.{fold}
use Rattle.life_model.specs.Entries.{Sending, Frame, Closing}

-- the state frames from the latest full state on, with one sending more; a frame's first byte is its code
abbrev pub with_sending : List (List ℕ) → Sending → List (List ℕ)
with_sending frames (Closing code) = frames
with_sending frames (Frame []) = frames
with_sending frames (Frame (code ∷ bytes)) =
    if code == 14 then (code ∷ bytes) ∷ [] else if code == 15 then frames ++ (code ∷ bytes) ∷ [] else frames

-- the state frames of a life from its latest full state on
abbrev pub latest_frames : List Sending → List (List ℕ)
latest_frames outputs = fold with_sending [] outputs
