-- What a client makes of all that a life was given: of the frames of its connections, one behind another. After Colyseus 0.16.
use Rattle.std.specs.Prelude.{ℕ, Bool, true, ◌&&◌, List, [], ◌∷◌, is_ok}
use Rattle.schema_model.specs.Classes.{Schema}
use Rattle.life_model.specs.Clients.{Client, client_turn, client_after, new_client}
use Rattle.life_model.specs.Entries.{Sending, Frame, Closing}

-- the frames of what was given
abbrev pub frames_given : List Sending → List (List ℕ)
frames_given [] = []
frames_given (Frame bytes ∷ ss) = bytes ∷ frames_given ss
frames_given (Closing code ∷ ss) = frames_given ss

-- a client refuses none of these frames
abbrev pub takes_all : Schema → Client → List (List ℕ) → Bool
takes_all schema c [] = true
takes_all schema c (f ∷ fs) = is_ok (client_turn schema c f).out && takes_all schema (client_turn schema c f).client fs

-- a client, from its first frame on, refuses nothing that was given
abbrev pub takes_given : Schema → List Sending → Bool
takes_given schema outputs = takes_all schema (new_client schema) (frames_given outputs)

-- the client then
abbrev pub client_given : Schema → List Sending → Client
client_given schema outputs = client_after schema (new_client schema) (frames_given outputs)
