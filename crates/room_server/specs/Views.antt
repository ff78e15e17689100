-- What the lines of a connection make of its client. Ours.
use Rattle.std.specs.Prelude.{ℕ, ◌==◌, List, [], ◌∷◌, Result, Ok, Err, if◌then◌else◌}
use Rattle.schema_model.specs.Classes.{Schema}
use Rattle.hub_model.specs.declared.event.HubOut.{HubOut}
use Rattle.hub_model.specs.declared.event.HubOut.TheVariants.{Send, Close}
use Rattle.life_model.specs.Clients.{Client, client_turn, closed, new_client}
use Rattle.life_model.specs.declared.client.ClientFault.{ClientFault}
use Rattle.life_model.specs.declared.client.ClientOut.{ClientOut}
use Rattle.text_model.specs.declared.schedule.Print.{Print}

-- the client behind a frame, where it isn't refused
abbrev pub told_by : Client → Result ClientOut ClientFault → Result Client ClientFault
told_by c (Ok out) = Ok c
told_by c (Err f) = Err f

-- what an output makes of the client of a connection: its frames are taken, its closing closes it, and all else isn't for it
abbrev pub client_told : ℕ → Schema → Client → HubOut → Result Client ClientFault
client_told conn schema c (Send to bytes) = if to == conn then told_by (client_turn schema c bytes).client (client_turn schema c bytes).out else Ok c
client_told conn schema c (Close to code) = Ok (if to == conn then closed c else c)
client_told conn schema c out = Ok c

-- what goes on with a client, or the line of the frame that it refuses, with why
abbrev pub going_on : {A : Type 0} → ℕ → Result Client ClientFault → (Client → Result A (ℕ × ClientFault)) → Result A (ℕ × ClientFault)
going_on number (Ok c) rest = rest c
going_on number (Err f) rest = Err (number, f)

-- outputs with the numbers of their lines, one behind another, up to the first frame that is refused
abbrev pub client_behind : ℕ → Schema → Client → List (ℕ × HubOut) → Result Client (ℕ × ClientFault)
client_behind conn schema c [] = Ok c
client_behind conn schema c (o ∷ os) = going_on o.0 (client_told conn schema c o.1) (λ d. client_behind conn schema d os)

-- the client of a connection at the end of what a replay printed
abbrev pub client_of : ℕ → Print → Result Client (ℕ × ClientFault)
client_of conn p = client_behind conn p.schema (new_client p.schema) p.outs
