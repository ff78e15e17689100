-- What taking the lines of a connection gives, where memory may run out. Ours.
use Rattle.std.specs.Prelude.{◌≡◌, ℕ, List, Result, Ok, Err}
use Rattle.state_model.specs.declared.row.RowEntry.{RowEntry}
use Rattle.life_model.specs.Clients.{Client}
use Rattle.life_model.specs.declared.client.ClientFault.{ClientFault}
use Rattle.client_core.specs.Cores.{Core}
use Rattle.room_server.specs.declared.view.ViewFault.{ViewFault}
use Rattle.room_server.specs.declared.view.ViewFault.TheVariants.{Frame, Memory}

-- the client's rows, or the line of the first frame that it refuses, unless memory runs out
abbrev pub IsSeen : Result Client (ℕ × ClientFault) → Result (List RowEntry) ViewFault → Type 0
IsSeen there (Ok rows) = (c : Client) × (there ≡ Ok c) × (rows ≡ c.rows)
IsSeen there (Err (Frame number f)) = there ≡ Err (number, f)
IsSeen there (Err Memory) = Unit {0}

-- the client behind an output, or why it refuses it, unless memory runs out
abbrev pub IsTold : ℕ → Result Client ClientFault → Core → Core → Result (Unit {0}) ViewFault → Type 0
IsTold number there old new (Ok x) = (there ≡ Ok new.client) × (new.schema ≡ old.schema)
IsTold number there old new (Err (Frame n f)) = (n ≡ number) × (there ≡ Err f)
IsTold number there old new (Err Memory) = Unit {0}
