-- The value of a client's core, and what a frame makes of it. Ours.
use Rattle.std.specs.Prelude.{◌≡◌, ℕ, Bool, true, false, ◌==◌, List, [], ◌∷◌, Result, Ok, Err}
use Rattle.schema_model.specs.Classes.{Schema}
use Rattle.wire_model.specs.declared.fault.OpFault.{OpFault}
use Rattle.wire_model.specs.declared.fault.OpFault.TheVariants as op
use Rattle.life_model.specs.Clients.{Client, Turn}
use Rattle.life_model.specs.declared.client.ClientFault.{ClientFault}
use Rattle.life_model.specs.declared.client.ClientFault.TheVariants.{Memory, State}
use Rattle.life_model.specs.declared.client.ClientOut.{ClientOut}

-- a client, its schema, and whether it answered out of memory
pub record Core : Type 0 where
  pub schema : Schema
  pub client : Client
  pub spent : Bool

-- what can't be told without memory: all that comes of a frame, and the faults of a state. A closed client, bytes that
-- are no frame and a patch before a full state are found without it
abbrev pub NeedsMemory : Result ClientOut ClientFault → Type 0
NeedsMemory (Ok out) = Unit {0}
NeedsMemory (Err (State f)) = Unit {0}
NeedsMemory (Err f) = ⊥

-- the bytes are a patch's, by their code
abbrev pub is_patch : List ℕ → Bool
is_patch [] = false
is_patch (code ∷ rest) = code == 15

-- what a frame makes of a client: its turn; or the turn's fault is told, and nothing changes; or memory ran out where it
-- is needed. From then on that is the answer to every frame, and nothing changes any more
abbrev pub Takes : Turn → Core → Core → Result ClientOut ClientFault → Type 0
Takes turn old new (Ok out) = (turn.out ≡ Ok out) × (new ≡ record { schema = old.schema; client = turn.client; spent = false }) × (old.spent ≡ false)
Takes turn old new (Err Memory) = (old.spent ≡ false → NeedsMemory turn.out) × (new ≡ record { schema = old.schema; client = old.client; spent = true })
Takes turn old new (Err f) = (turn.out ≡ Err f) × (new ≡ old) × (old.spent ≡ false)

-- the fault of a state as a client's
abbrev pub state_fault : OpFault → ClientFault
state_fault op.Memory = Memory
state_fault f = State f

-- a state whose fault is out of memory spends the core
abbrev pub after_fault : OpFault → Core → Core
after_fault op.Memory old = record { schema = old.schema; client = old.client; spent = true }
after_fault f old = old
