-- What a life's record holds, and what a life is sent. Ours.
use Rattle.std.specs.Prelude.{ℕ, Bool, List}
use Rattle.state_model.specs.declared.row.RowEntry.{RowEntry}

-- what happens to a life, as far as it may matter to what it is sent
pub data Entry : Type 0 where
  -- a request is answered with its session: the target, the body and the reply
  Asked : (target : List ℕ) (body : List ℕ) (reply : List ℕ) → Entry
  -- an opening takes its reservation or its kept seat, with the fresh token
  Opened : (token : List ℕ) → Entry
  -- its connection gives a frame
  Framed : (bytes : List ℕ) → Entry
  -- the room directs a message to it
  Told : (frame : List ℕ) → Entry
  -- a tick, with the shared rows and its permitted ones
  Ticked : (shared : List RowEntry) (permitted : List RowEntry) → Entry
  -- its connection is lost, and whether its seat is kept
  Dropped : (kept : Bool) → Entry
  -- it is kicked, with the code of the closing
  Kicked : (code : ℕ) → Entry
  -- its reservation or its kept seat lapses
  Lapsed : Entry

-- a life's record: its entries, in the order of the run
abbrev pub Record : Type 0
Record = List Entry

-- what its connections are given: the bytes of a frame, or a closing with its code
pub data Sending : Type 0 where
  Frame : (bytes : List ℕ) → Sending
  Closing : (code : ℕ) → Sending
