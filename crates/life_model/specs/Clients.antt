-- A client: the rows that it makes of the frames from its server. After Colyseus 0.16.
use Rattle.std.specs.Prelude.{ℕ, Bool, true, false, List, Result, Ok, Err, if◌then◌else◌}
use Rattle.std.specs.List.{fold}
use Rattle.schema_model.specs.Classes.{Schema}
use Rattle.state_model.specs.Rows.{root_alone}
use Rattle.state_model.specs.declared.row.RowEntry.{RowEntry}
use Rattle.wire_model.specs.Decoded.{decoded}
use Rattle.wire_model.specs.declared.fault.OpFault.{OpFault}
use Rattle.frame_model.specs.ServerReading.{read_server}
use Rattle.frame_model.specs.declared.fault.FrameFault.{FrameFault}
use Rattle.frame_model.specs.declared.frame.ServerFrame.{ServerFrame}
use Rattle.frame_model.specs.declared.frame.ServerFrame.TheVariants as server
use Rattle.life_model.specs.declared.client.ClientFault.{ClientFault}
use Rattle.life_model.specs.declared.client.ClientFault.TheVariants as fault
use Rattle.life_model.specs.declared.client.ClientOut.{ClientOut}
use Rattle.life_model.specs.declared.client.ClientOut.TheVariants.{Answer, Full, Patched, Message, Raw, Error, Left}

-- the rows, whether a full state came since the latest join, and whether no frame comes any more
pub record Client : Type 0 where
  pub rows : List RowEntry
  pub ready : Bool
  pub closed : Bool

-- before the first frame: the root alone
abbrev pub new_client : Schema → Client
new_client schema = record { rows = root_alone schema; ready = false; closed = false }

-- what a frame leaves of a client, and what comes of it
pub record Turn : Type 0 where
  pub client : Client
  pub out : Result ClientOut ClientFault

abbrev pub refused : Client → ClientFault → Turn
refused c f = record { client = c; out = Err f }

-- the rows that a state leads to; where it is refused nothing changes
abbrev pub with_rows : Client → ClientOut → Result (List RowEntry) OpFault → Turn
with_rows c out (Ok rows) = record { client = record { rows = rows; ready = true; closed = c.closed }; out = Ok out }
with_rows c out (Err f) = refused c (fault.State f)

-- a full state begins from the root alone; a patch goes on from the rows, where a full state came
abbrev pub after_full : Schema → Client → List ℕ → Turn
after_full schema c bytes = with_rows c Full (decoded schema bytes (root_alone schema))

abbrev pub after_patch : Schema → Client → List ℕ → Turn
after_patch schema c bytes = if c.ready then with_rows c Patched (decoded schema bytes c.rows) else refused c fault.BeforeFull

-- a join leaves the rows, and a full state has to come
abbrev pub joined : Client → Client
joined c = record { rows = c.rows; ready = false; closed = c.closed }

abbrev pub closed : Client → Client
closed c = record { rows = c.rows; ready = c.ready; closed = true }

abbrev pub after_frame : Schema → Client → ServerFrame → Turn
after_frame schema c (server.Join token handshake) = record { client = joined c; out = Ok Answer }
after_frame schema c (server.Fault code text) = record { client = c; out = Ok (Error code text) }
after_frame schema c server.Leave = record { client = closed c; out = Ok Left }
after_frame schema c (server.Msg kind payload) = record { client = c; out = Ok (Message kind payload) }
after_frame schema c (server.State bytes) = after_full schema c bytes
after_frame schema c (server.Patch bytes) = after_patch schema c bytes
after_frame schema c (server.Raw kind payload) = record { client = c; out = Ok (Raw kind payload) }

abbrev pub after_read : Schema → Client → Result ServerFrame FrameFault → Turn
after_read schema c (Ok frame) = after_frame schema c frame
after_read schema c (Err f) = refused c (fault.Frame f)

-- what bytes make of a client: a closed one refuses all
abbrev pub client_turn : Schema → Client → List ℕ → Turn
client_turn schema c bytes = if c.closed then refused c fault.Closed else after_read schema c (read_server bytes)

-- what frames make of a client, one behind another
abbrev pub client_after : Schema → Client → List (List ℕ) → Client
client_after schema c frames = fold (λ c bytes. (client_turn schema c bytes).client) c frames
