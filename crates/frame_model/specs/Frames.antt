-- The bytes of frames. After Colyseus 0.16: the first byte is the code of the frame.
use Rattle.std.specs.Prelude.{ℕ, List, [], ◌∷◌, ◌++◌, length, codes}
use Rattle.schema_model.specs.Spelling.{number_bytes, text_bytes}
use Rattle.frame_model.specs.declared.frame.MsgKind.{MsgKind}
use Rattle.frame_model.specs.declared.frame.MsgKind.TheVariants.{Name, Num}
use Rattle.frame_model.specs.declared.frame.ServerFrame.{ServerFrame}
use Rattle.frame_model.specs.declared.frame.ServerFrame.TheVariants as server
use Rattle.frame_model.specs.declared.frame.ClientFrame.{ClientFrame}
use Rattle.frame_model.specs.declared.frame.ClientFrame.TheVariants as client

-- a message kind: a text or a number
abbrev pub kind_bytes : MsgKind → List ℕ
kind_bytes (Name t) = text_bytes t
kind_bytes (Num z) = number_bytes z

-- a text behind one byte of its length
abbrev pub short_text : List ℕ → List ℕ
short_text t = length t ∷ t

-- a frame from the server: JOIN_ROOM 10, ERROR 11, LEAVE_ROOM 12, ROOM_DATA 13, ROOM_STATE 14, ROOM_STATE_PATCH 15, ROOM_DATA_BYTES 17
abbrev pub server_bytes : ServerFrame → List ℕ
server_bytes (server.Join token handshake) = 10 ∷ (short_text token ++ (short_text (codes "schema") ++ handshake))
server_bytes (server.Fault code t) = 11 ∷ (number_bytes code ++ text_bytes t)
server_bytes server.Leave = 12 ∷ []
server_bytes (server.Msg kind payload) = 13 ∷ (kind_bytes kind ++ payload)
server_bytes (server.State bytes) = 14 ∷ bytes
server_bytes (server.Patch bytes) = 15 ∷ bytes
server_bytes (server.Raw kind payload) = 17 ∷ (kind_bytes kind ++ payload)

-- a frame from a client: the acknowledgement 10, leave 12, ROOM_DATA 13, ROOM_DATA_BYTES 17
abbrev pub client_bytes : ClientFrame → List ℕ
client_bytes client.Ack = 10 ∷ []
client_bytes client.Leave = 12 ∷ []
client_bytes (client.Msg kind payload) = 13 ∷ (kind_bytes kind ++ payload)
client_bytes (client.Raw kind payload) = 17 ∷ (kind_bytes kind ++ payload)
