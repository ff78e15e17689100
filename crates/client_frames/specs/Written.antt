-- Frames that have bytes.
use Rattle.std.specs.Prelude.{◌≡◌, ◌≤◌, ◌<◌, ◌^◌, true, length}
use Rattle.frame_model.specs.declared.frame.MsgKind.{MsgKind}
use Rattle.frame_model.specs.declared.frame.MsgKind.TheVariants.{Name, Num}
use Rattle.frame_model.specs.declared.frame.ServerFrame.{ServerFrame}
use Rattle.frame_model.specs.declared.frame.ServerFrame.TheVariants as server
use Rattle.frame_model.specs.declared.frame.ClientFrame.{ClientFrame}
use Rattle.frame_model.specs.declared.frame.ClientFrame.TheVariants as client
use Rattle.frame_model.specs.Frames.{client_bytes}
use Rattle.frame_model.specs.Reading.{is_payload}

-- the name of a message kind is shorter than 2^32 bytes
abbrev pub IsShortKind : MsgKind → Type 0
IsShortKind (Name t) = length t < 2 ^ 32
IsShortKind (Num z) = Unit {0}

-- a token has at most 255 bytes, and every other text fewer than 2^32
abbrev pub HasServerBytes : ServerFrame → Type 0
HasServerBytes (server.Join token handshake) = length token ≤ 255
HasServerBytes (server.Fault code t) = length t < 2 ^ 32
HasServerBytes server.Leave = Unit {0}
HasServerBytes (server.Msg kind payload) = IsShortKind kind
HasServerBytes (server.State bytes) = Unit {0}
HasServerBytes (server.Patch bytes) = Unit {0}
HasServerBytes (server.Raw kind payload) = IsShortKind kind

-- the payload of a message is nothing or one value
abbrev pub HasPayload : ClientFrame → Type 0
HasPayload client.Ack = Unit {0}
HasPayload client.Leave = Unit {0}
HasPayload (client.Msg kind payload) = is_payload payload ≡ true
HasPayload (client.Raw kind payload) = Unit {0}

-- and the frame has at most 65,536 bytes
abbrev pub HasClientBytes : ClientFrame → Type 0
HasClientBytes frame = HasPayload frame × (length (client_bytes frame) ≤ 2 ^ 16)
