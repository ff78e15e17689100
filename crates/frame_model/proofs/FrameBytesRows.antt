-- Frames by their bytes, worked out by hand from the formats.
use Rattle.std.specs.Prelude.{◌≡◌, [], ◌∷◌, pos, negsuc, codes, refl}
use Rattle.frame_model.specs.Frames.{server_bytes, client_bytes}
use Rattle.frame_model.specs.declared.frame.MsgKind.TheVariants.{Name, Num}
use Rattle.frame_model.specs.declared.frame.ServerFrame.TheVariants as server
use Rattle.frame_model.specs.declared.frame.ClientFrame.TheVariants as client

a_join : server_bytes (server.Join (codes "token0001") [])
    ≡ 0x0a ∷ 0x09 ∷ 0x74 ∷ 0x6f ∷ 0x6b ∷ 0x65 ∷ 0x6e ∷ 0x30 ∷ 0x30 ∷ 0x30 ∷ 0x31 ∷ 0x06 ∷ 0x73 ∷ 0x63 ∷ 0x68 ∷ 0x65 ∷ 0x6d ∷ 0x61 ∷ []
a_join = refl

a_refused_seat : server_bytes (server.Fault (pos 4214) (codes "seat expired"))
    ≡ 0x0b ∷ 0xcd ∷ 0x76 ∷ 0x10 ∷ 0xac ∷ 0x73 ∷ 0x65 ∷ 0x61 ∷ 0x74 ∷ 0x20 ∷ 0x65 ∷ 0x78 ∷ 0x70 ∷ 0x69 ∷ 0x72 ∷ 0x65 ∷ 0x64 ∷ []
a_refused_seat = refl

a_leave : server_bytes server.Leave ≡ 0x0c ∷ []
a_leave = refl

a_message : server_bytes (server.Msg (Name (codes "a")) (0xc0 ∷ [])) ≡ 0x0d ∷ 0xa1 ∷ 0x61 ∷ 0xc0 ∷ []
a_message = refl

a_full_state : server_bytes (server.State (0x80 ∷ 0x05 ∷ [])) ≡ 0x0e ∷ 0x80 ∷ 0x05 ∷ []
a_full_state = refl

a_patch : server_bytes (server.Patch (0x00 ∷ 0x06 ∷ [])) ≡ 0x0f ∷ 0x00 ∷ 0x06 ∷ []
a_patch = refl

raw_bytes : server_bytes (server.Raw (Num (negsuc 0)) (0x07 ∷ [])) ≡ 0x11 ∷ 0xff ∷ 0x07 ∷ []
raw_bytes = refl

an_acknowledgement : client_bytes client.Ack ≡ 0x0a ∷ []
an_acknowledgement = refl

a_client_leaves : client_bytes client.Leave ≡ 0x0c ∷ []
a_client_leaves = refl

a_client_message : client_bytes (client.Msg (Name (codes "move")) []) ≡ 0x0d ∷ 0xa4 ∷ 0x6d ∷ 0x6f ∷ 0x76 ∷ 0x65 ∷ []
a_client_message = refl

client_raw_bytes : client_bytes (client.Raw (Num (pos 3)) (0x07 ∷ [])) ≡ 0x11 ∷ 0x03 ∷ 0x07 ∷ []
client_raw_bytes = refl
