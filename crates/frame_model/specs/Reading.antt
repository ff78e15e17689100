-- The frame that a client's bytes are, with every fault and its place.
use Rattle.std.specs.Prelude.{ℕ, ◌^◌, Bool, true, false, ◌&&◌, ◌||◌, List, [], ◌∷◌, length, drop, ℤ, is_ok, if◌then◌else◌, nat_lt, nat_le, ◌==◌, Result, Ok, Err, slice_get}
use Rattle.std.specs.Option.{option_map_or}
use Rattle.schema_model.specs.Reading.{◌>>=◌, number_at, text_at}
use Rattle.schema_model.specs.declared.fault.ReadFault.{ReadFault}
use Rattle.frame_model.specs.declared.frame.MsgKind.{MsgKind}
use Rattle.frame_model.specs.declared.frame.MsgKind.TheVariants.{Name, Num}
use Rattle.frame_model.specs.declared.frame.ClientFrame.{ClientFrame}
use Rattle.frame_model.specs.declared.frame.ClientFrame.TheVariants.{Ack, Leave, Msg, Raw}
use Rattle.frame_model.specs.declared.fault.FrameFault.{FrameFault}
use Rattle.frame_model.specs.declared.fault.FrameFault.TheVariants.{Empty, UnknownCode, Bad, TooLong}
use Rattle.frame_model.specs.Packs.{read_pack}

-- a byte begins a text
abbrev pub begins_text : ℕ → Bool
begins_text b = (nat_le 160 b && nat_lt b 192) || (b == 217) || (b == 218) || (b == 219)

-- a message kind that was read as a text or as a number; a fault is at its place
abbrev pub named_kind : ℕ → Result (List ℕ × ℕ) ReadFault → Result (MsgKind × ℕ) FrameFault
named_kind at (Ok t) = Ok (Name t.0, t.1)
named_kind at (Err f) = Err (Bad at)

abbrev pub numbered_kind : ℕ → Result (ℤ × ℕ) ReadFault → Result (MsgKind × ℕ) FrameFault
numbered_kind at (Ok z) = Ok (Num z.0, z.1)
numbered_kind at (Err f) = Err (Bad at)

-- the message kind at a place, and the place after it: a text where its first byte begins one, else a number
abbrev pub kind_at : List ℕ → ℕ → Result (MsgKind × ℕ) FrameFault
kind_at bytes at =
    if option_map_or begins_text (slice_get bytes at) false then named_kind at (text_at bytes at) else numbered_kind at (number_at bytes at)

-- a payload is nothing, or one MessagePack value
abbrev pub is_payload : List ℕ → Bool
is_payload [] = true
is_payload (b ∷ bs) = is_ok (read_pack (b ∷ bs))

-- a message, behind its kind
abbrev pub message_behind : List ℕ → MsgKind × ℕ → Result ClientFrame FrameFault
message_behind bytes kind = if is_payload (drop kind.1 bytes) then Ok (Msg kind.0 (drop kind.1 bytes)) else Err (Bad kind.1)

-- raw bytes, behind their kind
abbrev pub raw_behind : List ℕ → MsgKind × ℕ → Result ClientFrame FrameFault
raw_behind bytes kind = Ok (Raw kind.0 (drop kind.1 bytes))

-- a frame of one byte
abbrev pub without_payload : ClientFrame → List ℕ → Result ClientFrame FrameFault
without_payload frame [] = Ok frame
without_payload frame (b ∷ bs) = Err (Bad 1)

-- a frame by its code
abbrev pub frame_by_code : ℕ → List ℕ → Result ClientFrame FrameFault
frame_by_code code rest =
    if code == 10 then without_payload Ack rest
    else if code == 12 then without_payload Leave rest
    else if code == 13 then (kind_at (code ∷ rest) 1 >>= message_behind (code ∷ rest))
    else if code == 17 then (kind_at (code ∷ rest) 1 >>= raw_behind (code ∷ rest))
    else Err (UnknownCode code)

abbrev pub frame_of : List ℕ → Result ClientFrame FrameFault
frame_of [] = Err Empty
frame_of (code ∷ rest) = frame_by_code code rest

-- the frame that a client's bytes are; at most 65,536 of them
abbrev pub read_client : List ℕ → Result ClientFrame FrameFault
read_client bytes = if nat_lt (2 ^ 16) (length bytes) then Err TooLong else frame_of bytes
