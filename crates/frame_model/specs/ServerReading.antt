-- The frame that a server's bytes are, with every fault and its place.
use Rattle.std.specs.Prelude.{ℕ, ◌+◌, List, [], ◌∷◌, length, take, drop, codes, if◌then◌else◌, nat_lt, ◌==◌, Option, Some, None, Result, Ok, Err, slice_get}
use Rattle.std.specs.Str.{bytes_eq}
use Rattle.schema_model.specs.Reading.{◌>>=◌, number_at, text_at}
use Rattle.schema_model.specs.declared.fault.ReadFault.{ReadFault}
use Rattle.frame_model.specs.declared.frame.MsgKind.{MsgKind}
use Rattle.frame_model.specs.declared.frame.ServerFrame.{ServerFrame}
use Rattle.frame_model.specs.declared.frame.ServerFrame.TheVariants.{Join, Fault, Leave, Msg, State, Patch, Raw}
use Rattle.frame_model.specs.declared.fault.FrameFault.{FrameFault}
use Rattle.frame_model.specs.declared.fault.FrameFault.TheVariants.{Empty, UnknownCode, Bad}
use Rattle.frame_model.specs.Reading.{kind_at}

-- a value that was read; a fault is at its place
abbrev pub placed : {A : Type 0} → ℕ → Result A ReadFault → Result A FrameFault
placed at (Ok a) = Ok a
placed at (Err f) = Err (Bad at)

-- so many bytes behind the byte at a place that tells their length
abbrev pub counted_of : List ℕ → ℕ → Option ℕ → Result (List ℕ × ℕ) FrameFault
counted_of bytes at None = Err (Bad at)
counted_of bytes at (Some n) =
    if nat_lt (length bytes) (at + 1 + n) then Err (Bad at)
    else Ok (take n (drop (at + 1) bytes), at + 1 + n)

abbrev pub counted_at : List ℕ → ℕ → Result (List ℕ × ℕ) FrameFault
counted_at bytes at = counted_of bytes at (slice_get bytes at)

-- the word of the serializer is `schema`, and the handshake stands behind it
abbrev pub serialized : List ℕ → ℕ → List ℕ → List ℕ × ℕ → Result ServerFrame FrameFault
serialized bytes at token word = if bytes_eq word.0 (codes "schema") then Ok (Join token (drop word.1 bytes)) else Err (Bad at)

-- a token and what stands behind it
unfoldable pub joined : List ℕ → Result ServerFrame FrameFault
joined bytes = do
  token ← counted_at bytes 1
  word ← counted_at bytes token.1
  serialized bytes token.1 token.0 word

-- nothing stands behind the text of an error
abbrev pub closed : List ℕ → ServerFrame → ℕ → Result ServerFrame FrameFault
closed bytes frame end = if end == length bytes then Ok frame else Err (Bad end)

-- the code and the text of an error
unfoldable pub faulted : List ℕ → Result ServerFrame FrameFault
faulted bytes = do
  code ← placed 1 (number_at bytes 1)
  words ← placed code.1 (text_at bytes code.1)
  closed bytes (Fault code.0 words.0) words.1

-- what stands behind a message kind; the payload of a message is not read
abbrev pub behind : (MsgKind → List ℕ → ServerFrame) → List ℕ → MsgKind × ℕ → Result ServerFrame FrameFault
behind frame bytes kind = Ok (frame kind.0 (drop kind.1 bytes))

-- a frame of one byte
abbrev pub by_itself : List ℕ → Result ServerFrame FrameFault
by_itself [] = Ok Leave
by_itself (b ∷ bs) = Err (Bad 1)

-- a frame by its code
abbrev pub server_by_code : ℕ → List ℕ → Result ServerFrame FrameFault
server_by_code code rest =
    if code == 10 then joined (code ∷ rest)
    else if code == 11 then faulted (code ∷ rest)
    else if code == 12 then by_itself rest
    else if code == 13 then (kind_at (code ∷ rest) 1 >>= behind Msg (code ∷ rest))
    else if code == 14 then Ok (State rest)
    else if code == 15 then Ok (Patch rest)
    else if code == 17 then (kind_at (code ∷ rest) 1 >>= behind Raw (code ∷ rest))
    else Err (UnknownCode code)

-- the frame that a server's bytes are
abbrev pub read_server : List ℕ → Result ServerFrame FrameFault
read_server [] = Err Empty
read_server (code ∷ rest) = server_by_code code rest
