-- Server frames by their bytes, worked out by hand from the formats: what they are, and why they are refused.
use Rattle.std.specs.Prelude.{◌≡◌, [], ◌∷◌, Ok, Err, map, pos, negsuc, codes, refl}
use Rattle.frame_model.specs.declared.frame.MsgKind.TheVariants.{Name, Num}
use Rattle.frame_model.specs.declared.frame.ServerFrame.TheVariants.{Join, Fault, Leave, Msg, State, Patch, Raw}
use Rattle.frame_model.specs.declared.fault.FrameFault.TheVariants.{Empty, UnknownCode, Bad}
use Rattle.frame_model.specs.Frames.{server_bytes}
use Rattle.frame_model.specs.ServerReading.{read_server}
use Rattle.frame_model.proofs.Opened.{reading}

-- each frame, as it is written; a token and a handshake may be empty
written : map (λ f. read_server (server_bytes f)) (Join (codes "token0001") [] ∷ Join [] (1 ∷ 2 ∷ []) ∷ Fault (pos 4212) (codes "no") ∷ Fault (negsuc 0) [] ∷ Leave ∷ Msg (Name (codes "hi")) (0xc0 ∷ []) ∷ Msg (Num (pos 5)) []
    ∷ State (0x80 ∷ 5 ∷ []) ∷ State [] ∷ Patch (0x80 ∷ 5 ∷ []) ∷ Raw (Name []) (1 ∷ []) ∷ Raw (Num (negsuc 40)) (0xc1 ∷ []) ∷ [])
    ≡ Ok (Join (codes "token0001") []) ∷ Ok (Join [] (1 ∷ 2 ∷ [])) ∷ Ok (Fault (pos 4212) (codes "no")) ∷ Ok (Fault (negsuc 0) []) ∷ Ok Leave ∷ Ok (Msg (Name (codes "hi")) (0xc0 ∷ [])) ∷ Ok (Msg (Num (pos 5)) [])
    ∷ Ok (State (0x80 ∷ 5 ∷ [])) ∷ Ok (State []) ∷ Ok (Patch (0x80 ∷ 5 ∷ [])) ∷ Ok (Raw (Name []) (1 ∷ [])) ∷ Ok (Raw (Num (negsuc 40)) (0xc1 ∷ [])) ∷ []
unfolding reading
written = refl

-- a payload isn't read, so it may be anything
unread : map read_server ((0x0d ∷ 5 ∷ 0xc1 ∷ 0xc1 ∷ []) ∷ (0x0d ∷ 0xd9 ∷ 1 ∷ 0x68 ∷ []) ∷ []) ≡ Ok (Msg (Num (pos 5)) (0xc1 ∷ 0xc1 ∷ [])) ∷ Ok (Msg (Name (codes "h")) []) ∷ []
unfolding reading
unread = refl

-- no frame, no code of a server's, a byte behind a frame of one, a kind that can't be read
refused : map read_server ([] ∷ (9 ∷ []) ∷ (0x10 ∷ []) ∷ (0x12 ∷ []) ∷ (0x63 ∷ []) ∷ (0x0c ∷ 0 ∷ []) ∷ (0x0d ∷ []) ∷ (0x0d ∷ 0xca ∷ []) ∷ (0x11 ∷ 0xa2 ∷ 0x68 ∷ []) ∷ [])
    ≡ Err Empty ∷ Err (UnknownCode 9) ∷ Err (UnknownCode 16) ∷ Err (UnknownCode 18) ∷ Err (UnknownCode 99) ∷ Err (Bad 1) ∷ Err (Bad 1) ∷ Err (Bad 1) ∷ Err (Bad 1) ∷ []
unfolding reading
refused = refl

-- a welcome that ends too early, or has another serializer
joins : map read_server ((0x0a ∷ []) ∷ (0x0a ∷ 1 ∷ []) ∷ (0x0a ∷ 0 ∷ []) ∷ (0x0a ∷ 1 ∷ 0x74 ∷ 6 ∷ codes "schem") ∷ (0x0a ∷ 1 ∷ 0x74 ∷ 6 ∷ codes "schemb") ∷ (0x0a ∷ 0 ∷ 7 ∷ codes "schemas") ∷ [])
    ≡ Err (Bad 1) ∷ Err (Bad 1) ∷ Err (Bad 2) ∷ Err (Bad 3) ∷ Err (Bad 3) ∷ Err (Bad 2) ∷ []
unfolding reading
joins = refl

-- an error whose code or text can't be read, or with bytes behind it
errors : map read_server ((0x0b ∷ []) ∷ (0x0b ∷ 0xcf ∷ []) ∷ (0x0b ∷ 5 ∷ []) ∷ (0x0b ∷ 0xcd ∷ 0x74 ∷ 0x10 ∷ 5 ∷ []) ∷ (0x0b ∷ 5 ∷ 0xa1 ∷ 0x68 ∷ 0 ∷ []) ∷ (0x0b ∷ 5 ∷ 0xa1 ∷ 0xff ∷ []) ∷ [])
    ≡ Err (Bad 1) ∷ Err (Bad 1) ∷ Err (Bad 2) ∷ Err (Bad 4) ∷ Err (Bad 4) ∷ Err (Bad 2) ∷ []
unfolding reading
errors = refl
