-- Client frames by their bytes, worked out by hand from the formats: what they are, and why they are refused.
use Rattle.std.specs.Prelude.{◌≡◌, [], ◌∷◌, Ok, Err, map, pos, negsuc, codes, refl}
use Rattle.frame_model.specs.declared.frame.MsgKind.TheVariants.{Name, Num}
use Rattle.frame_model.specs.declared.frame.ClientFrame.TheVariants.{Ack, Leave, Msg, Raw}
use Rattle.frame_model.specs.declared.fault.FrameFault.TheVariants.{Empty, UnknownCode, Bad}
use Rattle.frame_model.specs.Reading.{read_client}
use Rattle.frame_model.proofs.Opened.{reading}

-- frames of one byte
short_frames : map read_client ((0x0a ∷ []) ∷ (0x0c ∷ []) ∷ (0x0a ∷ 0 ∷ []) ∷ (0x0c ∷ 0x0c ∷ []) ∷ [])
    ≡ Ok Ack ∷ Ok Leave ∷ Err (Bad 1) ∷ Err (Bad 1) ∷ []
unfolding reading
short_frames = refl

-- messages, with a name or a number for their kind
messages : map read_client ((0x0d ∷ 0xa2 ∷ 0x68 ∷ 0x69 ∷ 0xc0 ∷ []) ∷ (0x0d ∷ 0xa2 ∷ 0x68 ∷ 0x69 ∷ []) ∷ (0x0d ∷ 5 ∷ 0x91 ∷ 1 ∷ []) ∷ (0x0d ∷ 0xff ∷ []) ∷ (0x0d ∷ 0xa0 ∷ []) ∷ [])
    ≡ Ok (Msg (Name (codes "hi")) (0xc0 ∷ [])) ∷ Ok (Msg (Name (codes "hi")) []) ∷ Ok (Msg (Num (pos 5)) (0x91 ∷ 1 ∷ [])) ∷ Ok (Msg (Num (negsuc 0)) [])
    ∷ Ok (Msg (Name []) []) ∷ []
unfolding reading
messages = refl

-- raw bytes behind a kind may be anything
raw_frames : map read_client ((0x11 ∷ 5 ∷ 0xc1 ∷ 0xc1 ∷ []) ∷ (0x11 ∷ 0xa1 ∷ 0x61 ∷ []) ∷ [])
    ≡ Ok (Raw (Num (pos 5)) (0xc1 ∷ 0xc1 ∷ [])) ∷ Ok (Raw (Name (codes "a")) []) ∷ []
unfolding reading
raw_frames = refl

-- no frame, no code of a client's, a kind that can't be read, a payload that is no value or more than one
refused : map read_client ([] ∷ (0x0b ∷ []) ∷ (0x0e ∷ []) ∷ (0x12 ∷ 0 ∷ []) ∷ (0x0d ∷ []) ∷ (0x0d ∷ 0xca ∷ []) ∷ (0x0d ∷ 0xa2 ∷ 0x68 ∷ []) ∷ (0x11 ∷ 0xcf ∷ [])
    ∷ (0x0d ∷ 5 ∷ 0xc1 ∷ []) ∷ (0x0d ∷ 0xa1 ∷ 0x61 ∷ 0xc0 ∷ 0xc0 ∷ []) ∷ [])
    ≡ Err Empty ∷ Err (UnknownCode 11) ∷ Err (UnknownCode 14) ∷ Err (UnknownCode 18) ∷ Err (Bad 1) ∷ Err (Bad 1) ∷ Err (Bad 1) ∷ Err (Bad 1)
    ∷ Err (Bad 2) ∷ Err (Bad 3) ∷ []
unfolding reading
refused = refl
