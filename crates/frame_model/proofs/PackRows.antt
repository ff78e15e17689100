-- MessagePack values by their bytes, worked out by hand from the format: what bytes are, why they are refused, and the
-- bytes of values.
use Rattle.std.specs.Prelude.{◌≡◌, ℕ, zero, suc, ◌^◌, ◌-◌, true, false, List, [], ◌∷◌, ◌++◌, Ok, Err, map, pos, negsuc, codes, refl}
use Rattle.frame_model.specs.declared.fault.PackFault.TheVariants.{Short, Float, Extension, BadText, KeyNotText, TooDeep, Trailing, Reserved}
use Rattle.frame_model.specs.PackData.{PackData, nil, truth, whole, text, binary, list, dict, items_of, members_of}
use Rattle.frame_model.specs.Packs.{read_pack, pack_bytes, text_head, binary_head, list_head, dict_head, has_bytes, depth}
use Rattle.frame_model.proofs.Opened.{reading}

-- so many of one
abbrev many : {X : Type 0} → ℕ → X → List X
many zero x = []
many (suc n) x = x ∷ many n x

-- ---- what bytes are

-- nil, the truths, whole numbers of each width
plain_values : map read_pack ((0xc0 ∷ []) ∷ (0xc2 ∷ []) ∷ (0xc3 ∷ []) ∷ (0x7f ∷ []) ∷ (0xe0 ∷ []) ∷ (0xcc ∷ 0xff ∷ []) ∷ (0xcd ∷ 1 ∷ 0 ∷ [])
    ∷ (0xce ∷ 0 ∷ 1 ∷ 0 ∷ 0 ∷ []) ∷ (0xcf ∷ 0 ∷ 0 ∷ 0 ∷ 1 ∷ 0 ∷ 0 ∷ 0 ∷ 0 ∷ []) ∷ (0xd0 ∷ 0x80 ∷ []) ∷ (0xd1 ∷ 0xff ∷ 0 ∷ [])
    ∷ (0xd2 ∷ 0xff ∷ 0 ∷ 0 ∷ 0 ∷ []) ∷ (0xd3 ∷ 0xff ∷ 0 ∷ 0 ∷ 0 ∷ 0 ∷ 0 ∷ 0 ∷ 0 ∷ []) ∷ [])
    ≡ Ok nil ∷ Ok (truth false) ∷ Ok (truth true) ∷ Ok (whole (pos 127)) ∷ Ok (whole (negsuc 31)) ∷ Ok (whole (pos 255)) ∷ Ok (whole (pos 256))
    ∷ Ok (whole (pos 65536)) ∷ Ok (whole (pos (2 ^ 32))) ∷ Ok (whole (negsuc 127)) ∷ Ok (whole (negsuc 255))
    ∷ Ok (whole (negsuc (2 ^ 24 - 1))) ∷ Ok (whole (negsuc (2 ^ 56 - 1))) ∷ []
unfolding reading
plain_values = refl

-- numbers at the edges of their widths, also in a wider form than they need
edges : map read_pack ((0 ∷ []) ∷ (0xff ∷ []) ∷ (0xcc ∷ 0 ∷ []) ∷ (0xcf ∷ 0 ∷ 0 ∷ 0 ∷ 0 ∷ 0 ∷ 0 ∷ 0 ∷ 5 ∷ []) ∷ (0xcf ∷ many 8 0xff) ∷ (0xd0 ∷ 0x7f ∷ []) ∷ (0xd3 ∷ 0x80 ∷ many 7 0) ∷ (0xd3 ∷ 0x7f ∷ many 7 0xff) ∷ [])
    ≡ Ok (whole (pos 0)) ∷ Ok (whole (negsuc 0)) ∷ Ok (whole (pos 0)) ∷ Ok (whole (pos 5)) ∷ Ok (whole (pos (2 ^ 64 - 1))) ∷ Ok (whole (pos 127)) ∷ Ok (whole (negsuc (2 ^ 63 - 1))) ∷ Ok (whole (pos (2 ^ 63 - 1))) ∷ []
unfolding reading
edges = refl

-- texts and bytes
texts : map read_pack ((0xa0 ∷ []) ∷ (0xa2 ∷ 0x68 ∷ 0x69 ∷ []) ∷ (0xd9 ∷ 1 ∷ 0x68 ∷ []) ∷ (0xda ∷ 0 ∷ 1 ∷ 0x68 ∷ []) ∷ (0xdb ∷ 0 ∷ 0 ∷ 0 ∷ 1 ∷ 0x68 ∷ [])
    ∷ (0xc4 ∷ 1 ∷ 0xff ∷ []) ∷ (0xc5 ∷ 0 ∷ 1 ∷ 0xff ∷ []) ∷ (0xc6 ∷ 0 ∷ 0 ∷ 0 ∷ 1 ∷ 0xff ∷ []) ∷ (0xa1 ∷ 0xff ∷ []) ∷ [])
    ≡ Ok (text []) ∷ Ok (text (codes "hi")) ∷ Ok (text (codes "h")) ∷ Ok (text (codes "h")) ∷ Ok (text (codes "h")) ∷ Ok (binary (255 ∷ [])) ∷ Ok (binary (255 ∷ [])) ∷ Ok (binary (255 ∷ [])) ∷ Err (BadText 0) ∷ []
unfolding reading
texts = refl

-- lists and maps
holders : map read_pack ((0x90 ∷ []) ∷ (0x92 ∷ 1 ∷ 0xa1 ∷ 0x61 ∷ []) ∷ (0xdc ∷ 0 ∷ 1 ∷ 7 ∷ []) ∷ (0xdd ∷ 0 ∷ 0 ∷ 0 ∷ 1 ∷ 7 ∷ []) ∷ (0x80 ∷ [])
    ∷ (0x81 ∷ 0xa1 ∷ 0x61 ∷ 1 ∷ []) ∷ (0xde ∷ 0 ∷ 1 ∷ 0xa1 ∷ 0x61 ∷ 1 ∷ []) ∷ (0xdf ∷ 0 ∷ 0 ∷ 0 ∷ 1 ∷ 0xa1 ∷ 0x61 ∷ 0x91 ∷ 0xc0 ∷ []) ∷ [])
    ≡ Ok (list (items_of [])) ∷ Ok (list (items_of (whole (pos 1) ∷ text (codes "a") ∷ []))) ∷ Ok (list (items_of (whole (pos 7) ∷ []))) ∷ Ok (list (items_of (whole (pos 7) ∷ []))) ∷ Ok (dict (members_of []))
    ∷ Ok (dict (members_of ((codes "a", whole (pos 1)) ∷ []))) ∷ Ok (dict (members_of ((codes "a", whole (pos 1)) ∷ []))) ∷ Ok (dict (members_of ((codes "a", list (items_of (nil ∷ []))) ∷ []))) ∷ []
unfolding reading
holders = refl

-- keys may come twice, and in any order
keys : map read_pack ((0x82 ∷ 0xa1 ∷ 0x62 ∷ 1 ∷ 0xd9 ∷ 1 ∷ 0x62 ∷ 2 ∷ []) ∷ []) ≡ Ok (dict (members_of ((codes "b", whole (pos 1)) ∷ (codes "b", whole (pos 2)) ∷ []))) ∷ []
unfolding reading
keys = refl

-- ---- what is refused

-- by a first byte
refused : map read_pack ((0xc1 ∷ []) ∷ (0xca ∷ 0 ∷ 0 ∷ 0 ∷ 0 ∷ []) ∷ (0xcb ∷ []) ∷ (0xc7 ∷ []) ∷ (0xc8 ∷ []) ∷ (0xc9 ∷ []) ∷ (0xd4 ∷ []) ∷ (0xd5 ∷ []) ∷ (0xd6 ∷ []) ∷ (0xd7 ∷ []) ∷ (0xd8 ∷ []) ∷ (0x91 ∷ 0xc1 ∷ [])
    ∷ (0x81 ∷ 1 ∷ 1 ∷ []) ∷ (0x81 ∷ 0xc4 ∷ []) ∷ (0x81 ∷ 0x91 ∷ []) ∷ (0x81 ∷ 0xca ∷ []) ∷ (0x81 ∷ 0xa1 ∷ 0xff ∷ 1 ∷ []) ∷ [])
    ≡ Err (Reserved 0) ∷ Err (Float 0) ∷ Err (Float 0) ∷ Err (Extension 0) ∷ Err (Extension 0) ∷ Err (Extension 0) ∷ Err (Extension 0) ∷ Err (Extension 0) ∷ Err (Extension 0) ∷ Err (Extension 0) ∷ Err (Extension 0) ∷ Err (Reserved 1)
    ∷ Err (KeyNotText 1) ∷ Err (KeyNotText 1) ∷ Err (KeyNotText 1) ∷ Err (KeyNotText 1) ∷ Err (BadText 1) ∷ []
unfolding reading
refused = refl

-- bytes that end too early, and bytes behind the value
cut : map read_pack ([] ∷ (0xcd ∷ 1 ∷ []) ∷ (0xa2 ∷ 0x68 ∷ []) ∷ (0xd9 ∷ []) ∷ (0x92 ∷ 1 ∷ []) ∷ (0xdd ∷ 0xff ∷ 0xff ∷ 0xff ∷ 0xff ∷ []) ∷ (0x81 ∷ []) ∷ (0x81 ∷ 0xa0 ∷ []) ∷ (0xc4 ∷ 2 ∷ 0 ∷ []) ∷ (0xd3 ∷ many 7 0)
    ∷ (0xc0 ∷ 0xc0 ∷ []) ∷ (0x91 ∷ 1 ∷ 2 ∷ []) ∷ [])
    ≡ Err (Short 0) ∷ Err (Short 2) ∷ Err (Short 2) ∷ Err (Short 1) ∷ Err (Short 2) ∷ Err (Short 5) ∷ Err (Short 1) ∷ Err (Short 2) ∷ Err (Short 3) ∷ Err (Short 8)
    ∷ Err (Trailing 1) ∷ Err (Trailing 2) ∷ []
unfolding reading
cut = refl

-- lists in lists
abbrev within : ℕ → PackData → PackData
within zero d = d
within (suc n) d = list (items_of (within n d ∷ []))

-- 32 levels are read; the 33rd is refused at its first byte, also where its length is missing
deep : map read_pack ((many 31 0x91 ++ 0x90 ∷ []) ∷ (many 32 0x91 ++ 0xc0 ∷ []) ∷ (many 32 0x91 ++ 0x90 ∷ []) ∷ (many 32 0x91 ++ 0xdc ∷ []) ∷ (many 32 0x91 ++ 0x80 ∷ []) ∷ [])
    ≡ Ok (within 31 (list (items_of []))) ∷ Ok (within 32 nil) ∷ Err (TooDeep 32) ∷ Err (TooDeep 32) ∷ Err (TooDeep 32) ∷ []
unfolding reading
deep = refl

-- ---- the bytes of values

-- whole numbers at the edges of their forms
naturals : map (λ n. pack_bytes (whole (pos n))) (0 ∷ 127 ∷ 128 ∷ 255 ∷ 256 ∷ 65535 ∷ 65536 ∷ (2 ^ 32 - 1) ∷ (2 ^ 32) ∷ (2 ^ 64 - 1) ∷ [])
    ≡ (0 ∷ []) ∷ (0x7f ∷ []) ∷ (0xcc ∷ 0x80 ∷ []) ∷ (0xcc ∷ 0xff ∷ []) ∷ (0xcd ∷ 1 ∷ 0 ∷ []) ∷ (0xcd ∷ 0xff ∷ 0xff ∷ []) ∷ (0xce ∷ 0 ∷ 1 ∷ 0 ∷ 0 ∷ []) ∷ (0xce ∷ many 4 0xff)
    ∷ (0xcf ∷ 0 ∷ 0 ∷ 0 ∷ 1 ∷ 0 ∷ 0 ∷ 0 ∷ 0 ∷ []) ∷ (0xcf ∷ many 8 0xff) ∷ []
naturals = refl

negatives : map (λ n. pack_bytes (whole (negsuc n))) (0 ∷ 31 ∷ 32 ∷ 127 ∷ 128 ∷ 32767 ∷ 32768 ∷ (2 ^ 31 - 1) ∷ (2 ^ 31) ∷ (2 ^ 63 - 1) ∷ [])
    ≡ (0xff ∷ []) ∷ (0xe0 ∷ []) ∷ (0xd0 ∷ 0xdf ∷ []) ∷ (0xd0 ∷ 0x80 ∷ []) ∷ (0xd1 ∷ 0xff ∷ 0x7f ∷ []) ∷ (0xd1 ∷ 0x80 ∷ 0 ∷ []) ∷ (0xd2 ∷ 0xff ∷ 0xff ∷ 0x7f ∷ 0xff ∷ []) ∷ (0xd2 ∷ 0x80 ∷ 0 ∷ 0 ∷ 0 ∷ [])
    ∷ (0xd3 ∷ 0xff ∷ 0xff ∷ 0xff ∷ 0xff ∷ 0x7f ∷ 0xff ∷ 0xff ∷ 0xff ∷ []) ∷ (0xd3 ∷ 0x80 ∷ many 7 0) ∷ []
negatives = refl

-- pairs of an empty key and nil
abbrev pairs : ℕ → List ℕ
pairs zero = []
pairs (suc n) = 0xa0 ∷ 0xc0 ∷ pairs n

-- texts, bytes, lists and maps at the edges of their heads
heads : map pack_bytes (nil ∷ truth false ∷ truth true ∷ text (many 31 0x61) ∷ text (many 32 0x61) ∷ binary [] ∷ list (items_of (many 15 nil)) ∷ list (items_of (many 16 nil))
    ∷ dict (members_of (many 15 ([], nil))) ∷ dict (members_of (many 16 ([], nil))) ∷ [])
    ≡ (0xc0 ∷ []) ∷ (0xc2 ∷ []) ∷ (0xc3 ∷ []) ∷ (0xbf ∷ many 31 0x61) ∷ (0xd9 ∷ 0x20 ∷ many 32 0x61) ∷ (0xc4 ∷ 0 ∷ []) ∷ (0x9f ∷ many 15 0xc0) ∷ (0xdc ∷ 0 ∷ 0x10 ∷ many 16 0xc0)
    ∷ (0x8f ∷ pairs 15) ∷ (0xde ∷ 0 ∷ 0x10 ∷ pairs 16) ∷ []
heads = refl

-- the heads of long ones
abbrev lengths : List ℕ
lengths = 255 ∷ 256 ∷ 65535 ∷ 65536 ∷ []

long_texts : map text_head lengths ≡ (0xd9 ∷ 0xff ∷ []) ∷ (0xda ∷ 1 ∷ 0 ∷ []) ∷ (0xda ∷ 0xff ∷ 0xff ∷ []) ∷ (0xdb ∷ 0 ∷ 1 ∷ 0 ∷ 0 ∷ []) ∷ []
long_texts = refl

long_binaries : map binary_head lengths ≡ (0xc4 ∷ 0xff ∷ []) ∷ (0xc5 ∷ 1 ∷ 0 ∷ []) ∷ (0xc5 ∷ 0xff ∷ 0xff ∷ []) ∷ (0xc6 ∷ 0 ∷ 1 ∷ 0 ∷ 0 ∷ []) ∷ []
long_binaries = refl

long_lists : map list_head lengths ≡ (0xdc ∷ 0 ∷ 0xff ∷ []) ∷ (0xdc ∷ 1 ∷ 0 ∷ []) ∷ (0xdc ∷ 0xff ∷ 0xff ∷ []) ∷ (0xdd ∷ 0 ∷ 1 ∷ 0 ∷ 0 ∷ []) ∷ []
long_lists = refl

long_dicts : map dict_head lengths ≡ (0xde ∷ 0 ∷ 0xff ∷ []) ∷ (0xde ∷ 1 ∷ 0 ∷ []) ∷ (0xde ∷ 0xff ∷ 0xff ∷ []) ∷ (0xdf ∷ 0 ∷ 1 ∷ 0 ∷ 0 ∷ []) ∷ []
long_dicts = refl

-- a map with a list in it
mixed : pack_bytes (dict (members_of ((codes "a", list (items_of (whole (pos 1) ∷ text (codes "b") ∷ []))) ∷ (codes "c", binary (7 ∷ [])) ∷ [])))
    ≡ 0x82 ∷ 0xa1 ∷ 0x61 ∷ 0x92 ∷ 1 ∷ 0xa1 ∷ 0x62 ∷ 0xa1 ∷ 0x63 ∷ 0xc4 ∷ 1 ∷ 7 ∷ []
mixed = refl

-- which values have bytes, and how deep they are
measures : map has_bytes (whole (pos (2 ^ 64 - 1)) ∷ whole (pos (2 ^ 64)) ∷ whole (negsuc (2 ^ 63 - 1)) ∷ whole (negsuc (2 ^ 63)) ∷ list (items_of (nil ∷ whole (pos (2 ^ 64)) ∷ [])) ∷ dict (members_of (([], whole (negsuc (2 ^ 63))) ∷ [])) ∷ [])
    ≡ true ∷ false ∷ true ∷ false ∷ false ∷ false ∷ []
measures = refl

depths : map depth (nil ∷ list (items_of []) ∷ dict (members_of (([], list (items_of (nil ∷ []))) ∷ ([], nil) ∷ [])) ∷ within 32 nil ∷ []) ≡ 0 ∷ 1 ∷ 2 ∷ 32 ∷ []
depths = refl
