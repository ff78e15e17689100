-- Ids are ASCII.
use Rattle.std.proofs.Common.{◌≡◌, ℕ, ◌<◌, true, List, [], ◌∷◌, ◌==◌, length, arith}
use Rattle.std.specs.List.{list_all}
use Rattle.std.specs.Str.{IsAscii, IsUtf8, is_utf8}
use Rattle.std.proofs.lemmas.Bool.{and_parts}
use Rattle.std.proofs.lemmas.Bool.Decides.{nat_tests}
use Rattle.std.proofs.lemmas.Str.{is_utf8-from_IsUtf8, IsUtf8-from_ascii}
use Rattle.std.proofs.lemmas.Str.Ascii.{IsAscii-nil, IsAscii-cons}
use Rattle.schema_model.specs.Ids.{is_id, is_id_byte}

small_byte : (b : ℕ) → is_id_byte b ≡ true → b < 128
small_byte b h = grind (arith, nat_tests)

pub IsAscii-id_bytes : (w : List ℕ) → list_all is_id_byte w ≡ true → IsAscii w
IsAscii-id_bytes [] h = IsAscii-nil
IsAscii-id_bytes (b ∷ w) h =
    let p = and_parts (is_id_byte b) (list_all is_id_byte w) h in IsAscii-cons b w (small_byte b p.0) (IsAscii-id_bytes w p.1)

pub utf8_from_id_bytes : (w : List ℕ) → list_all is_id_byte w ≡ true → is_utf8 w ≡ true
utf8_from_id_bytes w h = is_utf8-from_IsUtf8 w (IsUtf8-from_ascii w (IsAscii-id_bytes w h))

pub utf8_from_id : (w : List ℕ) → is_id w ≡ true → IsUtf8 w
utf8_from_id w h = IsUtf8-from_ascii w (IsAscii-id_bytes w (and_parts (length w == 9) (list_all is_id_byte w) h).1)
