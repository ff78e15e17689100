-- Pairs of digits in hex, read one behind another. Ours.
use Rattle.std.specs.Prelude.{ℕ, ◌+◌, ◌-◌, ◌*◌, ◌&&◌, List, [], ◌∷◌, Option, Some, None, nat_le, if◌then◌else◌}
use Rattle.text_model.specs.Lines.{both}

-- the number of a digit; a letter is small
abbrev pub digit_of : ℕ → Option ℕ
digit_of d = if nat_le 48 d && nat_le d 57 then Some (d - 48) else if nat_le 97 d && nat_le d 102 then Some (d - 87) else None

-- the byte of two digits
abbrev pub byte_of : ℕ → ℕ → Option ℕ
byte_of d e = both (λ h l. 16 * h + l) (digit_of d) (digit_of e)

-- the bytes of pairs of digits
abbrev pub pairs_of : List ℕ → Option (List ℕ)
pairs_of [] = Some []
pairs_of (d ∷ []) = None
pairs_of (d ∷ e ∷ w) = both (λ b bs. b ∷ bs) (byte_of d e) (pairs_of w)
