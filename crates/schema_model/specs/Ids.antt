-- Ids as texts.
use Rattle.std.specs.Prelude.{ℕ, Bool, ◌&&◌, ◌||◌, ◌==◌, List, length, nat_le}
use Rattle.std.specs.List.{list_all}

-- a letter, a digit or '_'
abbrev pub is_name_byte : ℕ → Bool
is_name_byte b = (nat_le 97 b && nat_le b 122) || (nat_le 65 b && nat_le b 90) || (nat_le 48 b && nat_le b 57) || (b == 95)

-- one of those, or '-'
abbrev pub is_id_byte : ℕ → Bool
is_id_byte b = is_name_byte b || (b == 45)

-- nine of them
abbrev pub is_id : List ℕ → Bool
is_id w = (length w == 9) && list_all is_id_byte w
