-- Names are ASCII.
use Rattle.std.proofs.Common.{◌≡◌, ℕ, true, List, [], ◌∷◌, ◌&&◌, not, arith}
use Rattle.std.specs.List.{list_all}
use Rattle.std.proofs.lemmas.Bool.{and_parts, and_from}
use Rattle.std.proofs.lemmas.Bool.Decides.{nat_tests}
use Rattle.text_model.specs.Marks.{has_name_length, is_id_byte, is_name_byte, is_class_name, is_field_name, is_one_of, is_room_name, kind_words, shape_words}

id_byte_from_name : (b : ℕ) → is_name_byte b ≡ true → is_id_byte b ≡ true
id_byte_from_name b h = grind (arith, nat_tests)

id_bytes_from_name : (w : List ℕ) → list_all is_name_byte w ≡ true → list_all is_id_byte w ≡ true
id_bytes_from_name [] h = h
id_bytes_from_name (b ∷ w) h =
    let p = and_parts (is_name_byte b) (list_all is_name_byte w) h in
    and_from (is_id_byte b) (list_all is_id_byte w) (id_byte_from_name b p.0) (id_bytes_from_name w p.1)

pub field_name_bytes : (w : List ℕ) → is_field_name w ≡ true → list_all is_id_byte w ≡ true
field_name_bytes w h =
    let p = and_parts (has_name_length w && list_all is_name_byte w) (not (is_one_of kind_words w)) h in
    id_bytes_from_name w (and_parts (has_name_length w) (list_all is_name_byte w) p.0).1

pub class_name_bytes : (w : List ℕ) → is_class_name w ≡ true → list_all is_id_byte w ≡ true
class_name_bytes w h = field_name_bytes w (and_parts (is_field_name w) (not (is_one_of shape_words w)) h).0

pub room_name_bytes : (w : List ℕ) → is_room_name w ≡ true → list_all is_id_byte w ≡ true
room_name_bytes w h = (and_parts (has_name_length w) (list_all is_id_byte w) h).1
