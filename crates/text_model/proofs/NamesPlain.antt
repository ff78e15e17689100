-- Names and ids hold no space and no LF, so that lines are cut where they were joined.
use Rattle.std.proofs.Common.{◌≡◌, ℕ, ◌<◌, Bool, true, false, not, ◌&&◌, List, refl, sym, ◌∙◌, leb, leb-false}
use Rattle.std.specs.List.{list_all}
use Rattle.std.proofs.lemmas.Bool.{and_parts, true≢false, agree_below_at}
use Rattle.text_model.specs.Marks.{is_name_byte, is_id_byte, has_name_length, is_one_of, kind_words, shape_words, is_class_name, is_field_name, is_id, is_room_name}
use Rattle.text_model.proofs.Spaced.{is_plain, all_pass}

-- ---- names and ids

-- bytes of a class that has none below 33
plain_bytes : (p : ℕ → Bool) (w : List ℕ) → ((b : ℕ) → b < 33 → p b ≡ false) → list_all p w ≡ true → is_plain w ≡ true
plain_bytes p w none h = all_pass p (leb 33) w (λ b k. from b k (leb 33 b) refl) h
  where
    from : (b : ℕ) → p b ≡ true → (t : Bool) → leb 33 b ≡ t → leb 33 b ≡ true
    from b k true e = e
    from b k false e = absurd (true≢false (sym k ∙ none b (leb-false 33 b e)))

ids_plain : (w : List ℕ) → list_all is_id_byte w ≡ true → is_plain w ≡ true
ids_plain w h = plain_bytes is_id_byte w (λ b l. agree_below_at is_id_byte (λ _. false) 33 b refl l) h

names_plain : (w : List ℕ) → list_all is_name_byte w ≡ true → is_plain w ≡ true
names_plain w h = plain_bytes is_name_byte w (λ b l. agree_below_at is_name_byte (λ _. false) 33 b refl l) h

pub id_plain : (w : List ℕ) → is_id w ≡ true → is_plain w ≡ true
id_plain w h = ids_plain w (and_parts _ (list_all is_id_byte w) h).1

pub room_name_plain : (w : List ℕ) → is_room_name w ≡ true → is_plain w ≡ true
room_name_plain w h = ids_plain w (and_parts (has_name_length w) (list_all is_id_byte w) h).1

pub field_name_plain : (w : List ℕ) → is_field_name w ≡ true → is_plain w ≡ true
field_name_plain w h = names_plain w (and_parts (has_name_length w) (list_all is_name_byte w) (and_parts (has_name_length w && list_all is_name_byte w) (not (is_one_of kind_words w)) h).0).1

pub class_name_plain : (w : List ℕ) → is_class_name w ≡ true → is_plain w ≡ true
class_name_plain w h = field_name_plain w (and_parts (is_field_name w) (not (is_one_of shape_words w)) h).0
