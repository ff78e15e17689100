-- State frames by their bytes.
use Rattle.std.specs.Prelude.{◌≡◌, ℕ, List, [], ◌∷◌, pos, negsuc, codes, refl}
use Rattle.schema_model.specs.Classes.{Schema}
use Rattle.schema_model.specs.declared.place.Pair.{Pair}
use Rattle.schema_model.specs.declared.value.Value.TheVariants.{Whole, Str, Link}
use Rattle.state_model.specs.declared.row.Row.TheVariants.{Struct}
use Rattle.state_model.specs.declared.row.RowEntry.{RowEntry}
use Rattle.state_model.specs.Rows.{root_alone}
use Rattle.state_model.specs.Shown.{permitted, shared}
use Rattle.state_model.proofs.Examples as ex
use Rattle.wire_model.specs.Frame.{state_frame, full_state}

-- the full state that a client with these members is sent
abbrev full_of : Schema → List RowEntry → List Pair → List ℕ
full_of s rows m = full_state s (shared s rows) (permitted s rows m)

-- the frame of a tick between these states, with members before and after
abbrev frame_of : Schema → List RowEntry → List Pair → List RowEntry → List Pair → List ℕ
frame_of s old m0 new m1 = state_frame s (shared s old) (permitted s old m0) (shared s new) (permitted s new m1)

-- nothing set: the full state is empty
nothing_set : full_of ex.flat (root_alone ex.flat) [] ≡ []
nothing_set = refl

-- a client without members sees a player without its gold
a_hidden_field_stays_hidden : full_of ex.players (ex.one_player 7) []
    ≡ 0x80 ∷ 0x01 ∷ 0xff ∷ 0x01 ∷ 0x80 ∷ 0x00 ∷ 0xa2 ∷ 0x73 ∷ 0x31 ∷ 0x02 ∷ 0xd5 ∷ 0x01 ∷ 0xff ∷ 0x02 ∷ 0x80 ∷ 0xa1 ∷ 0x61 ∷ []
a_hidden_field_stays_hidden = refl

-- one with the player among its members sees the gold
a_member_sees_the_hidden_field : full_of ex.players (ex.one_player 7) (ex.seen_row 2 ∷ [])
    ≡ 0x80 ∷ 0x01 ∷ 0xff ∷ 0x01 ∷ 0x80 ∷ 0x00 ∷ 0xa2 ∷ 0x73 ∷ 0x31 ∷ 0x02 ∷ 0xd5 ∷ 0x01 ∷ 0xff ∷ 0x02 ∷ 0x80 ∷ 0xa1 ∷ 0x61 ∷ 0xff ∷ 0x02 ∷ 0x81 ∷ 0x07 ∷ []
a_member_sees_the_hidden_field = refl

-- gold 7 to 9
gold_for_the_member : frame_of ex.players (ex.one_player 7) (ex.seen_row 2 ∷ []) (ex.one_player 9) (ex.seen_row 2 ∷ []) ≡ 0xff ∷ 0x02 ∷ 0x01 ∷ 0x09 ∷ []
gold_for_the_member = refl

gold_for_the_other : frame_of ex.players (ex.one_player 7) [] (ex.one_player 9) [] ≡ []
gold_for_the_other = refl

-- the member is taken out of the view
the_field_goes : frame_of ex.players (ex.one_player 9) (ex.seen_row 2 ∷ []) (ex.one_player 9) [] ≡ 0xff ∷ 0x02 ∷ 0x41 ∷ []
the_field_goes = refl

-- the player is taken out of the map
the_player_goes : frame_of ex.players (ex.one_player 9) [] ex.no_player [] ≡ 0xff ∷ 0x01 ∷ 0x40 ∷ 0x00 ∷ []
the_player_goes = refl

the_player_goes_from_the_member : frame_of ex.players (ex.one_player 9) (ex.seen_row 2 ∷ []) ex.no_player [] ≡ 0xff ∷ 0x01 ∷ 0x40 ∷ 0x00 ∷ []
the_player_goes_from_the_member = refl

-- a hand of which one card is seen
one_card_seen : full_of ex.hand (ex.two_cards (Link 2 ∷ Link 3 ∷ [])) (ex.seen_row 3 ∷ [])
    ≡ 0x80 ∷ 0x01 ∷ 0xff ∷ 0x01 ∷ 0x81 ∷ 0x03 ∷ 0x03 ∷ 0xd5 ∷ 0x01 ∷ 0xff ∷ 0x03 ∷ 0x80 ∷ 0x05 ∷ []
one_card_seen = refl

-- two seen cards change places
two_cards_change_places : frame_of ex.hand (ex.two_cards (Link 2 ∷ Link 3 ∷ [])) (ex.seen_row 2 ∷ ex.seen_row 3 ∷ [])
    (ex.two_cards (Link 3 ∷ Link 2 ∷ [])) (ex.seen_row 2 ∷ ex.seen_row 3 ∷ [])
    ≡ 0xff ∷ 0x01 ∷ 0x0a ∷ 0x81 ∷ 0x03 ∷ 0x03 ∷ 0xd5 ∷ 0x01 ∷ 0x81 ∷ 0x02 ∷ 0x02 ∷ 0xd5 ∷ 0x01 ∷ []
two_cards_change_places = refl

-- x = -1: byte ff behind the operation is no switch
minus_one : full_of ex.flat (ex.row 0 (Struct 0 (ex.field 0 (Whole (negsuc 0)) ∷ [])) ∷ []) [] ≡ 0x80 ∷ 0xff ∷ []
minus_one = refl

-- a player moves between two maps in one tick
a_player_in_one_map : full_of ex.two_maps (ex.a_player_in (ex.named 0 (codes "p") (Link 3) ∷ []) []) []
    ≡ 0x80 ∷ 0x01 ∷ 0x81 ∷ 0x02 ∷ 0xff ∷ 0x01 ∷ 0x80 ∷ 0x00 ∷ 0xa1 ∷ 0x70 ∷ 0x03 ∷ 0xd5 ∷ 0x01 ∷ 0xff ∷ 0x03 ∷ 0x80 ∷ 0xa1 ∷ 0x6e ∷ []
a_player_in_one_map = refl

a_moved_player : frame_of ex.two_maps (ex.a_player_in (ex.named 0 (codes "p") (Link 3) ∷ []) []) []
    (ex.a_player_in [] (ex.named 0 (codes "q") (Link 3) ∷ [])) []
    ≡ 0xff ∷ 0x01 ∷ 0x40 ∷ 0x00 ∷ 0xff ∷ 0x02 ∷ 0x80 ∷ 0x00 ∷ 0xa1 ∷ 0x71 ∷ 0x03 ∷ 0xd5 ∷ 0x01 ∷ []
a_moved_player = refl

-- a list moves out of a hidden box
a_hidden_box : full_of ex.boxes (ex.a_box_in (ex.field 0 (Link 1) ∷ [])) (ex.seen_row 1 ∷ ex.seen_row 2 ∷ [])
    ≡ 0xff ∷ 0x00 ∷ 0x80 ∷ 0x01 ∷ 0xd5 ∷ 0x01 ∷ 0xff ∷ 0x01 ∷ 0x80 ∷ 0x02 ∷ 0xff ∷ 0x02 ∷ 0x0a ∷ 0x80 ∷ 0x00 ∷ 0x01 ∷ 0x80 ∷ 0x01 ∷ 0x02 ∷ []
a_hidden_box = refl

a_shown_box : frame_of ex.boxes (ex.a_box_in (ex.field 0 (Link 1) ∷ [])) (ex.seen_row 1 ∷ ex.seen_row 2 ∷ [])
    (ex.a_box_in (ex.field 0 (Link 1) ∷ ex.field 1 (Link 1) ∷ [])) (ex.seen_row 1 ∷ ex.seen_row 2 ∷ [])
    ≡ 0x81 ∷ 0x01 ∷ 0xd5 ∷ 0x01 ∷ 0xff ∷ 0x01 ∷ 0x80 ∷ 0x02 ∷ 0xff ∷ 0x02 ∷ 0x0a ∷ 0x80 ∷ 0x00 ∷ 0x01 ∷ 0x80 ∷ 0x01 ∷ 0x02 ∷ []
a_shown_box = refl

-- a set of texts beside a fixed-width number
a_set : full_of ex.tags (ex.some_tags (ex.element 0 (Str (codes "a")) ∷ ex.element 1 (Str (codes "b")) ∷ [])) []
    ≡ 0x80 ∷ 0x01 ∷ 0x81 ∷ 0x01 ∷ 0x02 ∷ 0xff ∷ 0x01 ∷ 0x80 ∷ 0x00 ∷ 0xa1 ∷ 0x61 ∷ 0x80 ∷ 0x01 ∷ 0xa1 ∷ 0x62 ∷ []
a_set = refl

a_taken_tag : frame_of ex.tags (ex.some_tags (ex.element 0 (Str (codes "a")) ∷ ex.element 1 (Str (codes "b")) ∷ [])) [] (ex.some_tags (ex.element 1 (Str (codes "b")) ∷ [])) []
    ≡ 0xff ∷ 0x01 ∷ 0x40 ∷ 0x00 ∷ []
a_taken_tag = refl

-- a list loses its first number
a_list_loses_its_first : frame_of ex.numbers (ex.a_list (Whole (pos 1) ∷ Whole (pos 2) ∷ Whole (pos 3) ∷ [])) [] (ex.a_list (Whole (pos 2) ∷ Whole (pos 3) ∷ [])) []
    ≡ 0xff ∷ 0x01 ∷ 0x00 ∷ 0x00 ∷ 0x02 ∷ 0x00 ∷ 0x01 ∷ 0x03 ∷ 0x40 ∷ 0x02 ∷ []
a_list_loses_its_first = refl
