-- What state bytes decode to, and every way in which they are refused.
use Rattle.std.specs.Prelude.{◌≡◌, ℕ, List, [], ◌∷◌, map, set, take, Result, Ok, Err, codes, refl}
use Rattle.schema_model.specs.declared.fault.ReadFault.TheVariants.{Short, Fractional, BadText, BadForm}
use Rattle.schema_model.specs.declared.value.Value.TheVariants.{Link}
use Rattle.state_model.specs.declared.row.Row.TheVariants.{Struct, Map}
use Rattle.state_model.specs.declared.row.RowEntry.{RowEntry}
use Rattle.state_model.specs.Rows.{root_alone}
use Rattle.state_model.specs.Shown.{shared}
use Rattle.state_model.proofs.Examples as ex
use Rattle.wire_model.specs.Decoded.{decoded}
use Rattle.wire_model.specs.declared.fault.OpFault.{OpFault}
use Rattle.wire_model.specs.declared.fault.OpFault.TheVariants as fault
use Rattle.wire_model.proofs.Opened.{reading}

-- the shared rows of a hand: the array without its hidden cards
abbrev hand_rows : List RowEntry
hand_rows = shared ex.hand (ex.two_cards (Link 2 ∷ Link 3 ∷ []))

unknown_holder : decoded ex.hand (0xff ∷ 0x05 ∷ []) hand_rows ≡ Err (fault.UnknownRef 1)
unfolding reading
unknown_holder = refl

cut_reference : decoded ex.hand (0x80 ∷ []) hand_rows ≡ Err (fault.Scalar (Short 1))
unfolding reading
cut_reference = refl

floating_reference : decoded ex.hand (0x80 ∷ 0xca ∷ 0x00 ∷ 0x00 ∷ 0x00 ∷ 0x00 ∷ []) hand_rows ≡ Err (fault.Scalar (Fractional 1))
unfolding reading
floating_reference = refl

moved_item : decoded ex.hand (0xff ∷ 0x01 ∷ 0x20 ∷ []) hand_rows ≡ Err (fault.Unsupported 2 32)
unfolding reading
moved_item = refl

cut_value : decoded ex.hand (0xff ∷ 0x01 ∷ 0x80 ∷ 0x01 ∷ []) hand_rows ≡ Err (fault.Scalar (Short 4))
unfolding reading
cut_value = refl

past_the_end : decoded ex.hand (0xff ∷ 0x01 ∷ 0x80 ∷ 0x05 ∷ 0x05 ∷ []) hand_rows ≡ Err (fault.NoItem 3)
unfolding reading
past_the_end = refl

unknown_field : decoded ex.hand (0x01 ∷ []) hand_rows ≡ Err (fault.UnknownField 0)
unfolding reading
unknown_field = refl

unknown_operation : decoded ex.hand (0x80 ∷ 0x01 ∷ 0xff ∷ 0x01 ∷ 0x7f ∷ []) hand_rows ≡ Err (fault.UnknownOp 4 127)
unfolding reading
unknown_operation = refl

nothing_there : decoded ex.hand (0xff ∷ 0x01 ∷ 0x40 ∷ 0x05 ∷ []) hand_rows ≡ Ok hand_rows
unfolding reading
nothing_there = refl

no_bytes : decoded ex.hand [] hand_rows ≡ Ok hand_rows
no_bytes = refl

-- ---- a full state, and what becomes of it

abbrev full : List ℕ
full = 0x80 ∷ 0x01 ∷ 0xff ∷ 0x01 ∷ 0x80 ∷ 0x00 ∷ 0xa2 ∷ 0x73 ∷ 0x31 ∷ 0x02 ∷ 0xd5 ∷ 0x01 ∷ 0xff ∷ 0x02 ∷ 0x80 ∷ 0xa1 ∷ 0x61 ∷ []

a_full_state : decoded ex.players full (root_alone ex.players) ≡ Ok (shared ex.players (ex.one_player 7))
unfolding reading
a_full_state = refl

-- the full state with another byte at a place
abbrev altered : ℕ × ℕ → Result (List RowEntry) OpFault
altered change = decoded ex.players (set full change.0 change.1) (root_alone ex.players)

an_altered_root_is_refused : map altered ((0, 0xc5) ∷ (1, 0xff) ∷ (3, 0x05) ∷ [])
    ≡ Err (fault.UnknownField 0) ∷ Err (fault.Scalar (BadForm 1)) ∷ Err (fault.UnknownRef 3) ∷ []
unfolding reading
an_altered_root_is_refused = refl

an_altered_operation_is_refused : map altered ((4, 0x0f) ∷ (4, 0x21) ∷ (4, 0x00) ∷ [])
    ≡ Err (fault.Unsupported 4 15) ∷ Err (fault.UnknownOp 4 33) ∷ Err (fault.Scalar (BadForm 6)) ∷ []
unfolding reading
an_altered_operation_is_refused = refl

an_altered_key_is_refused : map altered ((6, 0x05) ∷ (7, 0xff) ∷ []) ≡ Err (fault.Scalar (BadForm 6)) ∷ Err (fault.Scalar (BadText 6)) ∷ []
unfolding reading
an_altered_key_is_refused = refl

an_altered_link_is_refused : map altered ((9, 0x01) ∷ (11, 0x00) ∷ (11, 0x02) ∷ [])
    ≡ Err (fault.WrongClass 9) ∷ Err (fault.WrongClass 9) ∷ Err (fault.UnknownType 11) ∷ []
unfolding reading
an_altered_link_is_refused = refl

an_altered_player_is_refused : map altered ((13, 0x03) ∷ (14, 0x85) ∷ (15, 0x05) ∷ (15, 0xa2) ∷ [])
    ≡ Err (fault.UnknownRef 13) ∷ Err (fault.UnknownField 14) ∷ Err (fault.Scalar (BadForm 15)) ∷ Err (fault.Scalar (Short 17)) ∷ []
unfolding reading
an_altered_player_is_refused = refl

-- the first bytes of the full state
abbrev cut : ℕ → Result (List RowEntry) OpFault
cut n = decoded ex.players (take n full) (root_alone ex.players)

-- the root with an empty map 1, and with player 2 in it, of whom nothing is known yet
abbrev map_alone : List RowEntry
map_alone = ex.row 0 (Struct 0 (ex.field 0 (Link 1) ∷ [])) ∷ ex.row 1 (Map (ex.home 0 0) []) ∷ []

abbrev nameless : List RowEntry
nameless = ex.row 0 (Struct 0 (ex.field 0 (Link 1) ∷ [])) ∷ ex.row 1 (Map (ex.home 0 0) (ex.named 0 (codes "s1") (Link 2) ∷ []))
    ∷ ex.row 2 (Struct 1 []) ∷ []

bytes_that_end_behind_a_step_are_read : map cut (0 ∷ 2 ∷ 4 ∷ 10 ∷ 12 ∷ 14 ∷ 17 ∷ [])
    ≡ Ok (ex.row 0 (Struct 0 []) ∷ []) ∷ Ok map_alone ∷ Ok map_alone ∷ Ok nameless ∷ Ok nameless ∷ Ok nameless
    ∷ Ok (shared ex.players (ex.one_player 7)) ∷ []
unfolding reading
bytes_that_end_behind_a_step_are_read = refl

-- the lengths at which a step is cut
abbrev in_a_step : List ℕ
in_a_step = 1 ∷ 3 ∷ 5 ∷ 6 ∷ 7 ∷ 8 ∷ 9 ∷ 11 ∷ 13 ∷ 15 ∷ 16 ∷ []

bytes_that_end_in_a_step_are_short : map cut in_a_step ≡ map (λ n. Err (fault.Scalar (Short n))) in_a_step
unfolding reading
bytes_that_end_in_a_step_are_short = refl
