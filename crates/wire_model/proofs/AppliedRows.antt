-- What blocks and frames make of rows: named rows, holes, missed items, freed rows, and frames one after another.
use Rattle.std.specs.Prelude.{◌≡◌, ℕ, List, [], ◌∷◌, map, pos, Option, Some, None, Result, Ok, Err, codes, refl}
use Rattle.schema_model.specs.declared.fault.ReadFault.TheVariants.{Short}
use Rattle.schema_model.specs.declared.value.Value.TheVariants.{Whole, Str, Link}
use Rattle.schema_model.specs.declared.scalar.ScalarKind.TheVariants as kind
use Rattle.state_model.specs.declared.row.Row.TheVariants as row
use Rattle.state_model.specs.declared.row.RowEntry.{RowEntry}
use Rattle.state_model.specs.Rows.{root_alone}
use Rattle.state_model.specs.Shown.{permitted, shared}
use Rattle.state_model.proofs.Examples as ex
use Rattle.wire_model.specs.declared.op.OpKey.TheVariants.{Field, Item}
use Rattle.wire_model.specs.declared.fault.OpFault.{OpFault}
use Rattle.wire_model.specs.declared.fault.OpFault.TheVariants as fault
use Rattle.wire_model.specs.Edits.{Carried, Plain, Linked, AWhole, Edit, Add, Replace, DeleteAdd, Delete, Clear, AddByRef, DeleteByRef, EditBlock}
use Rattle.wire_model.specs.Effect.{Slots, carried_by, with_linked, with_named, apply_block, apply_edits}
use Rattle.wire_model.specs.Grammar.{PlacedEdit, ReadBlock}
use Rattle.wire_model.specs.Decoded.{edits_of, missed_in, missed_by, run_or_miss, run_blocks, ended_by, decoded, frame_base, after_frame, seen}
use Rattle.wire_model.proofs.Opened.{reading}

abbrev number : ℕ → Carried
number n = Plain kind.Number (AWhole (pos n))

-- a node, which has no places
abbrev node : ℕ → Carried
node n = Linked n (row.Struct 0 [])

abbrev node_row : ℕ → RowEntry
node_row n = ex.row n (row.Struct 0 [])

-- a node that holds another one
abbrev holds : ℕ → ℕ → RowEntry
holds n m = ex.row n (row.Struct 0 (ex.field 0 (Link m) ∷ []))

-- ---- the rows that operations name

four_operations_carry_a_value : map carried_by (Add (Field 0) (node 1) ∷ Replace (Field 0) (number 2) ∷ DeleteAdd (Field 0) (node 3)
    ∷ AddByRef (node 4) ∷ Delete (Field 0) ∷ Clear ∷ DeleteByRef 5 ∷ [])
    ≡ Some (node 1) ∷ Some (number 2) ∷ Some (node 3) ∷ Some (node 4) ∷ None ∷ None ∷ None ∷ []
four_operations_carry_a_value = refl

-- a row that is there stays as it is
a_linked_row_is_there_afterwards : map (λ c. with_linked c (holds 0 2 ∷ node_row 2 ∷ [])) (node 1 ∷ node 0 ∷ number 1 ∷ [])
    ≡ (holds 0 2 ∷ node_row 1 ∷ node_row 2 ∷ []) ∷ (holds 0 2 ∷ node_row 2 ∷ []) ∷ (holds 0 2 ∷ node_row 2 ∷ []) ∷ []
a_linked_row_is_there_afterwards = refl

named_rows_are_there_afterwards :
    with_named
    (AddByRef (node 5) ∷ Replace (Field 0) (number 1) ∷ Add (Field 0) (node 3) ∷ AddByRef (node 5) ∷ Delete (Field 0) ∷ Clear ∷ [])
    (node_row 0 ∷ [])
    ≡ node_row 0 ∷ node_row 3 ∷ node_row 5 ∷ []
named_rows_are_there_afterwards = refl

-- ---- blocks

abbrev block : ℕ → List Edit → EditBlock
block n es = record { holder = n; edits = es }

a_block_changes_its_holder : apply_block (holds 0 1 ∷ node_row 1 ∷ []) (block 1 (Add (Field 0) (node 2) ∷ []))
    ≡ holds 0 1 ∷ holds 1 2 ∷ node_row 2 ∷ []
a_block_changes_its_holder = refl

a_block_frees_nothing : apply_block (holds 0 1 ∷ node_row 1 ∷ []) (block 0 (Delete (Field 0) ∷ [])) ≡ node_row 0 ∷ node_row 1 ∷ []
a_block_frees_nothing = refl

-- no bytes give such a block
a_block_of_no_row_names_its_rows_alone : apply_block (node_row 0 ∷ []) (block 9 (Add (Field 0) (node 2) ∷ [])) ≡ node_row 0 ∷ node_row 2 ∷ []
a_block_of_no_row_names_its_rows_alone = refl

blocks_go_one_after_another :
    apply_edits (block 0 (Add (Field 0) (node 1) ∷ []) ∷ block 1 (Add (Field 0) (node 2) ∷ []) ∷ block 0 (Delete (Field 0) ∷ []) ∷ []) (node_row 0 ∷ [])
    ≡ node_row 0 ∷ holds 1 2 ∷ node_row 2 ∷ []
blocks_go_one_after_another = refl

no_blocks_change_nothing : apply_edits [] (holds 0 1 ∷ node_row 1 ∷ []) ≡ holds 0 1 ∷ node_row 1 ∷ []
no_blocks_change_nothing = refl

-- ---- missed items

abbrev placed : ℕ → Edit → PlacedEdit
placed n e = record { edit = e; number_place = n }

-- operations on an array of the numbers 7 and 8
abbrev missed : List PlacedEdit → Option ℕ
missed es = missed_in es (Slots (ex.home 0 0) (Some (Whole (pos 7)) ∷ Some (Whole (pos 8)) ∷ []))

-- after CLEAR position 1 is past the length
the_first_missed_item_is_told : map missed
    ([] ∷ (placed 3 (Replace (Item 1) (number 9)) ∷ []) ∷ (placed 3 (Replace (Item 3) (number 9)) ∷ placed 6 (Replace (Item 4) (number 9)) ∷ [])
    ∷ (placed 3 (Replace (Item 2) (number 9)) ∷ placed 6 (Replace (Item 3) (number 9)) ∷ placed 9 (Replace (Item 5) (number 9)) ∷ [])
    ∷ (placed 3 Clear ∷ placed 4 (Replace (Item 1) (number 9)) ∷ []) ∷ [])
    ≡ None ∷ None ∷ Some 3 ∷ Some 9 ∷ Some 4 ∷ []
the_first_missed_item_is_told = refl

-- blocks on array 1 of the numbers
abbrev read_block : ℕ → List PlacedEdit → ReadBlock
read_block n es = record { holder = n; edits = es }

abbrev list_of : List ℕ → List RowEntry
list_of ns = ex.a_list (map (λ n. Whole (pos n)) ns)

edits_lose_their_places : edits_of (read_block 1 (placed 3 Clear ∷ placed 4 (Delete (Item 0)) ∷ [])) ≡ block 1 (Clear ∷ Delete (Item 0) ∷ [])
edits_lose_their_places = refl

-- the holder may be named by the block itself; a holder that isn't there misses nothing, and no bytes have one
an_item_is_missed_in_its_row : map (λ n. missed_by (read_block n (placed 3 (Replace (Item 2) (number 9)) ∷ [])) (list_of (7 ∷ []))) (1 ∷ 9 ∷ [])
    ≡ Some 3 ∷ None ∷ []
an_item_is_missed_in_its_row = refl

a_missed_item_stops_the_run : map (λ o. run_or_miss o (Ok (list_of []))) (None ∷ Some 5 ∷ []) ≡ Ok (list_of []) ∷ Err (fault.NoItem 5) ∷ []
a_missed_item_stops_the_run = refl

blocks_run_up_to_a_missed_item : map (λ bs. run_blocks bs (list_of (7 ∷ 8 ∷ [])))
    ([] ∷ (read_block 1 (placed 3 (Delete (Item 0)) ∷ []) ∷ read_block 1 (placed 6 (Replace (Item 0) (number 9)) ∷ []) ∷ [])
    ∷ (read_block 1 (placed 3 (Delete (Item 0)) ∷ []) ∷ read_block 1 (placed 6 (Replace (Item 2) (number 9)) ∷ [])
    ∷ read_block 1 (placed 9 (Replace (Item 5) (number 9)) ∷ []) ∷ []) ∷ [])
    ≡ Ok (list_of (7 ∷ 8 ∷ [])) ∷ Ok (list_of (9 ∷ [])) ∷ Err (fault.NoItem 6) ∷ []
blocks_run_up_to_a_missed_item = refl

-- a missed item stands before the fault at which reading ended; without either, what nothing holds is freed
the_earlier_fault_is_answered :
    ended_by None (Ok (holds 0 1 ∷ node_row 1 ∷ node_row 2 ∷ [])) ∷ ended_by (Some (fault.UnknownField 8)) (Ok (node_row 0 ∷ []))
    ∷ ended_by None (Err (fault.NoItem 5)) ∷ ended_by (Some (fault.UnknownField 8)) (Err (fault.NoItem 5)) ∷ []
    ≡ Ok (holds 0 1 ∷ node_row 1 ∷ []) ∷ Err (fault.UnknownField 8) ∷ Err (fault.NoItem 5) ∷ Err (fault.NoItem 5) ∷ []
the_earlier_fault_is_answered = refl

-- ---- bytes over a list of numbers

abbrev over_list : List ℕ → List ℕ → Result (List RowEntry) OpFault
over_list bytes ns = decoded ex.numbers bytes (list_of ns)

-- the second DELETE at 0 meets the hole of the first one; behind a switch, to the same row too, it meets the next item
holes_close_at_a_switch_and_at_the_end : over_list (0xff ∷ 0x01 ∷ 0x40 ∷ 0x00 ∷ 0x40 ∷ 0x00 ∷ []) (1 ∷ 2 ∷ 3 ∷ [])
    ∷ over_list (0xff ∷ 0x01 ∷ 0x40 ∷ 0x00 ∷ 0xff ∷ 0x01 ∷ 0x40 ∷ 0x00 ∷ []) (1 ∷ 2 ∷ 3 ∷ []) ∷ []
    ≡ Ok (list_of (2 ∷ 3 ∷ [])) ∷ Ok (list_of (3 ∷ [])) ∷ []
unfolding reading
holes_close_at_a_switch_and_at_the_end = refl

-- ADD at 3 misses its item, and the byte `0f` behind it is unsupported, or the other way round
a_missed_item_comes_before_a_later_fault : over_list (0xff ∷ 0x01 ∷ 0x80 ∷ 0x03 ∷ 0x09 ∷ 0x0f ∷ []) (1 ∷ 2 ∷ [])
    ∷ over_list (0xff ∷ 0x01 ∷ 0x0f ∷ 0x80 ∷ 0x03 ∷ 0x09 ∷ []) (1 ∷ 2 ∷ []) ∷ []
    ≡ Err (fault.NoItem 3) ∷ Err (fault.Unsupported 2 15) ∷ []
unfolding reading
a_missed_item_comes_before_a_later_fault = refl

an_item_is_missed_when_its_operation_has_been_read : over_list (0xff ∷ 0x01 ∷ 0x80 ∷ 0x03 ∷ []) (1 ∷ 2 ∷ []) ≡ Err (fault.Scalar (Short 4))
unfolding reading
an_item_is_missed_when_its_operation_has_been_read = refl

a_missing_item_of_a_map_is_not_replaced : decoded ex.players (0xff ∷ 0x01 ∷ 0x00 ∷ 0x07 ∷ 0x02 ∷ []) (ex.one_player 7) ≡ Err (fault.NoItem 3)
unfolding reading
a_missing_item_of_a_map_is_not_replaced = refl

a_missing_item_of_a_set_is_not_replaced : decoded ex.tags (0xff ∷ 0x01 ∷ 0x00 ∷ 0x07 ∷ 0xa1 ∷ 0x61 ∷ []) (ex.some_tags []) ≡ Err (fault.NoItem 3)
unfolding reading
a_missing_item_of_a_set_is_not_replaced = refl

-- ---- frames over the rows of before

-- nothing holds the player between the two blocks
a_moved_player_keeps_its_name :
    decoded ex.two_maps (0xff ∷ 0x01 ∷ 0x40 ∷ 0x00 ∷ 0xff ∷ 0x02 ∷ 0x80 ∷ 0x00 ∷ 0xa1 ∷ 0x71 ∷ 0x03 ∷ 0xd5 ∷ 0x01 ∷ [])
    (ex.a_player_in (ex.named 0 (codes "p") (Link 3) ∷ []) [])
    ≡ Ok (ex.a_player_in [] (ex.named 0 (codes "q") (Link 3) ∷ []))
unfolding reading
a_moved_player_keeps_its_name = refl

a_player_that_left_is_freed : decoded ex.players (0xff ∷ 0x01 ∷ 0x40 ∷ 0x00 ∷ []) (permitted ex.players (ex.one_player 9) (ex.seen_row 2 ∷ []))
    ≡ Ok (permitted ex.players ex.no_player (ex.seen_row 2 ∷ []))
unfolding reading
a_player_that_left_is_freed = refl

-- box 1 with its list goes
rows_behind_a_freed_one_are_freed : decoded ex.boxes (0x40 ∷ []) (ex.a_box_in (ex.field 0 (Link 1) ∷ [])) ≡ Ok (root_alone ex.boxes)
unfolding reading
rows_behind_a_freed_one_are_freed = refl

gold_comes_and_goes : decoded ex.players (0xff ∷ 0x02 ∷ 0x01 ∷ 0x09 ∷ []) (ex.one_player 7)
    ∷ decoded ex.players (0xff ∷ 0x02 ∷ 0x41 ∷ []) (ex.one_player 9) ∷ []
    ≡ Ok (ex.one_player 9) ∷ Ok (shared ex.players (ex.one_player 9)) ∷ []
unfolding reading
gold_comes_and_goes = refl

two_cards_change_places :
    decoded ex.hand (0xff ∷ 0x01 ∷ 0x0a ∷ 0x81 ∷ 0x03 ∷ 0x03 ∷ 0xd5 ∷ 0x01 ∷ 0x81 ∷ 0x02 ∷ 0x02 ∷ 0xd5 ∷ 0x01 ∷ [])
    (ex.two_cards (Link 2 ∷ Link 3 ∷ []))
    ≡ Ok (ex.two_cards (Link 3 ∷ Link 2 ∷ []))
unfolding reading
two_cards_change_places = refl

-- the rows of a client that saw the hidden box, with this list
abbrev both_boxes : List ℕ → List RowEntry
both_boxes ns = ex.row 0 (row.Struct 0 (ex.field 0 (Link 1) ∷ ex.field 1 (Link 1) ∷ [])) ∷ ex.row 1 (row.Struct 1 (ex.field 0 (Link 2) ∷ []))
    ∷ ex.row 2 (row.Array (ex.home 1 0) (map (λ n. Whole (pos n)) ns)) ∷ []

a_shown_box_keeps_its_list : decoded ex.boxes (0x81 ∷ 0x01 ∷ 0xd5 ∷ 0x01 ∷ 0xff ∷ 0x01 ∷ 0x80 ∷ 0x02 ∷ 0xff ∷ 0x02 ∷ 0x0a ∷ 0x80 ∷ 0x00 ∷ 0x01 ∷ 0x80
    ∷ 0x01 ∷ 0x02 ∷ []) (ex.a_box_in (ex.field 0 (Link 1) ∷ []))
    ≡ Ok (both_boxes (1 ∷ 2 ∷ []))
unfolding reading
a_shown_box_keeps_its_list = refl

-- the first item is inserted before it, the second one replaces what stood first
without_the_clear_the_list_would_grow : decoded ex.boxes (0x81 ∷ 0x01 ∷ 0xd5 ∷ 0x01 ∷ 0xff ∷ 0x01 ∷ 0x80 ∷ 0x02 ∷ 0xff ∷ 0x02 ∷ 0x80 ∷ 0x00 ∷ 0x01
    ∷ 0x80 ∷ 0x01 ∷ 0x02 ∷ []) (ex.a_box_in (ex.field 0 (Link 1) ∷ []))
    ≡ Ok (both_boxes (1 ∷ 2 ∷ 2 ∷ []))
unfolding reading
without_the_clear_the_list_would_grow = refl

a_taken_tag_goes :
    decoded ex.tags (0xff ∷ 0x01 ∷ 0x40 ∷ 0x00 ∷ []) (ex.some_tags (ex.element 0 (Str (codes "a")) ∷ ex.element 1 (Str (codes "b")) ∷ []))
    ≡ Ok (ex.some_tags (ex.element 1 (Str (codes "b")) ∷ []))
unfolding reading
a_taken_tag_goes = refl

a_list_loses_its_first : over_list (0xff ∷ 0x01 ∷ 0x00 ∷ 0x00 ∷ 0x02 ∷ 0x00 ∷ 0x01 ∷ 0x03 ∷ 0x40 ∷ 0x02 ∷ []) (1 ∷ 2 ∷ 3 ∷ [])
    ≡ Ok (list_of (2 ∷ 3 ∷ []))
unfolding reading
a_list_loses_its_first = refl

-- ---- frames one after another

only_a_full_state_begins_anew : map (λ code. frame_base ex.players code (ex.one_player 7)) (14 ∷ 15 ∷ [])
    ≡ root_alone ex.players ∷ ex.one_player 7 ∷ []
only_a_full_state_begins_anew = refl

-- a frame without bytes has no code
an_empty_frame_changes_nothing : after_frame ex.players (Ok (ex.one_player 7)) [] ≡ Ok (ex.one_player 7)
an_empty_frame_changes_nothing = refl

abbrev a_full_frame : List ℕ
a_full_frame = 0x0e ∷ 0x80 ∷ 0x01 ∷ 0xff ∷ 0x01 ∷ 0x80 ∷ 0x00 ∷ 0xa2 ∷ 0x73 ∷ 0x31 ∷ 0x02 ∷ 0xd5 ∷ 0x01 ∷ 0xff ∷ 0x02 ∷ 0x80 ∷ 0xa1 ∷ 0x61 ∷ 0xff
    ∷ 0x02 ∷ 0x81 ∷ 0x07 ∷ []

nothing_is_seen_without_frames : seen ex.players [] ≡ Ok (root_alone ex.players)
nothing_is_seen_without_frames = refl

patches_go_on_from_a_full_state : seen ex.players (a_full_frame ∷ (0x0f ∷ 0xff ∷ 0x02 ∷ 0x01 ∷ 0x09 ∷ []) ∷ [])
    ∷ seen ex.players (a_full_frame ∷ (0x0f ∷ 0xff ∷ 0x02 ∷ 0x01 ∷ 0x09 ∷ []) ∷ (0x0f ∷ 0xff ∷ 0x02 ∷ 0x41 ∷ []) ∷ []) ∷ []
    ≡ Ok (ex.one_player 9) ∷ Ok (shared ex.players (ex.one_player 9)) ∷ []
unfolding reading
patches_go_on_from_a_full_state = refl

a_second_full_state_begins_anew : seen ex.players (a_full_frame ∷ (0x0e ∷ 0x80 ∷ 0x01 ∷ []) ∷ []) ≡ Ok ex.no_player
unfolding reading
a_second_full_state_begins_anew = refl

-- the fault of the second frame stays
a_refused_frame_ends_what_is_seen : seen ex.players (a_full_frame ∷ (0x0f ∷ 0x80 ∷ []) ∷ a_full_frame ∷ []) ≡ Err (fault.Scalar (Short 1))
unfolding reading
a_refused_frame_ends_what_is_seen = refl
