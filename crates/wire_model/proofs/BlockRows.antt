-- The blocks of a patch, the order of new rows, and patches and state frames by their bytes.
use Rattle.std.specs.Prelude.{◌≡◌, ℕ, List, [], ◌∷◌, ◌++◌, map, pos, Bool, true, false, Some, None, Ok, codes, refl}
use Rattle.schema_model.specs.Classes.{Schema}
use Rattle.schema_model.specs.declared.place.Pair.{Pair}
use Rattle.schema_model.specs.declared.value.Value.{Value}
use Rattle.schema_model.specs.declared.value.Value.TheVariants.{Whole, Str, Link}
use Rattle.schema_model.specs.declared.class.Item.TheVariants as item
use Rattle.schema_model.specs.declared.class.Shape.TheVariants as shape
use Rattle.schema_model.specs.declared.scalar.ScalarKind.TheVariants as kind
use Rattle.state_model.specs.declared.row.Row.TheVariants.{Struct, Map, Array, Set}
use Rattle.state_model.specs.declared.row.RowEntry.{RowEntry}
use Rattle.state_model.specs.Rows.{root_alone}
use Rattle.state_model.specs.Shown.{permitted, shared}
use Rattle.state_model.proofs.Examples as ex
use Rattle.state_model.proofs.Zoo as z
use Rattle.wire_model.specs.declared.op.OpKey.TheVariants.{Field, Item}
use Rattle.wire_model.specs.declared.op.OpValue.TheVariants as carried
use Rattle.wire_model.specs.declared.op.Op.TheVariants as op
use Rattle.wire_model.specs.Edits.{AWhole, Plain, Linked, Edit, Add, Replace, DeleteAdd, Delete, Clear, AddByRef, DeleteByRef, EditBlock}
use Rattle.wire_model.specs.OpBytes.{block_bytes}
use Rattle.wire_model.specs.Patch.{block_of, common_block, common_blocks, linked_number, named_in, named_by_blocks, next_named, new_edits, new_blocks, patch_edits}
use Rattle.wire_model.specs.Frame.{patch, shared_part, view_part, state_frame, is_blank, has_operation, full_state}
use Rattle.wire_model.specs.Decoded.{decoded}
use Rattle.wire_model.proofs.Opened.{reading}

abbrev edits : ℕ → List Edit → EditBlock
edits n es = record { holder = n; edits = es }

-- ---- blocks of rows in both lists

-- a node that holds nothing, and one that holds another
abbrev node : ℕ → RowEntry
node n = ex.row n (Struct 0 [])

abbrev holds : ℕ → ℕ → RowEntry
holds n m = ex.row n (Struct 0 (ex.field 0 (Link m) ∷ []))

-- the operation by which a node holds another one
abbrev hold : ℕ → Edit
hold m = Add (Field 0) (Linked m (Struct 0 []))

a_block_has_an_operation : map (block_of 3) ([] ∷ (Delete (Field 0) ∷ Clear ∷ []) ∷ []) ≡ [] ∷ (edits 3 (Delete (Field 0) ∷ Clear ∷ []) ∷ []) ∷ []
a_block_has_an_operation = refl

only_an_old_row_has_a_common_block : map (common_block ex.nodes (node 0 ∷ node 1 ∷ []) (holds 0 1)) (None ∷ Some (Struct 0 [])
    ∷ Some (Struct 0 (ex.field 0 (Link 1) ∷ [])) ∷ [])
    ≡ [] ∷ (edits 0 (hold 1 ∷ []) ∷ []) ∷ [] ∷ []
only_an_old_row_has_a_common_block = refl

-- row 1 stays, row 3 is new, and row 4 is gone
rows_in_both_lists_have_blocks_rising : common_blocks ex.nodes (holds 0 4 ∷ holds 1 2 ∷ node 2 ∷ node 4 ∷ []) (holds 0 1 ∷ holds 1 2 ∷ holds 2 3
    ∷ node 3 ∷ [])
    ≡ edits 0 (DeleteAdd (Field 0) (Linked 1 (Struct 0 [])) ∷ []) ∷ edits 2 (hold 3 ∷ []) ∷ []
rows_in_both_lists_have_blocks_rising = refl

-- ---- the numbers that operations name

a_scalar_names_nothing : map linked_number (Plain kind.Number (AWhole (pos 5)) ∷ Linked 5 (Struct 0 []) ∷ []) ≡ [] ∷ (5 ∷ []) ∷ []
a_scalar_names_nothing = refl

-- a deleted row is not named
operations_name_rows_in_their_order : named_in (hold 5 ∷ Delete (Field 1) ∷ DeleteByRef 9 ∷ Clear
    ∷ Replace (Field 2) (Plain kind.Number (AWhole (pos 8))) ∷ DeleteAdd (Field 0) (Linked 3 (Struct 0 [])) ∷ AddByRef (Linked 5 (Struct 0 [])) ∷ [])
    ≡ 5 ∷ 3 ∷ 5 ∷ []
operations_name_rows_in_their_order = refl

blocks_name_rows_in_their_order : named_by_blocks (edits 4 (hold 9 ∷ []) ∷ edits 1 (hold 2 ∷ Clear ∷ hold 7 ∷ []) ∷ []) ≡ 9 ∷ 2 ∷ 7 ∷ []
blocks_name_rows_in_their_order = refl

the_next_row_is_named_first_and_not_done : map (next_named (4 ∷ 5 ∷ [])) ([] ∷ (5 ∷ 4 ∷ 5 ∷ []) ∷ (5 ∷ 9 ∷ 4 ∷ 7 ∷ []) ∷ [])
    ≡ None ∷ None ∷ Some (9, 4 ∷ 7 ∷ []) ∷ []
the_next_row_is_named_first_and_not_done = refl

-- ---- new rows

a_new_row_is_written_whole : map (new_edits ex.nodes (holds 0 1 ∷ holds 1 2 ∷ node 2 ∷ [])) (1 ∷ 2 ∷ 9 ∷ []) ≡ (hold 2 ∷ []) ∷ [] ∷ [] ∷ []
a_new_row_is_written_whole = refl

-- `Tree { left: Tree, right: Tree }`
abbrev trees : Schema
trees = record {
  classes = ex.root_class (codes "Tree") (ex.plain_field (codes "left") (shape.One (item.Class 0))
      ∷ ex.plain_field (codes "right") (shape.One (item.Class 0)) ∷ []) ∷ [];
  root = 0;
}

abbrev tree : ℕ → ℕ → ℕ → RowEntry
tree n l r = ex.row n (Struct 0 (ex.field 0 (Link l) ∷ ex.field 1 (Link r) ∷ []))

-- the block of a whole tree
abbrev grown : ℕ → ℕ → ℕ → EditBlock
grown n l r = edits n (hold l ∷ Add (Field 1) (Linked r (Struct 0 [])) ∷ [])

-- the root holds 5 and 2; 5 holds 4 and 1, 2 holds 3 and 4, and 4 holds 6 twice
abbrev a_tree : List RowEntry
a_tree = tree 0 5 2 ∷ node 1 ∷ tree 2 3 4 ∷ node 3 ∷ tree 4 6 6 ∷ tree 5 4 1 ∷ node 6 ∷ []

-- first what the root names, then what the first of these names; 4 is written once, and what has no places isn't
new_rows_come_in_the_order_of_their_names : patch_edits trees (node 0 ∷ []) a_tree ≡ grown 0 5 2 ∷ grown 5 4 1 ∷ grown 2 3 4 ∷ grown 4 6 6 ∷ []
new_rows_come_in_the_order_of_their_names = refl

-- row 5 is an old one, so it is no new row, though the root names it
an_old_row_that_is_named_is_not_written_whole : patch_edits trees (node 0 ∷ tree 5 4 1 ∷ []) a_tree ≡ grown 0 5 2 ∷ grown 2 3 4 ∷ grown 4 6 6 ∷ []
an_old_row_that_is_named_is_not_written_whole = refl

-- common rows come first, and what they name comes in their order
new_rows_come_behind_the_common_ones : patch_edits trees (tree 0 5 2 ∷ node 1 ∷ node 2 ∷ tree 5 1 1 ∷ []) a_tree
    ≡ grown 2 3 4 ∷ edits 5 (DeleteAdd (Field 0) (Linked 4 (Struct 0 [])) ∷ []) ∷ grown 4 6 6 ∷ []
new_rows_come_behind_the_common_ones = refl

equal_rows_have_no_patch : patch_edits trees a_tree a_tree ≡ []
equal_rows_have_no_patch = refl

no_row_is_written_where_none_is_new : new_blocks 0 trees a_tree [] (5 ∷ []) ∷ new_blocks 9 trees a_tree [] [] ∷ [] ≡ [] ∷ [] ∷ []
no_row_is_written_where_none_is_new = refl

-- what is named and isn't there has no block, and the next one follows
a_row_that_is_not_there_is_passed_over : new_blocks 9 trees a_tree (0 ∷ []) (9 ∷ 4 ∷ []) ≡ grown 4 6 6 ∷ []
a_row_that_is_not_there_is_passed_over = refl

-- ---- patches by their bytes

-- the bytes of a patch whose first block of the root is bare
abbrev bare_patch : Schema → List RowEntry → List RowEntry → List ℕ
bare_patch schema old new = block_bytes (patch schema old new) true

the_shared_rows_of_the_players : bare_patch ex.players (root_alone ex.players) (shared ex.players (ex.one_player 7))
    ≡ 0x80 ∷ 0x01 ∷ 0xff ∷ 0x01 ∷ 0x80 ∷ 0x00 ∷ 0xa2 ∷ 0x73 ∷ 0x31 ∷ 0x02 ∷ 0xd5 ∷ 0x01 ∷ 0xff ∷ 0x02 ∷ 0x80 ∷ 0xa1 ∷ 0x61 ∷ []
the_shared_rows_of_the_players = refl

a_list_loses_its_first :
    bare_patch ex.numbers (ex.a_list (Whole (pos 1) ∷ Whole (pos 2) ∷ Whole (pos 3) ∷ [])) (ex.a_list (Whole (pos 2) ∷ Whole (pos 3) ∷ []))
    ≡ 0xff ∷ 0x01 ∷ 0x00 ∷ 0x00 ∷ 0x02 ∷ 0x00 ∷ 0x01 ∷ 0x03 ∷ 0x40 ∷ 0x02 ∷ []
a_list_loses_its_first = refl

a_patch_is_told_as_blocks : patch ex.nodes (node 0 ∷ []) (holds 0 1 ∷ node 1 ∷ [])
    ≡ record { holder = 0; ops = op.Add (Field 0) (carried.Struct 1 (Some 0)) ∷ [] } ∷ []
a_patch_is_told_as_blocks = refl

-- the whole zoo, row by row: gate, pets, parade, signs, the star, then the dog, whom the pets name after the gate named its star,
-- and the dog's toys
abbrev zoo_bytes : List ℕ
zoo_bytes =
    (0x80 ∷ 0x01 ∷ 0x81 ∷ 0x02 ∷ 0x82 ∷ 0x03 ∷ 0x83 ∷ 0x05 ∷ 0xd5 ∷ 0x01 ∷ 0x84 ∷ 0x0c ∷ [])
    ++ (0xff ∷ 0x01 ∷ 0x80 ∷ 0x00 ∷ 0xa3 ∷ 0x72 ∷ 0x65 ∷ 0x78 ∷ 0x04 ∷ 0xd5 ∷ 0x02 ∷ 0x80 ∷ 0x02 ∷ 0xa3 ∷ 0x74 ∷ 0x6f ∷ 0x6d ∷ 0x05 ∷ 0xd5 ∷ 0x01
    ∷ [])
    ++ (0xff ∷ 0x02 ∷ 0x0a ∷ 0x81 ∷ 0x04 ∷ 0x04 ∷ 0xd5 ∷ 0x02 ∷ 0x81 ∷ 0x05 ∷ 0x05 ∷ 0xd5 ∷ 0x01 ∷ [])
    ++ (0xff ∷ 0x03 ∷ 0x80 ∷ 0x01 ∷ 0xa4 ∷ 0x6f ∷ 0x70 ∷ 0x65 ∷ 0x6e ∷ 0x80 ∷ 0x03 ∷ 0xa6 ∷ 0x63 ∷ 0x6c ∷ 0x6f ∷ 0x73 ∷ 0x65 ∷ 0x64 ∷ [])
    ++ (0xff ∷ 0x05 ∷ 0x80 ∷ 0xa3 ∷ 0x54 ∷ 0x6f ∷ 0x6d ∷ [])
    ++ (0xff ∷ 0x04 ∷ 0x80 ∷ 0xa3 ∷ 0x52 ∷ 0x65 ∷ 0x78 ∷ 0x81 ∷ 0x06 ∷ 0x82 ∷ 0x03 ∷ [])
    ++ (0xff ∷ 0x06 ∷ 0x0a ∷ 0x80 ∷ 0x00 ∷ 0x07 ∷ 0x80 ∷ 0x01 ∷ 0x08 ∷ [])

the_zoo_is_written_whole : bare_patch z.zoo (root_alone z.zoo) z.zoo_rows ≡ zoo_bytes
the_zoo_is_written_whole = refl

the_zoo_is_read_again : decoded z.zoo zoo_bytes (root_alone z.zoo) ≡ Ok z.zoo_rows
unfolding reading
the_zoo_is_read_again = refl

-- the zoo later: another star and more tickets; key `rex` is gone, `tom` is a new dog and `ada` the old pet; the dog left the
-- parade and the new one joined it; another sign; the old dog has no age, the pet has new toys, and the dog's toys are fewer
abbrev later_rows : List RowEntry
later_rows =
    ex.row 0 (Struct 0 (ex.field 0 (Link 1) ∷ ex.field 1 (Link 2) ∷ ex.field 2 (Link 3) ∷ ex.field 3 (Link 4) ∷ ex.field 4 (Whole (pos 13)) ∷ []))
    ∷ ex.row 1 (Map (ex.home 0 0) (ex.named 2 (codes "tom") (Link 7) ∷ ex.named 3 (codes "ada") (Link 5) ∷ []))
    ∷ ex.row 2 (Array (ex.home 0 1) (Link 5 ∷ Link 7 ∷ []))
    ∷ ex.row 3 (Set (ex.home 0 2) (ex.element 3 (Str (codes "closed")) ∷ ex.element 4 (Str (codes "shut")) ∷ []))
    ∷ ex.row 4 (Struct 2 (ex.field 0 (Str (codes "Rex")) ∷ ex.field 1 (Link 6) ∷ []))
    ∷ ex.row 5 (Struct 1 (ex.field 0 (Str (codes "Tom")) ∷ ex.field 1 (Link 8) ∷ []))
    ∷ ex.row 6 (Array (ex.home 1 1) (Whole (pos 8) ∷ []))
    ∷ ex.row 7 (Struct 2 (ex.field 2 (Whole (pos 1)) ∷ []))
    ∷ ex.row 8 (Array (ex.home 1 1) []) ∷ []

-- the empty toys 8 have no block
abbrev later_bytes : List ℕ
later_bytes =
    (0xc3 ∷ 0x04 ∷ 0xd5 ∷ 0x02 ∷ 0x04 ∷ 0x0d ∷ [])
    ++ (0xff ∷ 0x01 ∷ 0x40 ∷ 0x00 ∷ 0xc0 ∷ 0x02 ∷ 0xa3 ∷ 0x74 ∷ 0x6f ∷ 0x6d ∷ 0x07 ∷ 0xd5 ∷ 0x02 ∷ 0x80 ∷ 0x03 ∷ 0xa3 ∷ 0x61 ∷ 0x64 ∷ 0x61 ∷ 0x05
    ∷ 0xd5 ∷ 0x01 ∷ [])
    ++ (0xff ∷ 0x02 ∷ 0x21 ∷ 0x04 ∷ 0x81 ∷ 0x07 ∷ 0x07 ∷ 0xd5 ∷ 0x02 ∷ [])
    ++ (0xff ∷ 0x03 ∷ 0x40 ∷ 0x01 ∷ 0x80 ∷ 0x04 ∷ 0xa4 ∷ 0x73 ∷ 0x68 ∷ 0x75 ∷ 0x74 ∷ [])
    ++ (0xff ∷ 0x04 ∷ 0x42 ∷ []) ++ (0xff ∷ 0x05 ∷ 0x81 ∷ 0x08 ∷ []) ++ (0xff ∷ 0x06 ∷ 0x00 ∷ 0x00 ∷ 0x08 ∷ 0x40 ∷ 0x01 ∷ [])
    ++ (0xff ∷ 0x07 ∷ 0x82 ∷ 0x01 ∷ [])

every_kind_of_change_is_written : bare_patch z.zoo z.zoo_rows later_rows ≡ later_bytes
every_kind_of_change_is_written = refl

every_kind_of_change_is_read_again : decoded z.zoo later_bytes z.zoo_rows ≡ Ok later_rows
unfolding reading
every_kind_of_change_is_read_again = refl

-- `State { pile: array of Card }`, `Card {}`: untagged, so it goes by position
abbrev piles : Schema
piles = record {
  classes = ex.root_class (codes "State") (ex.plain_field (codes "pile") (shape.Array (item.Class 1)) ∷ []) ∷ ex.root_class (codes "Card") [] ∷ [];
  root = 0;
}

abbrev a_pile : List Value → List RowEntry
a_pile cards = ex.row 0 (Struct 0 (ex.field 0 (Link 1) ∷ [])) ∷ ex.row 1 (Array (ex.home 0 0) cards) ∷ ex.row 2 (Struct 1 []) ∷ ex.row 3 (Struct 1 [])
    ∷ []

instances_that_are_not_filtered_go_by_position : bare_patch piles (a_pile (Link 2 ∷ Link 3 ∷ [])) (a_pile (Link 3 ∷ Link 2 ∷ []))
    ≡ 0xff ∷ 0x01 ∷ 0xc0 ∷ 0x00 ∷ 0x03 ∷ 0xd5 ∷ 0x01 ∷ 0xc0 ∷ 0x01 ∷ 0x02 ∷ 0xd5 ∷ 0x01 ∷ []
instances_that_are_not_filtered_go_by_position = refl

a_whole_pile_is_cleared_first : bare_patch piles (root_alone piles) (a_pile (Link 2 ∷ Link 3 ∷ []))
    ≡ 0x80 ∷ 0x01 ∷ 0xff ∷ 0x01 ∷ 0x0a ∷ 0x80 ∷ 0x00 ∷ 0x02 ∷ 0xd5 ∷ 0x01 ∷ 0x80 ∷ 0x01 ∷ 0x03 ∷ 0xd5 ∷ 0x01 ∷ []
a_whole_pile_is_cleared_first = refl

-- ---- state frames

-- the players' gold, before and after, for a client that sees it or doesn't
abbrev gold_of : ℕ → List Pair → List RowEntry
gold_of gold members = permitted ex.players (ex.one_player gold) members

the_shared_part_has_no_gold : shared_part ex.players (gold_of 7 []) (gold_of 9 []) ≡ []
the_shared_part_has_no_gold = refl

the_view_part_has_the_gold : view_part ex.players (gold_of 7 []) (gold_of 7 (ex.seen_row 2 ∷ [])) (gold_of 9 []) (gold_of 9 (ex.seen_row 2 ∷ []))
    ≡ edits 2 (Replace (Field 1) (Plain kind.Number (AWhole (pos 9))) ∷ []) ∷ []
the_view_part_has_the_gold = refl

-- the view part says nothing of what the shared part did
the_view_part_goes_on_from_the_shared_part : shared_part ex.players (gold_of 7 []) ex.no_player
    ∷ view_part ex.players (gold_of 7 []) (gold_of 7 (ex.seen_row 2 ∷ [])) ex.no_player ex.no_player ∷ []
    ≡ (edits 1 (Delete (Item 0) ∷ []) ∷ []) ∷ [] ∷ []
the_view_part_goes_on_from_the_shared_part = refl

only_a_list_without_blocks_is_blank : map is_blank ([] ∷ (edits 2 (Clear ∷ []) ∷ []) ∷ []) ≡ true ∷ false ∷ []
only_a_list_without_blocks_is_blank = refl

-- with these members before and now, where the gold and the shared rows stay or change
abbrev operates : List Pair → ℕ → List Pair → ℕ → Bool
operates m0 gold0 m1 gold1 = has_operation ex.players (gold_of gold0 []) (gold_of gold0 m0) (gold_of gold1 []) (gold_of gold1 m1)

a_frame_has_no_operation_where_nothing_shown_changes :
    operates [] 7 [] 9 ∷ operates (ex.seen_row 2 ∷ []) 7 (ex.seen_row 2 ∷ []) 7
    ∷ has_operation ex.players ex.no_player ex.no_player ex.no_player ex.no_player ∷ []
    ≡ false ∷ false ∷ false ∷ []
a_frame_has_no_operation_where_nothing_shown_changes = refl

-- other gold, a row that joins the view, and one that leaves it
a_frame_has_an_operation_in_its_view_part : operates (ex.seen_row 2 ∷ []) 7 (ex.seen_row 2 ∷ []) 9 ∷ operates [] 7 (ex.seen_row 2 ∷ []) 7
    ∷ operates (ex.seen_row 2 ∷ []) 7 [] 7 ∷ []
    ≡ true ∷ true ∷ true ∷ []
a_frame_has_an_operation_in_its_view_part = refl

-- the player goes; then all comes, in both parts
a_frame_has_an_operation_in_its_shared_part :
    has_operation ex.players (gold_of 7 []) (gold_of 7 []) ex.no_player ex.no_player
    ∷ has_operation ex.players (root_alone ex.players) (root_alone ex.players) (gold_of 7 []) (gold_of 7 (ex.seen_row 2 ∷ [])) ∷ []
    ≡ true ∷ true ∷ []
a_frame_has_an_operation_in_its_shared_part = refl

-- in the view part the root's block has its switch
a_roots_block_of_the_view_part_has_a_switch : state_frame z.zoo (root_alone z.zoo) (root_alone z.zoo) (root_alone z.zoo)
    (ex.row 0 (Struct 0 (ex.field 4 (Whole (pos 12)) ∷ [])) ∷ [])
    ≡ 0xff ∷ 0x00 ∷ 0x84 ∷ 0x0c ∷ []
a_roots_block_of_the_view_part_has_a_switch = refl

-- x = 5, for everybody
abbrev five : List RowEntry
five = ex.row 0 (Struct 0 (ex.field 0 (Whole (pos 5)) ∷ [])) ∷ []

a_full_state_is_a_frame_from_the_root_alone : full_state ex.flat five five ≡ 0x80 ∷ 0x05 ∷ []
a_full_state_is_a_frame_from_the_root_alone = refl
