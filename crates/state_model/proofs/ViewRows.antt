-- What a view shows and permits, and its members over edits and ticks: each case by an example.
use Rattle.std.specs.Prelude.{◌≡◌, ℕ, Bool, List, [], ◌∷◌, map, pos, negsuc, ℤ, true, false, Some, None, codes, replicate, refl}
use Rattle.schema_model.specs.declared.place.Pair.{Pair}
use Rattle.schema_model.specs.declared.value.Value.{Value}
use Rattle.schema_model.specs.declared.value.Value.TheVariants.{Whole, Str, Truth, Link}
use Rattle.schema_model.specs.declared.class.Item.TheVariants as item
use Rattle.schema_model.specs.declared.class.Shape.{Shape}
use Rattle.schema_model.specs.declared.class.Shape.TheVariants as shape
use Rattle.schema_model.specs.declared.scalar.ScalarKind.TheVariants as kind
use Rattle.state_model.specs.declared.row.Row.TheVariants.{Struct, Map, Array, Set}
use Rattle.state_model.specs.declared.row.RowEntry.{RowEntry}
use Rattle.state_model.specs.Rows.{put_row}
use Rattle.state_model.specs.Shown.{is_member, links_member, tagged_field_shown, field_shown, item_shown, shows_field, shows_item, shown_row, shown, permitted, shared}
use Rattle.state_model.specs.Members.{Members, no_members, pair_rank, with_pairs, without_pairs, leads_on, row_through, pairs_behind, view_added, view_removed, is_view_full, live_members, ticked, changed_pairs}
use Rattle.state_model.proofs.Examples as ex
use Rattle.state_model.proofs.Zoo as z

-- members under the tag 7
abbrev at_seven : ℕ → Pair
at_seven r = ex.member r (pos 7)

-- ---- shown places

a_member_is_a_row_under_a_tag : map (λ (p : ℕ × ℤ). is_member (ex.seen_row 2 ∷ at_seven 3 ∷ []) p.0 p.1)
    ((2, negsuc 0) ∷ (3, pos 7) ∷ (2, pos 7) ∷ (3, negsuc 0) ∷ (4, negsuc 0) ∷ []) ≡ true ∷ true ∷ false ∷ false ∷ false ∷ []
a_member_is_a_row_under_a_tag = refl

a_link_leads_to_a_member_or_not : map (links_member (ex.seen_row 2 ∷ []) (negsuc 0)) (Link 2 ∷ Link 3 ∷ Whole (pos 2) ∷ Str [] ∷ Truth true ∷ [])
    ≡ true ∷ false ∷ false ∷ false ∷ false ∷ []
a_link_leads_to_a_member_or_not = refl

-- each shape, of scalars and of instances
abbrev shapes : List Shape
shapes =
    shape.One (item.Scalar kind.Number) ∷ shape.One (item.Class 1)
    ∷ shape.Map (item.Scalar kind.Number) ∷ shape.Array (item.Scalar kind.Number) ∷ shape.Set (item.Scalar kind.Number)
    ∷ shape.Map (item.Class 1) ∷ shape.Array (item.Class 1) ∷ shape.Set (item.Class 1) ∷ []

-- which of the shapes are shown as a field of row 1 with the default tag that holds row 8
abbrev fields_shown : List Pair → List Bool
fields_shown members = map (λ s. tagged_field_shown members 1 (negsuc 0) s (Link 8)) shapes

a_tagged_collection_of_instances_is_always_shown : fields_shown [] ≡ false ∷ false ∷ false ∷ false ∷ false ∷ true ∷ true ∷ true ∷ []
a_tagged_collection_of_instances_is_always_shown = refl

a_member_shows_its_fields : fields_shown (ex.seen_row 1 ∷ []) ≡ replicate 8 true
a_member_shows_its_fields = refl

-- a scalar field is shown with its holder alone
a_member_shows_the_field_that_holds_it : fields_shown (ex.seen_row 8 ∷ []) ≡ false ∷ true ∷ true ∷ true ∷ true ∷ true ∷ true ∷ true ∷ []
a_member_shows_the_field_that_holds_it = refl

a_member_under_another_tag_shows_nothing : fields_shown (at_seven 1 ∷ at_seven 8 ∷ [])
    ≡ false ∷ false ∷ false ∷ false ∷ false ∷ true ∷ true ∷ true ∷ []
a_member_under_another_tag_shows_nothing = refl

an_untagged_field_is_always_shown : map (λ s. field_shown [] 1 s (Link 8) None) shapes ≡ replicate 8 true
an_untagged_field_is_always_shown = refl

a_tagged_field_is_shown_by_its_shape : map (λ s. field_shown (at_seven 1 ∷ []) 1 s (Link 8) (Some (pos 7))) shapes ≡ replicate 8 true
a_tagged_field_is_shown_by_its_shape = refl

-- an item 8 of collection 1: untagged, a tagged scalar, a tagged instance
abbrev items_shown : List Pair → List Bool
items_shown members =
    item_shown members 1 (item.Class 1) (Link 8) None ∷ item_shown members 1 (item.Scalar kind.Number) (Whole (pos 8)) (Some (negsuc 0))
    ∷ item_shown members 1 (item.Class 1) (Link 8) (Some (negsuc 0)) ∷ []

an_instance_in_a_tagged_collection_is_shown_by_membership : map items_shown ([] ∷ (ex.seen_row 1 ∷ []) ∷ (ex.seen_row 8 ∷ [])
    ∷ (at_seven 1 ∷ at_seven 8 ∷ []) ∷ [])
    ≡ (true ∷ true ∷ false ∷ []) ∷ (true ∷ true ∷ true ∷ []) ∷ (true ∷ true ∷ true ∷ []) ∷ (true ∷ true ∷ false ∷ []) ∷ []
an_instance_in_a_tagged_collection_is_shown_by_membership = refl

-- the gate's fields 0 to 6, where field 5 holds a log 7; there is no field 6
abbrev gate_shows : List Pair → List Bool
gate_shows members = map (shows_field z.zoo members 0 0)
    (ex.field 0 (Link 1) ∷ ex.field 1 (Link 2) ∷ ex.field 2 (Link 3) ∷ ex.field 3 (Link 5) ∷ ex.field 4 (Whole (pos 12)) ∷ ex.field 5 (Link 7)
    ∷ ex.field 6 (Link 8) ∷ [])

the_gate_hides_three_fields : gate_shows [] ≡ true ∷ true ∷ true ∷ false ∷ false ∷ false ∷ true ∷ []
the_gate_hides_three_fields = refl

the_gate_shows_fields_by_its_tags : map gate_shows ((ex.seen_row 0 ∷ []) ∷ (at_seven 0 ∷ []) ∷ [])
    ≡ (true ∷ true ∷ true ∷ false ∷ true ∷ false ∷ true ∷ []) ∷ (true ∷ true ∷ true ∷ true ∷ false ∷ true ∷ true ∷ []) ∷ []
the_gate_shows_fields_by_its_tags = refl

the_gate_shows_what_members_it_holds : map gate_shows ((at_seven 5 ∷ []) ∷ (at_seven 7 ∷ []) ∷ (ex.seen_row 5 ∷ ex.seen_row 7 ∷ []) ∷ [])
    ≡ (true ∷ true ∷ true ∷ true ∷ false ∷ false ∷ true ∷ []) ∷ (true ∷ true ∷ true ∷ false ∷ false ∷ true ∷ true ∷ [])
    ∷ (true ∷ true ∷ true ∷ false ∷ false ∷ false ∷ true ∷ []) ∷ []
the_gate_shows_what_members_it_holds = refl

-- an item 4 of each home: the pets are untagged, the parade is tagged, the log has scalars, and the last home isn't declared
abbrev homes_show : List Pair → List Bool
homes_show members = map (λ h. shows_item z.zoo members 2 h (Link 4)) (ex.home 0 0 ∷ ex.home 0 1 ∷ ex.home 0 5 ∷ ex.home 2 1 ∷ [])

items_are_shown_by_their_home : map homes_show ([] ∷ (ex.seen_row 2 ∷ []) ∷ (ex.seen_row 4 ∷ []) ∷ (ex.seen_row 5 ∷ []) ∷ [])
    ≡ (true ∷ false ∷ true ∷ true ∷ []) ∷ (true ∷ true ∷ true ∷ true ∷ []) ∷ (true ∷ true ∷ true ∷ true ∷ []) ∷ (true ∷ false ∷ true ∷ true ∷ []) ∷ []
items_are_shown_by_their_home = refl

-- ---- shown rows

a_map_shows_some_items_under_their_numbers :
    shown_row z.cards (ex.seen_row 5 ∷ []) 1 (Map (ex.home 0 0) (ex.named 2 (codes "a") (Link 4) ∷ ex.named 3 (codes "b") (Link 5) ∷ []))
    ≡ Map (ex.home 0 0) (ex.named 3 (codes "b") (Link 5) ∷ [])
a_map_shows_some_items_under_their_numbers = refl

an_array_keeps_the_order_of_its_shown_items :
    shown_row z.cards (ex.seen_row 4 ∷ ex.seen_row 6 ∷ []) 1 (Array (ex.home 0 1) (Link 6 ∷ Link 5 ∷ Link 4 ∷ []))
    ≡ Array (ex.home 0 1) (Link 6 ∷ Link 4 ∷ [])
an_array_keeps_the_order_of_its_shown_items = refl

a_set_shows_some_items_under_their_numbers :
    shown_row z.cards (ex.seen_row 5 ∷ []) 1 (Set (ex.home 0 2) (ex.element 2 (Link 4) ∷ ex.element 3 (Link 5) ∷ []))
    ≡ Set (ex.home 0 2) (ex.element 3 (Link 5) ∷ [])
a_set_shows_some_items_under_their_numbers = refl

-- collection 1 itself is a member
a_member_shows_all_its_items :
    map (shown_row z.cards (ex.seen_row 1 ∷ []) 1)
    (Map (ex.home 0 0) (ex.named 2 (codes "a") (Link 4) ∷ []) ∷ Array (ex.home 0 1) (Link 4 ∷ [])
    ∷ Set (ex.home 0 2) (ex.element 2 (Link 4) ∷ []) ∷ [])
    ≡ Map (ex.home 0 0) (ex.named 2 (codes "a") (Link 4) ∷ []) ∷ Array (ex.home 0 1) (Link 4 ∷ [])
    ∷ Set (ex.home 0 2) (ex.element 2 (Link 4) ∷ []) ∷ []
a_member_shows_all_its_items = refl

an_instance_shows_some_fields : shown_row z.zoo [] 0 z.gate ≡ Struct 0 (ex.field 0 (Link 1) ∷ ex.field 1 (Link 2) ∷ ex.field 2 (Link 3) ∷ [])
an_instance_shows_some_fields = refl

-- a member shows its own places and not those of a row beside it
each_row_is_shown_by_its_own_number : shown ex.players (ex.seen_row 3 ∷ []) (ex.row 2 (Struct 1 (ex.field 1 (Whole (pos 7)) ∷ []))
    ∷ ex.row 3 (Struct 1 (ex.field 1 (Whole (pos 8)) ∷ [])) ∷ [])
    ≡ ex.row 2 (Struct 1 []) ∷ ex.row 3 (Struct 1 (ex.field 1 (Whole (pos 8)) ∷ [])) ∷ []
each_row_is_shown_by_its_own_number = refl

-- ---- permitted and shared rows

-- the rows of a hand in which these cards are permitted
abbrev hand_of : List Value → List RowEntry → List RowEntry
hand_of order cs = ex.row 0 (Struct 0 (ex.field 0 (Link 1) ∷ [])) ∷ ex.row 1 (Array (ex.home 0 0) order) ∷ cs

abbrev card_2 : RowEntry
card_2 = ex.row 2 (Struct 1 [])

abbrev card_3 : RowEntry
card_3 = ex.row 3 (Struct 1 (ex.field 0 (Whole (pos 5)) ∷ []))

a_hidden_card_is_no_row_of_the_view :
    map (permitted ex.hand (ex.two_cards (Link 2 ∷ Link 3 ∷ []))) ([] ∷ (ex.seen_row 3 ∷ []) ∷ (ex.seen_row 1 ∷ []) ∷ [])
    ≡ hand_of [] [] ∷ hand_of (Link 3 ∷ []) (card_3 ∷ []) ∷ hand_of (Link 2 ∷ Link 3 ∷ []) (card_2 ∷ card_3 ∷ []) ∷ []
a_hidden_card_is_no_row_of_the_view = refl

-- rows rise by number, whatever the order of the items
an_array_of_the_view_keeps_its_order : permitted ex.hand (ex.two_cards (Link 3 ∷ Link 2 ∷ [])) (ex.seen_row 2 ∷ ex.seen_row 3 ∷ [])
    ≡ hand_of (Link 3 ∷ Link 2 ∷ []) (card_2 ∷ card_3 ∷ [])
an_array_of_the_view_keeps_its_order = refl

-- box 1 and its list lie behind a hidden field
what_lies_behind_a_hidden_field_is_hidden : shared ex.boxes (ex.a_box_in (ex.field 0 (Link 1) ∷ [])) ≡ ex.row 0 (Struct 0 []) ∷ []
what_lies_behind_a_hidden_field_is_hidden = refl

what_a_shown_field_leads_to_is_shown : shared ex.boxes (ex.a_box_in (ex.field 0 (Link 1) ∷ ex.field 1 (Link 1) ∷ []))
    ≡ ex.a_box_in (ex.field 1 (Link 1) ∷ [])
what_a_shown_field_leads_to_is_shown = refl

a_row_that_nothing_holds_is_not_permitted : permitted ex.nodes (ex.row 0 (Struct 0 []) ∷ ex.row 1 (Struct 0 []) ∷ []) (ex.seen_row 1 ∷ [])
    ≡ ex.row 0 (Struct 0 []) ∷ []
a_row_that_nothing_holds_is_not_permitted = refl

the_shared_rows_have_no_hidden_place : shared ex.players (ex.one_player 7)
    ≡ ex.row 0 (Struct 0 (ex.field 0 (Link 1) ∷ [])) ∷ ex.row 1 (Map (ex.home 0 0) (ex.named 0 (codes "s1") (Link 2) ∷ []))
    ∷ ex.row 2 (Struct 1 (ex.field 0 (Str (codes "a")) ∷ [])) ∷ []
the_shared_rows_have_no_hidden_place = refl

a_member_is_permitted_its_hidden_place : permitted ex.players (ex.one_player 7) (ex.seen_row 2 ∷ []) ≡ ex.one_player 7
a_member_is_permitted_its_hidden_place = refl

-- ---- pairs

-- by row, then by tag; -1 stands before 0
pairs_rise_by_row_and_then_by_tag : map pair_rank (ex.member 0 (negsuc 32767) ∷ ex.seen_row 0 ∷ ex.member 0 (pos 0) ∷ ex.member 0 (pos 255)
    ∷ ex.member 0 (pos 32767) ∷ ex.seen_row 1 ∷ ex.member 3 (pos 7) ∷ [])
    ≡ 0 ∷ 32767 ∷ 32768 ∷ 33023 ∷ 65535 ∷ 98303 ∷ 229383 ∷ []
pairs_rise_by_row_and_then_by_tag = refl

pairs_join_in_order_and_once : with_pairs (ex.member 1 (pos 0) ∷ []) (ex.seen_row 2 ∷ ex.seen_row 1 ∷ at_seven 0 ∷ ex.seen_row 2 ∷ [])
    ≡ at_seven 0 ∷ ex.seen_row 1 ∷ ex.member 1 (pos 0) ∷ ex.seen_row 2 ∷ []
pairs_join_in_order_and_once = refl

pairs_are_taken_away_by_row_and_tag : without_pairs (ex.seen_row 1 ∷ at_seven 1 ∷ ex.seen_row 2 ∷ []) (ex.seen_row 2 ∷ at_seven 1 ∷ at_seven 3 ∷ [])
    ≡ ex.seen_row 1 ∷ []
pairs_are_taken_away_by_row_and_tag = refl

a_field_leads_on_without_a_tag_or_with_the_same : map (leads_on (pos 7)) (None ∷ Some (pos 7) ∷ Some (negsuc 0) ∷ []) ≡ true ∷ true ∷ false ∷ []
a_field_leads_on_without_a_tag_or_with_the_same = refl

an_instance_leads_on_through_some_fields : map (λ t. row_through z.zoo t z.gate) (pos 7 ∷ negsuc 0 ∷ pos 3 ∷ [])
    ≡ Struct 0 (ex.field 0 (Link 1) ∷ ex.field 2 (Link 3) ∷ ex.field 3 (Link 5) ∷ [])
    ∷ Struct 0 (ex.field 0 (Link 1) ∷ ex.field 1 (Link 2) ∷ ex.field 2 (Link 3) ∷ ex.field 4 (Whole (pos 12)) ∷ [])
    ∷ Struct 0 (ex.field 0 (Link 1) ∷ ex.field 2 (Link 3) ∷ []) ∷ []
an_instance_leads_on_through_some_fields = refl

-- though the parade's home has the tag -1
a_collection_leads_on_through_every_item : map (row_through z.zoo (pos 7)) (z.pets ∷ z.parade ∷ z.signs ∷ []) ≡ z.pets ∷ z.parade ∷ z.signs ∷ []
a_collection_leads_on_through_every_item = refl

-- the parade, row 2, isn't reached under 7; under -1 it is, and the star, row 5, through it
a_view_edit_reaches_through_its_tag : map (pairs_behind z.zoo z.zoo_rows) (at_seven 0 ∷ ex.seen_row 0 ∷ [])
    ≡ (at_seven 0 ∷ at_seven 1 ∷ at_seven 3 ∷ at_seven 4 ∷ at_seven 5 ∷ at_seven 6 ∷ [])
    ∷ (ex.seen_row 0 ∷ ex.seen_row 1 ∷ ex.seen_row 2 ∷ ex.seen_row 3 ∷ ex.seen_row 4 ∷ ex.seen_row 5 ∷ ex.seen_row 6 ∷ []) ∷ []
a_view_edit_reaches_through_its_tag = refl

a_view_edit_of_a_collection_reaches_its_items : map (pairs_behind z.zoo z.zoo_rows) (at_seven 2 ∷ at_seven 6 ∷ [])
    ≡ (at_seven 2 ∷ at_seven 4 ∷ at_seven 5 ∷ at_seven 6 ∷ []) ∷ (at_seven 6 ∷ []) ∷ []
a_view_edit_of_a_collection_reaches_its_items = refl

a_view_edit_of_a_row_that_is_not_there_adds_nothing : pairs_behind z.zoo z.zoo_rows (ex.seen_row 7) ≡ []
a_view_edit_of_a_row_that_is_not_there_adds_nothing = refl

-- ---- members

abbrev members_of : List Pair → List Pair → List Pair → Members
members_of n l k = record { now = n; last = l; kept = k }

a_view_begins_without_members : no_members ≡ members_of [] [] []
a_view_begins_without_members = refl

an_addition_goes_to_now_and_to_kept :
    view_added z.zoo z.zoo_rows (ex.seen_row 4) (members_of (ex.seen_row 5 ∷ []) (at_seven 3 ∷ ex.seen_row 5 ∷ []) (at_seven 3 ∷ ex.seen_row 5 ∷ []))
    ≡ members_of (ex.seen_row 4 ∷ ex.seen_row 5 ∷ ex.seen_row 6 ∷ []) (at_seven 3 ∷ ex.seen_row 5 ∷ [])
    (at_seven 3 ∷ ex.seen_row 4 ∷ ex.seen_row 5 ∷ ex.seen_row 6 ∷ [])
an_addition_goes_to_now_and_to_kept = refl

-- toys 6 stay members where the dog no longer holds them
a_removal_takes_what_is_reached_now : view_removed z.zoo (put_row 4 (Struct 2 []) z.zoo_rows) (ex.seen_row 4) (members_of (ex.seen_row 4 ∷ at_seven 4
    ∷ ex.seen_row 6 ∷ []) (ex.seen_row 4 ∷ []) (ex.seen_row 4 ∷ ex.seen_row 6 ∷ []))
    ≡ members_of (at_seven 4 ∷ ex.seen_row 6 ∷ []) (ex.seen_row 4 ∷ []) (ex.seen_row 4 ∷ ex.seen_row 6 ∷ [])
a_removal_takes_what_is_reached_now = refl

a_removal_takes_what_is_behind :
    view_removed z.zoo z.zoo_rows (ex.seen_row 4)
    (members_of (ex.seen_row 4 ∷ ex.seen_row 5 ∷ ex.seen_row 6 ∷ []) [] (ex.seen_row 4 ∷ ex.seen_row 5 ∷ ex.seen_row 6 ∷ []))
    ≡ members_of (ex.seen_row 5 ∷ []) [] (ex.seen_row 4 ∷ ex.seen_row 5 ∷ ex.seen_row 6 ∷ [])
a_removal_takes_what_is_behind = refl

-- so many pairs are kept, and none is a member now
abbrev keeps : ℕ → Members
keeps n = members_of [] [] (replicate n (ex.seen_row 1))

more_than_65536_kept_pairs_are_too_many : map (λ n. is_view_full (keeps n)) (0 ∷ 65536 ∷ 65537 ∷ []) ≡ false ∷ false ∷ true ∷ []
more_than_65536_kept_pairs_are_too_many = refl

only_kept_pairs_fill_a_view : is_view_full (members_of (replicate 65537 (ex.seen_row 1)) (replicate 65537 (ex.seen_row 1)) []) ≡ false
only_kept_pairs_fill_a_view = refl

pairs_of_freed_rows_go_from_now_alone :
    live_members z.zoo_rows (members_of (ex.seen_row 6 ∷ ex.seen_row 7 ∷ at_seven 7 ∷ []) (ex.seen_row 7 ∷ []) (ex.seen_row 7 ∷ []))
    ≡ members_of (ex.seen_row 6 ∷ []) (ex.seen_row 7 ∷ []) (ex.seen_row 7 ∷ [])
pairs_of_freed_rows_go_from_now_alone = refl

a_tick_makes_all_pairs_those_of_now : ticked (members_of (ex.seen_row 1 ∷ []) (ex.seen_row 2 ∷ []) (ex.seen_row 1 ∷ ex.seen_row 3 ∷ []))
    ≡ members_of (ex.seen_row 1 ∷ []) (ex.seen_row 1 ∷ []) (ex.seen_row 1 ∷ [])
a_tick_makes_all_pairs_those_of_now = refl

-- what is in both or only kept hasn't changed
changed_pairs_are_in_one_of_now_and_the_last_tick : changed_pairs (members_of (ex.seen_row 2 ∷ at_seven 2 ∷ ex.seen_row 4 ∷ []) (ex.seen_row 1
    ∷ ex.seen_row 2 ∷ []) (ex.seen_row 9 ∷ []))
    ≡ ex.seen_row 1 ∷ at_seven 2 ∷ ex.seen_row 4 ∷ []
changed_pairs_are_in_one_of_now_and_the_last_tick = refl

nothing_changes_after_a_tick : changed_pairs (ticked (members_of (ex.seen_row 2 ∷ []) (ex.seen_row 1 ∷ []) [])) ≡ []
nothing_changes_after_a_tick = refl
