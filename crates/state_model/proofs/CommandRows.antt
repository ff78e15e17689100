-- Accepted commands by their new states and answers, and what commands name, each case by an example.
use Rattle.std.specs.Prelude.{◌≡◌, ℕ, List, [], ◌∷◌, ◌++◌, map, pos, true, false, Option, Some, None, Result, Ok, Err, codes, refl}
use Rattle.std.specs.List.{fold}
use Rattle.schema_model.specs.Classes.{Schema}
use Rattle.schema_model.specs.declared.value.Value.TheVariants.{Whole, Str, Link}
use Rattle.schema_model.specs.declared.class.Item.TheVariants as item
use Rattle.schema_model.specs.declared.scalar.ScalarKind.TheVariants as kind
use Rattle.state_model.specs.declared.row.Row.{Row}
use Rattle.state_model.specs.declared.row.Row.TheVariants.{Struct, Map, Array, Set}
use Rattle.state_model.specs.declared.row.MapItem.{MapItem}
use Rattle.state_model.specs.declared.command.Command.{Command}
use Rattle.state_model.specs.declared.command.Command.TheVariants.{Make, MakeFor, Put, Unset, PutKey, DelKey, Push, SetAt, DelAt, Add, Del, Clear}
use Rattle.state_model.specs.declared.command.TableFault.{TableFault}
use Rattle.state_model.specs.declared.command.TableFault.TheVariants as fault
use Rattle.state_model.specs.Rows.{put_row}
use Rattle.state_model.specs.declared.place.Expected.TheVariants.{Item as AnItem, Collection as ACollection}
use Rattle.state_model.specs.State.{State, ItemCount, new_state}
use Rattle.state_model.specs.Commands.{holder_of, value_put, named_by, made_row, makes_row, has_key, has_value, put_key, expected_for, gives_number, adds_place, edited, counts_items, put_count, with_new, with_change, row_for, number_made, do_command}
use Rattle.state_model.proofs.Examples as ex
use Rattle.state_model.proofs.Zoo as z

-- ---- what a command names

-- each command once, as the zoo takes it
abbrev each_command : List Command
each_command =
    Make 2 ∷ MakeFor (ex.home 0 0) ∷ Put 0 3 (Link 4) ∷ Unset 5 0 ∷ PutKey 1 (codes "ada") (Link 5) ∷ DelKey 1 (codes "rex")
    ∷ Push 2 (Link 6) ∷ SetAt 6 0 (Whole (pos 9)) ∷ DelAt 6 0 ∷ Add 3 (Str (codes "shut")) ∷ Del 3 (Link 4) ∷ Clear 1 ∷ []

a_command_that_makes_a_row_has_no_holder : map holder_of each_command
    ≡ None ∷ None ∷ Some 0 ∷ Some 5 ∷ Some 1 ∷ Some 1 ∷ Some 2 ∷ Some 6 ∷ Some 6 ∷ Some 3 ∷ Some 3 ∷ Some 1 ∷ []
a_command_that_makes_a_row_has_no_holder = refl

-- Del puts its value nowhere
five_commands_put_a_value : map value_put each_command
    ≡ None ∷ None ∷ Some (Link 4) ∷ None ∷ Some (Link 5) ∷ None ∷ Some (Link 6) ∷ Some (Whole (pos 9)) ∷ None ∷ Some (Str (codes "shut")) ∷ None
    ∷ None ∷ []
five_commands_put_a_value = refl

holder_and_link_have_to_be_live : map named_by each_command
    ≡ [] ∷ [] ∷ (0 ∷ 4 ∷ []) ∷ (5 ∷ []) ∷ (1 ∷ 5 ∷ []) ∷ (1 ∷ []) ∷ (2 ∷ 6 ∷ []) ∷ (6 ∷ []) ∷ (6 ∷ []) ∷ (3 ∷ []) ∷ (3 ∷ 4 ∷ []) ∷ (1 ∷ []) ∷ []
holder_and_link_have_to_be_live = refl

two_commands_make_a_row : map makes_row each_command
    ≡ true ∷ true ∷ false ∷ false ∷ false ∷ false ∷ false ∷ false ∷ false ∷ false ∷ false ∷ false ∷ []
two_commands_make_a_row = refl

a_made_row_gets_the_next_number : map (number_made z.zoo_state) (Make 2 ∷ MakeFor (ex.home 0 0) ∷ Clear 1 ∷ []) ≡ Some 7 ∷ Some 7 ∷ None ∷ []
a_made_row_gets_the_next_number = refl

-- there is no class 3, and field 3 of the zoo is no collection
only_what_is_declared_is_made : map (made_row z.zoo) (Make 2 ∷ Make 3 ∷ MakeFor (ex.home 2 1) ∷ MakeFor (ex.home 0 3) ∷ MakeFor (ex.home 3 0)
    ∷ Clear 1 ∷ [])
    ≡ Some (Struct 2 []) ∷ None ∷ Some (Array (ex.home 1 1) []) ∷ None ∷ None ∷ None ∷ []
only_what_is_declared_is_made = refl

the_row_of_a_command_is_its_holders : map (row_for z.zoo_rows) (Make 2 ∷ Unset 5 0 ∷ Unset 9 0 ∷ []) ≡ None ∷ Some z.tom ∷ None ∷ []
the_row_of_a_command_is_its_holders = refl

-- a field's place expects what the field is declared to hold, an item's what the home says; another holder expects nothing
a_place_expects_what_is_declared : map (λ c. expected_for z.zoo c (row_for z.zoo_rows c))
    (Put 4 1 (Link 6) ∷ Put 4 3 (Link 6) ∷ PutKey 1 (codes "ada") (Link 5) ∷ Push 6 (Whole (pos 9)) ∷ Add 3 (Str []) ∷ Push 4 (Link 6) ∷ Make 2 ∷ [])
    ≡ Some (ACollection (ex.home 1 1)) ∷ None ∷ Some (AnItem (item.Class 1)) ∷ Some (AnItem (item.Scalar kind.Number))
    ∷ Some (AnItem (item.Scalar kind.Str)) ∷ None ∷ None ∷ []
a_place_expects_what_is_declared = refl

a_new_key_or_value_gets_a_number : map (λ c. gives_number c (row_for z.zoo_rows c))
    (PutKey 1 (codes "ada") (Link 5) ∷ PutKey 1 (codes "tom") (Link 5) ∷ Add 3 (Str (codes "shut")) ∷ Add 3 (Str (codes "open"))
    ∷ Push 6 (Whole (pos 9)) ∷ Add 1 (Link 4) ∷ [])
    ≡ true ∷ false ∷ true ∷ false ∷ false ∷ false ∷ []
a_new_key_or_value_gets_a_number = refl

a_place_may_be_new : map (λ c. adds_place c (row_for z.zoo_rows c))
    (Put 5 1 (Link 6) ∷ Put 5 0 (Str []) ∷ Push 6 (Whole (pos 9)) ∷ SetAt 6 0 (Whole (pos 9)) ∷ PutKey 1 (codes "ada") (Link 5)
    ∷ PutKey 1 (codes "tom") (Link 5)
    ∷ Add 3 (Str (codes "shut")) ∷ Add 3 (Str (codes "open")) ∷ DelAt 6 0 ∷ [])
    ≡ true ∷ false ∷ true ∷ false ∷ true ∷ false ∷ true ∷ false ∷ false ∷ []
a_place_may_be_new = refl

-- ---- items by key and value

abbrev pet_items : List MapItem
pet_items = ex.named 0 (codes "rex") (Link 4) ∷ ex.named 2 (codes "tom") (Link 5) ∷ []

a_key_is_there_or_not : map (has_key pet_items) (codes "rex" ∷ codes "tom" ∷ codes "re" ∷ []) ≡ true ∷ true ∷ false ∷ []
a_key_is_there_or_not = refl

a_value_is_there_or_not :
    map (has_value (ex.element 1 (Str (codes "a")) ∷ ex.element 4 (Link 5) ∷ [])) (Str (codes "a") ∷ Link 5 ∷ Whole (pos 5) ∷ [])
    ≡ true ∷ true ∷ false ∷ []
a_value_is_there_or_not = refl

a_present_key_keeps_its_number : put_key 3 (codes "tom") (Link 6) pet_items
    ≡ ex.named 0 (codes "rex") (Link 4) ∷ ex.named 2 (codes "tom") (Link 6) ∷ []
a_present_key_keeps_its_number = refl

a_new_key_goes_last : put_key 3 (codes "ada") (Link 6) pet_items ≡ pet_items ++ ex.named 3 (codes "ada") (Link 6) ∷ []
a_new_key_goes_last = refl

-- ---- rows that are made

a_new_instance_is_held_by_nothing : do_command z.zoo z.zoo_state (Make 2)
    ≡ Ok (record { rows = z.zoo_rows ++ ex.row 7 (Struct 2 []) ∷ []; given = 7; counts = z.counts }, Some 7)
a_new_instance_is_held_by_nothing = refl

a_new_map_gave_no_item_numbers : do_command z.zoo z.zoo_state (MakeFor (ex.home 0 0))
    ≡ Ok (record { rows = z.zoo_rows ++ ex.row 7 (Map (ex.home 0 0) []) ∷ []; given = 7; counts = z.counts ++ z.count_of 7 0 ∷ [] }, Some 7)
a_new_map_gave_no_item_numbers = refl

a_new_set_gave_no_item_numbers : do_command z.zoo z.zoo_state (MakeFor (ex.home 0 2))
    ≡ Ok (record { rows = z.zoo_rows ++ ex.row 7 (Set (ex.home 0 2) []) ∷ []; given = 7; counts = z.counts ++ z.count_of 7 0 ∷ [] }, Some 7)
a_new_set_gave_no_item_numbers = refl

a_collection_of_an_inherited_field_has_its_parents_home : do_command z.zoo z.zoo_state (MakeFor (ex.home 2 1))
    ≡ Ok (record { rows = z.zoo_rows ++ ex.row 7 (Array (ex.home 1 1) []) ∷ []; given = 7; counts = z.counts }, Some 7)
a_collection_of_an_inherited_field_has_its_parents_home = refl

-- rows 1 to 41 were freed
numbers_are_never_used_again : do_command ex.nodes (record { rows = ex.row 0 (Struct 0 []) ∷ []; given = 41; counts = [] }) (Make 0)
    ≡ Ok (record { rows = ex.row 0 (Struct 0 []) ∷ ex.row 42 (Struct 0 []) ∷ []; given = 42; counts = [] }, Some 42)
numbers_are_never_used_again = refl

a_map_and_a_set_count_their_items : map counts_items (z.pets ∷ z.signs ∷ z.toys ∷ z.tom ∷ []) ≡ true ∷ true ∷ false ∷ false ∷ []
a_map_and_a_set_count_their_items = refl

counts_rise_by_their_collections : put_count 2 9 z.counts ≡ z.count_of 1 3 ∷ z.count_of 2 9 ∷ z.count_of 3 4 ∷ []
counts_rise_by_their_collections = refl

-- ---- rows that are changed

abbrev Answer : Type 0
Answer = Result (State × Option ℕ) TableFault

abbrev does : Command → Answer
does c = do_command z.zoo z.zoo_state c

-- the zoo's state with one row changed, and these counts of item numbers
abbrev with_row : ℕ → Row → List ItemCount → Answer
with_row n r counts = Ok (record { rows = put_row n r z.zoo_rows; given = 6; counts = counts }, None)

a_present_field_gets_the_value : does (Put 4 0 (Str (codes "Max")))
    ≡ with_row 4 (Struct 2 (ex.field 0 (Str (codes "Max")) ∷ ex.field 1 (Link 6) ∷ ex.field 2 (Whole (pos 3)) ∷ [])) z.counts
a_present_field_gets_the_value = refl

a_new_field_stands_in_order : does (Put 5 1 (Link 6)) ≡ with_row 5 (Struct 1 (ex.field 0 (Str (codes "Tom")) ∷ ex.field 1 (Link 6) ∷ [])) z.counts
a_new_field_stands_in_order = refl

a_field_is_taken_away : does (Unset 4 1) ≡ with_row 4 (Struct 2 (ex.field 0 (Str (codes "Rex")) ∷ ex.field 2 (Whole (pos 3)) ∷ [])) z.counts
a_field_is_taken_away = refl

a_key_gets_another_value_under_its_number : does (PutKey 1 (codes "rex") (Link 5))
    ≡ with_row 1 (Map (ex.home 0 0) (ex.named 0 (codes "rex") (Link 5) ∷ ex.named 2 (codes "tom") (Link 5) ∷ [])) z.counts
a_key_gets_another_value_under_its_number = refl

a_new_key_gets_the_next_item_number : does (PutKey 1 (codes "ada") (Link 5))
    ≡ with_row 1 (Map (ex.home 0 0) (pet_items ++ ex.named 3 (codes "ada") (Link 5) ∷ [])) (z.count_of 1 4 ∷ z.count_of 3 4 ∷ [])
a_new_key_gets_the_next_item_number = refl

a_key_is_taken_away : does (DelKey 1 (codes "rex")) ≡ with_row 1 (Map (ex.home 0 0) (ex.named 2 (codes "tom") (Link 5) ∷ [])) z.counts
a_key_is_taken_away = refl

an_item_goes_last : does (Push 6 (Whole (pos 9))) ≡ with_row 6 (Array (ex.home 1 1) (Whole (pos 7) ∷ Whole (pos 8) ∷ Whole (pos 9) ∷ [])) z.counts
an_item_goes_last = refl

an_item_is_replaced_at_its_position : does (SetAt 6 1 (Whole (pos 9)))
    ≡ with_row 6 (Array (ex.home 1 1) (Whole (pos 7) ∷ Whole (pos 9) ∷ [])) z.counts
an_item_is_replaced_at_its_position = refl

later_items_close_up : map does (DelAt 2 0 ∷ DelAt 2 1 ∷ [])
    ≡ with_row 2 (Array (ex.home 0 1) (Link 5 ∷ [])) z.counts ∷ with_row 2 (Array (ex.home 0 1) (Link 4 ∷ [])) z.counts ∷ []
later_items_close_up = refl

a_new_value_gets_the_next_item_number : does (Add 3 (Str (codes "shut")))
    ≡ with_row 3 (Set (ex.home 0 2)
    (ex.element 1 (Str (codes "open")) ∷ ex.element 3 (Str (codes "closed")) ∷ ex.element 4 (Str (codes "shut")) ∷ []))
    (z.count_of 1 3 ∷ z.count_of 3 5 ∷ [])
a_new_value_gets_the_next_item_number = refl

a_value_is_taken_out : does (Del 3 (Str (codes "open"))) ≡ with_row 3 (Set (ex.home 0 2) (ex.element 3 (Str (codes "closed")) ∷ [])) z.counts
a_value_is_taken_out = refl

a_map_is_cleared : does (Clear 1) ≡ with_row 1 (Map (ex.home 0 0) []) z.counts
a_map_is_cleared = refl

an_array_is_cleared : does (Clear 2) ≡ with_row 2 (Array (ex.home 0 1) []) z.counts
an_array_is_cleared = refl

a_set_is_cleared : does (Clear 3) ≡ with_row 3 (Set (ex.home 0 2) []) z.counts
a_set_is_cleared = refl

-- an instance of a filtered array may be put where it stands
an_instance_is_put_where_it_stands : does (SetAt 2 1 (Link 5)) ≡ with_row 2 z.parade z.counts
an_instance_is_put_where_it_stands = refl

-- ---- commands one after another

abbrev next : Schema → Answer → Command → Answer
next schema (Ok s) c = do_command schema s.0 c
next schema (Err f) c = Err f

-- the answer to the last of these commands
abbrev after : Schema → State → List Command → Answer
after schema s cs = fold (next schema) (Ok (s, None)) cs

item_numbers_of_a_map_go_on_after_a_clear : after z.zoo z.zoo_state (Clear 1 ∷ PutKey 1 (codes "rex") (Link 5) ∷ [])
    ≡ with_row 1 (Map (ex.home 0 0) (ex.named 3 (codes "rex") (Link 5) ∷ [])) (z.count_of 1 4 ∷ z.count_of 3 4 ∷ [])
item_numbers_of_a_map_go_on_after_a_clear = refl

item_numbers_of_a_set_go_on_after_a_clear : after z.zoo z.zoo_state (Clear 3 ∷ Add 3 (Str (codes "open")) ∷ [])
    ≡ with_row 3 (Set (ex.home 0 2) (ex.element 4 (Str (codes "open")) ∷ [])) (z.count_of 1 3 ∷ z.count_of 3 5 ∷ [])
item_numbers_of_a_set_go_on_after_a_clear = refl

a_key_taken_away_comes_back_under_a_new_number : after z.zoo z.zoo_state (DelKey 1 (codes "rex") ∷ PutKey 1 (codes "rex") (Link 4) ∷ [])
    ≡ with_row 1 (Map (ex.home 0 0) (ex.named 2 (codes "tom") (Link 5) ∷ ex.named 3 (codes "rex") (Link 4) ∷ []))
    (z.count_of 1 4 ∷ z.count_of 3 4 ∷ [])
a_key_taken_away_comes_back_under_a_new_number = refl

-- two nodes, one behind the other
abbrev a_chain : List Command
a_chain = Make 0 ∷ Put 0 0 (Link 1) ∷ Make 0 ∷ Put 1 0 (Link 2) ∷ []

nodes_form_a_chain : after ex.nodes (new_state ex.nodes) a_chain
    ≡ Ok (
      record {
        rows = ex.row 0 (Struct 0 (ex.field 0 (Link 1) ∷ [])) ∷ ex.row 1 (Struct 0 (ex.field 0 (Link 2) ∷ [])) ∷ ex.row 2 (Struct 0 [])
            ∷ [];
        given = 2;
        counts = [];
      },
      None,
    )
nodes_form_a_chain = refl

a_chain_is_not_closed_to_a_ring : after ex.nodes (new_state ex.nodes) (a_chain ++ Put 2 0 (Link 1) ∷ []) ≡ Err fault.Cycle
a_chain_is_not_closed_to_a_ring = refl

a_node_does_not_hold_itself : after ex.nodes (new_state ex.nodes) (a_chain ++ Put 2 0 (Link 2) ∷ []) ≡ Err fault.Cycle
a_node_does_not_hold_itself = refl

-- a row that nothing holds yet may hold the root, but isn't put under it then
the_root_may_be_held : after ex.nodes (new_state ex.nodes) (Make 0 ∷ Put 1 0 (Link 0) ∷ [])
    ≡ Ok (record { rows = ex.row 0 (Struct 0 []) ∷ ex.row 1 (Struct 0 (ex.field 0 (Link 0) ∷ [])) ∷ []; given = 1; counts = [] }, None)
the_root_may_be_held = refl

the_root_does_not_hold_its_holder : after ex.nodes (new_state ex.nodes) (Make 0 ∷ Put 1 0 (Link 0) ∷ Put 0 0 (Link 1) ∷ []) ≡ Err fault.Cycle
the_root_does_not_hold_its_holder = refl

-- ---- what stands beside the commands that are accepted

-- a holder of another shape, and a value that the set holds
a_row_stays_under_a_command_that_does_not_fit : map (λ c. edited c 4 z.tom) (Push 5 (Link 4) ∷ PutKey 5 [] (Link 4) ∷ Clear 5 ∷ Make 2 ∷ [])
    ≡ z.tom ∷ z.tom ∷ z.tom ∷ z.tom ∷ []
a_row_stays_under_a_command_that_does_not_fit = refl

a_set_stays_with_a_value_that_it_holds : edited (Add 3 (Str (codes "open"))) 4 z.signs ≡ z.signs
a_set_stays_with_a_value_that_it_holds = refl

a_state_stays_without_a_row : with_new z.zoo_state None ∷ with_change z.zoo_state (Clear 9) (Some 9) None
    ∷ with_change z.zoo_state (Make 2) None (Some z.tom) ∷ []
    ≡ z.zoo_state ∷ z.zoo_state ∷ z.zoo_state ∷ []
a_state_stays_without_a_row = refl
