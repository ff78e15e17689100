-- Values, rows by their numbers, counts, and what a schema declares of places: each case by an example.
use Rattle.std.specs.Prelude.{◌≡◌, ℕ, List, [], ◌∷◌, map, pos, negsuc, true, false, Some, None, codes, refl}
use Rattle.schema_model.specs.Classes.{Schema, Declared}
use Rattle.schema_model.specs.declared.value.Value.{Value}
use Rattle.schema_model.specs.declared.value.Value.TheVariants.{Whole, Str, Truth, Link}
use Rattle.schema_model.specs.declared.class.Shape.{Shape}
use Rattle.schema_model.specs.declared.class.Shape.TheVariants as shape
use Rattle.schema_model.specs.declared.class.Item.TheVariants as item
use Rattle.schema_model.specs.declared.scalar.ScalarKind.TheVariants as kind
use Rattle.state_model.specs.declared.row.Row.{Row}
use Rattle.state_model.specs.declared.row.Row.TheVariants.{Struct, Map, Array, Set}
use Rattle.state_model.specs.Values.{same_whole, same_truth, same_value, held_by, is_link, text_size}
use Rattle.state_model.specs.Rows.{numbers_of, row_at, is_live, values_in, held_in, rows_of, place_count, key_bytes, text_bytes_of, emptied, kinds_of, put_row, root_alone}
use Rattle.state_model.specs.State.{new_state, next_item, swept, rows_limit, places_limit, text_limit, one_text_limit, last_number}
use Rattle.state_model.specs.declared.place.Expected.TheVariants.{Item as AnItem, Collection as ACollection}
use Rattle.state_model.specs.Places.{is_collection, expected_by, expected_of, field_expects, item_expects, tag_of, home_tag, instance_class, holds_instances, is_array, is_filtered, collection_of, empty_collection, same_home, same_kind, row_home, row_class}
use Rattle.state_model.proofs.Examples as ex
use Rattle.state_model.proofs.Zoo as z

-- ---- values

whole_numbers_are_equal_by_sign_and_size : map (same_whole (pos 3)) (pos 3 ∷ pos 4 ∷ negsuc 3 ∷ []) ≡ true ∷ false ∷ false ∷ []
whole_numbers_are_equal_by_sign_and_size = refl

negative_numbers_are_equal_by_sign_and_size : map (same_whole (negsuc 3)) (negsuc 3 ∷ negsuc 4 ∷ pos 3 ∷ []) ≡ true ∷ false ∷ false ∷ []
negative_numbers_are_equal_by_sign_and_size = refl

truth_values_are_equal_where_both_are_true_or_both_false :
    map (λ a. map (same_truth a) (true ∷ false ∷ [])) (true ∷ false ∷ []) ≡ (true ∷ false ∷ []) ∷ (false ∷ true ∷ []) ∷ []
truth_values_are_equal_where_both_are_true_or_both_false = refl

-- a value of each form
abbrev each_form : List Value
each_form = Whole (pos 1) ∷ Str (codes "ab") ∷ Truth true ∷ Link 1 ∷ []

values_of_two_forms_are_never_equal : map (λ v. map (same_value v) each_form) each_form
    ≡ (true ∷ false ∷ false ∷ false ∷ []) ∷ (false ∷ true ∷ false ∷ false ∷ []) ∷ (false ∷ false ∷ true ∷ false ∷ [])
    ∷ (false ∷ false ∷ false ∷ true ∷ []) ∷ []
values_of_two_forms_are_never_equal = refl

values_of_one_form_may_differ : map (λ (p : Value × Value). same_value p.0 p.1)
    ((Whole (pos 1), Whole (negsuc 0)) ∷ (Str (codes "ab"), Str (codes "a")) ∷ (Truth true, Truth false) ∷ (Link 1, Link 2) ∷ [])
    ≡ false ∷ false ∷ false ∷ false ∷ []
values_of_one_form_may_differ = refl

a_link_alone_holds_a_row : map held_by each_form ≡ [] ∷ [] ∷ [] ∷ (1 ∷ []) ∷ []
a_link_alone_holds_a_row = refl

a_link_alone_is_a_link : map is_link each_form ≡ false ∷ false ∷ false ∷ true ∷ []
a_link_alone_is_a_link = refl

a_text_alone_has_bytes_of_text : map text_size each_form ≡ 0 ∷ 2 ∷ 0 ∷ 0 ∷ []
a_text_alone_has_bytes_of_text = refl

-- ---- rows by their numbers

rows_are_known_by_their_numbers : numbers_of z.zoo_rows ≡ 0 ∷ 1 ∷ 2 ∷ 3 ∷ 4 ∷ 5 ∷ 6 ∷ []
rows_are_known_by_their_numbers = refl

a_row_is_found_by_its_number : map (row_at z.zoo_rows) (5 ∷ 7 ∷ []) ≡ Some z.tom ∷ None ∷ []
a_row_is_found_by_its_number = refl

a_number_without_a_row_is_not_live : map (is_live z.zoo_rows) (0 ∷ 6 ∷ 7 ∷ []) ≡ true ∷ true ∷ false ∷ []
a_number_without_a_row_is_not_live = refl

-- a row of each shape
abbrev each_shape : List Row
each_shape = z.tom ∷ z.pets ∷ z.toys ∷ z.signs ∷ []

values_stand_in_the_order_of_their_places : map values_in each_shape
    ≡ (Str (codes "Tom") ∷ []) ∷ (Link 4 ∷ Link 5 ∷ []) ∷ (Whole (pos 7) ∷ Whole (pos 8) ∷ []) ∷ (Str (codes "open") ∷ Str (codes "closed") ∷ []) ∷ []
values_stand_in_the_order_of_their_places = refl

a_row_holds_what_its_links_name : map held_in (z.gate ∷ z.pets ∷ z.toys ∷ []) ≡ (1 ∷ 2 ∷ 3 ∷ 5 ∷ []) ∷ (4 ∷ 5 ∷ []) ∷ [] ∷ []
a_row_holds_what_its_links_name = refl

rows_of_numbers_keep_their_order : rows_of (5 ∷ 9 ∷ 1 ∷ []) z.zoo_rows ≡ ex.row 1 z.pets ∷ ex.row 5 z.tom ∷ []
rows_of_numbers_keep_their_order = refl

places_of_all_rows_are_counted : place_count z.zoo_rows ≡ 17
places_of_all_rows_are_counted = refl

a_map_alone_has_keys : map key_bytes each_shape ≡ 0 ∷ 6 ∷ 0 ∷ 0 ∷ []
a_map_alone_has_keys = refl

-- the keys have 6 bytes, the signs 10, the names 3 each
texts_and_keys_are_counted_together : text_bytes_of z.zoo_rows ≡ 22
texts_and_keys_are_counted_together = refl

an_emptied_row_keeps_its_kind : map emptied each_shape ≡ Struct 1 [] ∷ Map (ex.home 0 0) [] ∷ Array (ex.home 1 1) [] ∷ Set (ex.home 0 2) [] ∷ []
an_emptied_row_keeps_its_kind = refl

kinds_are_rows_without_places : kinds_of (ex.one_player 7) ≡ ex.row 0 (Struct 0 []) ∷ ex.row 1 (Map (ex.home 0 0) []) ∷ ex.row 2 (Struct 1 []) ∷ []
kinds_are_rows_without_places = refl

a_row_is_put_in_place_of_its_number : put_row 1 (Struct 0 []) (ex.row 0 z.gate ∷ ex.row 1 z.tom ∷ ex.row 2 z.toys ∷ [])
    ≡ ex.row 0 z.gate ∷ ex.row 1 (Struct 0 []) ∷ ex.row 2 z.toys ∷ []
a_row_is_put_in_place_of_its_number = refl

a_new_row_is_put_between_its_neighbours : put_row 1 z.tom (ex.row 0 z.gate ∷ ex.row 2 z.toys ∷ [])
    ≡ ex.row 0 z.gate ∷ ex.row 1 z.tom ∷ ex.row 2 z.toys ∷ []
a_new_row_is_put_between_its_neighbours = refl

a_new_row_goes_last : put_row 9 z.tom (ex.row 0 z.gate ∷ []) ≡ ex.row 0 z.gate ∷ ex.row 9 z.tom ∷ []
a_new_row_goes_last = refl

-- a schema whose root class isn't the first
abbrev rooted_in_pets : Schema
rooted_in_pets = record { classes = z.zoo.classes; root = 1 }

the_root_alone_is_of_the_root_class : root_alone rooted_in_pets ≡ ex.row 0 (Struct 1 []) ∷ []
the_root_alone_is_of_the_root_class = refl

-- ---- states

a_new_state_is_the_root_alone : new_state rooted_in_pets ≡ record { rows = ex.row 0 (Struct 1 []) ∷ []; given = 0; counts = [] }
a_new_state_is_the_root_alone = refl

item_numbers_go_on_by_collection : map (next_item z.zoo_state) (1 ∷ 2 ∷ 3 ∷ []) ≡ 3 ∷ 0 ∷ 4 ∷ []
item_numbers_go_on_by_collection = refl

-- the root holds nothing but the signs
abbrev bare_gate : Row
bare_gate = Struct 0 (ex.field 2 (Link 3) ∷ [])

a_sweep_takes_the_counts_of_freed_rows_too :
    swept (record { rows = put_row 0 bare_gate z.zoo_rows; given = 6; counts = z.counts })
    ≡ record { rows = ex.row 0 bare_gate ∷ ex.row 3 z.signs ∷ []; given = 6; counts = z.count_of 3 4 ∷ [] }
a_sweep_takes_the_counts_of_freed_rows_too = refl

a_sweep_of_held_rows_changes_nothing : swept z.zoo_state ≡ z.zoo_state
a_sweep_of_held_rows_changes_nothing = refl

-- 4 MiB of text; numbers to 2^31-1
the_limits : rows_limit ∷ places_limit ∷ text_limit ∷ one_text_limit ∷ last_number ∷ [] ≡ 16384 ∷ 65536 ∷ 4194304 ∷ 4096 ∷ 2147483647 ∷ []
the_limits = refl

-- ---- what is declared of places

-- each shape, of instances of class 1
abbrev shapes : List Shape
shapes = shape.One (item.Class 1) ∷ shape.Map (item.Class 1) ∷ shape.Array (item.Class 1) ∷ shape.Set (item.Class 1) ∷ []

all_shapes_but_one_item_are_collections : map is_collection shapes ≡ false ∷ true ∷ true ∷ true ∷ []
all_shapes_but_one_item_are_collections = refl

an_array_alone_is_an_array : map is_array shapes ≡ false ∷ false ∷ true ∷ false ∷ []
an_array_alone_is_an_array = refl

a_collection_field_expects_a_collection_of_its_home : map (λ s. expected_by s (ex.home 0 3)) shapes
    ≡ AnItem (item.Class 1) ∷ ACollection (ex.home 0 3) ∷ ACollection (ex.home 0 3) ∷ ACollection (ex.home 0 3) ∷ []
a_collection_field_expects_a_collection_of_its_home = refl

abbrev declared_by : ℕ → Shape → Declared
declared_by c s = record { class = c; field = ex.plain_field (codes "f") s }

a_home_is_of_the_declaring_class : expected_of 4 (declared_by 2 (shape.Set (item.Scalar kind.Str))) ≡ ACollection (ex.home 2 4)
a_home_is_of_the_declaring_class = refl

-- field 1 of a dog is declared by its parent; a dog has no field 3, and there is no class 3
an_inherited_field_expects_its_parents_home : map (λ (p : ℕ × ℕ). field_expects z.zoo p.0 p.1) ((2, 1) ∷ (2, 2) ∷ (0, 3) ∷ (2, 3) ∷ (3, 0) ∷ [])
    ≡ Some (ACollection (ex.home 1 1)) ∷ Some (AnItem (item.Scalar kind.U8)) ∷ Some (AnItem (item.Class 1)) ∷ None ∷ None ∷ []
an_inherited_field_expects_its_parents_home = refl

-- an inherited field's home isn't of the class that inherits
items_want_what_their_home_declares : map (item_expects z.zoo) (ex.home 0 0 ∷ ex.home 0 2 ∷ ex.home 2 1 ∷ ex.home 0 6 ∷ [])
    ≡ Some (AnItem (item.Class 1)) ∷ Some (AnItem (item.Scalar kind.Str)) ∷ None ∷ None ∷ []
items_want_what_their_home_declares = refl

a_field_has_a_tag_or_none : map (tag_of z.zoo 0) (0 ∷ 1 ∷ 3 ∷ 6 ∷ []) ≡ None ∷ Some (negsuc 0) ∷ Some (pos 7) ∷ None ∷ []
a_field_has_a_tag_or_none = refl

a_home_has_its_fields_tag : map (home_tag z.zoo) (ex.home 0 0 ∷ ex.home 0 1 ∷ ex.home 0 5 ∷ ex.home 2 1 ∷ [])
    ≡ None ∷ Some (negsuc 0) ∷ Some (pos 7) ∷ None ∷ []
a_home_has_its_fields_tag = refl

a_scalar_item_has_no_class : map instance_class (item.Scalar kind.Bool ∷ item.Class 2 ∷ []) ≡ None ∷ Some 2 ∷ []
a_scalar_item_has_no_class = refl

pets_are_instances_and_signs_are_not : map (holds_instances z.zoo) (ex.home 0 0 ∷ ex.home 0 2 ∷ ex.home 2 1 ∷ []) ≡ true ∷ false ∷ false ∷ []
pets_are_instances_and_signs_are_not = refl

-- the parade is tagged and holds instances; the pets are untagged, the log holds scalars, and the toys are neither
an_array_is_filtered_where_it_is_tagged_and_holds_instances :
    map (is_filtered z.zoo) (ex.home 0 1 ∷ ex.home 0 0 ∷ ex.home 0 5 ∷ ex.home 1 1 ∷ []) ≡ true ∷ false ∷ false ∷ false ∷ []
an_array_is_filtered_where_it_is_tagged_and_holds_instances = refl

each_shape_has_its_empty_collection : map (collection_of (ex.home 0 3)) shapes
    ≡ None ∷ Some (Map (ex.home 0 3) []) ∷ Some (Array (ex.home 0 3) []) ∷ Some (Set (ex.home 0 3) []) ∷ []
each_shape_has_its_empty_collection = refl

only_a_declared_collection_field_has_an_empty_collection : map (empty_collection z.zoo) (ex.home 0 1 ∷ ex.home 0 3 ∷ ex.home 2 1 ∷ [])
    ≡ Some (Array (ex.home 0 1) []) ∷ None ∷ None ∷ []
only_a_declared_collection_field_has_an_empty_collection = refl

homes_are_one_by_class_and_field : map (same_home (ex.home 0 1)) (ex.home 0 1 ∷ ex.home 1 1 ∷ ex.home 0 0 ∷ []) ≡ true ∷ false ∷ false ∷ []
homes_are_one_by_class_and_field = refl

-- an empty row of each shape, of this class or home
abbrev empty_rows : ℕ → List Row
empty_rows c = Struct c [] ∷ Map (ex.home c 0) [] ∷ Array (ex.home c 0) [] ∷ Set (ex.home c 0) [] ∷ []

rows_of_two_shapes_are_never_of_one_kind : map (λ r. map (same_kind r) (empty_rows 1)) (empty_rows 1)
    ≡ (true ∷ false ∷ false ∷ false ∷ []) ∷ (false ∷ true ∷ false ∷ false ∷ []) ∷ (false ∷ false ∷ true ∷ false ∷ [])
    ∷ (false ∷ false ∷ false ∷ true ∷ []) ∷ []
rows_of_two_shapes_are_never_of_one_kind = refl

rows_of_one_shape_may_be_of_two_kinds : map (λ r. map (same_kind r) (empty_rows 2)) (empty_rows 1)
    ≡ (false ∷ false ∷ false ∷ false ∷ []) ∷ (false ∷ false ∷ false ∷ false ∷ []) ∷ (false ∷ false ∷ false ∷ false ∷ [])
    ∷ (false ∷ false ∷ false ∷ false ∷ []) ∷ []
rows_of_one_shape_may_be_of_two_kinds = refl

a_kind_is_whatever_the_places : same_kind z.pets (Map (ex.home 0 0) []) ≡ true
a_kind_is_whatever_the_places = refl

a_collection_has_a_home : map row_home each_shape ≡ None ∷ Some (ex.home 0 0) ∷ Some (ex.home 1 1) ∷ Some (ex.home 0 2) ∷ []
a_collection_has_a_home = refl

an_instance_has_a_class : map row_class each_shape ≡ Some 1 ∷ None ∷ None ∷ None ∷ []
an_instance_has_a_class = refl
