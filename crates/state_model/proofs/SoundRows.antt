-- Rows of a schema and sound rows: every condition holding, and failing by itself.
use Rattle.std.specs.Prelude.{◌≡◌, Bool, List, [], ◌∷◌, map, pos, negsuc, true, false, Some, None, codes, refl}
use Rattle.schema_model.specs.declared.value.Value.{Value}
use Rattle.schema_model.specs.declared.value.Value.TheVariants.{Whole, Str, Truth, Link}
use Rattle.schema_model.specs.declared.class.Item.TheVariants as item
use Rattle.schema_model.specs.declared.scalar.ScalarKind.TheVariants as kind
use Rattle.state_model.specs.declared.row.Row.{Row}
use Rattle.state_model.specs.declared.row.Row.TheVariants.{Struct, Map, Array, Set}
use Rattle.state_model.specs.declared.row.RowEntry.{RowEntry}
use Rattle.state_model.specs.Rows.{put_row, root_alone}
use Rattle.state_model.specs.declared.place.Expected.{Expected}
use Rattle.state_model.specs.declared.place.Expected.TheVariants.{Item as AnItem, Collection as ACollection}
use Rattle.state_model.specs.Sound.{rise, differ, keys_differ, is_instance_of, is_collection_of, is_of_type, is_out_of_range, fits_expected, fits_place, has_kind, places_fit, set_differs, has_root, are_rows_of, are_sound, Sound}
use Rattle.state_model.proofs.Examples as ex
use Rattle.state_model.proofs.Zoo as z

-- ---- lists

numbers_rise_strictly : map rise ([] ∷ (3 ∷ []) ∷ (3 ∷ 4 ∷ 9 ∷ []) ∷ (3 ∷ 3 ∷ []) ∷ (4 ∷ 3 ∷ []) ∷ (3 ∷ 4 ∷ 2 ∷ []) ∷ [])
    ≡ true ∷ true ∷ true ∷ false ∷ false ∷ false ∷ []
numbers_rise_strictly = refl

values_differ_where_none_stands_twice : map differ
    ([] ∷ (Link 1 ∷ Link 2 ∷ Whole (pos 1) ∷ []) ∷ (Link 1 ∷ Link 2 ∷ Link 1 ∷ []) ∷ (Link 2 ∷ Link 1 ∷ Link 1 ∷ []) ∷ [])
    ≡ true ∷ true ∷ false ∷ false ∷ []
values_differ_where_none_stands_twice = refl

keys_differ_where_none_stands_twice : map keys_differ
    ([] ∷ (codes "a" ∷ codes "b" ∷ []) ∷ (codes "a" ∷ codes "b" ∷ codes "a" ∷ []) ∷ (codes "b" ∷ codes "a" ∷ codes "a" ∷ []) ∷ [])
    ≡ true ∷ true ∷ false ∷ false ∷ []
keys_differ_where_none_stands_twice = refl

-- ---- values and what is declared

a_dog_is_a_pet : map (is_instance_of z.zoo 1) (Some z.rex ∷ Some z.tom ∷ Some z.gate ∷ Some z.pets ∷ None ∷ [])
    ≡ true ∷ true ∷ false ∷ false ∷ false ∷ []
a_dog_is_a_pet = refl

a_pet_need_not_be_a_dog : map (is_instance_of z.zoo 2) (Some z.rex ∷ Some z.tom ∷ []) ≡ true ∷ false ∷ []
a_pet_need_not_be_a_dog = refl

a_collection_is_of_one_home : map (is_collection_of (ex.home 0 0)) (Some z.pets ∷ Some z.parade ∷ Some z.tom ∷ None ∷ [])
    ≡ true ∷ false ∷ false ∷ false ∷ []
a_collection_is_of_one_home = refl

abbrev is_of : Expected → Value → Bool
is_of = is_of_type z.zoo z.zoo_rows

a_scalar_is_of_its_kind_whatever_its_range : map (is_of (AnItem (item.Scalar kind.U8)))
    (Whole (pos 255) ∷ Whole (pos 256) ∷ Str (codes "7") ∷ Truth true ∷ Link 4 ∷ []) ≡ true ∷ true ∷ false ∷ false ∷ false ∷ []
a_scalar_is_of_its_kind_whatever_its_range = refl

a_link_is_of_its_rows_class : map (is_of (AnItem (item.Class 1))) (Link 4 ∷ Link 5 ∷ Link 0 ∷ Link 1 ∷ Link 9 ∷ Whole (pos 4) ∷ [])
    ≡ true ∷ true ∷ false ∷ false ∷ false ∷ false ∷ []
a_link_is_of_its_rows_class = refl

a_link_is_of_its_rows_home : map (is_of (ACollection (ex.home 0 1))) (Link 2 ∷ Link 1 ∷ Link 6 ∷ Link 4 ∷ Link 9 ∷ Whole (pos 2) ∷ [])
    ≡ true ∷ false ∷ false ∷ false ∷ false ∷ false ∷ []
a_link_is_of_its_rows_home = refl

a_number_may_be_out_of_range : map (is_out_of_range (AnItem (item.Scalar kind.U8)))
    (Whole (pos 255) ∷ Whole (pos 256) ∷ Whole (negsuc 0) ∷ Str (codes "7") ∷ Link 300 ∷ []) ≡ false ∷ true ∷ true ∷ false ∷ false ∷ []
a_number_may_be_out_of_range = refl

a_place_of_links_has_no_range : map (λ w. is_out_of_range w (Whole (pos 300))) (AnItem (item.Class 1) ∷ ACollection (ex.home 0 1) ∷ [])
    ≡ false ∷ false ∷ []
a_place_of_links_has_no_range = refl

abbrev fits_in : Expected → Value → Bool
fits_in = fits_expected z.zoo z.zoo_rows

a_scalar_fits_its_kind_and_range : map (fits_in (AnItem (item.Scalar kind.U8))) (Whole (pos 255) ∷ Whole (pos 256) ∷ Str (codes "7") ∷ [])
    ≡ true ∷ false ∷ false ∷ []
a_scalar_fits_its_kind_and_range = refl

a_link_fits_its_class : map (fits_in (AnItem (item.Class 2))) (Link 4 ∷ Link 5 ∷ Link 9 ∷ []) ≡ true ∷ false ∷ false ∷ []
a_link_fits_its_class = refl

a_link_fits_its_home : map (fits_in (ACollection (ex.home 0 2))) (Link 3 ∷ Link 2 ∷ Str (codes "open") ∷ []) ≡ true ∷ false ∷ false ∷ []
a_link_fits_its_home = refl

nothing_fits_an_undeclared_place : map (fits_place z.zoo z.zoo_rows (Link 4)) (Some (AnItem (item.Class 1)) ∷ Some (AnItem (item.Scalar kind.Str))
    ∷ None ∷ [])
    ≡ true ∷ false ∷ false ∷ []
nothing_fits_an_undeclared_place = refl

-- ---- one row

an_instance_is_of_a_class_of_the_schema : map (has_kind z.zoo) (Struct 0 [] ∷ Struct 2 [] ∷ Struct 3 [] ∷ []) ≡ true ∷ true ∷ false ∷ []
an_instance_is_of_a_class_of_the_schema = refl

a_collection_has_its_homes_shape : map (has_kind z.zoo)
    (Map (ex.home 0 0) [] ∷ Array (ex.home 0 1) [] ∷ Set (ex.home 0 2) [] ∷ Map (ex.home 0 1) [] ∷ Array (ex.home 0 2) [] ∷ Set (ex.home 0 0) [] ∷ [])
    ≡ true ∷ true ∷ true ∷ false ∷ false ∷ false ∷ []
a_collection_has_its_homes_shape = refl

-- field 3 is no collection, the class that inherits field 1 isn't its home, and there is no class 3
a_collections_home_is_declared : map (has_kind z.zoo) (Array (ex.home 1 1) [] ∷ Array (ex.home 0 3) [] ∷ Array (ex.home 2 1) []
    ∷ Array (ex.home 3 0) [] ∷ [])
    ≡ true ∷ false ∷ false ∷ false ∷ []
a_collections_home_is_declared = refl

abbrev fit : Row → Bool
fit = places_fit z.zoo z.zoo_rows

each_row_of_the_zoo_fits : map fit (z.gate ∷ z.pets ∷ z.parade ∷ z.signs ∷ z.rex ∷ z.tom ∷ z.toys ∷ [])
    ≡ true ∷ true ∷ true ∷ true ∷ true ∷ true ∷ true ∷ []
each_row_of_the_zoo_fits = refl

fields_rise : map fit (Struct 2 (ex.field 2 (Whole (pos 3)) ∷ ex.field 0 (Str (codes "Rex")) ∷ [])
    ∷ Struct 2 (ex.field 2 (Whole (pos 3)) ∷ ex.field 2 (Whole (pos 3)) ∷ []) ∷ []) ≡ false ∷ false ∷ []
fields_rise = refl

a_field_is_declared_and_its_value_fits : map fit
    (Struct 2 (ex.field 3 (Whole (pos 3)) ∷ []) ∷ Struct 1 (ex.field 2 (Whole (pos 3)) ∷ []) ∷ Struct 2 (ex.field 2 (Whole (pos 256)) ∷ []) ∷ [])
    ≡ false ∷ false ∷ false ∷ []
a_field_is_declared_and_its_value_fits = refl

item_numbers_of_a_map_rise : fit (Map (ex.home 0 0) (ex.named 2 (codes "rex") (Link 4) ∷ ex.named 0 (codes "tom") (Link 5) ∷ [])) ≡ false
item_numbers_of_a_map_rise = refl

keys_of_a_map_differ : fit (Map (ex.home 0 0) (ex.named 0 (codes "rex") (Link 4) ∷ ex.named 1 (codes "rex") (Link 5) ∷ [])) ≡ false
keys_of_a_map_differ = refl

-- a map may hold one instance twice
values_of_a_map_fit : map (λ v. fit (Map (ex.home 0 0) (ex.named 0 (codes "rex") (Link 4) ∷ ex.named 1 (codes "tom") v ∷ []))) (Link 4 ∷ Link 9
    ∷ Link 1 ∷ [])
    ≡ true ∷ false ∷ false ∷ []
values_of_a_map_fit = refl

instances_of_a_filtered_array_differ : map (λ v. fit (Array (ex.home 0 1) (Link 4 ∷ v ∷ []))) (Link 5 ∷ Link 4 ∷ []) ≡ true ∷ false ∷ []
instances_of_a_filtered_array_differ = refl

items_of_another_array_may_be_equal : fit (Array (ex.home 1 1) (Whole (pos 7) ∷ Whole (pos 7) ∷ [])) ≡ true
items_of_another_array_may_be_equal = refl

values_of_an_array_fit : map fit (Array (ex.home 1 1) (Whole (pos 7) ∷ Str (codes "7") ∷ []) ∷ Array (ex.home 0 1) (Link 9 ∷ [])
    ∷ Array (ex.home 2 1) (Whole (pos 7) ∷ []) ∷ [])
    ≡ false ∷ false ∷ false ∷ []
values_of_an_array_fit = refl

item_numbers_of_a_set_rise : fit (Set (ex.home 0 2) (ex.element 3 (Str (codes "open")) ∷ ex.element 1 (Str (codes "closed")) ∷ [])) ≡ false
item_numbers_of_a_set_rise = refl

values_of_a_set_fit : fit (Set (ex.home 0 2) (ex.element 1 (Str (codes "open")) ∷ ex.element 3 (Truth true) ∷ [])) ≡ false
values_of_a_set_fit = refl

links_in_a_set_fit : map (λ v. places_fit z.cards (ex.row 0 (Struct 0 []) ∷ ex.row 4 (Struct 1 []) ∷ []) (Set (ex.home 0 2) (ex.element 0 v ∷ [])))
    (Link 4 ∷ Link 0 ∷ Link 9 ∷ []) ≡ true ∷ false ∷ false ∷ []
links_in_a_set_fit = refl

-- a set with two equal values
abbrev equal_signs : Row
equal_signs = Set (ex.home 0 2) (ex.element 1 (Str (codes "open")) ∷ ex.element 3 (Str (codes "open")) ∷ [])

values_of_a_set_differ_beside_their_fit : fit equal_signs ≡ true
values_of_a_set_differ_beside_their_fit = refl

only_the_values_of_a_set_differ :
    map set_differs (z.signs ∷ equal_signs ∷ Array (ex.home 1 1) (Whole (pos 7) ∷ Whole (pos 7) ∷ []) ∷ z.tom ∷ z.pets ∷ [])
    ≡ true ∷ false ∷ true ∷ true ∷ true ∷ []
only_the_values_of_a_set_differ = refl

-- ---- all rows

the_root_is_of_the_root_class : map (has_root z.zoo) (Some z.gate ∷ Some z.tom ∷ Some z.pets ∷ None ∷ []) ≡ true ∷ false ∷ false ∷ false ∷ []
the_root_is_of_the_root_class = refl

the_zoo_has_rows_of_its_schema : are_rows_of z.zoo z.zoo_rows ≡ true
the_zoo_has_rows_of_its_schema = refl

the_zoo_is_sound : Sound z.zoo z.zoo_rows
the_zoo_is_sound = refl

-- the rows of the zoo and the sound rows fail alike
abbrev both : List RowEntry → Bool × Bool
both rows = (are_rows_of z.zoo rows, are_sound z.zoo rows)

rows_rise_by_number : both (ex.row 0 (Struct 0 []) ∷ ex.row 5 z.tom ∷ ex.row 3 z.signs ∷ []) ≡ (false, false)
rows_rise_by_number = refl

row_0_is_there : both (ex.row 5 z.tom ∷ []) ≡ (false, false)
row_0_is_there = refl

row_0_is_a_zoo : both (put_row 0 z.tom z.zoo_rows) ≡ (false, false)
row_0_is_a_zoo = refl

-- row 7 is held by nothing, which does no harm
each_row_is_of_a_declared_kind : map (λ r. both (put_row 7 r z.zoo_rows)) (Array (ex.home 0 0) [] ∷ Struct 3 [] ∷ Struct 2 [] ∷ [])
    ≡ (false, false) ∷ (false, false) ∷ (true, true) ∷ []
each_row_is_of_a_declared_kind = refl

each_link_leads_to_a_row : both (ex.row 0 (Struct 0 (ex.field 0 (Link 1) ∷ [])) ∷ []) ≡ (false, false)
each_link_leads_to_a_row = refl

equal_values_of_a_set_are_not_sound : both (put_row 3 equal_signs z.zoo_rows) ≡ (true, false)
equal_values_of_a_set_are_not_sound = refl

-- soundness doesn't say that there is no cycle
a_cycle_may_be_sound : are_sound ex.nodes (ex.row 0 (Struct 0 (ex.field 0 (Link 0) ∷ [])) ∷ []) ≡ true
a_cycle_may_be_sound = refl

the_other_examples_are_sound :
    are_sound ex.flat (root_alone ex.flat) ∷ are_sound ex.players (ex.one_player 7) ∷ are_sound ex.players ex.no_player
    ∷ are_sound ex.hand (ex.two_cards (Link 2 ∷ Link 3 ∷ [])) ∷ are_sound ex.two_maps (ex.a_player_in (ex.named 0 (codes "p") (Link 3) ∷ []) [])
    ∷ are_sound ex.boxes (ex.a_box_in (ex.field 0 (Link 1) ∷ [])) ∷ are_sound ex.tags (ex.some_tags (ex.element 0 (Str (codes "a")) ∷ []))
    ∷ are_sound ex.numbers (ex.a_list (Whole (pos 1) ∷ Whole (pos 2) ∷ [])) ∷ []
    ≡ true ∷ true ∷ true ∷ true ∷ true ∷ true ∷ true ∷ true ∷ []
the_other_examples_are_sound = refl
