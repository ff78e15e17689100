-- Refused commands: each cause, the order of the causes, and the limits with whole states at them.
use Rattle.std.specs.Prelude.{◌≡◌, ℕ, Bool, List, [], ◌∷◌, map, pos, negsuc, true, false, Option, Some, None, Ok, Err, codes, replicate, refl}
use Rattle.std.specs.List.{range_with_len}
use Rattle.schema_model.specs.Classes.{Schema}
use Rattle.schema_model.specs.declared.value.Value.{Value}
use Rattle.schema_model.specs.declared.value.Value.TheVariants.{Whole, Str, Truth, Link}
use Rattle.schema_model.specs.declared.class.Item.TheVariants as item
use Rattle.schema_model.specs.declared.scalar.ScalarKind.TheVariants as kind
use Rattle.schema_model.specs.declared.class.Shape.TheVariants as shape
use Rattle.state_model.specs.declared.row.Row.{Row}
use Rattle.state_model.specs.declared.row.Row.TheVariants.{Struct, Map, Array, Set}
use Rattle.state_model.specs.declared.command.Command.{Command}
use Rattle.state_model.specs.declared.command.Command.TheVariants.{Make, MakeFor, Put, Unset, PutKey, DelKey, Push, SetAt, DelAt, Add, Del, Clear}
use Rattle.state_model.specs.declared.command.TableFault.{TableFault}
use Rattle.state_model.specs.declared.command.TableFault.TheVariants as fault
use Rattle.state_model.specs.declared.place.Expected.TheVariants.{Item as AnItem}
use Rattle.state_model.specs.State.{State}
use Rattle.state_model.specs.Commands.{is_no_field, is_no_item, is_wrong_type, is_past_range, is_cycle, is_duplicate, is_long_text, is_long_key, is_present, first_cause, causes_over, refusal_of, answer_of, do_command}
use Rattle.state_model.proofs.Examples as ex
use Rattle.state_model.proofs.Zoo as z

abbrev refusals : List Command → List (Option TableFault)
refusals cs = map (refusal_of z.zoo z.zoo_state) cs

-- ---- no such row

each_holder_is_live : refusals
    (Put 9 0 (Str []) ∷ Unset 9 0 ∷ PutKey 9 [] (Link 4) ∷ DelKey 9 [] ∷ Push 9 (Link 4) ∷ SetAt 9 0 (Link 4) ∷ DelAt 9 0 ∷ Add 9 (Str [])
    ∷ Del 9 (Str []) ∷ Clear 9 ∷ [])
    ≡ replicate 10 (Some fault.NoRef)
each_holder_is_live = refl

-- the link of a Del is asked for too, before the value
each_link_is_live : refusals (Put 0 3 (Link 9) ∷ PutKey 1 [] (Link 9) ∷ Push 2 (Link 9) ∷ SetAt 2 0 (Link 9) ∷ Add 3 (Link 9) ∷ Del 3 (Link 9) ∷ [])
    ≡ replicate 6 (Some fault.NoRef)
each_link_is_live = refl

-- ---- no such field

only_a_declared_class_or_collection_is_made : refusals (Make 3 ∷ MakeFor (ex.home 0 3) ∷ MakeFor (ex.home 0 6) ∷ MakeFor (ex.home 3 0) ∷ [])
    ≡ replicate 4 (Some fault.NoField)
only_a_declared_class_or_collection_is_made = refl

-- a dog has three fields, another pet has two
a_field_is_one_of_the_class : refusals (Put 4 3 (Whole (pos 1)) ∷ Unset 4 3 ∷ Put 5 2 (Whole (pos 1)) ∷ Unset 5 2 ∷ [])
    ≡ replicate 4 (Some fault.NoField)
a_field_is_one_of_the_class = refl

-- an instance 4, a map 1, an array 2 and a set 3
each_command_needs_its_shape : refusals
    (Put 1 0 (Link 4) ∷ Unset 2 0 ∷ PutKey 2 [] (Link 4) ∷ DelKey 3 [] ∷ Push 1 (Link 4) ∷ SetAt 3 0 (Str []) ∷ DelAt 4 0 ∷ Add 2 (Link 4)
    ∷ Del 1 (Link 4) ∷ Clear 4 ∷ [])
    ≡ replicate 10 (Some fault.NoField)
each_command_needs_its_shape = refl

each_command_finds_its_shape : map (λ (p : Command × Row). is_no_field z.zoo p.0 (Some p.1))
    ((Put 4 2 (Whole (pos 1)), z.rex) ∷ (Unset 4 2, z.rex) ∷ (PutKey 1 [] (Link 4), z.pets) ∷ (DelKey 1 [], z.pets)
    ∷ (Push 2 (Link 4), z.parade) ∷ (SetAt 2 0 (Link 4), z.parade) ∷ (DelAt 2 0, z.parade) ∷ (Add 3 (Str []), z.signs) ∷ (Del 3 (Str []), z.signs)
    ∷ (Clear 1, z.pets) ∷ (Clear 2, z.parade) ∷ (Clear 3, z.signs) ∷ [])
    ≡ replicate 12 false
each_command_finds_its_shape = refl

-- ---- no such item

what_is_absent_is_not_taken_away : refusals (Unset 5 1 ∷ DelKey 1 (codes "leo") ∷ DelAt 6 2 ∷ Del 3 (Str (codes "shut")) ∷ [])
    ≡ replicate 4 (Some fault.NoItem)
what_is_absent_is_not_taken_away = refl

nothing_is_set_past_the_length : refusals (SetAt 6 2 (Whole (pos 1)) ∷ SetAt 6 1 (Whole (pos 1)) ∷ []) ≡ Some fault.NoItem ∷ None ∷ []
nothing_is_set_past_the_length = refl

what_is_present_is_taken_away : refusals (Unset 5 0 ∷ DelKey 1 (codes "tom") ∷ DelAt 6 1 ∷ Del 3 (Str (codes "open")) ∷ []) ≡ replicate 4 None
what_is_present_is_taken_away = refl

a_present_item_is_asked_of_no_other_command : map (λ c. is_no_item c (Some z.toys)) (Push 6 (Whole (pos 1)) ∷ Clear 6 ∷ []) ≡ false ∷ false ∷ []
a_present_item_is_asked_of_no_other_command = refl

-- a value of another kind isn't in the set, and a position past the length is tested before the value
an_absent_item_comes_before_a_wrong_type : refusals (Del 3 (Whole (pos 1)) ∷ Del 3 (Link 4) ∷ SetAt 6 2 (Str []) ∷ [])
    ≡ replicate 3 (Some fault.NoItem)
an_absent_item_comes_before_a_wrong_type = refl

-- ---- a value of another type, or out of range

each_value_is_of_its_type :
    refusals (Put 4 0 (Truth true) ∷ Put 0 3 (Link 1) ∷ Put 0 1 (Link 6) ∷ PutKey 1 [] (Link 3) ∷ Push 6 (Str []) ∷ SetAt 6 0 (Link 4)
    ∷ Add 3 (Whole (pos 1)) ∷ [])
    ≡ replicate 7 (Some fault.WrongType)
each_value_is_of_its_type = refl

-- no whole number is in the range of a text
a_wrong_type_comes_before_a_range : refusals (Put 4 0 (Whole (pos 1)) ∷ []) ≡ Some fault.WrongType ∷ []
a_wrong_type_comes_before_a_range = refl

no_value_has_no_type : is_wrong_type z.zoo z.zoo_rows None (Some (AnItem (item.Class 1))) ∷ is_wrong_type z.zoo z.zoo_rows (Some (Link 4)) None ∷ []
    ≡ false ∷ false ∷ []
no_value_has_no_type = refl

each_number_is_in_its_range : refusals
    (Put 4 2 (Whole (pos 255)) ∷ Put 4 2 (Whole (pos 256)) ∷ Put 4 2 (Whole (negsuc 0)) ∷ Push 6 (Whole (pos 2147483648))
    ∷ SetAt 6 0 (Whole (negsuc 2147483648)) ∷ [])
    ≡ None ∷ Some fault.OutOfRange ∷ Some fault.OutOfRange ∷ Some fault.OutOfRange ∷ Some fault.OutOfRange ∷ []
each_number_is_in_its_range = refl

no_value_has_no_range : is_past_range None (Some (AnItem (item.Scalar kind.U8))) ∷ is_past_range (Some (Whole (pos 256))) None ∷ []
    ≡ false ∷ false ∷ []
no_value_has_no_range = refl

-- the set holds `b`, and n is 513
abbrev tags_state : State
tags_state = record { rows = ex.some_tags (ex.element 1 (Str (codes "b")) ∷ []); given = 1; counts = z.count_of 1 2 ∷ [] }

a_tag_is_added_once : do_command ex.tags tags_state (Add 1 (Str (codes "b"))) ≡ Err fault.Present
a_tag_is_added_once = refl

a_number_of_16_bits_is_below_65536 : do_command ex.tags tags_state (Put 0 1 (Whole (pos 65536))) ≡ Err fault.OutOfRange
a_number_of_16_bits_is_below_65536 = refl

-- ---- cycles and duplicates

-- row 1 holds row 2, and nothing holds row 1
abbrev two_nodes : State
two_nodes = record {
  rows = ex.row 0 (Struct 0 []) ∷ ex.row 1 (Struct 0 (ex.field 0 (Link 2) ∷ [])) ∷ ex.row 2 (Struct 0 []) ∷ [];
  given = 2;
  counts = [];
}

no_instance_reaches_its_holder : map (refusal_of ex.nodes two_nodes) (Put 0 0 (Link 1) ∷ Put 2 0 (Link 1) ∷ Put 1 0 (Link 1) ∷ Put 2 0 (Link 0) ∷ [])
    ≡ None ∷ Some fault.Cycle ∷ Some fault.Cycle ∷ None ∷ []
no_instance_reaches_its_holder = refl

only_a_link_makes_a_cycle : map (λ (p : Option ℕ × Option Value). is_cycle two_nodes.rows p.0 p.1)
    ((Some 2, Some (Link 1)) ∷ (Some 2, Some (Whole (pos 1))) ∷ (Some 2, None) ∷ (None, Some (Link 1)) ∷ []) ≡ true ∷ false ∷ false ∷ false ∷ []
only_a_link_makes_a_cycle = refl

an_instance_stands_once_in_a_filtered_array : refusals (Push 2 (Link 4) ∷ SetAt 2 0 (Link 5) ∷ SetAt 2 0 (Link 4) ∷ [])
    ≡ Some fault.Duplicate ∷ Some fault.Duplicate ∷ None ∷ []
an_instance_stands_once_in_a_filtered_array = refl

another_instance_joins_a_filtered_array : refusal_of ex.hand (record { rows = ex.two_cards (Link 2 ∷ []); given = 3; counts = [] }) (Push 1 (Link 3))
    ≡ None
another_instance_joins_a_filtered_array = refl

equal_numbers_stand_in_an_array_that_is_not_filtered : refusals (Push 6 (Whole (pos 7)) ∷ SetAt 6 0 (Whole (pos 8)) ∷ []) ≡ None ∷ None ∷ []
equal_numbers_stand_in_an_array_that_is_not_filtered = refl

-- `State { pile: array of Card }`, `Card {}`: untagged, so not filtered
abbrev piles : Schema
piles = record {
  classes = ex.root_class (codes "State") (ex.plain_field (codes "pile") (shape.Array (item.Class 1)) ∷ []) ∷ ex.root_class (codes "Card") [] ∷ [];
  root = 0;
}

an_instance_stands_twice_in_an_untagged_array : is_duplicate piles (Push 1 (Link 2)) (Some (Array (ex.home 0 0) (Link 2 ∷ []))) ≡ false
an_instance_stands_twice_in_an_untagged_array = refl

only_an_array_has_duplicates : map (is_duplicate z.zoo (PutKey 1 (codes "x") (Link 4))) (Some z.pets ∷ Some z.parade ∷ None ∷ [])
    ≡ false ∷ false ∷ false ∷ []
only_an_array_has_duplicates = refl

-- ---- rows at their limit

-- so many rows without fields
abbrev so_many : ℕ → State
so_many n = record { rows = map (λ k. ex.row k (Struct 0 [])) (range_with_len 0 n); given = n; counts = [] }

a_row_is_made_below_the_limit : refusal_of ex.flat (so_many 16383) (Make 0) ≡ None
a_row_is_made_below_the_limit = refl

no_row_is_made_at_the_limit : map (refusal_of ex.flat (so_many 16384)) (Make 0 ∷ Make 1 ∷ []) ≡ Some fault.InstancesFull ∷ Some fault.NoField ∷ []
no_row_is_made_at_the_limit = refl

a_row_is_changed_at_the_limit : refusal_of ex.flat (so_many 16384) (Put 3 0 (Whole (pos 5))) ≡ None
a_row_is_changed_at_the_limit = refl

-- ---- places at their limit

-- `State { list: array of number, best: number, tags: set of number, named: map of number }`
abbrev lists : Schema
lists = record {
  classes = ex.root_class (codes "State")
      (ex.plain_field (codes "list") (shape.Array (item.Scalar kind.Number)) ∷ ex.plain_field (codes "best") (shape.One (item.Scalar kind.Number))
      ∷ ex.plain_field (codes "tags") (shape.Set (item.Scalar kind.Number)) ∷ ex.plain_field (codes "named") (shape.Map (item.Scalar kind.Number))
      ∷ []) ∷ [];
  root = 0;
}

-- the root holds list 1, set 2 and map 3; the set and the map have an item each, so there are five places beside the list's
abbrev long_list : ℕ → State
long_list n = record {
  rows = ex.row 0 (Struct 0 (ex.field 0 (Link 1) ∷ ex.field 2 (Link 2) ∷ ex.field 3 (Link 3) ∷ []))
      ∷ ex.row 1 (Array (ex.home 0 0) (replicate n (Whole (pos 1))))
      ∷ ex.row 2 (Set (ex.home 0 2) (ex.element 0 (Whole (pos 5)) ∷ [])) ∷ ex.row 3 (Map (ex.home 0 3) (ex.named 0 (codes "a") (Whole (pos 5)) ∷ []))
      ∷ [];
  given = 3;
  counts = z.count_of 2 1 ∷ z.count_of 3 1 ∷ [];
}

-- each command that adds a place
abbrev adding : List Command
adding = Push 1 (Whole (pos 1)) ∷ Put 0 1 (Whole (pos 1)) ∷ Add 2 (Whole (pos 6)) ∷ PutKey 3 (codes "b") (Whole (pos 6)) ∷ []

a_place_is_added_below_the_limit : map (refusal_of lists (long_list 65530)) adding ≡ replicate 4 None
a_place_is_added_below_the_limit = refl

no_place_is_added_at_the_limit : map (refusal_of lists (long_list 65531)) adding ≡ replicate 4 (Some fault.PlacesFull)
no_place_is_added_at_the_limit = refl

-- a value that the set holds is present also at the limit
a_place_is_changed_at_the_limit : map (refusal_of lists (long_list 65531))
    (SetAt 1 0 (Whole (pos 2)) ∷ PutKey 3 (codes "a") (Whole (pos 6)) ∷ Put 0 0 (Link 1) ∷ Add 2 (Whole (pos 5)) ∷ Make 0 ∷ [])
    ≡ None ∷ None ∷ None ∷ Some fault.Present ∷ None ∷ []
a_place_is_changed_at_the_limit = refl

-- ---- texts at their limits

-- so many bytes of one letter
abbrev letters : ℕ → ℕ → List ℕ
letters b n = replicate n b

a_text_has_at_most_4096_bytes : refusals (Put 4 0 (Str (letters 97 4096)) ∷ Put 4 0 (Str (letters 97 4097)) ∷ Add 3 (Str (letters 97 4097)) ∷ [])
    ≡ None ∷ Some fault.TextTooLong ∷ Some fault.TextTooLong ∷ []
a_text_has_at_most_4096_bytes = refl

a_key_has_at_most_4096_bytes : refusals (PutKey 1 (letters 97 4096) (Link 4) ∷ PutKey 1 (letters 97 4097) (Link 4) ∷ [])
    ≡ None ∷ Some fault.TextTooLong ∷ []
a_key_has_at_most_4096_bytes = refl

only_a_text_is_long : map is_long_text (Some (Str (letters 97 4097)) ∷ Some (Str (letters 97 4096)) ∷ Some (Whole (pos 4097)) ∷ None ∷ [])
    ≡ true ∷ false ∷ false ∷ false ∷ []
only_a_text_is_long = refl

only_a_put_key_has_a_long_key : map is_long_key (PutKey 1 (letters 97 4097) (Link 4) ∷ PutKey 1 [] (Link 4) ∷ DelKey 1 (letters 97 4097) ∷ [])
    ≡ true ∷ false ∷ false ∷ []
only_a_put_key_has_a_long_key = refl

-- `State { name: string, more: set of string, named: map of number }`
abbrev words : Schema
words = record {
  classes = ex.root_class (codes "State")
      (ex.plain_field (codes "name") (shape.One (item.Scalar kind.Str)) ∷ ex.plain_field (codes "more") (shape.Set (item.Scalar kind.Str))
      ∷ ex.plain_field (codes "named") (shape.Map (item.Scalar kind.Number)) ∷ []) ∷ [];
  root = 0;
}

-- a set with 1023 texts of 4096 bytes beside a name of so many; a name of 4096 bytes makes 4 MiB
abbrev much_text : ℕ → State
much_text n = record {
  rows = ex.row 0 (Struct 0 (ex.field 0 (Str (letters 98 n)) ∷ ex.field 1 (Link 1) ∷ ex.field 2 (Link 2) ∷ []))
      ∷ ex.row 1 (Set (ex.home 0 1) (map (λ k. ex.element k (Str (letters 97 4096))) (range_with_len 0 1023))) ∷ ex.row 2 (Map (ex.home 0 2) []) ∷ [];
  given = 2;
  counts = z.count_of 1 1023 ∷ z.count_of 2 0 ∷ [];
}

text_is_added_up_to_the_limit : map (refusal_of words (much_text 4090)) (Add 1 (Str (letters 99 6)) ∷ Add 1 (Str (letters 99 7)) ∷ [])
    ≡ None ∷ Some fault.TextFull ∷ []
text_is_added_up_to_the_limit = refl

a_key_counts_as_text :
    map (refusal_of words (much_text 4090)) (PutKey 2 (letters 99 6) (Whole (pos 1)) ∷ PutKey 2 (letters 99 7) (Whole (pos 1)) ∷ [])
    ≡ None ∷ Some fault.TextFull ∷ []
a_key_counts_as_text = refl

a_replaced_text_is_taken_off_first :
    map (refusal_of words (much_text 4096)) (Put 0 0 (Str (letters 99 4096)) ∷ Unset 0 0 ∷ Add 1 (Str (letters 99 1)) ∷ [])
    ≡ None ∷ None ∷ Some fault.TextFull ∷ []
a_replaced_text_is_taken_off_first = refl

-- a text that is too long makes too much text as well
a_full_text_comes_before_a_long_one : map (refusal_of words (much_text 0)) (Put 0 0 (Str (letters 99 4097)) ∷ Add 1 (Str (letters 99 4097)) ∷ [])
    ≡ Some fault.TextFull ∷ Some fault.TextFull ∷ []
a_full_text_comes_before_a_long_one = refl

a_present_text_is_present_at_the_limit : refusal_of words (much_text 4096) (Add 1 (Str (letters 97 4096))) ≡ Some fault.Present
a_present_text_is_present_at_the_limit = refl

-- ---- numbers that are spent

-- the root alone, where so many numbers were given
abbrev given_so_many : ℕ → State
given_so_many n = record { rows = ex.row 0 (Struct 0 []) ∷ []; given = n; counts = [] }

the_last_reference_number_is_given : do_command z.zoo (given_so_many 2147483646) (Make 1)
    ≡ Ok (record { rows = ex.row 0 (Struct 0 []) ∷ ex.row 2147483647 (Struct 1 []) ∷ []; given = 2147483647; counts = [] }, Some 2147483647)
the_last_reference_number_is_given = refl

reference_numbers_are_spent : map (refusal_of z.zoo (given_so_many 2147483647)) (Make 1 ∷ MakeFor (ex.home 0 0) ∷ Put 0 4 (Whole (pos 1)) ∷ [])
    ≡ Some fault.RefsSpent ∷ Some fault.RefsSpent ∷ None ∷ []
reference_numbers_are_spent = refl

-- the zoo, where map 1 and set 3 gave so many item numbers
abbrev gave_so_many : ℕ → State
gave_so_many n = record { rows = z.zoo_rows; given = 6; counts = z.count_of 1 n ∷ z.count_of 3 n ∷ [] }

-- commands that need a new item number, and those that don't
abbrev numbering : List Command
numbering = PutKey 1 (codes "ada") (Link 5) ∷ Add 3 (Str (codes "shut")) ∷ PutKey 1 (codes "tom") (Link 4) ∷ Add 3 (Str (codes "open")) ∷ []

item_2147483647_is_given : map (refusal_of z.zoo (gave_so_many 2147483647)) numbering ≡ None ∷ None ∷ None ∷ Some fault.Present ∷ []
item_2147483647_is_given = refl

item_numbers_are_spent : map (refusal_of z.zoo (gave_so_many 2147483648)) numbering
    ≡ Some fault.NumbersSpent ∷ Some fault.NumbersSpent ∷ None ∷ Some fault.Present ∷ []
item_numbers_are_spent = refl

only_a_set_has_a_present_value : map (λ (p : Command × Row). is_present p.0 (Some p.1)) ((Add 3 (Str (codes "open")), z.signs)
    ∷ (Add 3 (Str (codes "shut")), z.signs) ∷ (Del 3 (Str (codes "open")), z.signs) ∷ (Push 6 (Whole (pos 7)), z.toys) ∷ [])
    ≡ true ∷ false ∷ false ∷ false ∷ []
only_a_set_has_a_present_value = refl

-- ---- the order

the_causes_in_their_order : map (λ (c : Bool × TableFault). c.1) (causes_over z.zoo z.zoo_state (Make 2) None)
    ≡ fault.NoRef ∷ fault.NoField ∷ fault.NoItem ∷ fault.WrongType ∷ fault.OutOfRange ∷ fault.Cycle ∷ fault.Duplicate ∷ fault.InstancesFull
    ∷ fault.PlacesFull
    ∷ fault.TextFull ∷ fault.TextTooLong ∷ fault.RefsSpent ∷ fault.NumbersSpent ∷ fault.Present ∷ []
the_causes_in_their_order = refl

the_first_cause_that_holds_is_answered : map first_cause
    ([] ∷ ((false, fault.NoRef) ∷ []) ∷ ((false, fault.NoRef) ∷ (true, fault.Cycle) ∷ (true, fault.Present) ∷ []) ∷ [])
    ≡ None ∷ None ∷ Some fault.Cycle ∷ []
the_first_cause_that_holds_is_answered = refl

a_refused_command_gives_no_state : answer_of (Some fault.Cycle) z.zoo_state (Some 7) ∷ answer_of None z.zoo_state (Some 7) ∷ []
    ≡ Err fault.Cycle ∷ Ok (z.zoo_state, Some 7) ∷ []
a_refused_command_gives_no_state = refl

-- several causes hold at once; the row, the link, the field and the item are tested first, then the value, then the limits
of_two_causes_the_earlier_is_answered : refusals
    (Push 1 (Link 9) ∷ PutKey 2 (letters 97 4097) (Link 4) ∷ SetAt 6 2 (Whole (pos 2147483648)) ∷ PutKey 1 (letters 97 4097) (Link 3) ∷ [])
    ≡ Some fault.NoRef ∷ Some fault.NoField ∷ Some fault.NoItem ∷ Some fault.WrongType ∷ []
of_two_causes_the_earlier_is_answered = refl
