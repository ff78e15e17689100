-- What rows hold, step by step: reached rows, cycles, and rows that nothing holds, each case by an example.
use Rattle.std.specs.Prelude.{◌≡◌, ℕ, suc, List, [], ◌∷◌, map, true, false, refl}
use Rattle.std.specs.List.{list_any}
use Rattle.schema_model.specs.declared.value.Value.TheVariants.{Link}
use Rattle.state_model.specs.declared.row.Row.TheVariants.{Struct}
use Rattle.state_model.specs.declared.row.RowEntry.{RowEntry}
use Rattle.state_model.specs.Reached.{times, is_among, with_number, with_numbers, all_held, grown, reached, makes_cycle, is_in_cycle, HasNoCycle, swept_once, freed}
use Rattle.state_model.proofs.Examples as ex
use Rattle.state_model.proofs.Zoo as z

-- ---- steps and numbers

a_step_is_taken_so_often : times 0 suc 4 ∷ times 3 suc 4 ∷ [] ≡ 4 ∷ 7 ∷ []
a_step_is_taken_so_often = refl

a_number_is_among_others_or_not : map (λ n. is_among n (4 ∷ 1 ∷ [])) (1 ∷ 4 ∷ 2 ∷ []) ≡ true ∷ true ∷ false ∷ []
a_number_is_among_others_or_not = refl

a_number_joins_in_order_and_once : map (with_number (1 ∷ 4 ∷ [])) (0 ∷ 3 ∷ 9 ∷ 4 ∷ [])
    ≡ (0 ∷ 1 ∷ 4 ∷ []) ∷ (1 ∷ 3 ∷ 4 ∷ []) ∷ (1 ∷ 4 ∷ 9 ∷ []) ∷ (1 ∷ 4 ∷ []) ∷ []
a_number_joins_in_order_and_once = refl

numbers_join_in_order_and_once : with_numbers (1 ∷ 4 ∷ []) (9 ∷ 0 ∷ 4 ∷ 9 ∷ []) ≡ 0 ∷ 1 ∷ 4 ∷ 9 ∷ []
numbers_join_in_order_and_once = refl

no_numbers_change_nothing : with_numbers (1 ∷ 4 ∷ []) [] ≡ 1 ∷ 4 ∷ []
no_numbers_change_nothing = refl

-- ---- reached rows

what_the_rows_of_the_zoo_hold : all_held z.zoo_rows ≡ 1 ∷ 2 ∷ 3 ∷ 5 ∷ 4 ∷ 5 ∷ 4 ∷ 5 ∷ 6 ∷ []
what_the_rows_of_the_zoo_hold = refl

numbers_grow_by_what_their_rows_hold : map (grown z.zoo_rows) ((0 ∷ []) ∷ (0 ∷ 1 ∷ []) ∷ (6 ∷ []) ∷ (9 ∷ []) ∷ [])
    ≡ (0 ∷ 1 ∷ 2 ∷ 3 ∷ 5 ∷ []) ∷ (0 ∷ 1 ∷ 2 ∷ 3 ∷ 4 ∷ 5 ∷ []) ∷ (6 ∷ []) ∷ (9 ∷ []) ∷ []
numbers_grow_by_what_their_rows_hold = refl

-- a number without a row reaches itself
rows_are_reached_over_several_places : map (reached z.zoo_rows) (0 ∷ 1 ∷ 4 ∷ 5 ∷ 9 ∷ [])
    ≡ (0 ∷ 1 ∷ 2 ∷ 3 ∷ 4 ∷ 5 ∷ 6 ∷ []) ∷ (1 ∷ 4 ∷ 5 ∷ 6 ∷ []) ∷ (4 ∷ 6 ∷ []) ∷ (5 ∷ []) ∷ (9 ∷ []) ∷ []
rows_are_reached_over_several_places = refl

-- a node that holds another one
abbrev holds : ℕ → ℕ → RowEntry
holds n m = ex.row n (Struct 0 (ex.field 0 (Link m) ∷ []))

-- a node that holds nothing
abbrev last : ℕ → RowEntry
last n = ex.row n (Struct 0 [])

-- 0 to 3 to 2 to 1
abbrev backward_chain : List RowEntry
backward_chain = holds 0 3 ∷ last 1 ∷ holds 2 1 ∷ holds 3 2 ∷ []

a_chain_is_reached_to_its_end : map (reached backward_chain) (0 ∷ 3 ∷ 2 ∷ 1 ∷ [])
    ≡ (0 ∷ 1 ∷ 2 ∷ 3 ∷ []) ∷ (1 ∷ 2 ∷ 3 ∷ []) ∷ (1 ∷ 2 ∷ []) ∷ (1 ∷ []) ∷ []
a_chain_is_reached_to_its_end = refl

-- ---- cycles

-- the first argument is the holder, the second one is put into it
to_hold_a_row_that_reaches_the_holder_makes_a_cycle :
    makes_cycle backward_chain 1 0 ∷ makes_cycle backward_chain 1 3 ∷ makes_cycle backward_chain 1 1 ∷ makes_cycle backward_chain 0 1 ∷ [] ≡ true
    ∷ true ∷ true ∷ false ∷ []
to_hold_a_row_that_reaches_the_holder_makes_a_cycle = refl

-- 0 leads into a ring of 1, 2 and 3
abbrev ring : List RowEntry
ring = holds 0 1 ∷ holds 1 2 ∷ holds 2 3 ∷ holds 3 1 ∷ []

-- row 0 leads into the ring and isn't in it
the_rows_of_a_ring_are_in_a_cycle : map (is_in_cycle ring) ring ≡ false ∷ true ∷ true ∷ true ∷ []
the_rows_of_a_ring_are_in_a_cycle = refl

a_row_may_hold_itself : map (is_in_cycle (holds 0 1 ∷ holds 1 1 ∷ [])) (holds 0 1 ∷ holds 1 1 ∷ []) ≡ false ∷ true ∷ []
a_row_may_hold_itself = refl

a_chain_has_no_cycle : HasNoCycle backward_chain
a_chain_has_no_cycle = refl

-- an instance that two rows hold is no cycle
the_zoo_has_no_cycle : HasNoCycle z.zoo_rows
the_zoo_has_no_cycle = refl

a_ring_is_a_cycle : list_any (is_in_cycle ring) ring ≡ true
a_ring_is_a_cycle = refl

-- ---- rows that nothing holds

-- 1 to 2 to 3, and nothing holds 1
abbrev loose_chain : List RowEntry
loose_chain = last 0 ∷ holds 1 2 ∷ holds 2 3 ∷ last 3 ∷ []

one_sweep_takes_the_first_of_a_chain : swept_once loose_chain ≡ last 0 ∷ holds 2 3 ∷ last 3 ∷ []
one_sweep_takes_the_first_of_a_chain = refl

a_loose_chain_is_freed_to_its_end : freed loose_chain ≡ last 0 ∷ []
a_loose_chain_is_freed_to_its_end = refl

a_loose_chain_is_freed_whatever_its_order : freed (last 0 ∷ last 1 ∷ holds 2 1 ∷ holds 3 2 ∷ []) ≡ last 0 ∷ []
a_loose_chain_is_freed_whatever_its_order = refl

what_the_root_leads_to_stays : freed backward_chain ≡ backward_chain
what_the_root_leads_to_stays = refl

a_row_that_holds_itself_stays : freed (last 0 ∷ holds 1 1 ∷ last 2 ∷ []) ≡ last 0 ∷ holds 1 1 ∷ []
a_row_that_holds_itself_stays = refl

a_loose_ring_stays : freed (last 0 ∷ holds 1 2 ∷ holds 2 1 ∷ []) ≡ last 0 ∷ holds 1 2 ∷ holds 2 1 ∷ []
a_loose_ring_stays = refl

-- nothing holds the root; a row that is held twice stays while one of its holders does
a_row_stays_while_one_row_holds_it : freed (holds 0 2 ∷ holds 1 2 ∷ last 2 ∷ []) ≡ holds 0 2 ∷ last 2 ∷ []
a_row_stays_while_one_row_holds_it = refl

no_rows_are_freed_of_none : freed [] ≡ []
no_rows_are_freed_of_none = refl
