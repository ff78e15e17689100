-- The patch from old rows to new rows: which operations, and in which order. Ours.
use Rattle.std.specs.Prelude.{ℕ, zero, suc, Bool, true, false, not, ◌&&◌, List, [], ◌∷◌, ◌++◌, length, map, filter, Option, Some, None, if◌then◌else◌, slice_get, max, ◌||◌, nat_le, ◌^◌}
use Rattle.std.specs.List.{list_any, flat_map, range_with_len, list_all}
use Rattle.std.specs.Option.{option_map, option_map_or}
use Rattle.lists.specs.Rising as rising
use Rattle.schema_model.specs.Classes.{Schema}
use Rattle.schema_model.specs.declared.class.Item.TheVariants as item
use Rattle.schema_model.specs.declared.scalar.ScalarKind.{ScalarKind}
use Rattle.schema_model.specs.declared.scalar.ScalarKind.TheVariants as kind
use Rattle.schema_model.specs.declared.value.Value.{Value}
use Rattle.schema_model.specs.declared.value.Value.TheVariants as value
use Rattle.schema_model.specs.declared.place.Home.{Home}
use Rattle.state_model.specs.declared.row.Row.{Row}
use Rattle.state_model.specs.declared.row.Row.TheVariants as row
use Rattle.state_model.specs.declared.row.RowEntry.{RowEntry}
use Rattle.state_model.specs.declared.row.FieldValue.{FieldValue}
use Rattle.state_model.specs.declared.row.MapItem.{MapItem}
use Rattle.state_model.specs.declared.row.SetItem.{SetItem}
use Rattle.state_model.specs.Values.{same_value, is_link}
use Rattle.state_model.specs.Rows.{row_at, emptied, numbers_of}
use Rattle.state_model.specs.declared.place.Expected.{Expected}
use Rattle.state_model.specs.declared.place.Expected.TheVariants.{Item as AnItem}
use Rattle.state_model.specs.Places.{field_expects, item_expects, is_filtered}
use Rattle.state_model.specs.Reached.{is_among, with_numbers}
use Rattle.wire_model.specs.declared.op.OpKey.{OpKey}
use Rattle.wire_model.specs.declared.op.OpKey.TheVariants.{Field, Item, Named}
use Rattle.wire_model.specs.Edits.{Carried, Plain, Linked, Edit, Add, Replace, DeleteAdd, Delete, Clear, AddByRef, DeleteByRef, EditBlock}
use Rattle.wire_model.specs.Effect.{carried_by}
use Rattle.wire_model.specs.Grammar.{scalar_of}

-- ---- carried values

-- the scalar kind that a place is declared to hold
abbrev pub kind_expected : Option Expected → ScalarKind
kind_expected (Some (AnItem (item.Scalar k))) = k
kind_expected expected = kind.Number

-- the row of a number without its places
abbrev pub kind_in : List RowEntry → ℕ → Row
kind_in rows n = option_map_or emptied (row_at rows n) (row.Struct 0 [])

-- a value of the new rows as an operation carries it
abbrev pub carried : List RowEntry → Option Expected → Value → Carried
carried rows expected (value.Link n) = Linked n (kind_in rows n)
carried rows expected v = Plain (kind_expected expected) (scalar_of v)

-- ---- one place

-- the operation on a place that has another value: REPLACE for a scalar, DELETE_AND_ADD for a link; the key of
-- a map item stands under ADD and DELETE_AND_ADD
abbrev pub changed_place : OpKey → OpKey → Value → Carried → Edit
changed_place key new_key v c = if is_link v then DeleteAdd new_key c else Replace key c

-- the operation on a place: nothing where it is as it was, ADD where it was absent, DELETE where it is gone
abbrev pub place_edit : OpKey → OpKey → List RowEntry → Option Expected → Option Value → Option Value → List Edit
place_edit key new_key rows expected None None = []
place_edit key new_key rows expected None (Some v) = Add new_key (carried rows expected v) ∷ []
place_edit key new_key rows expected (Some u) None = Delete key ∷ []
place_edit key new_key rows expected (Some u) (Some v) =
    if same_value u v then [] else changed_place key new_key v (carried rows expected v) ∷ []

-- ---- the places of one row, rising by field, item number or position

-- the value of a field
abbrev pub field_value : List FieldValue → ℕ → Option Value
field_value fields i = option_map (λ (f : FieldValue). f.value) (rising.find (λ (f : FieldValue). f.field) i fields)

-- the item of a map under a number
abbrev pub map_item : List MapItem → ℕ → Option MapItem
map_item items n = rising.find (λ (i : MapItem). i.number) n items

-- the value of an item
abbrev pub item_value : Option MapItem → Option Value
item_value o = option_map (λ (i : MapItem). i.value) o

-- the key of an item
abbrev pub item_key : Option MapItem → List ℕ
item_key o = option_map_or (λ (i : MapItem). i.key) o []

-- the value of a set under a number
abbrev pub set_value : List SetItem → ℕ → Option Value
set_value items n = option_map (λ (i : SetItem). i.value) (rising.find (λ (i : SetItem). i.number) n items)

-- the numbers of old and new places, rising
abbrev pub either_number : List ℕ → List ℕ → List ℕ
either_number old new = with_numbers old new

-- the operations on an instance
abbrev pub field_edits : Schema → List RowEntry → ℕ → List FieldValue → List FieldValue → List Edit
field_edits schema rows class old new =
    flat_map (λ i. place_edit (Field i) (Field i) rows (field_expects schema class i) (field_value old i) (field_value new i))
    (either_number (map (λ (f : FieldValue). f.field) old) (map (λ (f : FieldValue). f.field) new))

-- the operations on a map
abbrev pub map_edits : Schema → List RowEntry → Home → List MapItem → List MapItem → List Edit
map_edits schema rows home old new =
    flat_map (λ n. place_edit (Item n) (Named n (item_key (map_item new n))) rows (item_expects schema home) (item_value (map_item old n)) (item_value (map_item new n)))
    (either_number (map (λ (i : MapItem). i.number) old) (map (λ (i : MapItem). i.number) new))

-- the operations on a set
abbrev pub set_edits : Schema → List RowEntry → Home → List SetItem → List SetItem → List Edit
set_edits schema rows home old new =
    flat_map (λ n. place_edit (Item n) (Item n) rows (item_expects schema home) (set_value old n) (set_value new n))
    (either_number (map (λ (i : SetItem). i.number) old) (map (λ (i : SetItem). i.number) new))

-- the operations on an array that goes by position
abbrev pub slot_edits : Schema → List RowEntry → Home → List Value → List Value → List Edit
slot_edits schema rows home old new =
    flat_map (λ at. place_edit (Item at) (Item at) rows (item_expects schema home) (slice_get old at) (slice_get new at))
    (range_with_len 0 (max (length old) (length new)))

-- ---- a filtered array

-- a value stands in a list
abbrev pub stands_in : List Value → Value → Bool
stands_in vs v = list_any (same_value v) vs

-- the items of one list that stand in the other, and those that don't
abbrev pub kept_of : List Value → List Value → List Value
kept_of others vs = filter (stands_in others) vs

abbrev pub gone_of : List Value → List Value → List Value
gone_of others vs = filter (λ v. not (stands_in others v)) vs

-- two lists of values are equal
abbrev pub same_values : List Value → List Value → Bool
same_values [] [] = true
same_values (u ∷ us) (v ∷ vs) = same_value u v && same_values us vs
same_values us vs = false

-- DELETE_BY_REFID of a link
abbrev pub drop_edit : Value → List Edit
drop_edit (value.Link n) = DeleteByRef n ∷ []
drop_edit v = []

-- ADD_BY_REFID of an instance
abbrev pub push_edit : Schema → List RowEntry → Home → Value → Edit
push_edit schema rows home v = AddByRef (carried rows (item_expects schema home) v)

-- the operations on a filtered array: where the new items are the old ones that are still there, in their order, and then
-- items that weren't there, those that went are deleted and the new ones are added; else all are added anew
abbrev pub ref_edits : Schema → List RowEntry → Home → List Value → List Value → List Edit
ref_edits schema rows home old new =
    if same_values new (kept_of new old ++ gone_of old new)
    then flat_map drop_edit (gone_of new old) ++ map (push_edit schema rows home) (gone_of old new)
    else Clear ∷ map (push_edit schema rows home) new

-- the operations on an array
abbrev pub array_edits : Schema → List RowEntry → Home → List Value → List Value → List Edit
array_edits schema rows home old new =
    if is_filtered schema home then ref_edits schema rows home old new else slot_edits schema rows home old new

-- ---- one row

-- the operations that lead from an old row to a new row of the same kind; links lead into the new rows
abbrev pub row_edits : Schema → List RowEntry → Row → Row → List Edit
row_edits schema rows (row.Struct a old) (row.Struct b new) = field_edits schema rows b old new
row_edits schema rows (row.Map a old) (row.Map b new) = map_edits schema rows b old new
row_edits schema rows (row.Array a old) (row.Array b new) = array_edits schema rows b old new
row_edits schema rows (row.Set a old) (row.Set b new) = set_edits schema rows b old new
row_edits schema rows old new = []

-- a whole array that isn't empty begins with CLEAR
abbrev pub whole_start : Row → List Edit
whole_start (row.Array home []) = []
whole_start (row.Array home (v ∷ vs)) = Clear ∷ []
whole_start r = []

-- the operations of a whole row
abbrev pub whole_edits : Schema → List RowEntry → Row → List Edit
whole_edits schema rows r = whole_start r ++ row_edits schema rows (emptied r) r

-- ---- the blocks

-- a block, where it has an operation
abbrev pub block_of : ℕ → List Edit → List EditBlock
block_of n [] = []
block_of n (e ∷ es) = record { holder = n; edits = e ∷ es } ∷ []

-- the block of a number that is in both lists
abbrev pub common_block : Schema → List RowEntry → RowEntry → Option Row → List EditBlock
common_block schema new e None = []
common_block schema new e (Some old_row) = block_of e.who (row_edits schema new old_row e.row)

-- the blocks of the numbers in both lists, rising
abbrev pub common_blocks : Schema → List RowEntry → List RowEntry → List EditBlock
common_blocks schema old new = flat_map (λ (e : RowEntry). common_block schema new e (row_at old e.who)) new

-- the number that a carried value links to
abbrev pub linked_number : Carried → List ℕ
linked_number (Plain k s) = []
linked_number (Linked n empty) = n ∷ []

-- the numbers that operations name, in order
abbrev pub named_in : List Edit → List ℕ
named_in edits = flat_map (λ e. option_map_or linked_number (carried_by e) []) edits

-- the numbers that blocks name, in order
abbrev pub named_by_blocks : List EditBlock → List ℕ
named_by_blocks blocks = flat_map (λ (b : EditBlock). named_in b.edits) blocks

-- the first of these numbers that isn't done, and those behind it
abbrev pub next_named : List ℕ → List ℕ → Option (ℕ × List ℕ)
next_named done [] = None
next_named done (n ∷ ns) = if is_among n done then next_named done ns else Some (n, ns)

-- the operations of a whole new row, where it is there
abbrev pub new_edits : Schema → List RowEntry → ℕ → List Edit
new_edits schema new n = option_map_or (whole_edits schema new) (row_at new n) []

-- the blocks of new rows, each whole, in the order in which the operations so far first name them; at most so many rows are new
abbrev pub new_blocks : ℕ → Schema → List RowEntry → List ℕ → List ℕ → List EditBlock
new_blocks zero schema new done named = []
new_blocks (suc rows) schema new done named =
    option_map_or
    (λ (next : ℕ × List ℕ). block_of next.0 (new_edits schema new next.0)
    ++ new_blocks rows schema new (next.0 ∷ done) (next.1 ++ named_in (new_edits schema new next.0)))
    (next_named done named) []

-- the patch from old rows to new rows
abbrev pub patch_edits : Schema → List RowEntry → List RowEntry → List EditBlock
patch_edits schema old new =
    common_blocks schema old new
    ++ new_blocks (length new) schema new (numbers_of old) (named_by_blocks (common_blocks schema old new))

-- ---- what can be written

-- an array that goes by position has no more values than there are positions with bytes
abbrev pub is_short : Schema → Row → Bool
is_short schema (row.Struct class fields) = true
is_short schema (row.Map home items) = true
is_short schema (row.Array home values) = is_filtered schema home || nat_le (length values) (2 ^ 31)
is_short schema (row.Set home items) = true

-- each array of rows is so
abbrev pub are_short : Schema → List RowEntry → Bool
are_short schema rows = list_all (λ (e : RowEntry). is_short schema e.row) rows
