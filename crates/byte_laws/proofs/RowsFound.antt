-- The operations that lead from one row to another find their items in a row that has the places of the first, and those of a whole row in any row of its kind.
use Rattle.std.proofs.Common.{◌≡◌, ◌≤◌, ℕ, Bool, true, false, cond, List, [], ◌∷◌, length, map, filter, Option, Some, refl, sym, ap, arith}
use Rattle.std.proofs.lemmas.List.{length-map}
use Rattle.lists.proofs.Passing.{length-filter_most}
use Rattle.schema_model.specs.Classes.{Schema}
use Rattle.schema_model.specs.declared.value.Value.{Value}
use Rattle.schema_model.specs.declared.place.Home.{Home}
use Rattle.state_model.specs.declared.row.Row.{Row}
use Rattle.state_model.specs.declared.row.Row.TheVariants.{Struct, Map, Array, Set}
use Rattle.state_model.specs.declared.row.RowEntry.{RowEntry}
use Rattle.state_model.specs.declared.row.FieldValue.{FieldValue}
use Rattle.state_model.specs.Rows.{emptied}
use Rattle.state_model.specs.Places.{field_expects, is_filtered, same_kind}
use Rattle.state_laws.proofs.SharedWithin.{Within}
use Rattle.wire_model.specs.declared.op.OpKey.TheVariants.{Field}
use Rattle.wire_model.specs.Effect.{Slots, opened}
use Rattle.wire_model.specs.Patch.{field_value, either_number, field_edits, slot_edits, ref_edits, row_edits, whole_edits, push_edit}
use Rattle.wire_laws.proofs.EditSteps.{all_each, places_pass, ref_edits_pass}
use Rattle.wire_laws.proofs.Forms.{IsFormed, SameKeys}
use Rattle.wire_laws.proofs.LinkLists.{filter_all}
use Rattle.wire_laws.proofs.NamedNumbers.{emptied_kind}
use Rattle.wire_laws.proofs.RowLaw.{emptied_formed, emptied_keys}
use Rattle.byte_laws.proofs.Found.{all_found, is_free, all_free_found}
use Rattle.byte_laws.proofs.SlotsFound.{slots_found}
use Rattle.byte_laws.proofs.ItemsFound.{map_found, set_found}

-- ---- rows that have the places of others

-- a row has its own places
pub within_self : (r : Row) → Within r r
within_self (Struct class fields) = λ k f h. h
within_self (Map home items) = λ k i h. h
within_self (Array home values) = (λ v. true, sym (filter_all values))
within_self (Set home items) = λ k i h. h

-- a test that nothing passes leaves nothing
none_kept : (values : List Value) → [] ≡ filter (λ v. false) values
none_kept [] = refl
none_kept (v ∷ vs) = none_kept vs

-- a row has the places of an empty row of its kind
within_emptied : (r c : Row) → emptied c ≡ emptied r → Within (emptied r) c
within_emptied (Struct class fields) (Struct d others) e = λ k f h. absurd cc
within_emptied (Map home items) (Map g others) e = λ k i h. absurd cc
within_emptied (Array home values) (Array g others) e = (λ v. false, none_kept others)
within_emptied (Set home items) (Set g others) e = λ k i h. absurd cc
within_emptied r c e = absurd cc

-- an array has at least as many items as one that is within it
within_length : (home g : Home) (values others : List Value) → Within (Array home values) (Array g others) → length values ≤ length others
within_length home g values others w = let fewer : length (filter w.0 others) ≤ length others = length-filter_most w.0 others in let same : length values ≡ length (filter w.0 others) = ap length w.1 in omega arith

-- ---- the operations from row to row

-- those on a filtered array go by reference, and ask for nothing
refs_found : (schema : Schema) (rows : List RowEntry) (declared : Home) (old new : List Value) (c : Row) → all_found (ref_edits schema rows declared old new) (opened c) ≡ true
refs_found schema rows declared old new c =
    all_free_found (ref_edits schema rows declared old new) (opened c) (ref_edits_pass is_free schema rows declared old new refl (λ n. refl) (all_each (λ v. is_free (push_edit schema rows declared v)) (λ v. refl) new))

-- nor do those on fields
fields_found : (schema : Schema) (rows : List RowEntry) (class : ℕ) (old new : List FieldValue) (c : Row) → all_found (field_edits schema rows class old new) (opened c) ≡ true
fields_found schema rows class old new c =
    all_free_found (field_edits schema rows class old new) (opened c)
    (places_pass is_free Field Field rows (field_expects schema class) (field_value old) (field_value new) (either_number (map (λ (f : FieldValue). f.field) old) (map (λ (f : FieldValue). f.field) new))
    (λ n. refl) (λ n v e. (refl, refl, refl)))

-- those on an array, filtered or not
array_found : (schema : Schema) (rows : List RowEntry) (declared g : Home) (old new others : List Value) → length old ≤ length others → (filtered : Bool)
    → all_found (cond filtered (ref_edits schema rows declared old new) (slot_edits schema rows declared old new)) (Slots g (map Some others)) ≡ true
array_found schema rows declared g old new others long true = refs_found schema rows declared old new (Array g others)
array_found schema rows declared g old new others long false = slots_found schema rows g declared old new (map Some others) (let same = length-map {A = Value} {B = Option Value} others Some in omega arith)

-- the operations from a row to another of its kind find their items in a row that has the places of the first
pub row_found : (schema : Schema) (rows : List RowEntry) (a b c : Row) → same_kind a b ≡ true → IsFormed schema a → IsFormed schema b → SameKeys a b → Within a c
    → all_found (row_edits schema rows a b) (opened c) ≡ true
row_found schema rows (Struct x old) (Struct y new) c k f g s w = fields_found schema rows y old new c
row_found schema rows (Map x old) (Map y new) (Map z others) k f g s w = map_found schema rows z y old new others f.0 g.1 s w
row_found schema rows (Array x old) (Array y new) (Array z others) k f g s w = array_found schema rows y z old new others (within_length x z old others w) (is_filtered schema y)
row_found schema rows (Set x old) (Set y new) (Set z others) k f g s w = set_found schema rows z y old new others f w
row_found schema rows (Map x old) (Map y new) c k f g s w = absurd w
row_found schema rows (Array x old) (Array y new) c k f g s w = absurd w
row_found schema rows (Set x old) (Set y new) c k f g s w = absurd w
row_found schema rows a b c k f g s w = absurd cc

-- ---- the operations of a whole row

-- those from the empty row of its kind
from_emptied_found : (schema : Schema) (rows : List RowEntry) (b c : Row) → IsFormed schema b → emptied c ≡ emptied b → all_found (row_edits schema rows (emptied b) b) (opened c) ≡ true
from_emptied_found schema rows b c f e = row_found schema rows (emptied b) b c (emptied_kind b) (emptied_formed schema b) f (emptied_keys b) (within_emptied b c e)

-- the operations of a whole row find their items in any row of its kind
pub whole_found : (schema : Schema) (rows : List RowEntry) (b c : Row) → IsFormed schema b → emptied c ≡ emptied b → all_found (whole_edits schema rows b) (opened c) ≡ true
whole_found schema rows (Struct class fields) c f e = from_emptied_found schema rows (Struct class fields) c f e
whole_found schema rows (Map home items) c f e = from_emptied_found schema rows (Map home items) c f e
whole_found schema rows (Array home []) c f e = from_emptied_found schema rows (Array home []) c f e
whole_found schema rows (Array home (v ∷ vs)) (Array g others) f e = from_emptied_found schema rows (Array home (v ∷ vs)) (Array g []) f e
whole_found schema rows (Array home (v ∷ vs)) c f e = absurd cc
whole_found schema rows (Set home items) c f e = from_emptied_found schema rows (Set home items) c f e
