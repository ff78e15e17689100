-- The operations from one row to another of its kind lead to that row.
use Rattle.std.proofs.Common.{◌≡◌, Bool, true, false, List, [], ◌∷◌, map, Some, refl, ap, ◌∙◌, arith}
use Rattle.std.specs.List.{fold}
use Rattle.std.proofs.lemmas.Bool.Decides.{nat_tests}
use Rattle.schema_model.specs.Classes.{Schema}
use Rattle.schema_model.specs.declared.value.Value.{Value}
use Rattle.schema_model.specs.declared.place.Home.{Home}
use Rattle.state_model.specs.declared.row.Row.{Row}
use Rattle.state_model.specs.declared.row.Row.TheVariants.{Struct, Map, Array, Set}
use Rattle.state_model.specs.declared.row.RowEntry.{RowEntry}
use Rattle.state_model.specs.Rows.{emptied}
use Rattle.state_model.specs.Places.{same_home, same_kind, is_filtered}
use Rattle.wire_model.specs.Effect.{Slots, effect, closed, edited_row}
use Rattle.wire_model.specs.Patch.{array_edits, row_edits, whole_edits}
use Rattle.wire_laws.proofs.KindLaws.{home_is}
use Rattle.wire_laws.proofs.Forms.{IsFormed, SameKeys}
use Rattle.wire_laws.proofs.PlaceRuns.{field_run, set_run}
use Rattle.wire_laws.proofs.MapRuns.{map_run}
use Rattle.wire_laws.proofs.SlotRuns.{slot_run}
use Rattle.wire_laws.proofs.RefRuns.{ref_run}
use Rattle.wire_laws.proofs.NamedNumbers.{emptied_kind}

-- an array, filtered or not
array_run : (schema : Schema) (rows : List RowEntry) (home declared : Home) (old new : List Value) → IsFormed schema (Array declared old) → IsFormed schema (Array declared new) → (filtered : Bool) → is_filtered schema declared ≡ filtered
    → closed (fold (λ body e. effect e body) (Slots home (map Some old)) (array_edits schema rows declared old new)) ≡ Array home new
array_run schema rows home declared old new a b true t = let o = a t in let n = b t in rw t (ref_run schema rows home declared old new o.0 o.1 n.0 n.1)
array_run schema rows home declared old new a b false f = rw f (slot_run schema rows home declared old new)

-- the operations from a row to another of its kind lead to that row
pub row_law : (schema : Schema) (rows : List RowEntry) (a b : Row) → same_kind a b ≡ true → IsFormed schema a → IsFormed schema b → SameKeys a b → edited_row (row_edits schema rows a b) a ≡ b
row_law schema rows (Struct c old) (Struct d new) k a b s = let e : c ≡ d = grind (arith, nat_tests) in ap closed (field_run schema rows c d old new a b) ∙ ap (λ n. Struct n new) e
row_law schema rows (Map c old) (Map d new) k a b s = ap closed (map_run schema rows c d old new a.0 b.0 b.1 s) ∙ ap (λ h. Map h new) (home_is c d k)
row_law schema rows (Array c old) (Array d new) k a b s =
    let e = home_is c d k in
    let old_formed : IsFormed schema (Array d old) = rw e at a in
    array_run schema rows c d old new old_formed b (is_filtered schema d) refl ∙ ap (λ h. Array h new) e
row_law schema rows (Set c old) (Set d new) k a b s = ap closed (set_run schema rows c d old new a b) ∙ ap (λ h. Set h new) (home_is c d k)
row_law schema rows a b k c d s = cc

-- ---- a whole row

-- a home passes the test with itself
same_home_self : (a : Home) → same_home a a ≡ true
same_home_self a = grind (arith, nat_tests)

-- a row without its places is formed
pub emptied_formed : (schema : Schema) (r : Row) → IsFormed schema (emptied r)
emptied_formed schema (Struct c fields) = tt
emptied_formed schema (Map home items) = (tt, refl)
emptied_formed schema (Array home values) = λ t. (refl, refl)
emptied_formed schema (Set home items) = tt

-- a map without its items has no keys
pub emptied_keys : (r : Row) → SameKeys (emptied r) r
emptied_keys (Struct c fields) = tt
emptied_keys (Map home items) = λ n x y h k. cc
emptied_keys (Array home values) = tt
emptied_keys (Set home items) = tt

-- the operations from the row without its places lead to the row
from_emptied : (schema : Schema) (rows : List RowEntry) (r : Row) → IsFormed schema r → edited_row (row_edits schema rows (emptied r) r) (emptied r) ≡ r
from_emptied schema rows r f = row_law schema rows (emptied r) r (emptied_kind r) (emptied_formed schema r) f (emptied_keys r)

-- the operations of a whole row lead from the empty row of its kind to it
pub whole_law : (schema : Schema) (rows : List RowEntry) (r : Row) → IsFormed schema r → edited_row (whole_edits schema rows r) (emptied r) ≡ r
whole_law schema rows (Struct c fields) f = from_emptied schema rows (Struct c fields) f
whole_law schema rows (Map home items) f = from_emptied schema rows (Map home items) f
whole_law schema rows (Array home []) f = from_emptied schema rows (Array home []) f
whole_law schema rows (Array home (v ∷ vs)) f = from_emptied schema rows (Array home (v ∷ vs)) f
whole_law schema rows (Set home items) f = from_emptied schema rows (Set home items) f
