-- Rows of a schema are well formed.
use Rattle.std.proofs.Common.{◌≡◌, ℕ, Bool, true, false, not, ◌||◌, List, Option, Some, None, refl}
use Rattle.std.specs.Prelude.{is_some, option_and_then}
use Rattle.std.specs.Option.{option_map}
use Rattle.std.proofs.lemmas.Bool.{and_parts}
use Rattle.lists.proofs.Passing.{list_all_wider}
use Rattle.schema_model.specs.Classes.{Schema, home_field, item_of}
use Rattle.schema_model.specs.declared.class.FieldDecl.{FieldDecl}
use Rattle.schema_model.specs.declared.class.Item.{Item}
use Rattle.schema_model.specs.declared.class.Item.TheVariants as item
use Rattle.schema_model.specs.declared.place.Home.{Home}
use Rattle.schema_model.specs.declared.value.Value.{Value}
use Rattle.schema_model.specs.declared.value.Value.TheVariants as value
use Rattle.state_model.specs.declared.row.Row.{Row}
use Rattle.state_model.specs.declared.row.Row.TheVariants.{Struct, Map, Array, Set}
use Rattle.state_model.specs.declared.row.RowEntry.{RowEntry}
use Rattle.state_model.specs.declared.row.FieldValue.{FieldValue}
use Rattle.state_model.specs.declared.row.MapItem.{MapItem}
use Rattle.state_model.specs.declared.row.SetItem.{SetItem}
use Rattle.state_model.specs.Values.{is_link}
use Rattle.state_model.specs.Rows.{row_at}
use Rattle.state_model.specs.declared.place.Expected.TheVariants.{Item as AnItem}
use Rattle.state_model.specs.Places.{is_filtered, holds_instances, item_expects, instance_class}
use Rattle.state_model.specs.Sound.{differ, places_fit, fits_place, fits_expected, are_rows_of}
use Rattle.state_laws.proofs.FittingRows.{rises_where}
use Rattle.state_laws.proofs.RowsOf.{rows_fit}
use Rattle.wire_laws.proofs.Forms.{IsFormed}

-- ---- a filtered array holds links

item_is_link : (schema : Schema) (rows : List RowEntry) (i : Item) (v : Value) → is_some (instance_class i) ≡ true → fits_expected schema rows (AnItem i) v ≡ true → is_link v ≡ true
item_is_link schema rows (item.Scalar k) v h fit = cc
item_is_link schema rows (item.Class c) (value.Link n) h fit = refl
item_is_link schema rows (item.Class c) (value.Whole z) h fit = fit
item_is_link schema rows (item.Class c) (value.Str t) h fit = fit
item_is_link schema rows (item.Class c) (value.Truth b) h fit = fit

instances_are_links : (schema : Schema) (rows : List RowEntry) (o : Option FieldDecl) (v : Value)
    → is_some (option_and_then (λ (f : FieldDecl). instance_class (item_of f.shape)) o) ≡ true
    → fits_place schema rows v (option_map (λ (f : FieldDecl). AnItem (item_of f.shape)) o) ≡ true → is_link v ≡ true
instances_are_links schema rows None v h fit = cc
instances_are_links schema rows (Some f) v h fit = item_is_link schema rows (item_of f.shape) v h fit

item_links : (schema : Schema) (rows : List RowEntry) (home : Home) (v : Value) → holds_instances schema home ≡ true → fits_place schema rows v (item_expects schema home) ≡ true → is_link v ≡ true
item_links schema rows home v h fit = instances_are_links schema rows (home_field schema home) v h fit

-- ---- rows

differs_of : (filtered d : Bool) → filtered ≡ true → (not filtered || d) ≡ true → d ≡ true
differs_of true d f h = h
differs_of false d f h = cc

formed_place : (schema : Schema) (rows : List RowEntry) (r : Row) → places_fit schema rows r ≡ true → IsFormed schema r
formed_place schema rows (Struct class fields) h = rises_where (λ (f : FieldValue). f.field) fields (and_parts _ _ h).0
formed_place schema rows (Map home items) h =
    let parts = and_parts _ _ (and_parts _ _ h).0 in (rises_where (λ (i : MapItem). i.number) items parts.0, parts.1)
formed_place schema rows (Array home values) h = λ filtered.
    let parts = and_parts _ _ h in
    let instances = (and_parts _ _ filtered).1 in (
      differs_of (is_filtered schema home) (differ values) filtered parts.0,
      list_all_wider (λ v. fits_place schema rows v (item_expects schema home)) is_link values (λ v here fit. item_links schema rows home v instances fit) parts.1,
    )
formed_place schema rows (Set home items) h = rises_where (λ (i : SetItem). i.number) items (and_parts _ _ h).0

-- each row of rows of a schema is well formed
pub rows_formed : (schema : Schema) (rows : List RowEntry) (n : ℕ) (r : Row) → are_rows_of schema rows ≡ true → row_at rows n ≡ Some r → IsFormed schema r
rows_formed schema rows n r h is =
    formed_place schema rows r (rows_fit schema rows h n r is).1
