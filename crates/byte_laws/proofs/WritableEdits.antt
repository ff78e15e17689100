-- Operations that fit their holder have bytes.
use Rattle.std.proofs.Common.{◌≡◌, ℕ, Bool, true, false, not, ◌&&◌, List, [], ◌∷◌, map, Option, Some, None, refl, ap, ◌∙◌, arith}
use Rattle.std.specs.Prelude.{is_some, option_and_then}
use Rattle.std.specs.List.{AllByRecursion as Each, list_all}
use Rattle.std.specs.Option.{option_map, option_map_or}
use Rattle.std.proofs.lemmas.Bool.{and_from}
use Rattle.std.proofs.lemmas.Bool.Decides.{nat_tests}
use Rattle.schema_model.specs.Classes.{Schema, is_kept, home_field, item_of}
use Rattle.schema_model.specs.Fits.{fits}
use Rattle.schema_model.specs.declared.class.FieldDecl.{FieldDecl}
use Rattle.schema_model.specs.declared.class.Item.{Item}
use Rattle.schema_model.specs.declared.class.Item.TheVariants as item
use Rattle.schema_model.specs.declared.place.Home.{Home}
use Rattle.schema_model.specs.declared.value.Value.{Value}
use Rattle.schema_model.specs.declared.value.Value.TheVariants.{Whole, Str, Truth, Link}
use Rattle.state_model.specs.declared.row.Row.{Row}
use Rattle.state_model.specs.declared.row.Row.TheVariants.{Struct, Map, Array, Set}
use Rattle.state_model.specs.declared.row.RowEntry.{RowEntry}
use Rattle.state_model.specs.Values.{is_link}
use Rattle.state_model.specs.Rows.{row_at, emptied}
use Rattle.state_model.specs.declared.place.Expected.{Expected}
use Rattle.state_model.specs.declared.place.Expected.TheVariants.{Item as AnItem, Collection as ACollection}
use Rattle.state_model.specs.Places.{item_expects, holds_instances, instance_class, row_class}
use Rattle.state_model.specs.Sound.{are_rows_of, has_kind, fits_place, fits_expected, is_instance_of}
use Rattle.state_laws.proofs.Numbers.{at_live}
use Rattle.state_laws.proofs.Fitting.{fits_live}
use Rattle.state_laws.proofs.RowsOf.{rows_fit}
use Rattle.wire_model.specs.declared.op.OpKey.{OpKey}
use Rattle.wire_model.specs.declared.op.OpKey.TheVariants as key
use Rattle.wire_model.specs.Edits.{Carried, Edit, Add, Replace, DeleteAdd, Delete, Clear, AddByRef, DeleteByRef, encoded_link, encoded_value, encoded}
use Rattle.wire_model.specs.Grammar.{expects_at}
use Rattle.wire_model.specs.Patch.{kind_expected, carried}
use Rattle.wire_laws.proofs.KindLaws.{kind_of}
use Rattle.block_laws.specs.Writable.{is_count, is_place, is_named, is_carried, is_marked, is_unmarked, is_instance, is_writable_op}
use Rattle.block_laws.specs.Fitting.{key_fits, holds_refs}
use Rattle.state_model.specs.Spelled.{is_spelled_value}
use Rattle.byte_laws.proofs.SpelledRows.{kept_limits}
use Rattle.byte_laws.proofs.EditFits.{Puts, EditFits}

-- ---- values

-- a value that is no link and fits its place fits the place's kind
pub kind_fits : (schema : Schema) (rows : List RowEntry) (expected : Option Expected) (v : Value) → is_link v ≡ false → fits_place schema rows v expected ≡ true → fits (kind_expected expected) v ≡ true
kind_fits schema rows None v l h = cc
kind_fits schema rows (Some (AnItem (item.Scalar k))) v l h = h
kind_fits schema rows (Some (AnItem (item.Class c))) (Whole z) l h = cc
kind_fits schema rows (Some (AnItem (item.Class c))) (Str t) l h = cc
kind_fits schema rows (Some (AnItem (item.Class c))) (Truth b) l h = cc
kind_fits schema rows (Some (AnItem (item.Class c))) (Link n) l h = cc
kind_fits schema rows (Some (ACollection home)) (Whole z) l h = cc
kind_fits schema rows (Some (ACollection home)) (Str t) l h = cc
kind_fits schema rows (Some (ACollection home)) (Truth b) l h = cc
kind_fits schema rows (Some (ACollection home)) (Link n) l h = cc

-- a scalar as it is told
scalar_writable : (schema : Schema) (new : List RowEntry) (expected : Option Expected) (v : Value) (adds : Bool) → is_link v ≡ false → fits_place schema new v expected ≡ true
    → (is_carried (encoded_value adds (carried new expected v)) ≡ true) × (is_marked (encoded_value adds (carried new expected v)) ≡ true) × (is_unmarked (encoded_value adds (carried new expected v)) ≡ true)
scalar_writable schema new expected (Whole z) adds l h = (kind_fits schema new expected (Whole z) l h, refl, refl)
scalar_writable schema new expected (Str t) adds l h = (kind_fits schema new expected (Str t) l h, refl, refl)
scalar_writable schema new expected (Truth b) adds l h = (kind_fits schema new expected (Truth b) l h, refl, refl)
scalar_writable schema new expected (Link n) adds l h = cc

-- a link as it is told under an operation that adds
link_writable : (schema : Schema) (n : ℕ) (r : Row) → is_kept schema ≡ true → has_kind schema r ≡ true → is_count n ≡ true
    → (is_carried (encoded_link true n (row_class (emptied r))) ≡ true) × (is_marked (encoded_link true n (row_class (emptied r))) ≡ true)
link_writable schema n (Struct class fields) kept kind small =
    let few = (kept_limits schema kept).0 in
    let type : is_count class ≡ true = grind (arith, nat_tests, few, kind) in
    (and_from (is_count n) (is_count class) small type, refl)
link_writable schema n (Map home items) kept kind small = (small, refl)
link_writable schema n (Array home values) kept kind small = (small, refl)
link_writable schema n (Set home items) kept kind small = (small, refl)

-- a value as it is told under an operation that adds
added_writable : (schema : Schema) (new : List RowEntry) (expected : Option Expected) (v : Value) → is_kept schema ≡ true → are_rows_of schema new ≡ true
    → fits_place schema new v expected ≡ true → is_spelled_value v ≡ true
    → (is_carried (encoded_value true (carried new expected v)) ≡ true) × (is_marked (encoded_value true (carried new expected v)) ≡ true)
added_writable schema new expected (Whole z) kept rows h s = let w = scalar_writable schema new expected (Whole z) true refl h in (w.0, w.1)
added_writable schema new expected (Str t) kept rows h s = let w = scalar_writable schema new expected (Str t) true refl h in (w.0, w.1)
added_writable schema new expected (Truth b) kept rows h s = let w = scalar_writable schema new expected (Truth b) true refl h in (w.0, w.1)
added_writable schema new expected (Link n) kept rows h s =
    let r = at_live new n (fits_live schema new n (Link n) expected h (grind (arith, nat_tests))) in
    let encoded_is = ap (λ x. encoded_link true n (row_class x)) (kind_of new n r.0 r.1) in
    let w = link_writable schema n r.0 kept (rows_fit schema new rows n r.0 r.1).0 s in
    (ap is_carried encoded_is ∙ w.0, ap is_marked encoded_is ∙ w.1)

-- ---- instances in a filtered array

-- a row of a class is told as an instance
class_encoded : (schema : Schema) (class n : ℕ) (o : Option Row) → is_instance_of schema class o ≡ true → is_instance (encoded_link true n (row_class (option_map_or emptied o (Struct 0 [])))) ≡ true
class_encoded schema class n None h = cc
class_encoded schema class n (Some (Struct c fields)) h = refl
class_encoded schema class n (Some (Map home items)) h = cc
class_encoded schema class n (Some (Array home values)) h = cc
class_encoded schema class n (Some (Set home items)) h = cc

-- what fits where instances are held is told as an instance
item_encoded : (schema : Schema) (new : List RowEntry) (i : Item) (v : Value) → is_some (instance_class i) ≡ true → fits_expected schema new (AnItem i) v ≡ true
    → is_instance (encoded_value true (carried new (Some (AnItem i)) v)) ≡ true
item_encoded schema new (item.Scalar k) v holds h = cc
item_encoded schema new (item.Class c) (Link n) holds h = class_encoded schema c n (row_at new n) h
item_encoded schema new (item.Class c) (Whole z) holds h = cc
item_encoded schema new (item.Class c) (Str t) holds h = cc
item_encoded schema new (item.Class c) (Truth b) holds h = cc

-- so it is where a home's items are instances
instance_encoded : (schema : Schema) (new : List RowEntry) (home : Home) (v : Value) → holds_instances schema home ≡ true → fits_place schema new v (item_expects schema home) ≡ true
    → is_instance (encoded_value true (carried new (item_expects schema home) v)) ≡ true
instance_encoded schema new home v holds h = by_field (home_field schema home) holds h
  where
    by_field : (o : Option FieldDecl) → is_some (option_and_then (λ (f : FieldDecl). instance_class (item_of f.shape)) o) ≡ true
        → fits_place schema new v (option_map (λ (f : FieldDecl). AnItem (item_of f.shape)) o) ≡ true
        → is_instance (encoded_value true (carried new (option_map (λ (f : FieldDecl). AnItem (item_of f.shape)) o) v)) ≡ true
    by_field None holds h = cc
    by_field (Some f) holds h = item_encoded schema new (item_of f.shape) v holds h

-- the same for a holder that may have operations by reference
ref_encoded : (schema : Schema) (new : List RowEntry) (holder : Row) (v : Value) → holds_refs schema holder ≡ true → fits_place schema new v (expects_at schema holder (key.Item 0)) ≡ true
    → is_instance (encoded_value true (carried new (expects_at schema holder (key.Item 0)) v)) ≡ true
ref_encoded schema new (Struct class fields) v holds h = cc
ref_encoded schema new (Map home items) v holds h = cc
ref_encoded schema new (Array home values) v holds h = instance_encoded schema new home v holds h
ref_encoded schema new (Set home items) v holds h = cc

-- ---- operations

-- a key stands under operations that add alone
unnamed : (holder : Row) (k : OpKey) → key_fits holder false k ≡ true → not (is_named k) ≡ true
unnamed holder (key.Field i) h = refl
unnamed holder (key.Item n) h = refl
unnamed (Struct class fields) (key.Named n name) h = cc
unnamed (Map home items) (key.Named n name) h = cc
unnamed (Array home values) (key.Named n name) h = cc
unnamed (Set home items) (key.Named n name) h = cc

module _ (schema : Schema) (new : List RowEntry) (holder : Row) (kept : is_kept schema ≡ true) (rows : are_rows_of schema new ≡ true) where
  -- what an operation that adds puts
  puts_writable : (expected : Option Expected) (c : Carried) → Puts schema new expected c → (is_carried (encoded_value true c) && is_marked (encoded_value true c)) ≡ true
  puts_writable expected c p =
      let w = added_writable schema new expected p.value kept rows p.fit p.spelled in
      ap (λ x. is_carried (encoded_value true x) && is_marked (encoded_value true x)) p.is ∙ and_from _ _ w.0 w.1

  -- an operation that fits has bytes
  edit_writable : (e : Edit) → EditFits schema new holder e → is_writable_op (encoded e) ≡ true
  edit_writable (Add k c) f = and_from (is_place k) _ f.1 (puts_writable (expects_at schema holder k) c f.2)
  edit_writable (Replace k c) f =
      let w = scalar_writable schema new (expects_at schema holder k) f.2.value false f.3 f.2.fit in
      and_from _ _ (and_from (is_place k) (not (is_named k)) f.1 (unnamed holder k f.0)) (ap (λ x. is_carried (encoded_value false x) && is_unmarked (encoded_value false x)) f.2.is ∙ and_from _ _ w.0 w.2)
  edit_writable (DeleteAdd k c) f = and_from (is_place k) _ f.1 (puts_writable (expects_at schema holder k) c f.2)
  edit_writable (Delete k) f = and_from (is_place k) (not (is_named k)) f.1 (unnamed holder k f.0)
  edit_writable Clear f = refl
  edit_writable (AddByRef c) f =
      and_from (is_instance (encoded_value true c)) _ (ap (λ x. is_instance (encoded_value true x)) f.1.is ∙ ref_encoded schema new holder f.1.value f.0 f.1.fit) (puts_writable (expects_at schema holder (key.Item 0)) c f.1)
  edit_writable (DeleteByRef n) f = f.1

  -- so have all that fit
  pub edits_writable : (es : List Edit) → Each (EditFits schema new holder) es → list_all is_writable_op (map encoded es) ≡ true
  edits_writable [] f = refl
  edits_writable (e ∷ es) f = and_from (is_writable_op (encoded e)) (list_all is_writable_op (map encoded es)) (edit_writable e f.0) (edits_writable es f.1)
