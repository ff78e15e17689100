-- Values that fit what is declared: what they need of the rows that they lead to, and that filtered places still fit.
use Rattle.std.proofs.Common.{◌≡◌, ℕ, true, false, List, [], Option, Some, None, refl, sym, ap, ◌∙◌, arith}
use Rattle.std.specs.Option.{option_map_or}
use Rattle.std.proofs.lemmas.Bool.Decides.{nat_tests}
use Rattle.schema_model.specs.declared.value.Value.{Value}
use Rattle.schema_model.specs.declared.value.Value.TheVariants as value
use Rattle.schema_model.specs.declared.scalar.ScalarKind.{ScalarKind}
use Rattle.schema_model.specs.declared.scalar.ScalarKind.TheVariants as kind
use Rattle.schema_model.specs.declared.class.Item.TheVariants as item
use Rattle.schema_model.specs.declared.place.Home.{Home}
use Rattle.schema_model.specs.Classes.{Schema, is_kind_of}
use Rattle.schema_model.specs.Fits.{fits}
use Rattle.state_model.specs.declared.row.Row.{Row}
use Rattle.state_model.specs.declared.row.Row.TheVariants.{Struct, Map, Array, Set}
use Rattle.state_model.specs.declared.row.RowEntry.{RowEntry}
use Rattle.state_model.specs.Values.{held_by}
use Rattle.state_model.specs.Rows.{row_at, is_live, held_in, emptied}
use Rattle.state_model.specs.declared.place.Expected.{Expected}
use Rattle.state_model.specs.declared.place.Expected.TheVariants.{Item as AnItem, Collection as ACollection}
use Rattle.state_model.specs.Places.{empty_collection, same_kind, same_home, row_home, row_class}
use Rattle.state_model.specs.Reached.{is_among}
use Rattle.state_model.specs.Sound.{is_instance_of, is_collection_of, fits_place, has_kind, places_fit}
use Rattle.state_laws.proofs.Numbers.{live_at}
use Rattle.state_laws.proofs.ShownRows.{holds}

-- kinds

-- a row without its places is of the row's class
emptied_class : (a : Row) → row_class (emptied a) ≡ row_class a
emptied_class (Struct class fields) = refl
emptied_class (Map home items) = refl
emptied_class (Array home values) = refl
emptied_class (Set home items) = refl

-- a row without its places is of the row's home
emptied_home : (a : Row) → row_home (emptied a) ≡ row_home a
emptied_home (Struct class fields) = refl
emptied_home (Map home items) = refl
emptied_home (Array home values) = refl
emptied_home (Set home items) = refl

-- an empty row holds nothing
pub emptied_holds : (r : Row) → held_in (emptied r) ≡ []
emptied_holds (Struct class fields) = refl
emptied_holds (Map home items) = refl
emptied_holds (Array home values) = refl
emptied_holds (Set home items) = refl

-- rows of one kind are of one class
pub same_class : (a b : Row) → emptied a ≡ emptied b → row_class a ≡ row_class b
same_class a b h = sym (emptied_class a) ∙ ap row_class h ∙ emptied_class b

-- rows of one kind are of one home
pub one_home : (a b : Row) → emptied a ≡ emptied b → row_home a ≡ row_home b
one_home a b h = sym (emptied_home a) ∙ ap row_home h ∙ emptied_home b

-- a row without its places is of the kinds that the row is of
emptied_like : (a : Row) (o : Option Row) → option_map_or (same_kind (emptied a)) o false ≡ option_map_or (same_kind a) o false
emptied_like a None = refl
emptied_like (Struct c fs) (Some (Struct d gs)) = refl
emptied_like (Struct c fs) (Some (Map d gs)) = refl
emptied_like (Struct c fs) (Some (Array d gs)) = refl
emptied_like (Struct c fs) (Some (Set d gs)) = refl
emptied_like (Map c fs) (Some (Struct d gs)) = refl
emptied_like (Map c fs) (Some (Map d gs)) = refl
emptied_like (Map c fs) (Some (Array d gs)) = refl
emptied_like (Map c fs) (Some (Set d gs)) = refl
emptied_like (Array c fs) (Some (Struct d gs)) = refl
emptied_like (Array c fs) (Some (Map d gs)) = refl
emptied_like (Array c fs) (Some (Array d gs)) = refl
emptied_like (Array c fs) (Some (Set d gs)) = refl
emptied_like (Set c fs) (Some (Struct d gs)) = refl
emptied_like (Set c fs) (Some (Map d gs)) = refl
emptied_like (Set c fs) (Some (Array d gs)) = refl
emptied_like (Set c fs) (Some (Set d gs)) = refl

-- a row without its places is of a declared kind where the row is
emptied_declared : (schema : Schema) (a : Row) → has_kind schema (emptied a) ≡ has_kind schema a
emptied_declared schema (Struct class fields) = refl
emptied_declared schema (Map home items) = emptied_like (Map home items) (empty_collection schema home)
emptied_declared schema (Array home values) = emptied_like (Array home values) (empty_collection schema home)
emptied_declared schema (Set home items) = emptied_like (Set home items) (empty_collection schema home)

-- rows of one kind are both of a declared kind, or neither is
pub same_declared : (schema : Schema) (a b : Row) → emptied a ≡ emptied b → has_kind schema a ≡ has_kind schema b
same_declared schema a b h = sym (emptied_declared schema a) ∙ ap (has_kind schema) h ∙ emptied_declared schema b

-- one value

-- in both rows stands a row of this number, and the two are of one kind
abbrev pub OneKind : List RowEntry → List RowEntry → ℕ → Type 0
OneKind rows some m = (a b : Row) × (row_at rows m ≡ Some a) × (row_at some m ≡ Some b) × (emptied a ≡ emptied b)

-- a link to an instance of a class over some rows is one over others, where the two rows are of one kind
instance_elsewhere : (schema : Schema) (rows some : List RowEntry) (c n : ℕ) → OneKind rows some n → is_instance_of schema c (row_at rows n) ≡ true → is_instance_of schema c (row_at some n) ≡ true
instance_elsewhere schema rows some c n k h =
    ap (is_instance_of schema c) k.3 ∙ ap (λ o. option_map_or (λ d. is_kind_of schema d c) o false) (sym (same_class k.0 k.1 k.4)) ∙ ap (is_instance_of schema c) (sym k.2) ∙ h

-- a link to a collection of a home over some rows is one over others, where the two rows are of one kind
collection_elsewhere : (rows some : List RowEntry) (home : Home) (n : ℕ) → OneKind rows some n → is_collection_of home (row_at rows n) ≡ true → is_collection_of home (row_at some n) ≡ true
collection_elsewhere rows some home n k h =
    ap (is_collection_of home) k.3 ∙ ap (λ o. option_map_or (same_home home) o false) (sym (one_home k.0 k.1 k.4)) ∙ ap (is_collection_of home) (sym k.2) ∙ h

-- a value that fits over some rows fits over others where the row that it leads to is of the same kind
pub fits_elsewhere : (schema : Schema) (rows some : List RowEntry) (v : Value) (w : Option Expected)
    → ((m : ℕ) → is_among m (held_by v) ≡ true → (a b : Row) × (row_at rows m ≡ Some a) × (row_at some m ≡ Some b) × (emptied a ≡ emptied b)) → fits_place schema rows v w ≡ true → fits_place schema some v w ≡ true
fits_elsewhere schema rows some v None k h = h
fits_elsewhere schema rows some v (Some (AnItem (item.Scalar s))) k h = h
fits_elsewhere schema rows some (value.Link n) (Some (AnItem (item.Class c))) k h = instance_elsewhere schema rows some c n (k n (grind (arith, nat_tests))) h
fits_elsewhere schema rows some (value.Whole z) (Some (AnItem (item.Class c))) k h = h
fits_elsewhere schema rows some (value.Str t) (Some (AnItem (item.Class c))) k h = h
fits_elsewhere schema rows some (value.Truth b) (Some (AnItem (item.Class c))) k h = h
fits_elsewhere schema rows some (value.Link n) (Some (ACollection home)) k h = collection_elsewhere rows some home n (k n (grind (arith, nat_tests))) h
fits_elsewhere schema rows some (value.Whole z) (Some (ACollection home)) k h = h
fits_elsewhere schema rows some (value.Str t) (Some (ACollection home)) k h = h
fits_elsewhere schema rows some (value.Truth b) (Some (ACollection home)) k h = h

-- no link fits a scalar
pub fits_no_link : (s : ScalarKind) (n : ℕ) → fits s (value.Link n) ≡ false
fits_no_link kind.Number n = refl
fits_no_link kind.Str n = refl
fits_no_link kind.Bool n = refl
fits_no_link kind.I8 n = refl
fits_no_link kind.U8 n = refl
fits_no_link kind.I16 n = refl
fits_no_link kind.U16 n = refl
fits_no_link kind.I32 n = refl
fits_no_link kind.U32 n = refl

-- an instance that a link leads to is there
instance_live : (schema : Schema) (rows : List RowEntry) (c n : ℕ) (o : Option Row) → row_at rows n ≡ o → is_instance_of schema c o ≡ true → is_live rows n ≡ true
instance_live schema rows c n None s h = cc
instance_live schema rows c n (Some r) s h = live_at rows n r s

-- a collection that a link leads to is there
collection_live : (rows : List RowEntry) (home : Home) (n : ℕ) (o : Option Row) → row_at rows n ≡ o → is_collection_of home o ≡ true → is_live rows n ≡ true
collection_live rows home n None s h = cc
collection_live rows home n (Some r) s h = live_at rows n r s

-- a link that fits leads to a row that is there
link_live : (schema : Schema) (rows : List RowEntry) (n : ℕ) (w : Option Expected) → fits_place schema rows (value.Link n) w ≡ true → is_live rows n ≡ true
link_live schema rows n None h = cc
link_live schema rows n (Some (AnItem (item.Scalar s))) h = let no = fits_no_link s n in cc
link_live schema rows n (Some (AnItem (item.Class c))) h = instance_live schema rows c n (row_at rows n) refl h
link_live schema rows n (Some (ACollection home)) h = collection_live rows home n (row_at rows n) refl h

-- what a value that fits holds is there
pub fits_live : (schema : Schema) (rows : List RowEntry) (m : ℕ) (v : Value) (w : Option Expected) → fits_place schema rows v w ≡ true → holds m v ≡ true → is_live rows m ≡ true
fits_live schema rows m (value.Whole z) w h t = cc
fits_live schema rows m (value.Str s) w h t = cc
fits_live schema rows m (value.Truth b) w h t = cc
fits_live schema rows m (value.Link n) w h t =
    let same : n ≡ m = grind (arith, nat_tests) in
    ap (is_live rows) (sym same) ∙ link_live schema rows n w h

-- a row without its places fits
pub emptied_fits : (schema : Schema) (rows : List RowEntry) (r : Row) → places_fit schema rows (emptied r) ≡ true
emptied_fits schema rows (Struct class fields) = refl
emptied_fits schema rows (Map home items) = refl
emptied_fits schema rows (Array home values) = grind (arith, nat_tests)
emptied_fits schema rows (Set home items) = refl
