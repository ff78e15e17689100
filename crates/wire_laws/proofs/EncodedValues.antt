-- What a value that a patch carries means again after it was told, against rows that are known to be what they are in the new rows.
use Rattle.std.proofs.Common.{◌≡◌, ℕ, Bool, true, false, List, [], Option, Some, None, option_and_then, refl, sym, ap, subst, ◌∙◌, arith}
use Rattle.std.specs.Option.{option_map_or}
use Rattle.std.proofs.lemmas.Bool.Decides.{nat_tests}
use Rattle.schema_model.specs.Classes.{Schema, home_field, is_kind_of}
use Rattle.schema_model.specs.declared.class.FieldDecl.{FieldDecl}
use Rattle.schema_model.specs.declared.class.Item.TheVariants as item
use Rattle.schema_model.specs.declared.class.Shape.{Shape}
use Rattle.schema_model.specs.declared.class.Shape.TheVariants as shape
use Rattle.schema_model.specs.declared.place.Home.{Home}
use Rattle.schema_model.specs.declared.value.Value.{Value}
use Rattle.schema_model.specs.declared.value.Value.TheVariants as value
use Rattle.state_model.specs.declared.row.Row.{Row}
use Rattle.state_model.specs.declared.row.Row.TheVariants.{Struct, Map, Array, Set}
use Rattle.state_model.specs.declared.row.RowEntry.{RowEntry}
use Rattle.state_model.specs.Values.{is_link}
use Rattle.state_model.specs.Rows.{row_at, is_live, emptied}
use Rattle.state_model.specs.declared.place.Expected.{Expected}
use Rattle.state_model.specs.declared.place.Expected.TheVariants.{Item as AnItem, Collection as ACollection}
use Rattle.state_model.specs.Places.{collection_of, empty_collection, same_kind, same_home, row_class, row_home}
use Rattle.state_model.specs.Sound.{are_rows_of, has_kind, fits_place, is_collection_of, is_instance_of}
use Rattle.state_laws.proofs.Numbers.{at_live}
use Rattle.state_laws.proofs.Fitting.{fits_no_link, fits_live}
use Rattle.state_laws.proofs.RowsOf.{rows_fit}
use Rattle.wire_model.specs.Edits.{Linked, encoded_link, encoded_value}
use Rattle.wire_model.specs.Grammar.{new_instance, new_collection, resolved_value}
use Rattle.wire_model.specs.Patch.{kind_in, carried}
use Rattle.wire_laws.proofs.KindLaws.{home_is, emptied_of_kind, kind_of}

-- each known row that the new rows have is known as what it is there
pub record Knows (new known : List RowEntry) : Type 0 where
  pub kinds : (n : ℕ) (r : Row) → row_at known n ≡ Some r → is_live new n ≡ true → r ≡ kind_in new n

-- a value that is there is the one that it can only be, and so is what stands in for none
either_way : {A : Type 0} (o : Option A) (rest goal : A) → ((x : A) → o ≡ Some x → x ≡ goal) → rest ≡ goal → option_map_or (λ x. x) o rest ≡ goal
either_way None rest goal known none = none
either_way (Some x) rest goal known none = known x refl

-- ---- the kind of an unknown collection

-- a declared collection to begin with has no places
empty_shape : (home : Home) (s : Shape) (x : Row) → collection_of home s ≡ Some x → emptied x ≡ x
empty_shape home (shape.One i) x h = cc
empty_shape home (shape.Map i) x h = let same : Map home [] ≡ x = cc in subst (λ r. emptied r ≡ r) same refl
empty_shape home (shape.Array i) x h = let same : Array home [] ≡ x = cc in subst (λ r. emptied r ≡ r) same refl
empty_shape home (shape.Set i) x h = let same : Set home [] ≡ x = cc in subst (λ r. emptied r ≡ r) same refl

-- nor has that of a declared field
empty_declared : (home : Home) (o : Option FieldDecl) (x : Row) → option_and_then (λ (f : FieldDecl). collection_of home f.shape) o ≡ Some x → emptied x ≡ x
empty_declared home None x h = cc
empty_declared home (Some f) x h = empty_shape home f.shape x h

-- where a row is of the kind of what is declared, that is the row without its places
declared_kind : (r rest : Row) (o : Option Row) → ((x : Row) → o ≡ Some x → emptied x ≡ x) → option_map_or (same_kind r) o false ≡ true → option_map_or (λ x. x) o rest ≡ emptied r
declared_kind r rest None empty h = cc
declared_kind r rest (Some x) empty h = sym (emptied_of_kind r x h ∙ empty x refl)

-- a declared collection to begin with is a row of its home without its places
home_kind : (schema : Schema) (home : Home) (r : Row) → option_map_or (same_kind r) (empty_collection schema home) false ≡ true → new_collection schema (Some (ACollection home)) ≡ emptied r
home_kind schema home r h = declared_kind r (Array home []) (empty_collection schema home) (λ x. empty_declared home (home_field schema home) x) h

-- a link to a collection fits where the place expects the collection's home
wants_home : (schema : Schema) (rows : List RowEntry) (n : ℕ) (expected : Option Expected) (r : Row) (home : Home) → row_at rows n ≡ Some r → row_class r ≡ None → row_home r ≡ Some home
    → fits_place schema rows (value.Link n) expected ≡ true → expected ≡ Some (ACollection home)
wants_home schema rows n None r home is class is_home h = cc
wants_home schema rows n (Some (AnItem (item.Scalar k))) r home is class is_home h = let no = fits_no_link k n in cc
wants_home schema rows n (Some (AnItem (item.Class c))) r home is class is_home h =
    let no : is_instance_of schema c (row_at rows n) ≡ false = ap (is_instance_of schema c) is ∙ ap (λ o. option_map_or (λ a. is_kind_of schema a c) o false) class in cc
wants_home schema rows n (Some (ACollection a)) r home is class is_home h =
    let same : same_home a home ≡ true = sym (ap (is_collection_of a) is ∙ ap (λ o. option_map_or (same_home a) o false) is_home) ∙ h in
    ap (λ x. Some (ACollection x)) (home_is a home same)

-- ---- one value

-- what an unknown link means: its row without its places
abbrev unknown_means : Schema → Option Expected → Row → Row
unknown_means schema expected r = option_map_or (λ class. new_instance (Some class) expected) (row_class r) (new_collection schema expected)

-- an unknown link that fits means its row without its places
unknown_kind : (schema : Schema) (rows : List RowEntry) (n : ℕ) (expected : Option Expected) (r : Row) → row_at rows n ≡ Some r → has_kind schema r ≡ true → fits_place schema rows (value.Link n) expected ≡ true
    → unknown_means schema expected (emptied r) ≡ emptied r
unknown_kind schema rows n expected (Struct class fields) is has h = refl
unknown_kind schema rows n expected (Map home items) is has h =
    ap (new_collection schema) (wants_home schema rows n expected (Map home items) home is refl refl h) ∙ home_kind schema home (Map home items) has
unknown_kind schema rows n expected (Array home values) is has h =
    ap (new_collection schema) (wants_home schema rows n expected (Array home values) home is refl refl h) ∙ home_kind schema home (Array home values) has
unknown_kind schema rows n expected (Set home items) is has h =
    ap (new_collection schema) (wants_home schema rows n expected (Set home items) home is refl refl h) ∙ home_kind schema home (Set home items) has

-- what a told link means: the known row, else what an unknown link means
link_encoded : (schema : Schema) (known : List RowEntry) (expected : Option Expected) (n : ℕ) (r : Row)
    → resolved_value schema known expected (encoded_link true n (row_class r)) ≡ Linked n (option_map_or (λ x. x) (row_at known n) (unknown_means schema expected r))
link_encoded schema known expected n (Struct class fields) = refl
link_encoded schema known expected n (Map home items) = refl
link_encoded schema known expected n (Array home values) = refl
link_encoded schema known expected n (Set home items) = refl

-- a link that was told under an operation that adds means again what was carried
link_means : (schema : Schema) (new known : List RowEntry) (expected : Option Expected) (n : ℕ) → are_rows_of schema new ≡ true → Knows new known → fits_place schema new (value.Link n) expected ≡ true
    → resolved_value schema known expected (encoded_link true n (row_class (kind_in new n))) ≡ Linked n (kind_in new n)
link_means schema new known expected n rows k h =
    let live = fits_live schema new n (value.Link n) expected h (grind (arith, nat_tests)) in
    let row = at_live new n live in
    let is = kind_of new n row.0 row.1 in
    let unknown = ap (unknown_means schema expected) is ∙ (unknown_kind schema new n expected row.0 row.1 (rows_fit schema new rows n row.0 row.1).0 h ∙ sym is) in
    link_encoded schema known expected n (kind_in new n) ∙ ap (Linked n) (either_way (row_at known n) _ (kind_in new n) (λ r at. k.kinds n r at live) unknown)

-- a value that was told under an operation that adds means again what was carried
pub added_means : (schema : Schema) (new known : List RowEntry) (expected : Option Expected) (v : Value) → are_rows_of schema new ≡ true → Knows new known → fits_place schema new v expected ≡ true
    → resolved_value schema known expected (encoded_value true (carried new expected v)) ≡ carried new expected v
added_means schema new known expected (value.Whole z) rows k h = refl
added_means schema new known expected (value.Str t) rows k h = refl
added_means schema new known expected (value.Truth b) rows k h = refl
added_means schema new known expected (value.Link n) rows k h = link_means schema new known expected n rows k h

-- a scalar that was told means again what was carried
pub scalar_means : (schema : Schema) (new known : List RowEntry) (expected : Option Expected) (v : Value) (adds : Bool) → is_link v ≡ false
    → resolved_value schema known expected (encoded_value adds (carried new expected v)) ≡ carried new expected v
scalar_means schema new known expected (value.Whole z) adds h = refl
scalar_means schema new known expected (value.Str t) adds h = refl
scalar_means schema new known expected (value.Truth b) adds h = refl
scalar_means schema new known expected (value.Link n) adds h = cc
