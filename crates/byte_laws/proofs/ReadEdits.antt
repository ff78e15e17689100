-- Operations that fit their holder are read again against any rows that are known to be what they are in the new rows.
use Rattle.std.proofs.Common.{◌≡◌, ℕ, Bool, true, false, not, ◌||◌, ◌==◌, List, [], ◌∷◌, map, Option, Some, None, refl, sym, ap, subst, ◌∙◌, arith}
use Rattle.std.specs.Prelude.{is_some}
use Rattle.std.specs.List.{AllByRecursion as Each}
use Rattle.std.proofs.lemmas.Bool.{and_from}
use Rattle.std.proofs.lemmas.Bool.Decides.{nat_tests}
use Rattle.schema_model.specs.Classes.{Schema}
use Rattle.schema_model.specs.declared.class.Item.TheVariants as item
use Rattle.schema_model.specs.declared.place.Home.{Home}
use Rattle.schema_model.specs.declared.value.Value.{Value}
use Rattle.schema_model.specs.declared.value.Value.TheVariants.{Whole, Str, Truth, Link}
use Rattle.state_model.specs.declared.row.Row.{Row}
use Rattle.state_model.specs.declared.row.Row.TheVariants.{Struct, Map, Array, Set}
use Rattle.state_model.specs.declared.row.RowEntry.{RowEntry}
use Rattle.state_model.specs.Values.{is_link}
use Rattle.state_model.specs.Rows.{row_at, emptied}
use Rattle.state_model.specs.declared.place.Expected.{Expected}
use Rattle.state_model.specs.declared.place.Expected.TheVariants.{Item as AnItem, Collection as ACollection}
use Rattle.state_model.specs.Places.{row_class}
use Rattle.state_model.specs.Sound.{are_rows_of, has_kind, fits_place, is_instance_of, is_collection_of}
use Rattle.state_laws.proofs.Numbers.{at_live}
use Rattle.state_laws.proofs.Fitting.{fits_live, fits_no_link}
use Rattle.state_laws.proofs.RowsOf.{rows_fit}
use Rattle.wire_model.specs.Edits.{Carried, Edit, Add, Replace, DeleteAdd, Delete, Clear, AddByRef, DeleteByRef, encoded_link, encoded_value, encoded}
use Rattle.wire_model.specs.Grammar.{expects_at, known_after, check_instance}
use Rattle.wire_model.specs.Patch.{carried}
use Rattle.wire_model.specs.declared.op.OpKey.TheVariants as key
use Rattle.wire_laws.proofs.KindLaws.{kind_of}
use Rattle.wire_laws.proofs.LinkedRows.{CarriesKinds}
use Rattle.wire_laws.proofs.EncodedValues.{Knows}
use Rattle.wire_laws.proofs.EncodedKnown.{knows_after}
use Rattle.wire_laws.proofs.EncodedEdits.{EditsMean}
use Rattle.block_laws.specs.Fitting.{marks_fit, ValueFits, PlaceFits, OpFits, OpsFit}
use Rattle.state_model.specs.Spelled.{is_spelled_value}
use Rattle.byte_laws.proofs.EditFits.{Puts, EditFits}

-- ---- links

-- a link to a row of a class, where the number is unknown or known as what it is
instance_fits : (schema : Schema) (known : List RowEntry) (c n : ℕ) (r : Row) (o : Option Row) → row_at known n ≡ o → ((x : Row) → o ≡ Some x → x ≡ emptied r) → has_kind schema r ≡ true
    → is_instance_of schema c (Some r) ≡ true → ValueFits schema known true (AnItem (item.Class c)) (encoded_link true n (row_class (emptied r)))
instance_fits schema known c n (Struct d fields) None is knows kind h =
    (ap (check_instance schema c true 0) is, ap (λ o. marks_fit schema c true o (Some d)) is ∙ and_from _ _ kind h)
instance_fits schema known c n (Struct d fields) (Some x) is knows kind h =
    let found : row_at known n ≡ Some (Struct d []) = is ∙ ap Some (knows x refl) in
    let own : (d == d) ≡ true = grind (arith, nat_tests) in (
      ap (check_instance schema c true 0) found ∙ rw h refl,
      ap (λ o. marks_fit schema c true o (Some d)) found ∙ and_from _ _ kind (and_from _ _ h own),
    )
instance_fits schema known c n (Map home items) o is knows kind h = cc
instance_fits schema known c n (Array home values) o is knows kind h = cc
instance_fits schema known c n (Set home items) o is knows kind h = cc

-- a number is unknown or known as a collection of a home
collection_known : (known : List RowEntry) (home : Home) (n : ℕ) (r : Row) (o : Option Row) → row_at known n ≡ o → ((x : Row) → o ≡ Some x → x ≡ emptied r)
    → is_collection_of home (Some (emptied r)) ≡ true → (not (is_some (row_at known n)) || is_collection_of home (row_at known n)) ≡ true
collection_known known home n r None is knows h = ap (λ x. not (is_some x) || is_collection_of home x) is
collection_known known home n r (Some x) is knows h = ap (λ x. not (is_some x) || is_collection_of home x) (is ∙ ap Some (knows x refl)) ∙ h

-- a link to a collection of a home
collection_fits : (schema : Schema) (known : List RowEntry) (home : Home) (n : ℕ) (r : Row) → ((x : Row) → row_at known n ≡ Some x → x ≡ emptied r) → is_collection_of home (Some r) ≡ true
    → ValueFits schema known true (ACollection home) (encoded_link true n (row_class (emptied r)))
collection_fits schema known home n (Struct class fields) knows h = absurd (cc)
collection_fits schema known home n (Map a items) knows h = collection_known known home n (Map a items) (row_at known n) refl knows h
collection_fits schema known home n (Array a values) knows h = collection_known known home n (Array a values) (row_at known n) refl knows h
collection_fits schema known home n (Set a items) knows h = collection_known known home n (Set a items) (row_at known n) refl knows h

-- ---- values

-- a scalar as it is told
scalar_fits : (schema : Schema) (new known : List RowEntry) (expected : Option Expected) (v : Value) (adds : Bool) → is_link v ≡ false → fits_place schema new v expected ≡ true → is_spelled_value v ≡ true
    → PlaceFits schema known adds expected (encoded_value adds (carried new expected v))
scalar_fits schema new known None v adds l h s = absurd (cc)
scalar_fits schema new known (Some (AnItem (item.Scalar k))) (Whole z) adds l h s = (refl, (h, s))
scalar_fits schema new known (Some (AnItem (item.Scalar k))) (Str t) adds l h s = (refl, (h, s))
scalar_fits schema new known (Some (AnItem (item.Scalar k))) (Truth b) adds l h s = (refl, (h, s))
scalar_fits schema new known (Some (AnItem (item.Class c))) (Whole z) adds l h s = absurd (cc)
scalar_fits schema new known (Some (AnItem (item.Class c))) (Str t) adds l h s = absurd (cc)
scalar_fits schema new known (Some (AnItem (item.Class c))) (Truth b) adds l h s = absurd (cc)
scalar_fits schema new known (Some (ACollection home)) (Whole z) adds l h s = absurd (cc)
scalar_fits schema new known (Some (ACollection home)) (Str t) adds l h s = absurd (cc)
scalar_fits schema new known (Some (ACollection home)) (Truth b) adds l h s = absurd (cc)
scalar_fits schema new known expected (Link n) adds l h s = absurd (cc)

-- a link that is told of a row of its kind
link_fits : (schema : Schema) (new known : List RowEntry) (expected : Option Expected) (n : ℕ) (r : Row) → ((x : Row) → row_at known n ≡ Some x → x ≡ emptied r) → row_at new n ≡ Some r
    → has_kind schema r ≡ true → fits_place schema new (Link n) expected ≡ true → PlaceFits schema known true expected (encoded_link true n (row_class (emptied r)))
link_fits schema new known None n r knows is kind h = absurd (cc)
link_fits schema new known (Some (AnItem (item.Scalar k))) n r knows is kind h = absurd (let no = fits_no_link k n in cc)
link_fits schema new known (Some (AnItem (item.Class c))) n r knows is kind h = instance_fits schema known c n r (row_at known n) refl knows kind (ap (is_instance_of schema c) (sym is) ∙ h)
link_fits schema new known (Some (ACollection home)) n r knows is kind h = collection_fits schema known home n r knows (ap (is_collection_of home) (sym is) ∙ h)

-- a value as it is told under an operation that adds
added_fits : (schema : Schema) (new known : List RowEntry) (expected : Option Expected) (v : Value) → are_rows_of schema new ≡ true → Knows new known → fits_place schema new v expected ≡ true
    → is_spelled_value v ≡ true → PlaceFits schema known true expected (encoded_value true (carried new expected v))
added_fits schema new known expected (Whole z) rows k h s = scalar_fits schema new known expected (Whole z) true refl h s
added_fits schema new known expected (Str t) rows k h s = scalar_fits schema new known expected (Str t) true refl h s
added_fits schema new known expected (Truth b) rows k h s = scalar_fits schema new known expected (Truth b) true refl h s
added_fits schema new known expected (Link n) rows k h s =
    let live = fits_live schema new n (Link n) expected h (grind (arith, nat_tests)) in
    let r = at_live new n live in
    let kind = kind_of new n r.0 r.1 in
    subst (λ x. PlaceFits schema known true expected (encoded_link true n (row_class x))) (sym kind)
    (link_fits schema new known expected n r.0 (λ x is. k.kinds n x is live ∙ kind) r.1 (rows_fit schema new rows n r.0 r.1).0 h)

-- ---- operations

module _ (schema : Schema) (new : List RowEntry) (holder : Row) (rows : are_rows_of schema new ≡ true) where
  -- what an operation that adds puts
  puts_fit : (known : List RowEntry) (expected : Option Expected) (c : Carried) → Knows new known → Puts schema new expected c → PlaceFits schema known true expected (encoded_value true c)
  puts_fit known expected c k p = subst (λ x. PlaceFits schema known true expected (encoded_value true x)) (sym p.is) (added_fits schema new known expected p.value rows k p.fit p.spelled)

  -- an operation that fits its holder
  edit_read : (known : List RowEntry) (e : Edit) → Knows new known → EditFits schema new holder e → OpFits schema known holder (encoded e)
  edit_read known (Add j c) k f = (f.0, puts_fit known (expects_at schema holder j) c k f.2)
  edit_read known (Replace j c) k f =
      (f.0, subst (λ x. PlaceFits schema known false (expects_at schema holder j) (encoded_value false x)) (sym f.2.is) (scalar_fits schema new known (expects_at schema holder j) f.2.value false f.3 f.2.fit f.2.spelled))
  edit_read known (DeleteAdd j c) k f = (f.0, puts_fit known (expects_at schema holder j) c k f.2)
  edit_read known (Delete j) k f = (f.0, f.2)
  edit_read known Clear k f = f
  edit_read known (AddByRef c) k f = (f.0, puts_fit known (expects_at schema holder (key.Item 0)) c k f.1)
  edit_read known (DeleteByRef n) k f = f.0

  -- all that fit, one behind another
  pub edits_read : (es : List Edit) (known : List RowEntry) → Knows new known → CarriesKinds new es → EditsMean schema new holder es → Each (EditFits schema new holder) es
      → OpsFit schema holder known (map encoded es)
  edits_read [] known k c m f = tt
  edits_read (e ∷ es) known k c m f = (
    edit_read known e k f.0,
    subst (λ x. OpsFit schema holder (known_after x known) (map encoded es)) (sym (m.0 known k)) (edits_read es (known_after e known) (knows_after new e known c.0 k) c.1 m.1 f.1),
  )
