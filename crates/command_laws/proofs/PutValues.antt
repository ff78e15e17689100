-- A value that an accepted command puts fits its place.
use Rattle.std.proofs.Common.{◌≡◌, ℕ, Bool, true, false, List, Option, Some, None, is_some, length, nat_lt, refl, sym, ap, ◌∙◌, arith}
use Rattle.std.specs.Prelude.{option_and_then, ◌^◌}
use Rattle.std.specs.Option.{option_map, option_map_or}
use Rattle.std.proofs.lemmas.Bool.{or_parts, not-false}
use Rattle.std.proofs.lemmas.Bool.Decides.{nat_tests}
use Rattle.schema_model.specs.declared.value.Value.{Value}
use Rattle.schema_model.specs.declared.value.Value.TheVariants as value
use Rattle.schema_model.specs.declared.scalar.ScalarKind.{ScalarKind}
use Rattle.schema_model.specs.declared.scalar.ScalarKind.TheVariants as kind
use Rattle.schema_model.specs.declared.class.FieldDecl.{FieldDecl}
use Rattle.schema_model.specs.declared.class.Item.TheVariants as item
use Rattle.schema_model.specs.declared.place.Home.{Home}
use Rattle.schema_model.specs.Classes.{Schema, home_field, item_of}
use Rattle.schema_model.specs.Fits.{fits, is_of_kind, in_range}
use Rattle.state_model.specs.declared.row.Row.{Row}
use Rattle.state_model.specs.declared.row.Row.TheVariants.{Struct, Map, Array, Set}
use Rattle.state_model.specs.declared.row.RowEntry.{RowEntry}
use Rattle.state_model.specs.declared.command.Command.{Command}
use Rattle.state_model.specs.declared.command.Command.TheVariants.{Put, PutKey, Push, SetAt, Add}
use Rattle.state_model.specs.declared.place.Expected.{Expected}
use Rattle.state_model.specs.declared.place.Expected.TheVariants.{Item as AnItem, Collection as ACollection}
use Rattle.state_model.specs.Places.{item_expects, empty_collection, collection_of, same_kind}
use Rattle.state_model.specs.Sound.{is_of_type, fits_expected, fits_place, has_kind}
use Rattle.state_model.specs.State.{State}
use Rattle.state_model.specs.Commands.{value_put, is_no_field, expected_for, is_wrong_type, is_past_range, is_long_text, is_long_key}
use Rattle.command_laws.proofs.Accepted.{IsAccepted}

-- one value

-- a text that isn't too long for one fits
short_text : (t : List ℕ) → is_long_text (Some (value.Str t)) ≡ false → nat_lt (length t) (2 ^ 32) ≡ true
short_text t h = grind (arith, nat_tests)

-- a text of a kind fits it where it isn't too long
text_fits : (k : ScalarKind) (t : List ℕ) → is_of_kind k (value.Str t) ≡ true → is_long_text (Some (value.Str t)) ≡ false → fits k (value.Str t) ≡ true
text_fits kind.Number t h s = cc
text_fits kind.Str t h s = short_text t s
text_fits kind.Bool t h s = cc
text_fits kind.I8 t h s = cc
text_fits kind.U8 t h s = cc
text_fits kind.I16 t h s = cc
text_fits kind.U16 t h s = cc
text_fits kind.I32 t h s = cc
text_fits kind.U32 t h s = cc

-- a truth value of a kind fits it
truth_fits : (k : ScalarKind) (b : Bool) → is_of_kind k (value.Truth b) ≡ true → fits k (value.Truth b) ≡ true
truth_fits kind.Number b h = cc
truth_fits kind.Str b h = cc
truth_fits kind.Bool b h = refl
truth_fits kind.I8 b h = cc
truth_fits kind.U8 b h = cc
truth_fits kind.I16 b h = cc
truth_fits kind.U16 b h = cc
truth_fits kind.I32 b h = cc
truth_fits kind.U32 b h = cc

-- a link is of no kind of scalar
link_unfit : (k : ScalarKind) (n : ℕ) → is_of_kind k (value.Link n) ≡ true → fits k (value.Link n) ≡ true
link_unfit kind.Number n h = cc
link_unfit kind.Str n h = cc
link_unfit kind.Bool n h = cc
link_unfit kind.I8 n h = cc
link_unfit kind.U8 n h = cc
link_unfit kind.I16 n h = cc
link_unfit kind.U16 n h = cc
link_unfit kind.I32 n h = cc
link_unfit kind.U32 n h = cc

-- a value of the declared kind and in its range that is no text too long fits
value_fits : (schema : Schema) (rows : List RowEntry) (v : Value) (w : Expected) → is_wrong_type schema rows (Some v) (Some w) ≡ false → is_past_range (Some v) (Some w) ≡ false → is_long_text (Some v) ≡ false → fits_expected schema rows w v ≡ true
value_fits schema rows (value.Whole z) (AnItem (item.Scalar k)) t r s = not-false (in_range k z) r
value_fits schema rows (value.Str x) (AnItem (item.Scalar k)) t r s = text_fits k x (not-false (is_of_kind k (value.Str x)) t) s
value_fits schema rows (value.Truth b) (AnItem (item.Scalar k)) t r s = truth_fits k b (not-false (is_of_kind k (value.Truth b)) t)
value_fits schema rows (value.Link n) (AnItem (item.Scalar k)) t r s = link_unfit k n (not-false (is_of_kind k (value.Link n)) t)
value_fits schema rows v (AnItem (item.Class c)) t r s = not-false (is_of_type schema rows (AnItem (item.Class c)) v) t
value_fits schema rows v (ACollection home) t r s = not-false (is_of_type schema rows (ACollection home) v) t

-- what is declared

-- a home with an empty collection declares items
home_expected : (schema : Schema) (home : Home) (row : Row) → option_map_or (same_kind row) (empty_collection schema home) false ≡ true → is_some (item_expects schema home) ≡ true
home_expected schema home row h = by_field (home_field schema home) refl
  where
    by_field : (o : Option FieldDecl) → home_field schema home ≡ o → is_some (item_expects schema home) ≡ true
    by_field None e =
        let no : empty_collection schema home ≡ None = ap (option_and_then (λ (f : FieldDecl). collection_of home f.shape)) e in
        let fails : option_map_or (same_kind row) (empty_collection schema home) false ≡ false = ap (λ o. option_map_or (same_kind row) o false) no in
        cc
    by_field (Some f) e = ap (λ o. is_some (option_map (λ (d : FieldDecl). AnItem (item_of d.shape)) o)) e

-- where a command puts a value, something is declared
expected_there : (schema : Schema) (c : Command) (row : Row) (v : Value) → has_kind schema row ≡ true → is_no_field schema c (Some row) ≡ false → value_put c ≡ Some v → is_some (expected_for schema c (Some row)) ≡ true
expected_there schema (Put r f u) (Struct class fields) v k h p = grind (arith, nat_tests)
expected_there schema (PutKey r key u) (Map home items) v k h p = home_expected schema home (Map home items) k
expected_there schema (Push r u) (Array home values) v k h p = home_expected schema home (Array home values) k
expected_there schema (SetAt r at u) (Array home values) v k h p = home_expected schema home (Array home values) k
expected_there schema (Add r u) (Set home items) v k h p = home_expected schema home (Set home items) k
expected_there schema c row v k h p = cc

-- what an accepted command puts fits its place
pub put_fits : (schema : Schema) (s : State) (c : Command) (row : Row) (v : Value) → has_kind schema row ≡ true → IsAccepted schema s c (Some row) → value_put c ≡ Some v → fits_place schema s.rows v (expected_for schema c (Some row)) ≡ true
put_fits schema s c row v k free p = by_expected (expected_for schema c (Some row)) refl
  where
    by_expected : (o : Option Expected) → expected_for schema c (Some row) ≡ o → fits_place schema s.rows v (expected_for schema c (Some row)) ≡ true
    by_expected None e =
        let some = expected_there schema c row v k free.declared p in
        let no : is_some (expected_for schema c (Some row)) ≡ false = ap is_some e in
        cc
    by_expected (Some w) e =
        let typed : is_wrong_type schema s.rows (Some v) (Some w) ≡ false = ap (λ o. is_wrong_type schema s.rows (Some v) o) (sym e) ∙ ap (λ o. is_wrong_type schema s.rows o (expected_for schema c (Some row))) (sym p) ∙ free.typed in
        let ranged : is_past_range (Some v) (Some w) ≡ false = ap (is_past_range (Some v)) (sym e) ∙ ap (λ o. is_past_range o (expected_for schema c (Some row))) (sym p) ∙ free.ranged in
        let short : is_long_text (Some v) ≡ false = ap is_long_text (sym p) ∙ (or_parts (is_long_text (value_put c)) (is_long_key c) free.short).0 in
        ap (fits_place schema s.rows v) e ∙ value_fits schema s.rows v w typed ranged short
