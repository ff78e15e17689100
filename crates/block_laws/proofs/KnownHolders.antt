-- A row that is known stays known as what it is, whatever operations link to.
use Rattle.std.proofs.Common.{◌≡◌, ℕ, Bool, true, false, cond, ◌==◌, List, Option, Some, refl, ap, ◌∙◌}
use Rattle.std.specs.Option.{option_map, option_map_or}
use Rattle.std.proofs.lemmas.Bool.{eqb-true}
use Rattle.lists.specs.Rising.{find}
use Rattle.lists.proofs.RisingLaws.{find-put}
use Rattle.schema_model.specs.Classes.{Schema}
use Rattle.schema_model.specs.declared.scalar.ScalarKind.{ScalarKind}
use Rattle.state_model.specs.declared.row.Row.{Row}
use Rattle.state_model.specs.declared.row.RowEntry.{RowEntry}
use Rattle.state_model.specs.declared.place.Expected.{Expected}
use Rattle.state_model.specs.Rows.{number_of, row_at, put_row}
use Rattle.wire_model.specs.declared.op.OpKey.TheVariants.{Item}
use Rattle.wire_model.specs.declared.op.OpValue.{OpValue}
use Rattle.wire_model.specs.declared.op.OpValue.TheVariants as carried
use Rattle.wire_model.specs.declared.op.Op.{Op}
use Rattle.wire_model.specs.declared.op.Op.TheVariants as op
use Rattle.wire_model.specs.Edits.{Scalar, Carried, Plain, Linked, Edit, Add, Replace, DeleteAdd, AddByRef}
use Rattle.wire_model.specs.Grammar.{scalar_of, new_instance, new_collection, resolved_value, expects_at, resolved, known_after}

-- a known row that is put as what it is known to be, or a new one besides, keeps the others and itself
put_keeps : (known : List RowEntry) (n who : ℕ) (rest r : Row) → row_at known who ≡ Some r → row_at (put_row n (option_map_or (λ x. x) (row_at known n) rest) known) who ≡ Some r
put_keeps known n who rest r is =
    let x = option_map_or (λ x. x) (row_at known n) rest in
    let go : (b : Bool) → (n == who) ≡ b → option_map (λ (e : RowEntry). e.row) (cond b (Some (record { who = n; row = x })) (find number_of who known)) ≡ Some r = elim [
      | true ↦ λ t. ap (λ m. Some (option_map_or (λ x. x) (row_at known m) rest)) (eqb-true n who t) ∙ ap (λ o. Some (option_map_or (λ x. x) o rest)) is
      | false ↦ λ f. is
    ] in
    ap (option_map (λ (e : RowEntry). e.row)) (find-put number_of (record { who = n; row = x }) known who) ∙ go (n == who) refl

-- an operation that makes what it links to known, and nothing else
record MakesKnown (e : Carried → Edit) (known : List RowEntry) : Type 0 where
  pub plain : (k : ScalarKind) (s : Scalar) → known_after (e (Plain k s)) known ≡ known
  pub linked : (n : ℕ) (empty : Row) → known_after (e (Linked n empty)) known ≡ put_row n empty known

-- after such an operation a known row is known as what it was
value_keeps : (schema : Schema) (known : List RowEntry) (expected : Option Expected) (who : ℕ) (r : Row) (e : Carried → Edit) (v : OpValue) → MakesKnown e known → row_at known who ≡ Some r
    → row_at (known_after (e (resolved_value schema known expected v)) known) who ≡ Some r
value_keeps schema known expected who r e (carried.Scalar kind v) m is = ap (λ rows. row_at rows who) (m.plain kind (scalar_of v)) ∙ is
value_keeps schema known expected who r e (carried.Struct n mark) m is = ap (λ rows. row_at rows who) (m.linked n _) ∙ put_keeps known n who (new_instance mark expected) r is
value_keeps schema known expected who r e (carried.Coll n) m is = ap (λ rows. row_at rows who) (m.linked n _) ∙ put_keeps known n who (new_collection schema expected) r is

-- after any operation a known row is known as what it was
pub op_keeps : (schema : Schema) (known : List RowEntry) (holder : Row) (who : ℕ) (r : Row) (o : Op) → row_at known who ≡ Some r
    → row_at (known_after (resolved schema known holder o) known) who ≡ Some r
op_keeps schema known holder who r (op.Add k v) is = value_keeps schema known (expects_at schema holder k) who r (Add k) v (record { plain = λ k s. refl; linked = λ n x. refl }) is
op_keeps schema known holder who r (op.Replace k v) is = value_keeps schema known (expects_at schema holder k) who r (Replace k) v (record { plain = λ k s. refl; linked = λ n x. refl }) is
op_keeps schema known holder who r (op.DeleteAdd k v) is = value_keeps schema known (expects_at schema holder k) who r (DeleteAdd k) v (record { plain = λ k s. refl; linked = λ n x. refl }) is
op_keeps schema known holder who r (op.Delete k) is = is
op_keeps schema known holder who r op.Clear is = is
op_keeps schema known holder who r (op.AddByRef v) is = value_keeps schema known (expects_at schema holder (Item 0)) who r AddByRef v (record { plain = λ k s. refl; linked = λ n x. refl }) is
op_keeps schema known holder who r (op.DeleteByRef n) is = is
