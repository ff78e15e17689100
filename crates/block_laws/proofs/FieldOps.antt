-- Operations on the fields of instances are read where they stand.
use Rattle.std.proofs.Common.{◌≡◌, ℕ, suc, ◌+◌, ◌-◌, ◌%◌, true, false, ◌==◌, List, [], ◌∷◌, length, Option, Some, None, is_some, Ok, refl, ap, ◌∙◌, arith}
use Rattle.schema_model.specs.Classes.{Schema}
use Rattle.state_model.specs.declared.row.Row.TheVariants.{Struct}
use Rattle.state_model.specs.declared.row.RowEntry.{RowEntry}
use Rattle.state_model.specs.declared.row.FieldValue.{FieldValue}
use Rattle.state_model.specs.declared.place.Expected.{Expected}
use Rattle.state_model.specs.Places.{field_expects}
use Rattle.wire_model.specs.declared.op.OpKey.TheVariants.{Field}
use Rattle.wire_model.specs.declared.op.OpValue.{OpValue}
use Rattle.wire_model.specs.declared.op.Op.TheVariants as op
use Rattle.wire_model.specs.declared.op.Step.TheVariants.{Do}
use Rattle.wire_model.specs.OpBytes.{value_bytes}
use Rattle.wire_model.specs.Grammar.{has_add_bit, with_value, field_step, holder_step}
use Rattle.block_laws.specs.Writable.{is_carried}
use Rattle.block_laws.specs.Fitting.{PlaceFits}
use Rattle.block_laws.proofs.Stands.{Stands, stands_behind}
use Rattle.block_laws.proofs.ItemOps.{keyed_there}

-- a byte of a code and a field's index is an operation on this field
field_byte : (schema : Schema) (known : List RowEntry) (class : ℕ) (fields : List FieldValue) (bytes : List ℕ) (at code i : ℕ) → (code + i) % 64 ≡ i
    → holder_step schema known (Struct class fields) bytes at (code + i) ≡ field_step schema known bytes at code i (field_expects schema class i)
field_byte schema known class fields bytes at code i index =
    let code_again : code + i - i ≡ code = omega arith in
    rw (index, code_again) refl

-- an operation that puts a value at a field is read where it stands
pub field_there : (schema : Schema) (known : List RowEntry) (class : ℕ) (fields : List FieldValue) (bytes : List ℕ) (at code i : ℕ) (v : OpValue) → (code + i) % 64 ≡ i
    → (code == 64) ≡ false → PlaceFits schema known (has_add_bit code) (field_expects schema class i) v → is_carried v ≡ true → Stands bytes at ((code + i) ∷ value_bytes v)
    → holder_step schema known (Struct class fields) bytes at (code + i) ≡ Ok (Do (with_value code (Field i) v), at + suc (length (value_bytes v)))
field_there schema known class fields bytes at code i v index puts f h s = field_byte schema known class fields bytes at code i index ∙ by_expected (field_expects schema class i) f
  where
    by_expected : (o : Option Expected) → PlaceFits schema known (has_add_bit code) o v
        → field_step schema known bytes at code i o ≡ Ok (Do (with_value code (Field i) v), at + suc (length (value_bytes v)))
    by_expected None f = absurd f
    by_expected (Some expected) f =
        rw puts
        (keyed_there schema known bytes (at + 1) code (Field i) expected v f h (stands_behind bytes at ((code + i) ∷ []) (value_bytes v) s)
        ∙ ap (λ k. Ok (Do (with_value code (Field i) v), k)) (omega arith))

-- DELETE of a field is read where it stands
pub field_delete_there : (schema : Schema) (known : List RowEntry) (class : ℕ) (fields : List FieldValue) (bytes : List ℕ) (at i : ℕ) → (64 + i) % 64 ≡ i
    → is_some (field_expects schema class i) ≡ true → holder_step schema known (Struct class fields) bytes at (64 + i) ≡ Ok (Do (op.Delete (Field i)), at + 1)
field_delete_there schema known class fields bytes at i index expects = field_byte schema known class fields bytes at 64 i index ∙ by_expected (field_expects schema class i) expects
  where
    by_expected : (o : Option Expected) → is_some o ≡ true → field_step schema known bytes at 64 i o ≡ Ok (Do (op.Delete (Field i)), at + 1)
    by_expected None expects = cc
    by_expected (Some expected) expects = refl
