-- What an operation carries of a value, and when two lists of values are one.
use Rattle.std.proofs.Common.{◌≡◌, true, List, [], ◌∷◌, Option, refl, arith}
use Rattle.std.proofs.lemmas.Bool.Decides.{nat_tests}
use Rattle.schema_model.specs.declared.value.Value.{Value}
use Rattle.schema_model.specs.declared.value.Value.TheVariants.{Whole, Str, Truth, Link}
use Rattle.state_model.specs.declared.row.RowEntry.{RowEntry}
use Rattle.state_model.specs.Values.{same_value}
use Rattle.state_model.specs.declared.place.Expected.{Expected}
use Rattle.wire_model.specs.Edits.{carried_value}
use Rattle.wire_model.specs.Patch.{carried, same_values}
use Rattle.state_laws.proofs.SameValues.{same_is}

-- an operation carries the value that it is made for
pub carried_is : (rows : List RowEntry) (expected : Option Expected) (v : Value) → carried_value (carried rows expected v) ≡ v
carried_is rows expected (Whole a) = refl
carried_is rows expected (Str a) = refl
carried_is rows expected (Truth a) = refl
carried_is rows expected (Link a) = refl

-- lists that the test takes for equal are equal
pub same_values_is : (us vs : List Value) → same_values us vs ≡ true → us ≡ vs
same_values_is [] [] h = refl
same_values_is [] (v ∷ vs) h = cc
same_values_is (u ∷ us) [] h = cc
same_values_is (u ∷ us) (v ∷ vs) h =
    let first : same_value u v ≡ true = grind (arith, nat_tests) in
    let rest : same_values us vs ≡ true = grind (arith, nat_tests) in
    let a = same_is u v first in
    let b = same_values_is us vs rest in
    cc
