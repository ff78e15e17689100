-- Being of one kind is being one row without places: so it holds of a row and itself, both ways round, and from one row to the next.
use Rattle.std.proofs.Common.{◌≡◌, ℕ, true, ◌==◌, List, [], Some, refl, sym, ap, ◌∙◌, arith}
use Rattle.std.specs.Option.{option_map_or}
use Rattle.std.proofs.lemmas.Bool.{and_parts, eqb-true}
use Rattle.std.proofs.lemmas.Bool.Decides.{nat_tests}
use Rattle.schema_model.specs.declared.place.Home.{Home}
use Rattle.state_model.specs.declared.row.Row.{Row}
use Rattle.state_model.specs.declared.row.Row.TheVariants.{Struct, Map, Array, Set}
use Rattle.state_model.specs.declared.row.RowEntry.{RowEntry}
use Rattle.state_model.specs.Rows.{row_at, emptied}
use Rattle.state_model.specs.Places.{same_kind, same_home}
use Rattle.wire_model.specs.Patch.{kind_in}

-- homes that the test takes for one are one
pub home_is : (a b : Home) → same_home a b ≡ true → a ≡ b
home_is a b h =
    let two = and_parts (a.class == b.class) (a.field == b.field) h in
    let class = eqb-true a.class b.class two.0 in
    let field = eqb-true a.field b.field two.1 in
    λ i. record { class = class i; field = field i }

-- the places of the second row don't matter
kind_of_emptied : (a b : Row) → same_kind a b ≡ same_kind a (emptied b)
kind_of_emptied (Struct a fs) (Struct b gs) = refl
kind_of_emptied (Map a is) (Map b js) = refl
kind_of_emptied (Array a us) (Array b vs) = refl
kind_of_emptied (Set a is) (Set b js) = refl
kind_of_emptied a b = refl

-- a row is of its own kind
pub same_kind_self : (a : Row) → same_kind a a ≡ true
same_kind_self (Struct class fields) = grind (arith, nat_tests)
same_kind_self (Map home items) = grind (arith, nat_tests)
same_kind_self (Array home values) = grind (arith, nat_tests)
same_kind_self (Set home items) = grind (arith, nat_tests)

-- rows that are one without their places are of one kind
pub kind_emptied : (a b : Row) → emptied a ≡ emptied b → same_kind a b ≡ true
kind_emptied a b h = kind_of_emptied a b ∙ ap (same_kind a) (sym h) ∙ sym (kind_of_emptied a a) ∙ same_kind_self a

-- rows of one kind are one without their places
pub emptied_of_kind : (a b : Row) → same_kind a b ≡ true → emptied a ≡ emptied b
emptied_of_kind (Struct a fs) (Struct b gs) h = ap (λ class. Struct class []) (eqb-true a b h)
emptied_of_kind (Map a is) (Map b js) h = ap (λ home. Map home []) (home_is a b h)
emptied_of_kind (Array a us) (Array b vs) h = ap (λ home. Array home []) (home_is a b h)
emptied_of_kind (Set a is) (Set b js) h = ap (λ home. Set home []) (home_is a b h)
emptied_of_kind a b h = absurd cc

-- being of one kind holds both ways round
pub same_kind_sym : (a b : Row) → same_kind a b ≡ true → same_kind b a ≡ true
same_kind_sym a b h = kind_emptied b a (sym (emptied_of_kind a b h))

-- rows of the kind of a row between them are of one kind
pub same_kind_trans : (a b c : Row) → same_kind a b ≡ true → same_kind b c ≡ true → same_kind a c ≡ true
same_kind_trans a b c h k = kind_emptied a c (emptied_of_kind a b h ∙ emptied_of_kind b c k)

-- the kind of a number that has a row
pub kind_of : (rows : List RowEntry) (n : ℕ) (r : Row) → row_at rows n ≡ Some r → kind_in rows n ≡ emptied r
kind_of rows n r is = ap (λ o. option_map_or emptied o (Struct 0 [])) is
