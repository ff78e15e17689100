-- When two values are one: the test of two values, and their equality.
use Rattle.std.proofs.Common.{◌≡◌, ℤ, pos, negsuc, Bool, true, false, refl, sym, ap, arith}
use Rattle.std.specs.Bool.{Decides}
use Rattle.std.proofs.lemmas.Bool.Decides.{nat_tests, same_from_decides}
use Rattle.lists.proofs.SameBytes.{same_bytes, bytes_eq_self}
use Rattle.schema_model.specs.declared.value.Value.{Value}
use Rattle.schema_model.specs.declared.value.Value.TheVariants.{Whole, Str, Truth, Link}
use Rattle.schema_model.specs.Values.{same_whole, same_truth, same_value}

-- whole numbers that the test takes for equal are equal
pub whole_is : (a b : ℤ) → same_whole a b ≡ true → a ≡ b
whole_is (pos a) (pos b) h = ap pos (grind (arith, nat_tests))
whole_is (pos a) (negsuc b) h = cc
whole_is (negsuc a) (pos b) h = cc
whole_is (negsuc a) (negsuc b) h = ap negsuc (grind (arith, nat_tests))

-- a whole number passes the test with itself
pub whole_self : (a : ℤ) → same_whole a a ≡ true
whole_self (pos a) = grind (arith, nat_tests)
whole_self (negsuc a) = grind (arith, nat_tests)

-- the test of whole numbers answers alike both ways round
pub same_whole_sym : (a b : ℤ) → same_whole a b ≡ same_whole b a
same_whole_sym a b = same_from_decides (same_whole a b) (same_whole b a) (whole_is a b, λ e. rw e (whole_self b)) (λ h. sym (whole_is b a h), λ e. rw e (whole_self b))

-- truth values that the test takes for equal are equal
truth_is : (a b : Bool) → same_truth a b ≡ true → a ≡ b
truth_is true true h = refl
truth_is true false h = cc
truth_is false true h = cc
truth_is false false h = refl

-- a truth value passes the test with itself
truth_self : (a : Bool) → same_truth a a ≡ true
truth_self true = refl
truth_self false = refl

-- values that the test takes for equal are equal
pub same_is : (u v : Value) → same_value u v ≡ true → u ≡ v
same_is (Whole a) (Whole b) h = ap Whole (whole_is a b h)
same_is (Str a) (Str b) h = ap Str (same_bytes a b h)
same_is (Truth a) (Truth b) h = ap Truth (truth_is a b h)
same_is (Link a) (Link b) h = ap Link (grind (arith, nat_tests))
same_is u v h = cc

-- a value passes the test with itself
pub same_self : (v : Value) → same_value v v ≡ true
same_self (Whole a) = whole_self a
same_self (Str a) = bytes_eq_self a
same_self (Truth a) = truth_self a
same_self (Link a) = grind (arith, nat_tests)

-- the test decides whether two values are one
pub Decides-same_value : (u v : Value) → Decides (same_value u v) (u ≡ v)
Decides-same_value u v = (same_is u v, λ e. rw e (same_self v))

-- the test answers alike both ways round
pub same_value_sym : (u v : Value) → same_value u v ≡ same_value v u
same_value_sym u v = same_from_decides (same_value u v) (same_value v u) (Decides-same_value u v) (λ h. sym (same_is v u h), λ e. rw e (same_self v))
