-- When two values are equal.
use Rattle.std.specs.Prelude.{Bool, true, false, ℤ, pos, negsuc, ◌==◌}
use Rattle.std.specs.Str.{bytes_eq}
use Rattle.schema_model.specs.declared.value.Value.{Value}
use Rattle.schema_model.specs.declared.value.Value.TheVariants.{Whole, Str, Truth, Link}

-- two whole numbers are equal
abbrev pub same_whole : ℤ → ℤ → Bool
same_whole (pos a) (pos b) = a == b
same_whole (negsuc a) (negsuc b) = a == b
same_whole (pos a) (negsuc b) = false
same_whole (negsuc a) (pos b) = false

-- two truth values are equal
abbrev pub same_truth : Bool → Bool → Bool
same_truth true b = b
same_truth false true = false
same_truth false false = true

-- two values are equal
abbrev pub same_value : Value → Value → Bool
same_value (Whole a) (Whole b) = same_whole a b
same_value (Str a) (Str b) = bytes_eq a b
same_value (Truth a) (Truth b) = same_truth a b
same_value (Link a) (Link b) = a == b
same_value a b = false
