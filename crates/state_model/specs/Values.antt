-- Values of places: what they hold, and how much text they are; when two are equal stands with values.
use Rattle.std.specs.Prelude.{ℕ, Bool, true, false, List, [], ◌∷◌, length}
use Rattle.schema_model.specs.declared.value.Value.{Value}
use Rattle.schema_model.specs.declared.value.Value.TheVariants.{Str, Link}
pub use Rattle.schema_model.specs.Values.{same_whole, same_truth, same_value}

-- the number of the row that a value holds
abbrev pub held_by : Value → List ℕ
held_by (Link n) = n ∷ []
held_by v = []

-- a value is a link
abbrev pub is_link : Value → Bool
is_link (Link n) = true
is_link v = false

-- how many bytes of text a value is
abbrev pub text_size : Value → ℕ
text_size (Str t) = length t
text_size v = 0
