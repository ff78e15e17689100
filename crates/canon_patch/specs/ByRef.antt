-- The operations on a filtered array as they are told, value by value.
use Rattle.std.specs.Prelude.{◌≡◌, ℕ, Bool, true, false, List, [], ◌∷◌, map, Option, Some, None, option_and_then, if◌then◌else◌}
use Rattle.schema_model.specs.declared.value.Value.{Value}
use Rattle.schema_model.specs.declared.value.Value.TheVariants.{Link}
use Rattle.state_model.specs.declared.row.RowEntry.{RowEntry}
use Rattle.state_model.specs.declared.place.Expected.{Expected}
use Rattle.state_model.specs.Reached.{is_among}
use Rattle.state_model.specs.Values.{same_value}
use Rattle.wire_model.specs.declared.op.Op.{Op}
use Rattle.wire_model.specs.Edits.{AddByRef, encoded}
use Rattle.wire_model.specs.Patch.{carried, drop_edit, stands_in}

-- the numbers are those to which the values link
abbrev pub AreLinksOf : List Value → List ℕ → Type 0
AreLinksOf values links = (k : ℕ) → is_among k links ≡ stands_in values (Link k)

-- what is left of values that begin with this one
abbrev pub after_first : List Value → Value → Option (List Value)
after_first [] v = None
after_first (u ∷ us) v = if same_value u v then Some us else None

-- what is left of values that begin with these
abbrev pub after_all : List Value → List Value → Option (List Value)
after_all us [] = Some us
after_all us (v ∷ vs) = option_and_then (λ rest. after_all rest vs) (after_first us v)

-- nothing is left
abbrev pub is_ended : Option (List Value) → Bool
is_ended None = false
is_ended (Some []) = true
is_ended (Some (v ∷ vs)) = false

-- DELETE_BY_REFID of a link that went
abbrev pub gone_encoded : List Value → Value → List Op
gone_encoded others v = if stands_in others v then [] else map encoded (drop_edit v)

-- ADD_BY_REFID of a value
abbrev pub push_encoded : List RowEntry → Option Expected → Value → Op
push_encoded rows expected v = encoded (AddByRef (carried rows expected v))

-- ADD_BY_REFID of a value that came
abbrev pub come_encoded : List RowEntry → Option Expected → List Value → Value → List Op
come_encoded rows expected others v = if stands_in others v then [] else push_encoded rows expected v ∷ []
