-- How many places and bytes of text there are after a command.
use Rattle.std.specs.Prelude.{ℕ, ◌+◌, ◌-◌, Bool, ◌&&◌, ◌||◌, not, List, [], ◌∷◌, Option, Some, if◌then◌else◌, is_some, length, nat_le, nat_lt}
use Rattle.schema_model.specs.Classes.{Schema}
use Rattle.schema_model.specs.declared.value.Value.{Value}
use Rattle.state_model.specs.declared.place.Expected.{Expected}
use Rattle.state_model.specs.declared.row.Row.{Row}
use Rattle.state_model.specs.declared.command.Command.{Command}
use Rattle.state_model.specs.declared.row.RowEntry.{RowEntry}
use Rattle.state_model.specs.declared.command.TableFault.{TableFault}
use Rattle.state_model.specs.declared.command.TableFault.TheVariants as fault
use Rattle.state_model.specs.Rows.{values_in}
use Rattle.state_model.specs.State.{rows_limit, places_limit, text_limit, last_number}
use Rattle.state_model.specs.Commands.{adds_place, gives_number, holder_of, is_cycle, is_duplicate, is_long_key, is_long_text, is_no_item, is_past_range, is_present, is_wrong_type, value_put, expected_for}
use Rattle.command_laws.specs.Accounts.{is_clear, key_added, key_taken, one_if, replaced, row_text, text_in_value}

-- places, of so many before
abbrev pub places_after : Command → Row → ℕ → ℕ
places_after c row places =
    if is_clear c then places - length (values_in row) else places + one_if (is_some (value_put c)) - one_if (is_some (replaced c row))

-- bytes of text after a command that changes one place, of so many before
abbrev pub text_of_place : Command → Row → ℕ → ℕ
text_of_place c row text = text + text_in_value (value_put c) + key_added c row - (text_in_value (replaced c row) + key_taken c row)

-- bytes of text, of so many before
abbrev pub text_after : Command → Row → ℕ → ℕ
text_after c row text = if is_clear c then text - row_text row else text_of_place c row text

-- there would be too many bytes of text: a set's value that is there isn't put
abbrev pub is_text_full : Command → Row → ℕ → Bool
is_text_full c row text = is_some (value_put c) && not (is_present c (Some row)) && nat_lt text_limit (text_of_place c row text)

-- ---- causes, in their order, by what the table counts

-- of a command that changes one row: the places and bytes of text before, and the item number that would be next
abbrev pub limit_causes : Command → Row → ℕ → ℕ → ℕ → List (Bool × TableFault)
limit_causes c row places text next =
    (adds_place c (Some row) && nat_le places_limit places, fault.PlacesFull)
    ∷ (is_text_full c row text, fault.TextFull)
    ∷ (is_long_text (value_put c) || is_long_key c, fault.TextTooLong)
    ∷ (gives_number c (Some row) && nat_lt last_number next, fault.NumbersSpent)
    ∷ (is_present c (Some row), fault.Present)
    ∷ []

-- of a value, by what its place is declared to hold
abbrev pub type_causes : Schema → List RowEntry → Option Value → Option Expected → List (Bool × TableFault)
type_causes schema rows value expected =
    (is_wrong_type schema rows value expected, fault.WrongType) ∷ (is_past_range value expected, fault.OutOfRange) ∷ []

-- of what the command puts into a row
abbrev pub value_causes : Schema → List RowEntry → Command → Row → List (Bool × TableFault)
value_causes schema rows c row =
    (is_no_item c (Some row), fault.NoItem) ∷ type_causes schema rows (value_put c) (expected_for schema c (Some row))

-- of the instance that it links to
abbrev pub link_causes : Schema → List RowEntry → Command → Row → List (Bool × TableFault)
link_causes schema rows c row =
    (is_cycle rows (holder_of c) (value_put c), fault.Cycle)
    ∷ (is_duplicate schema c (Some row), fault.Duplicate)
    ∷ []

-- of a command that makes a row
abbrev pub make_causes : ℕ → ℕ → List (Bool × TableFault)
make_causes rows given = (nat_le rows_limit rows, fault.InstancesFull) ∷ (nat_le last_number given, fault.RefsSpent) ∷ []
