-- What a body says: a JSON object, by serde_json's reading of it.
use Rattle.std.specs.Prelude.{ℕ, Bool, ◌||◌, ◌==◌, List, [], ◌∷◌, length, Option, Some, None, codes, if◌then◌else◌, option_and_then}
use Rattle.std.specs.Option.{option_map_or}
use Rattle.std.specs.Str.{is_utf8}
use Rattle.schema_model.specs.Ids.{is_id}
use Rattle.hub_model.specs.Requests.{Member, Said}
use Rattle.serde_json.specs.Data.{Data, Members, no_members, member, object, string}
use Rattle.serde_json.specs.Find.{as_object, get}
use Rattle.serde_json.specs.Read.{read}
use Rattle.serde_json.specs.Written.{compact_text, has_float}
use Rattle.validate.specs.Json.{is_json}

-- the members of an object, each with its compact text
abbrev pub members_said : Members → List Member
members_said no_members = []
members_said (member k d ms) = record { key = k; text = compact_text d } ∷ members_said ms

-- a text of nine id characters
abbrev pub id_said : Data → Option (List ℕ)
id_said (string s) = if is_id s then Some s else None
id_said d = None

-- a reconnection token
abbrev pub token_in : Data → Option (List ℕ)
token_in d = option_and_then id_said (get (codes "reconnectionToken") d)

-- what an object says that has only whole numbers of 64 bits
abbrev pub said_in : Data → Option Members → Option Said
said_in d None = None
said_in d (Some ms) = Some (record { members = members_said ms; token = token_in d })

-- all that an object says
abbrev pub members_in : Data → List Member
members_in d = option_map_or members_said (as_object d) []

abbrev pub all_said : Data → Said
all_said d = record { members = members_in d; token = token_in d }

abbrev pub said_of_data : Data → Option Said
said_of_data d = if has_float d then None else said_in d (as_object d)

-- the JSON value of a body; an empty body is an empty object
abbrev pub data_by : List ℕ → Option Data
data_by body =
    if length body == 0 then Some (object no_members)
    else if is_utf8 body then read body else None

-- what a body says
abbrev pub said_by : List ℕ → Option Said
said_by body = option_and_then said_of_data (data_by body)

-- it can be read: it is empty, or a JSON text
abbrev pub can_be_read : List ℕ → Bool
can_be_read body = (length body == 0) || is_json body
