-- Requests for a seat: what a target and a body say, and the first point by which they are none. After Colyseus 0.16.
use Rattle.std.specs.Prelude.{ℕ, ◌&&◌, ◌==◌, not, List, [], ◌∷◌, ◌++◌, map, length, Option, Some, None, Result, Ok, Err, codes, nat_lt, if◌then◌else◌}
use Rattle.std.specs.List.{find, list_any}
use Rattle.std.specs.Option.{option_map_or}
use Rattle.std.specs.Str.{bytes_eq, is_utf8}
use Rattle.percent_encoding.specs.Percent.{percent_decode}
use Rattle.room_model.specs.declared.definition.RoomDef.{RoomDef}
use Rattle.hub_model.specs.declared.request.Method.{Method}
use Rattle.hub_model.specs.declared.request.Method.TheVariants.{JoinOrCreate, Create, Join, JoinById, Reconnect}
use Rattle.hub_model.specs.declared.request.Request.{Request}
use Rattle.hub_model.specs.declared.request.AskFault.{AskFault}
use Rattle.hub_model.specs.declared.request.AskFault.TheVariants.{NoMethod, BadPayload, NoHandler}

-- ---- texts

-- what is behind a prefix, where a text begins with it
abbrev pub after_prefix : List ℕ → List ℕ → Option (List ℕ)
after_prefix [] t = Some t
after_prefix (x ∷ xs) [] = None
after_prefix (x ∷ xs) (y ∷ ys) = if x == y then after_prefix xs ys else None

-- a text up to the first byte that is this one
abbrev pub up_to : ℕ → List ℕ → List ℕ
up_to b [] = []
up_to b (x ∷ xs) = if x == b then [] else x ∷ up_to b xs

-- ---- a target

abbrev pub method_word : Method → List ℕ
method_word JoinOrCreate = codes "joinOrCreate"
method_word Create = codes "create"
method_word Join = codes "join"
method_word JoinById = codes "joinById"
method_word Reconnect = codes "reconnect"

abbrev pub methods : List Method
methods = JoinOrCreate ∷ Create ∷ Join ∷ JoinById ∷ Reconnect ∷ []

-- a method with the name that it is asked for
abbrev pub Asked : Type 0
Asked = Method × List ℕ

-- a name as it stands in a target has a byte at least and no slash, and is a text where its escapes are read
abbrev pub name_of : List ℕ → Option (List ℕ)
name_of raw =
    if nat_lt 0 (length raw) && (not (list_any (λ b. b == 47) raw) && is_utf8 (percent_decode raw)) then Some (percent_decode raw) else None

-- what a target asks for by a method: it is '/matchmake/METHOD/NAME', with any query
abbrev pub named_by : Method → List ℕ → Option (List ℕ)
named_by m target = option_map_or name_of (after_prefix (codes "/matchmake/" ++ (method_word m ++ codes "/")) (up_to 63 target)) None

-- and by whichever
abbrev pub first_asked : List Method → List ℕ → Option Asked
first_asked [] target = None
first_asked (m ∷ ms) target = option_map_or (λ name. Some (m, name)) (named_by m target) (first_asked ms target)

abbrev pub asked_of : List ℕ → Option Asked
asked_of = first_asked methods

-- ---- a body, as far as a request looks at it

-- the value of a member, as compact JSON text
pub record Member : Type 0 where
  pub key : List ℕ
  pub text : List ℕ

-- an object's members, no two of one key, and its reconnection token, where it has one of nine id characters
pub record Said : Type 0 where
  pub members : List Member
  pub token : Option (List ℕ)

-- the text of a key's value; the empty one where it is absent
abbrev pub said_of : List Member → List ℕ → List ℕ
said_of ms key = option_map_or (λ (m : Member). m.text) (find (λ (m : Member). bytes_eq m.key key) ms) []

-- ---- a request

-- the definition of a name
abbrev pub def_of : List RoomDef → List ℕ → Option RoomDef
def_of defs name = find (λ (d : RoomDef). bytes_eq d.name name) defs

abbrev pub handled : Method → List ℕ → List Member → Option RoomDef → Result Request AskFault
handled m name ms None = Err NoHandler
handled m name ms (Some def) = Ok (record { method = m; name = name; criteria = map (said_of ms) def.filter; token = None })

abbrev pub returning : List ℕ → Option (List ℕ) → Result Request AskFault
returning name None = Err BadPayload
returning name (Some token) = Ok (record { method = Reconnect; name = name; criteria = []; token = Some token })

-- what a method and a body ask for
abbrev pub request_of : List RoomDef → Method → List ℕ → Said → Result Request AskFault
request_of defs JoinById name said = Ok (record { method = JoinById; name = name; criteria = []; token = None })
request_of defs Reconnect name said = returning name said.token
request_of defs m name said = handled m name said.members (def_of defs name)

-- a body that is no object, or has numbers that are none, says nothing
abbrev pub with_body : List RoomDef → Asked → Option Said → Result Request AskFault
with_body defs asked None = Err BadPayload
with_body defs asked (Some said) = request_of defs asked.0 asked.1 said

-- what a target and a body ask for, or the first point by which they ask for nothing
abbrev pub asks : List RoomDef → Option Asked → Option Said → Result Request AskFault
asks defs None said = Err NoMethod
asks defs (Some asked) said = with_body defs asked said

abbrev pub read_request : List RoomDef → List ℕ → Option Said → Result Request AskFault
read_request defs target said = asks defs (asked_of target) said
