-- The targets of openings.
use Rattle.std.specs.Prelude.{ℕ, ◌==◌, List, [], ◌∷◌, Option, Some, None, take, drop, codes, if◌then◌else◌, option_and_then}
use Rattle.std.specs.List.{find}
use Rattle.std.specs.Option.{option_map}
use Rattle.std.specs.Str.{bytes_eq}
use Rattle.schema_model.specs.Ids.{is_id}
use Rattle.hub_model.specs.Requests.{after_prefix, up_to}
use Rattle.hub_model.specs.declared.request.Opening.{Opening}

-- ---- a query

-- a byte before the first piece
abbrev pub grown : ℕ → List (List ℕ) → List (List ℕ)
grown x [] = (x ∷ []) ∷ []
grown x (p ∷ ps) = (x ∷ p) ∷ ps

-- the pieces between the bytes that are this one
abbrev pub pieces : ℕ → List ℕ → List (List ℕ)
pieces b [] = [] ∷ []
pieces b (x ∷ xs) = if x == b then [] ∷ pieces b xs else grown x (pieces b xs)

-- what is behind the first byte that is this one; nothing where there is none
abbrev pub behind : ℕ → List ℕ → List ℕ
behind b [] = []
behind b (x ∷ xs) = if x == b then xs else behind b xs

-- the value of a key: that of the first piece of its name, and the empty one of a piece without '='
abbrev pub value_of : List ℕ → List (List ℕ) → Option (List ℕ)
value_of key ps = option_map (behind 61) (find (λ p. bytes_eq (up_to 61 p) key) ps)

-- ---- a target

-- an id before a text, and what is behind it
abbrev pub id_first : List ℕ → Option (List ℕ × List ℕ)
id_first t = if is_id (take 9 t) then Some (take 9 t, drop 9 t) else None

-- a session, and a token or none, with the ids before them
abbrev pub with_session : List ℕ → List ℕ → Option (List ℕ) → List ℕ → Option Opening
with_session process room None session = Some (record { process = process; room = room; session = session; token = None })
with_session process room (Some token) session =
    if is_id token then Some (record { process = process; room = room; session = session; token = Some token }) else None

-- the first session and the first token of a query
abbrev pub with_query : List ℕ → List ℕ → List (List ℕ) → Option Opening
with_query process room ps =
    option_and_then (λ session. if is_id session then with_session process room (value_of (codes "reconnectionToken") ps) session else None) (value_of (codes "sessionId") ps)

abbrev pub with_room : List ℕ → List ℕ × List ℕ → Option Opening
with_room process room = option_and_then (λ query. with_query process room.0 (pieces 38 query)) (after_prefix (codes "?") room.1)

abbrev pub with_process : List ℕ × List ℕ → Option Opening
with_process process = option_and_then (with_room process.0) (option_and_then id_first (after_prefix (codes "/") process.1))

-- what a target opens: it is '/PROCESS/ROOM?QUERY'
abbrev pub read_target : List ℕ → Option Opening
read_target target = option_and_then with_process (option_and_then id_first (after_prefix (codes "/") target))
