-- What reading a request gives of what a target and a body ask for.
use Rattle.std.specs.Prelude.{◌≡◌, ◌<◌, ◌⊎◌, ◌||◌, ◌&&◌, ◌==◌, ℕ, Bool, true, false, List, length, nat_lt, Option, None, Result, Ok, Err, IsOk, IsTrue, is_some, ⊤}
use Rattle.std.specs.List.{list_any}
use Rattle.hub_model.specs.declared.request.AskFault.{AskFault}
use Rattle.hub_model.specs.declared.request.AskFault.TheVariants.{BadPayload, Memory}
use Rattle.hub_model.specs.declared.request.Decision.{Decision}
use Rattle.hub_model.specs.declared.request.Decision.TheVariants.{Refuse}
use Rattle.hub_model.specs.declared.request.Method.{Method}
use Rattle.hub_model.specs.declared.request.Request.{Request}
use Rattle.hub_model.specs.Requests.{asked_of}
use Rattle.matchmaker.specs.Bodies.{can_be_read, said_by}

-- a target with a '%'
abbrev pub has_escape : List ℕ → Bool
has_escape = list_any (λ b. b == 37)

-- memory is taken for something: an escape, or a body that isn't empty
abbrev pub takes_memory : List ℕ → List ℕ → Bool
takes_memory target body = has_escape target || nat_lt 0 (length body)

-- exactly the request, or the first point by which there is none; or out of memory, where the target asks for something and the
-- body can be read, and there is a request or an escape or a body to read
abbrev pub GivesRequest : List ℕ → List ℕ → Result Request AskFault → Result Request AskFault → Type 0
GivesRequest target body (Ok q) there = there ≡ Ok q
GivesRequest target body (Err Memory) there = IsTrue (is_some (asked_of target) && can_be_read body) × (IsOk there ⊎ IsTrue (takes_memory target body))
GivesRequest target body (Err f) there = there ≡ Err f

-- the same of a name as it stands in a target that asks for something, and a body that can be read
abbrev pub GivesAsked : List ℕ → List ℕ → Result Request AskFault → Result Request AskFault → Type 0
GivesAsked raw body (Ok q) there = there ≡ Ok q
GivesAsked raw body (Err Memory) there = IsOk there ⊎ IsTrue (takes_memory raw body)
GivesAsked raw body (Err f) there = there ≡ Err f

-- the same of what was read, where out of memory comes only once there is a request
abbrev pub GivesFound : Result Request AskFault → Result Request AskFault → Type 0
GivesFound (Ok q) there = there ≡ Ok q
GivesFound (Err Memory) there = IsOk there
GivesFound (Err f) there = there ≡ Err f

-- why a body isn't given
abbrev pub LacksBody : List ℕ → AskFault → Type 0
LacksBody body BadPayload = said_by body ≡ None
LacksBody body Memory = 0 < length body
LacksBody body f = ⊥

-- the request of these parts, or out of memory
abbrev pub MakesRequest : Result Request AskFault → Method → List ℕ → List (List ℕ) → Option (List ℕ) → Type 0
MakesRequest (Ok q) method name criteria token = q ≡ record { method = method; name = name; criteria = criteria; token = token }
MakesRequest (Err Memory) method name criteria token = ⊤
MakesRequest (Err f) method name criteria token = ⊥

-- a request leads to a refusal
abbrev pub is_refusal : Decision → Bool
is_refusal (Refuse code text) = true
is_refusal d = false
