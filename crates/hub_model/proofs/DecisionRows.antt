-- What requests lead to, and the replies: examples worked out by hand.
use Rattle.std.proofs.Common.{◌≡◌, ℕ, true, false, List, [], ◌∷◌, ◌++◌, Option, Some, None, map, refl, codes}
use Rattle.std.specs.Fmt.{digits}
use Rattle.room_model.specs.declared.definition.RoomDef.{RoomDef}
use Rattle.hub_model.specs.declared.request.Method.{Method}
use Rattle.hub_model.specs.declared.request.Method.TheVariants.{JoinOrCreate, Create, Join, JoinById, Reconnect}
use Rattle.hub_model.specs.declared.request.Request.{Request}
use Rattle.hub_model.specs.declared.request.Listing.{Listing}
use Rattle.hub_model.specs.declared.request.Decision.{Decision}
use Rattle.hub_model.specs.declared.request.Decision.TheVariants.{Refuse, Join as Joins, Make, Return}
use Rattle.hub_model.specs.Decisions.{decide}
use Rattle.hub_model.specs.Replies.{refusal_reply, seat_reply}

abbrev solo : RoomDef
solo = record { name = codes "solo"; max = 1; seat = 15000; patch = 50; keep = 0; filter = [] }

abbrev duel : RoomDef
duel = record { name = codes "duel"; max = 2; seat = 15000; patch = 50; keep = 0; filter = codes "mode" ∷ [] }

-- a room of the second definition
abbrev room : List ℕ → List ℕ → Listing
room id mode = record { id = id; def = 1; locked = false; in_use = 1; max = 2; criteria = mode ∷ [] }

-- one of the first, a full one, a locked one, and two that are open
abbrev rooms : List Listing
rooms =
    record { id = codes "room00000"; def = 0; locked = false; in_use = 0; max = 1; criteria = [] }
    ∷ record { id = codes "room00001"; def = 1; locked = false; in_use = 2; max = 2; criteria = codes "1" ∷ [] }
    ∷ record { id = codes "room00002"; def = 1; locked = true; in_use = 0; max = 2; criteria = codes "1" ∷ [] }
    ∷ room (codes "room00003") (codes "1") ∷ room (codes "room00004") (codes "1") ∷ room (codes "room00005") [] ∷ []

abbrev asks : Method → List ℕ → List (List ℕ) → Request
asks m name criteria = record { method = m; name = name; criteria = criteria; token = None }

abbrev leads : Method → List ℕ → List (List ℕ) → Decision
leads m name criteria = decide (solo ∷ duel ∷ []) rooms (asks m name criteria) None

the_oldest_open_room_is_joined : leads JoinOrCreate (codes "duel") (codes "1" ∷ []) ∷ leads Join (codes "duel") (codes "1" ∷ []) ∷ leads Join (codes "solo") [] ∷ [] ≡ Joins 3 ∷ Joins 3 ∷ Joins 0 ∷ []
the_oldest_open_room_is_joined = refl

absent_and_null_differ : map (λ c. leads JoinOrCreate (codes "duel") (c ∷ [])) ([] ∷ codes "null" ∷ codes "2" ∷ []) ≡ Joins 5 ∷ Make 1 ∷ Make 1 ∷ []
absent_and_null_differ = refl

a_new_room_is_made : leads Create (codes "duel") (codes "1" ∷ []) ∷ leads Create (codes "solo") [] ∷ [] ≡ Make 1 ∷ Make 0 ∷ []
a_new_room_is_made = refl

no_room_meets : leads Join (codes "duel") (codes "2" ∷ []) ≡ Refuse 4211 (codes "no room meets the criteria")
no_room_meets = refl

a_room_by_its_id : map (λ id. leads JoinById id []) (codes "room00003" ∷ codes "room00002" ∷ codes "room00001" ∷ codes "nope" ∷ [])
    ≡ Joins 3 ∷ Refuse 4212 (codes "room room00002 is locked") ∷ Refuse 4212 (codes "room room00001 is locked") ∷ Refuse 4212 (codes "room nope not found") ∷ []
a_room_by_its_id = refl

abbrev returns : List ℕ → Option (List ℕ) → Decision
returns id kept = decide (solo ∷ duel ∷ []) rooms (record { method = Reconnect; name = id; criteria = []; token = Some (codes "ttttttttt") }) kept

a_kept_seat_by_its_token : returns (codes "room00002") (Some (codes "sssssssss")) ∷ returns (codes "room00002") None ∷ returns (codes "nope") None ∷ returns (codes "nope") (Some (codes "sssssssss")) ∷ []
    ≡ Return 2 (codes "sssssssss") ∷ Refuse 4214 (codes "seat expired") ∷ Refuse 4212 (codes "room nope not found") ∷ Refuse 4212 (codes "room nope not found") ∷ []
a_kept_seat_by_its_token = refl

-- ---- replies

a_seat_is_told : seat_reply 1 2 (codes "du\"el") (codes "process01") (codes "room00001") (codes "session01")
    ≡ codes "{\"room\":{\"clients\":1,\"maxClients\":2,\"name\":\"du\\\"el\",\"processId\":\"process01\",\"roomId\":\"room00001\"},\"sessionId\":\"session01\"}"
unfolding digits
a_seat_is_told = refl

a_refusal_is_told : refusal_reply 4212 (codes "room nope not found") ≡ codes "{\"code\":4212,\"error\":\"room nope not found\"}"
unfolding digits
a_refusal_is_told = refl

bytes_are_escaped : refusal_reply 4210 (10 ∷ 9 ∷ 31 ∷ 92 ∷ 127 ∷ 195 ∷ 169 ∷ []) ≡ codes "{\"code\":4210,\"error\":\"\\n\\t\\u001f\\\\" ++ (127 ∷ 195 ∷ 169 ∷ []) ++ codes "\"}"
unfolding digits
bytes_are_escaped = refl
