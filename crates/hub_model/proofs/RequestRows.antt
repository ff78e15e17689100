-- What targets and bodies ask for: examples worked out by hand.
use Rattle.std.proofs.Common.{◌≡◌, ℕ, List, [], ◌∷◌, Option, Some, None, Result, Ok, Err, map, refl, codes}
use Rattle.room_model.specs.declared.definition.RoomDef.{RoomDef}
use Rattle.hub_model.specs.declared.request.Method.TheVariants.{JoinOrCreate, Create, Join, JoinById, Reconnect}
use Rattle.hub_model.specs.declared.request.Request.{Request}
use Rattle.hub_model.specs.declared.request.AskFault.{AskFault}
use Rattle.hub_model.specs.declared.request.AskFault.TheVariants.{NoMethod, BadPayload, NoHandler}
use Rattle.hub_model.specs.Requests.{Said, asked_of, read_request}
use Rattle.frame_model.proofs.Opened.{reading}
use Rattle.percent_encoding.specs.Percent.{percent_decode}

-- ---- targets

each_method_is_asked_for :
    map asked_of (codes "/matchmake/joinOrCreate/duel" ∷ codes "/matchmake/create/duel" ∷ codes "/matchmake/join/duel" ∷ codes "/matchmake/joinById/duel" ∷ codes "/matchmake/reconnect/duel" ∷ [])
    ≡ map (λ m. Some (m, codes "duel")) (JoinOrCreate ∷ Create ∷ Join ∷ JoinById ∷ Reconnect ∷ [])
unfolding reading percent_decode
each_method_is_asked_for = refl

a_query_is_no_part_of_a_name : map asked_of (codes "/matchmake/join/duel?a=1" ∷ codes "/matchmake/join/duel?" ∷ codes "/matchmake/join/d?/u" ∷ []) ≡ Some (Join, codes "duel") ∷ Some (Join, codes "duel") ∷ Some (Join, codes "d") ∷ []
unfolding reading percent_decode
a_query_is_no_part_of_a_name = refl

escapes_are_read : map asked_of (codes "/matchmake/join/%41b%2Fc" ∷ codes "/matchmake/join/a%2" ∷ codes "/matchmake/join/a%zz" ∷ codes "/matchmake/join/%c3%A9" ∷ [])
    ≡ Some (Join, codes "Ab/c") ∷ Some (Join, codes "a%2") ∷ Some (Join, codes "a%zz") ∷ Some (Join, 195 ∷ 169 ∷ []) ∷ []
unfolding reading percent_decode
escapes_are_read = refl

other_targets_ask_for_nothing :
    map asked_of (codes "/matchmake/swap/duel" ∷ codes "/matchmake/join/" ∷ codes "/matchmake/join" ∷ codes "/matchmake/join/a/b" ∷ codes "/matchmake/join/a/" ∷ codes "/matchmake/join/%ff" ∷ codes "matchmake/join/a"
    ∷ codes "/matchmake//a" ∷ codes "/Matchmake/join/a" ∷ codes "/matchmake/join/?a" ∷ [] ∷ [])
    ≡ None ∷ None ∷ None ∷ None ∷ None ∷ None ∷ None ∷ None ∷ None ∷ None ∷ None ∷ []
unfolding reading percent_decode
other_targets_ask_for_nothing = refl

-- ---- requests

abbrev duel : RoomDef
duel = record { name = codes "duel"; max = 2; seat = 15000; patch = 50; keep = 0; filter = codes "mode" ∷ codes "map" ∷ [] }

-- a body that says a mode and a level, and no map
abbrev mode : Said
mode = record { members = record { key = codes "level"; text = codes "7" } ∷ record { key = codes "mode"; text = codes "\"a\"" } ∷ []; token = None }

abbrev empty : Said
empty = record { members = []; token = None }

abbrev nothing : Said
nothing = record { members = record { key = codes "map"; text = codes "null" } ∷ []; token = None }

abbrev back : Said
back = record { members = []; token = Some (codes "aaaaaaaaa") }

abbrev asks_for : List ℕ → Option Said → Result Request AskFault
asks_for target said = read_request (duel ∷ []) target said

criteria_are_those_of_the_filter : map (λ s. asks_for (codes "/matchmake/join/duel") (Some s)) (mode ∷ empty ∷ nothing ∷ [])
    ≡ map (λ criteria. Ok (record { method = Join; name = codes "duel"; criteria = criteria; token = None })) ((codes "\"a\"" ∷ [] ∷ []) ∷ ([] ∷ [] ∷ []) ∷ ([] ∷ codes "null" ∷ []) ∷ [])
unfolding reading percent_decode
criteria_are_those_of_the_filter = refl

an_id_needs_no_definition : asks_for (codes "/matchmake/joinById/nope") (Some mode) ≡ Ok (record { method = JoinById; name = codes "nope"; criteria = []; token = None })
unfolding reading percent_decode
an_id_needs_no_definition = refl

a_return_has_a_token : map (asks_for (codes "/matchmake/reconnect/nope")) (Some back ∷ Some empty ∷ None ∷ [])
    ≡ Ok (record { method = Reconnect; name = codes "nope"; criteria = []; token = Some (codes "aaaaaaaaa") }) ∷ Err BadPayload ∷ Err BadPayload ∷ []
unfolding reading percent_decode
a_return_has_a_token = refl

the_first_point_counts :
    asks_for (codes "/matchmake/swap/duel") None ∷ asks_for (codes "/matchmake/join/none") None ∷ asks_for (codes "/matchmake/join/none") (Some empty) ∷ asks_for (codes "/matchmake/create/Duel") (Some empty) ∷ []
    ≡ Err NoMethod ∷ Err BadPayload ∷ Err NoHandler ∷ Err NoHandler ∷ []
unfolding reading percent_decode
the_first_point_counts = refl
