-- Targets of openings: examples worked out by hand.
use Rattle.std.proofs.Common.{◌≡◌, ℕ, List, [], ◌∷◌, Option, Some, None, map, refl, codes}
use Rattle.hub_model.specs.declared.request.Opening.{Opening}
use Rattle.hub_model.specs.Openings.{read_target}

abbrev opening : Option (List ℕ) → Option Opening
opening token = Some (record { process = codes "process01"; room = codes "room00001"; session = codes "session01"; token = token })

an_opening_has_a_session : read_target (codes "/process01/room00001?sessionId=session01") ≡ opening None
an_opening_has_a_session = refl

and_may_have_a_token :
    map read_target (codes "/process01/room00001?sessionId=session01&reconnectionToken=token0001" ∷ codes "/process01/room00001?reconnectionToken=token0001&sessionId=session01" ∷ [])
    ≡ opening (Some (codes "token0001")) ∷ opening (Some (codes "token0001")) ∷ []
and_may_have_a_token = refl

other_keys_and_later_ones_are_ignored :
    map read_target (codes "/process01/room00001?x&sessionId=session01&y=1&=&sessionId=other" ∷ codes "/process01/room00001?sessionId=session01&&reconnectionToken=token0001&reconnectionToken=" ∷ [])
    ≡ opening None ∷ opening (Some (codes "token0001")) ∷ []
other_keys_and_later_ones_are_ignored = refl

other_targets_open_nothing :
    map read_target (codes "/process01/room00001" ∷ codes "/process01/room00001?" ∷ codes "/process01/room00001?sessionId" ∷ codes "/process01/room00001?sessionId=short" ∷ codes "/process01/room00001?sessionId=session01&reconnectionToken"
    ∷ codes "/process01/room00001?sessionId=session0%31" ∷ codes "/process01/room00001?sessionId=other&sessionId=session01" ∷ codes "/process01/room0001?sessionId=session01" ∷ codes "/process1/room00001?sessionId=session01"
    ∷ codes "/process01/room00001/?sessionId=session01" ∷ codes "process01/room00001?sessionId=session01" ∷ codes "/process 1/room00001?sessionId=session01" ∷ [])
    ≡ None ∷ None ∷ None ∷ None ∷ None ∷ None ∷ None ∷ None ∷ None ∷ None ∷ None ∷ None ∷ []
other_targets_open_nothing = refl
