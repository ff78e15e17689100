-- The load that is made: rows worked out by hand and by a second reckoning of the draws.
use Rattle.std.proofs.Common.{◌≡◌, ◌+◌, [], ◌∷◌, map, length, refl, codes}
use Rattle.state_model.specs.declared.command.Command.TheVariants.{Put}
use Rattle.hub_model.specs.declared.event.HubEvent.TheVariants.{Frame, Lost, Opening}
use Rattle.load_maker.specs.Generated.{again, after_move, after_round, commanded, dropped_or_returned, drawn, game_made, gold_given, most_moves, next_state, player_made, return_id, root_made, seat_of, session_id, thing_made, thing_moved, token_id, up_to, whole}

-- a moment, eight clients, the state, eight players and two hundred things
the_game_takes_909_events : length game_made ≡ 909
the_game_takes_909_events = refl

of_which_are_seats : length (up_to (λ n. seat_of (n + 1)) 8) ≡ 24
of_which_are_seats = refl

of_which_is_the_state : length root_made ≡ 4
of_which_is_the_state = refl

of_which_are_players : length (up_to (λ n. player_made (n + 1)) 8) ≡ 80
of_which_are_players = refl

of_which_are_things : length (up_to thing_made 200) ≡ 800
of_which_are_things = refl

-- the first three states that are drawn from 1, and their numbers
states_from_one : map (λ n. again next_state n 1) (1 ∷ 2 ∷ 3 ∷ []) ≡ 7806831264735756412 ∷ 9396908728118811419 ∷ 11960119808228829710 ∷ []
states_from_one = refl

draws_from_one : drawn 200 7806831264735756412 ∷ drawn 2 9396908728118811419 ∷ drawn 1000 11960119808228829710 ∷ [] ≡ 174 ∷ 1 ∷ 196 ∷ []
draws_from_one = refl

-- the first two moves of a round and its last one, and the gold behind them
moves_from_one :
    map (λ n. thing_moved (again after_move n 1)) (0 ∷ 1 ∷ 19 ∷ []) ≡ (commanded (Put 201 1 (whole 196)) ∷ []) ∷ (commanded (Put 97 0 (whole 795)) ∷ []) ∷ (commanded (Put 182 1 (whole 830)) ∷ []) ∷ []
moves_from_one = refl

gold_from_one : gold_given (again after_move most_moves 1) ≡ commanded (Put 6 1 (whole 62)) ∷ []
unfolding most_moves
gold_from_one = refl

-- the next round goes on from there
the_next_round_from_one : after_round 1 ≡ 11732042149312950327
unfolding most_moves
the_next_round_from_one = refl

-- ---- names

names_are_nine_bytes : session_id 8 ∷ token_id 1 ∷ return_id 9950 ∷ [] ≡ codes "sess00008" ∷ codes "tok000001" ∷ codes "ret009950" ∷ []
names_are_nine_bytes = refl

-- ---- the first client drops and returns

most_rounds_have_neither : map dropped_or_returned (1 ∷ 99 ∷ 101 ∷ 149 ∷ 151 ∷ 200 ∷ 10000 ∷ []) ≡ [] ∷ [] ∷ [] ∷ [] ∷ [] ∷ [] ∷ [] ∷ []
most_rounds_have_neither = refl

drops : map dropped_or_returned (100 ∷ 300 ∷ 500 ∷ []) ≡ (Lost 101 ∷ []) ∷ (Lost 350 ∷ []) ∷ (Lost 550 ∷ []) ∷ []
drops = refl

-- a return is made with the token that the one before it drew
returns :
    map dropped_or_returned (150 ∷ 350 ∷ [])
    ≡ (Opening 350 (codes "/proc00001/room00001?sessionId=sess00001&reconnectionToken=tok000001") (codes "ret000150") ∷ Frame 350 (10 ∷ []) ∷ [])
    ∷ (Opening 550 (codes "/proc00001/room00001?sessionId=sess00001&reconnectionToken=ret000150") (codes "ret000350") ∷ Frame 550 (10 ∷ []) ∷ [])
    ∷ []
returns = refl
