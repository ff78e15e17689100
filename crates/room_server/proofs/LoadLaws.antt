-- The generated schedule can be replayed.
use Rattle.std.proofs.Common.{◌≡◌, ◌&&◌, ℕ, zero, suc, ◌+◌, ◌%◌, Bool, true, false, List, [], ◌∷◌, ◌++◌, refl, cond}
use Rattle.std.specs.Prelude.{◌==◌}
use Rattle.std.specs.List.{list_all}
use Rattle.std.proofs.lemmas.Bool.{and_from}
use Rattle.hub_core.specs.Held.{may_take}
use Rattle.hub_model.specs.declared.event.HubEvent.{HubEvent}
use Rattle.hub_model.specs.declared.event.HubEvent.TheVariants.{Lost, Tick}
use Rattle.schema_model.specs.Ids.{is_id}
use Rattle.load_maker.specs.Generated.{after_move, after_round, again, conn_before, dropped_or_returned, game_made, generated, gold_given, most_moves, most_players, most_things, player_made, return_id, returned_in, room_id, root_made, round_from, rounds_from, seat_of, session_id, thing_made, thing_moved, things_moved, token_id, up_to}
use Rattle.load_maker.proofs.NamesFit.{return_is, session_is, token_is}
use Rattle.room_server.specs.Replays.{CanReplay}

-- ---- lists of events that are taken

abbrev Taken : List HubEvent → Type 0
Taken es = list_all may_take es ≡ true

both_first : (x : HubEvent) (xs ys : List HubEvent) (t : Bool) → may_take x ≡ t → t && list_all may_take xs ≡ true → (list_all may_take xs ≡ true → Taken (xs ++ ys)) → Taken (x ∷ xs ++ ys)
both_first x xs ys true here rest behind = and_from (may_take x) (list_all may_take (xs ++ ys)) here (behind rest)
both_first x xs ys false here rest behind = absurd cc

both_taken : (xs ys : List HubEvent) → Taken xs → Taken ys → Taken (xs ++ ys)
both_taken [] ys a b = b
both_taken (x ∷ xs) ys a b = both_first x xs ys (may_take x) refl a (λ rest. both_taken xs ys rest b)

up_taken : (f : ℕ → List HubEvent) (n : ℕ) → ((k : ℕ) → Taken (f k)) → Taken (up_to f n)
up_taken f zero each = refl
up_taken f (suc n) each = both_taken (up_to f n) (f n) (up_taken f n each) (each n)

-- ---- events

seat_taken : (i : ℕ) → Taken (seat_of i)
seat_taken i = and_from (is_id room_id && is_id (session_id i)) _ (session_is i) (and_from (is_id (token_id i)) true (token_is i) refl)

break_taken : (k : ℕ) → Taken (dropped_or_returned k)
break_taken k = by_drop (k % 200 == 100)
  where
    by_return : (b : Bool) → Taken (cond b (returned_in k) [])
    by_return true = and_from (is_id (return_id k)) true (return_is k) refl
    by_return false = refl

    by_drop : (b : Bool) → Taken (cond b (Lost (conn_before k) ∷ []) (cond (k % 200 == 150) (returned_in k) []))
    by_drop true = refl
    by_drop false = by_return (k % 200 == 150)

round_taken : (k s : ℕ) → Taken (round_from k s)
round_taken k s =
    both_taken (things_moved s) (gold_given (again after_move most_moves s) ++ (dropped_or_returned k ++ Tick room_id ∷ [])) (up_taken (λ n. thing_moved (again after_move n s)) most_moves (λ n. refl))
    (both_taken (gold_given (again after_move most_moves s)) (dropped_or_returned k ++ Tick room_id ∷ []) refl (both_taken (dropped_or_returned k) (Tick room_id ∷ []) (break_taken k) refl))

game_taken : Taken game_made
game_taken =
    both_taken (up_to (λ n. seat_of (n + 1)) most_players) (root_made ++ (up_to (λ n. player_made (n + 1)) most_players ++ up_to thing_made most_things)) (up_taken (λ n. seat_of (n + 1)) most_players (λ n. seat_taken (n + 1)))
    (both_taken root_made (up_to (λ n. player_made (n + 1)) most_players ++ up_to thing_made most_things) refl
    (both_taken (up_to (λ n. player_made (n + 1)) most_players) (up_to thing_made most_things) (up_taken (λ n. player_made (n + 1)) most_players (λ n. refl)) (up_taken thing_made most_things (λ n. refl))))

pub generated_replays : (seed rounds : ℕ) → CanReplay (generated seed rounds)
generated_replays seed rounds = record {
  process = refl;
  defs = refl;
  events = both_taken game_made (rounds_from seed rounds) game_taken (up_taken (λ n. round_from (n + 1) (again after_round n seed)) rounds (λ n. round_taken (n + 1) (again after_round n seed)));
}
