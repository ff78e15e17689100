-- A made load is a schedule: within the limits, with names that are names and numbers that fit.
use Rattle.std.proofs.Common.{◌≡◌, ◌&&◌, ℕ, zero, suc, ◌+◌, ◌*◌, ◌%◌, ◌^◌, ◌<◌, ◌≤◌, Bool, true, false, List, [], ◌∷◌, ◌++◌, Result, Ok, Err, refl, ap, ◌∙◌, arith, cond}
use Rattle.std.specs.Prelude.{◌==◌, ◌/◌, nat_lt, IfOk}
use Rattle.std.specs.List.{list_all}
use Rattle.std.specs.Fmt.{digits}
use Rattle.std.specs.Str.{chars, is_utf8}
use Rattle.std.proofs.lemmas.Bool.{and_from, lt-ltb}
use Rattle.std.proofs.lemmas.Nat.{mod_below}
use lib.Utf8.{encode}
use Rattle.schema_model.specs.Ids.{is_id}
use Rattle.state_model.specs.declared.command.Command.TheVariants.{Put}
use Rattle.lists.specs.declared.memory.Memory.{Memory}
use Rattle.lists.proofs.Passing.{all_append}
use Rattle.hub_model.specs.declared.event.HubEvent.{HubEvent}
use Rattle.hub_model.specs.declared.event.HubEvent.TheVariants.{Lost, Tick}
use Rattle.text_model.specs.declared.schedule.Schedule.{Schedule}
use Rattle.text_model.specs.Acts.{is_field_number, is_ref}
use Rattle.text_model.specs.Events.{is_event, is_number}
use Rattle.text_model.specs.Schedules.{is_schedule}
use Rattle.text_model.specs.SchemaLines.{is_spelled}
use Rattle.text_model.specs.WordForms.{is_text}
use Rattle.schedule_text.proofs.AgainLaws.{law}
use Rattle.load_maker.specs.Again.{MadeIsRead}
use Rattle.load_maker.specs.Generated.{acknowledged, after_move, after_round, again, commanded, conn_before, drawn, dropped_or_returned, game_made, game_schema, generated, gold_given, most_moves, most_players, most_rounds, most_things, next_state, player_row, process_id, reopened, return_id, return_target, returned_in, room_id, round_from, rounds_from, session_id, thing_moved, thing_row, things_moved, token_before, up_to, whole}
use Rattle.load_maker.proofs.NamesFit.{return_is, return_text}

abbrev AreEvents : List HubEvent → Type 0
AreEvents es = list_all is_event es ≡ true

up_events : (f : ℕ → List HubEvent) (n : ℕ) → ((k : ℕ) → k < n → AreEvents (f k)) → AreEvents (up_to f n)
up_events f zero each = refl
up_events f (suc n) each = all_append is_event (up_to f n) (f n) (up_events f n (λ k below. each k (omega (arith, below)))) (each n (omega arith))

one_event : (e : HubEvent) → is_event e ≡ true → AreEvents (e ∷ [])
one_event e h = and_from (is_event e) true h refl

number_fits : (n : ℕ) → n < 2 ^ 64 → is_number n ≡ true
number_fits n h = lt-ltb n (2 ^ 64) h

-- ---- what a round puts

drawn_below : (most s : ℕ) → drawn (suc most) s < suc most
drawn_below most s = mod_below (s / 2 ^ 33) (suc most) (omega arith)

put_fits : (r f n : ℕ) → r < 2 ^ 32 → f < 256 → n < 2 ^ 32 → is_event (commanded (Put r f (whole n))) ≡ true
put_fits r f n row field number =
    and_from (is_ref r) (is_field_number f && nat_lt n (2 ^ 127)) (lt-ltb r (2 ^ 32) row)
    (and_from (is_field_number f) (nat_lt n (2 ^ 127)) (lt-ltb f 256 field) (lt-ltb n (2 ^ 127) (omega (arith, number))))

thing_at : (t f n : ℕ) → t < 200 → f < 2 → n < 1000 → AreEvents (commanded (Put (thing_row t) f (whole n)) ∷ [])
thing_at t f n thing field number =
    one_event (commanded (Put (thing_row t) f (whole n))) (put_fits (thing_row t) f n (omega (arith, thing)) (omega (arith, field)) (omega (arith, number)))

thing_fits : (s : ℕ) → AreEvents (thing_moved s)
thing_fits s =
    let one : ℕ = next_state s in
    let two : ℕ = next_state one in
    thing_at (drawn most_things one) (drawn 2 two) (drawn 1000 (next_state two)) (drawn_below 199 one) (drawn_below 1 two) (drawn_below 999 (next_state two))

gold_at : (p n : ℕ) → p < 8 → n < 100 → AreEvents (commanded (Put (player_row (p + 1)) 1 (whole n)) ∷ [])
gold_at p n player number =
    one_event (commanded (Put (player_row (p + 1)) 1 (whole n))) (put_fits (player_row (p + 1)) 1 n (omega (arith, player)) (omega arith) (omega (arith, number)))

gold_fits : (s : ℕ) → AreEvents (gold_given s)
gold_fits s =
    let one : ℕ = next_state s in gold_at (drawn most_players one) (drawn 100 (next_state one)) (drawn_below 7 one) (drawn_below 99 (next_state one))

-- ---- the first client drops and returns

conn_fits : (k : ℕ) (b : Bool) → k ≤ most_rounds → is_number (cond b 101 (k + 50)) ≡ true
conn_fits k true few = refl
conn_fits k false few = number_fits (k + 50) (omega (arith, few))

reopened_fits : (k : ℕ) → k ≤ most_rounds → is_event (reopened k) ≡ true
reopened_fits k few =
    let target = return_target process_id room_id (session_id 1) (token_before k) in
    and_from (is_number (200 + k)) (is_text target && is_id (return_id k)) (number_fits (200 + k) (omega (arith, few)))
    (and_from (is_text target) (is_id (return_id k)) (return_text k) (return_is k))

acknowledged_fits : (conn : ℕ) → conn < 2 ^ 64 → is_event (acknowledged conn) ≡ true
acknowledged_fits conn h = and_from (is_number conn) true (number_fits conn h) refl

returned_fits : (k : ℕ) → k ≤ most_rounds → AreEvents (returned_in k)
returned_fits k few =
    and_from (is_event (reopened k)) (is_event (acknowledged (200 + k)) && true) (reopened_fits k few) (one_event (acknowledged (200 + k)) (acknowledged_fits (200 + k) (omega (arith, few))))

break_fits : (k : ℕ) → k ≤ most_rounds → AreEvents (dropped_or_returned k)
break_fits k few = by_drop (k % 200 == 100)
  where
    by_return : (b : Bool) → AreEvents (cond b (returned_in k) [])
    by_return true = returned_fits k few
    by_return false = refl

    by_drop : (b : Bool) → AreEvents (cond b (Lost (conn_before k) ∷ []) (cond (k % 200 == 150) (returned_in k) []))
    by_drop true = one_event (Lost (conn_before k)) (conn_fits k (nat_lt k 200) few)
    by_drop false = by_return (k % 200 == 150)

-- ---- rounds

moves_fit : (s : ℕ) → AreEvents (things_moved s)
moves_fit s = up_events (λ n. thing_moved (again after_move n s)) most_moves (λ n below. thing_fits (again after_move n s))

round_fits : (k s : ℕ) → k ≤ most_rounds → AreEvents (round_from k s)
round_fits k s few =
    let gold : ℕ = again after_move most_moves s in
    let tick : List HubEvent = Tick room_id ∷ [] in
    and_from (is_number (50 * k)) (list_all is_event (things_moved s ++ (gold_given gold ++ (dropped_or_returned k ++ tick)))) (number_fits (50 * k) (omega (arith, few)))
    (all_append is_event (things_moved s) (gold_given gold ++ (dropped_or_returned k ++ tick)) (moves_fit s)
    (all_append is_event (gold_given gold) (dropped_or_returned k ++ tick) (gold_fits gold) (all_append is_event (dropped_or_returned k) tick (break_fits k few) refl)))

-- ---- what stands before the rounds

game_fits : AreEvents game_made
unfolding digits is_utf8 chars encode
game_fits = refl

schema_fits : is_spelled game_schema ≡ true
schema_fits = refl

pub made_fits : (seed rounds : ℕ) → rounds ≤ most_rounds → is_schedule (generated seed rounds) ≡ true
made_fits seed rounds few =
    let rest : List HubEvent = rounds_from seed rounds in
    and_from (is_spelled game_schema) (list_all is_event (game_made ++ rest)) schema_fits
    (all_append is_event game_made rest game_fits (up_events (λ n. round_from (n + 1) (again after_round n seed)) rounds (λ n below. round_fits (n + 1) (again after_round n seed) (omega (arith, below, few)))))

pub made_read : MadeIsRead
made_read seed rounds few = law (generated seed rounds) (made_fits seed rounds few)

-- what is made is one
pub fits : (seed rounds : ℕ) (r : Result Schedule Memory) → rounds ≤ most_rounds → IfOk r (λ s. s ≡ generated seed rounds) → IfOk r (λ s. is_schedule s ≡ true)
fits seed rounds (Ok s) few is = ap is_schedule is ∙ made_fits seed rounds few
fits seed rounds (Err e) few is = tt
