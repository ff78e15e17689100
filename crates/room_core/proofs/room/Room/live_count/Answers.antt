use Rattle.std.proofs.Common.{◌≡◌, ◌≤◌, ◌<◌, ◌^◌, ◌∙◌, ℕ, ap, arith, length, not, refl, rules, sym}
use Rattle.std.specs.Prelude.{Result, Ok, Err}
use Rattle.std.specs.Result.{OkIff, result_unwrap_or}
use Rattle.std.proofs.lemmas.List.{length-map}
use Rattle.std.proofs.lemmas.List.Filters.{length-filter_both}
use Rattle.room_laws.specs.Ordered.{Ordered}
use Rattle.room_laws.specs.Placed.{entry_tells, session_tells}
use Rattle.room_model.specs.Room.{RoomValue}
use Rattle.room_model.specs.Sessions.{Session}
use Rattle.room_core.specs.Values.{is_live, live_count}
use Rattle.room_core.proofs.room.Room.live_count.Goals as goal

few : (r : RoomValue) → Ordered r → live_count r.sessions ≤ r.seats.max
few r ordered =
    let all = length-filter_both (λ (s : Session). is_live s.stage) (λ s. not (is_live s.stage)) (λ s. refl) r.sessions in
    let same : length r.seats.entries ≡ length r.sessions = sym (length-map r.seats.entries entry_tells) ∙ ap length ordered.placed.alike ∙ length-map r.sessions session_tells in
    omega (arith, all, same, ordered.within)

kept : {E : Type 0} (r : Result ℕ E) (n other limit : ℕ) → OkIff r (n < limit) n → n < limit → result_unwrap_or r other ≡ n
kept (Ok x) n other limit is fits = is.1
kept (Err e) n other limit none fits = absurd (none fits)

pub returns : goal.returns
returns c =
    let live : c.live_among-live.result ≡ live_count c.args.self.now.room.sessions = search rules in
    let fits : c.live_among-live.result < 2 ^ 32 = omega (arith, live, few c.args.self.now.room (rw (← c.self.view_is) c.self.invariant.ordered), c.max.ensures, c.max.type_inv) in
    c.unwrap_or.ensures ∙ (kept c.try_from.result c.live_among-live.result c.max.result (2 ^ 32) c.try_from.ensures fits ∙ live)
