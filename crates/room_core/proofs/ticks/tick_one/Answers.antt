use Rattle.std.proofs.Common.{◌≡◌, List, ◌∷◌, ℕ, inr, ap, refl, ◌∙◌}
use Rattle.std.proofs.lemmas.Result.{IfOk-weaker}
use Rattle.view_encoder.proofs.Ticks.{is_settled}
use Rattle.room_core.specs.declared.client.Client.{Client}
use Rattle.room_model.specs.declared.event.Stage.TheVariants.{Live}
use Rattle.room_core.specs.Ticks.{Ticks, frames_where}
use Rattle.room_core.proofs.Ticked.{due_ticks, live_stands, live_ticks}
use Rattle.room_core.proofs.ticks.tick_one.Goals as goal

pub returns-in_ok-full_frame-in-Due-clause-ticks : goal.returns-in_ok-full_frame-in-Due-clause-ticks
returns-in_ok-full_frame-in-Due-clause-ticks g c =
    let live = c.args.live.now in
    let shared = c.args.shared.now in
    let client = c.args.client.now in
    let after : Client = record { id = client.id; stage = Live; members = c.end_tick.new.self; view = c.settle.new.self; queue = c.replace-waiting.new.dest; keep = client.keep } in
    IfOk-weaker c.in_front.result (λ (frames : List (List ℕ)). frames ≡ c.in_ok-full_frame-in-Due.field-0 ∷ c.replace-waiting.result) (Ticks live shared client after)
    (λ frames is. due_ticks live shared client c.end_tick.new.self c.settle.new.self c.replace-waiting.new.dest c.in_ok-state-in-Due.state c.in_ok-full_frame-in-Due.field-0 frames c.in-Due.is
    c.requires.stands.pairs c.end_tick.ensures c.in_ok-settle-in-Due.ensures.settled (c.replace-waiting.ensures.after ∙ c.new.ensures) c.in_ok-state-in-Due.ensures.bytes c.in_ok-full_frame-in-Due.ensures
    (is ∙ ap (λ queue. c.in_ok-full_frame-in-Due.field-0 ∷ queue) c.replace-waiting.ensures.value))
    c.in_front.ensures

pub settle-requires-in-Live : goal.settle-requires-in-Live
settle-requires-in-Live g c =
    let client = c.args.client.now in
    let tick = c.requires.begun.tick in
    inr (record { tick = tick; stood = live_stands client.stage _ tick.rows client.members client.view c.in-Live.is c.requires.stands.view_stands })

pub encode_view-requires : goal.encode_view-requires
encode_view-requires g c =
    let live = c.args.live.now in
    let client = c.args.client.now in
    let b = c.requires.begun in
    record {
      tick = b.tick;
      shared_settled = b.settled;
      view_settled = is_settled live client.members client.members b.tick client.view c.settle-in-Live.new.self c.in_ok-settle-in-Live.ensures.settled refl
          (live_stands client.stage _ b.tick.rows client.members client.view c.in-Live.is c.requires.stands.view_stands);
      is_part = b.is_part;
    }

pub returns-in_ok-state-in-Live-clause-ticks : goal.returns-in_ok-state-in-Live-clause-ticks
returns-in_ok-state-in-Live-clause-ticks g c =
    let live = c.args.live.now in
    let shared = c.args.shared.now in
    let client = c.args.client.now in
    let members = c.end_tick-in-Live.new.self in
    let view = c.settle-in-Live.new.self in
    let bytes = c.in_ok-state-in-Live.state in
    let after : Client = record { id = client.id; stage = client.stage; members = members; view = view; queue = c.new-in-Live.result; keep = client.keep } in
    IfOk-weaker c.where_changed.result (λ (frames : List (List ℕ)). frames ≡ frames_where bytes) (Ticks live shared client after)
    (λ frames is. live_ticks live shared client members view c.new-in-Live.result bytes frames c.in-Live.is c.requires.begun.settled.now c.requires.stands.pairs
    c.end_tick-in-Live.ensures c.in_ok-settle-in-Live.ensures.settled c.new-in-Live.ensures c.in_ok-state-in-Live.ensures.bytes is)
    c.where_changed.ensures
