use Rattle.std.proofs.Common.{◌≡◌, ◌∙◌, ◌+◌, rules, sym}
use Rattle.room_server.proofs.SummaryLaws.{live_first, live_none}
use Rattle.room_server.proofs.summary.live_in.Goals as goal

pub loop-room-preserved : goal.loop-room-preserved
loop-room-preserved c =
    let next : c.in_ok-at.at ≡ c.loop-room.at + 1 = search rules in
    let sum : c.in_ok-live.live ≡ c.loop-room.live + c.live_count.result = search rules in
    rw next (sym (live_first c.args.hub.now.hub.rooms c.loop-room.at c.loop-room.live c.live_count.result c.in_ok-live.live c.in-Some.room.now.room c.in-Some.ensures.room c.live_count.ensures sum) ∙ c.loop-room.invariant)

pub returns : goal.returns
returns c = sym (live_none c.args.hub.now.hub.rooms c.loop-room.at c.loop-room.live (sym c.in_default.ensures.there)) ∙ c.loop-room.invariant
