use Rattle.std.proofs.Common.{subst}
use Rattle.outside.specs.Streams.{Takes, TakesPrefix}
use Rattle.outside.proofs.TakeLaws.{longer_prefix}
use Rattle.hub_core.specs.Held.{Held}
use Rattle.room_server.specs.Turns.{end_line, start, outs_text}
use Rattle.room_server.proofs.WriteLaws.{writes_err, writes_behind}
use Rattle.room_server.proofs.replay.replay_whole.Goals as goal

pub returns-in_err-replay_events-clause-writes : goal.returns-in_err-replay_events-clause-writes
returns-in_err-replay_events-clause-writes g c =
    let s = c.args.schedule in
    writes_err _ _ _ _ _ c.from_residual-in_err-replay_events.ensures.1
    (longer_prefix _ _ (outs_text (start s) s.events) end_line
    (subst (λ (h : Held). TakesPrefix (g.K.Sink.taken c.args.sink.now) (g.K.Sink.taken c.replay_events.new.sink) (outs_text h.hub s.events)) c.in_ok-hub.ensures c.in_err-replay_events.ensures.writes))

pub returns-clause-writes : goal.returns-clause-writes
returns-clause-writes g c =
    let s = c.args.schedule in
    writes_behind c.write_end.result _ _ _ (outs_text (start s) s.events) end_line
    (subst (λ (h : Held). Takes (g.K.Sink.taken c.args.sink.now) (g.K.Sink.taken c.replay_events.new.sink) (outs_text h.hub s.events)) c.in_ok-hub.ensures c.in_ok-replay_events.ensures.writes) c.write_end.ensures.writes
