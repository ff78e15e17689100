use Rattle.std.proofs.Common.{◌≡◌, false, length, true}
use Rattle.std.specs.List.{list_all}
use Rattle.std.specs.Vec.Iter.{into_iter_items, into_iter_len}
use Rattle.hub_core.specs.Held.{may_take}
use Rattle.room_server.proofs.ReplayLaws.{SoFar}
use Rattle.room_server.specs.Turns.{outs_text}
use Rattle.room_server.proofs.replay.replay_events.Given as goal

abbrev pub invariant-loop-event : goal.invariant-loop-event
invariant-loop-event g l =
    let rest = into_iter_items l.event-iterator in
    record {
      so_far : SoFar (g.K.Sink.taken l.fn.sink) (g.K.Sink.taken l.sink) (outs_text l.hub.hub rest) (outs_text l.fn.hub.hub l.fn.events);
      quiet : g.K.Sink.faults l.sink ≡ g.K.Sink.faults l.fn.sink;
      len : into_iter_len l.event-iterator ≡ length rest;
      may : list_all may_take rest ≡ true;
      fresh : l.hub.spent ≡ false;
    }
