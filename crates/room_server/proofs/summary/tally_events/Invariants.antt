use Rattle.std.proofs.Common.{◌≡◌, false, length, true}
use Rattle.std.specs.List.{list_all}
use Rattle.std.specs.Vec.Iter.{into_iter_items, into_iter_len}
use Rattle.hub_core.specs.Held.{may_take}
use Rattle.hub_model.specs.HubStep.{hub_after, outs_from}
use Rattle.room_server.specs.Summaries.{no_outs, with_outs}
use Rattle.room_server.specs.Turns.{rules}
use Rattle.room_server.proofs.summary.tally_events.Given as goal

abbrev pub invariant-loop-event : goal.invariant-loop-event
invariant-loop-event g l =
    let rest = into_iter_items l.event-iterator in
    record {
      tally : with_outs l.tally (outs_from rules l.hub.hub rest) ≡ with_outs no_outs (outs_from rules l.fn.hub.hub l.fn.events);
      after : hub_after rules l.hub.hub rest ≡ hub_after rules l.fn.hub.hub l.fn.events;
      len : into_iter_len l.event-iterator ≡ length rest;
      may : list_all may_take rest ≡ true;
      fresh : l.hub.spent ≡ false;
    }
