use Rattle.std.proofs.Common.{◌≡◌, map, take, drop}
use Rattle.std.specs.List.{flat_map}
use Rattle.room_core.specs.Messages.{AreSameUnqueued, told_outs, told_session}
use Rattle.room_core.specs.Values.{session_of_client}
use Rattle.room_core.proofs.messages.tell_all.Given as goal

-- the clients so far were told; the others are as they were; all are the same but for what waits
abbrev pub invariant-loop-client : goal.invariant-loop-client
invariant-loop-client l = record {
  same : AreSameUnqueued l.client-items l.initial.client-items;
  rest : drop l.client-index l.client-items ≡ drop l.client-index l.initial.client-items;
  sessions : map session_of_client (take l.client-index l.client-items) ≡ map (told_session l.frame) (take l.client-index l.initial.client-items);
  outs : l.outs ≡ flat_map (told_outs l.frame) (take l.client-index l.initial.client-items);
}
