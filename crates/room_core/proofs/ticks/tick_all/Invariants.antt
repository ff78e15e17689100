use Rattle.std.proofs.Common.{◌≡◌, ◌≤◌, ◌+◌, All, map, take, drop}
use Rattle.std.specs.List.{flat_map, sum_by}
use Rattle.live_state.specs.Live.{rows_of, schema_of}
use Rattle.room_model.specs.Room.{tick_outs}
use Rattle.view_counts.specs.Settled.{view_before}
use Rattle.room_core.specs.declared.client.Client.{Client}
use Rattle.room_core.specs.Clients.{TellTheSame}
use Rattle.room_core.specs.Costs.{session_cost}
use Rattle.room_core.specs.Stands.{ClientStands}
use Rattle.room_core.specs.Ticks.{ticked_client}
use Rattle.room_core.specs.Values.{session_of_client}
use Rattle.room_core.proofs.ticks.tick_all.Given as goal

-- the clients so far have seen the tick and were sent their frames; the others are as they were; all tell what they told
abbrev pub invariant-loop-client : goal.invariant-loop-client
invariant-loop-client g l = record {
  told : TellTheSame l.client-items l.initial.client-items;
  rest : drop l.client-index l.client-items ≡ drop l.client-index l.initial.client-items;
  ticked : map session_of_client (take l.client-index l.client-items) ≡ map (ticked_client (schema_of l.live) (rows_of l.live)) (take l.client-index l.initial.client-items);
  stand : All (ClientStands (schema_of l.live) (rows_of l.live) (rows_of l.live)) (take l.client-index l.client-items);
  outs : l.outs ≡ flat_map (λ (c : Client). tick_outs (schema_of l.live) (view_before l.shared) (rows_of l.live) (session_of_client c)) (take l.client-index l.initial.client-items);
  cost : l.steps ≤ l.initial.steps + sum_by (λ (c : Client). session_cost (schema_of l.live) (rows_of l.live) (session_of_client c)) (take l.client-index l.initial.client-items);
}
