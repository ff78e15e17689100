use Rattle.std.proofs.Common.{◌≡◌, ◌<◌, ◌≤◌, ◌+◌, ◌++◌, All, List, length, get_or, map, set, ap, sym, subst, arith, ◌∙◌}
use Rattle.std.proofs.lemmas.List.{length-set}
use Rattle.std.proofs.lemmas.Option.{slice_get-get_or}
use Rattle.std.specs.List.{sum_by}
use Rattle.lists.proofs.Results.{on_err}
use Rattle.room_core.specs.declared.client.Client.{Client}
use Rattle.room_core.specs.Clients.{client_tells}
use Rattle.room_core.specs.Costs.{session_cost}
use Rattle.room_core.specs.Stands.{ClientStands}
use Rattle.room_core.specs.Values.{session_of_client}
use Rattle.live_state.specs.Live.{rows_of, schema_of}
use Rattle.room_core.proofs.ClientLists.{told_set}
use Rattle.room_core.specs.Ticks.{sent_to}
use Rattle.room_core.proofs.Prefixes.{all_passed}
use Rattle.room_core.proofs.TickedAll.{Done, written_back, done_more, next_same, cost_more, cost_after, outs_at, session_at}
use Rattle.room_core.proofs.ticks.tick_all.Goals as goal

pub tick_one-requires : goal.tick_one-requires
tick_one-requires g c =
    let live = c.args.live.now in
    let client = c.client-item.result in
    let first = c.deref_mut-client-items.result.now in
    let items = c.loop-client.client-items in
    let at = c.loop-client.client-index in
    let within : at < length first = omega arith in
    let long : length items ≡ length first = omega arith in
    let stands = ClientStands (schema_of live) c.requires.begun.tick.rows (rows_of live) in
    let all : All stands first = subst (All stands) (sym c.deref_mut-client-items.ensures.value) c.requires.each in
    record { begun = c.requires.begun; stands = subst stands (sym (next_same items first at client long within c.loop-client.invariant.rest)) (all at client within) }

pub loop-client-preserved : goal.loop-client-preserved
loop-client-preserved g c =
    let live = c.args.live.now in
    let shared = c.args.shared.now in
    let client = c.client-item.result in
    let first = c.deref_mut-client-items.result.now in
    let items = c.loop-client.client-items in
    let at = c.loop-client.client-index in
    let was = c.loop-client.invariant in
    let within : at < length first = omega arith in
    let long : length items ≡ length first = omega arith in
    let ticks = c.in_ok-frames.ensures.ticks in
    let done : Done (outs_at live shared) (session_at live) first at items c.loop-client.outs = record { rest = was.rest; sessions = was.ticked; outs = was.outs } in
    let sent = c.in_ok-send_each.ensures ∙ ap (λ id. c.loop-client.outs ++ sent_to id c.in_ok-frames.frames) ticks.id ∙ ap (λ os. c.loop-client.outs ++ os) ticks.outs in
    let more = done_more (outs_at live shared) (session_at live) first items at client c.tick_one.new.client c.loop-client.outs c.send_each.new.outs long within done ticks.session sent in
    let stand = all_passed (ClientStands (schema_of live) (rows_of live) (rows_of live)) items at c.tick_one.new.client (omega arith) was.stand ticks.stands in
    let cost = cost_more live first items at client c.args.steps.now c.loop-client.steps c.tick_one.new.steps long within was.rest was.cost c.in_ok-frames.ensures.cost in
    let there = slice_get-get_or items at client (omega arith) in
    let told = told_set items at (get_or items at client) c.tick_one.new.client there c.in_ok-frames.ensures.told ∙ was.told in
    record { told = told; rest = more.rest; ticked = more.sessions; stand = stand; outs = more.outs; cost = cost }

pub returns-in_err-frames-clause-cost : goal.returns-in_err-frames-clause-cost
returns-in_err-frames-clause-cost g c =
    let live = c.args.live.now in
    let first = c.deref_mut-client-items.result.now in
    let at = c.loop-client.client-index in
    let was = c.loop-client.invariant in
    let within : at < length first = omega arith in
    let long : length c.loop-client.client-items ≡ length first = omega arith in
    let most = cost_after live first c.loop-client.client-items at c.client-item.result c.args.steps.now c.loop-client.steps c.tick_one.new.steps long within was.rest was.cost c.tick_one.ensures.cost in
    subst (λ (cs : List Client). c.tick_one.new.steps ≤ c.args.steps.now + sum_by (λ (x : Client). session_cost (schema_of live) (rows_of live) (session_of_client x)) cs) c.deref_mut-client-items.ensures.value most

pub returns-in_err-send_each-clause-cost : goal.returns-in_err-send_each-clause-cost
returns-in_err-send_each-clause-cost g c =
    let live = c.args.live.now in
    let first = c.deref_mut-client-items.result.now in
    let at = c.loop-client.client-index in
    let was = c.loop-client.invariant in
    let within : at < length first = omega arith in
    let long : length c.loop-client.client-items ≡ length first = omega arith in
    let most = cost_after live first c.loop-client.client-items at c.client-item.result c.args.steps.now c.loop-client.steps c.tick_one.new.steps long within was.rest was.cost c.tick_one.ensures.cost in
    subst (λ (cs : List Client). c.tick_one.new.steps ≤ c.args.steps.now + sum_by (λ (x : Client). session_cost (schema_of live) (rows_of live) (session_of_client x)) cs) c.deref_mut-client-items.ensures.value most

pub returns-in_err-frames-clause-told : goal.returns-in_err-frames-clause-told
returns-in_err-frames-clause-told g c =
    let items = c.loop-client.client-items in
    let at = c.loop-client.client-index in
    let first = c.deref_mut-client-items.result.now in
    let clients = c.args.clients.now in
    let one = get_or items at c.client-item.result in
    let long : length items ≡ length first = omega arith in
    let there = slice_get-get_or items at c.client-item.result (omega arith) in
    let told = told_set items at one c.tick_one.new.client there c.tick_one.ensures.told ∙ (c.loop-client.invariant.told ∙ ap (map client_tells) c.deref_mut-client-items.ensures.value) in
    let all : clients.len ≡ length (set items at c.tick_one.new.client) = omega (arith, long, clients.ok.0, ap length c.deref_mut-client-items.ensures.value, length-set items at c.tick_one.new.client) in
    on_err c.from_residual.result (ap (map client_tells) (written_back clients.len (set items at c.tick_one.new.client) clients.items all) ∙ told)

pub returns-in_err-send_each-clause-told : goal.returns-in_err-send_each-clause-told
returns-in_err-send_each-clause-told g c =
    let items = c.loop-client.client-items in
    let at = c.loop-client.client-index in
    let first = c.deref_mut-client-items.result.now in
    let clients = c.args.clients.now in
    let one = get_or items at c.client-item.result in
    let long : length items ≡ length first = omega arith in
    let there = slice_get-get_or items at c.client-item.result (omega arith) in
    let told = told_set items at one c.tick_one.new.client there c.tick_one.ensures.told ∙ (c.loop-client.invariant.told ∙ ap (map client_tells) c.deref_mut-client-items.ensures.value) in
    let all : clients.len ≡ length (set items at c.tick_one.new.client) = omega (arith, long, clients.ok.0, ap length c.deref_mut-client-items.ensures.value, length-set items at c.tick_one.new.client) in
    on_err c.from_residual-in_err-send_each.result (ap (map client_tells) (written_back clients.len (set items at c.tick_one.new.client) clients.items all) ∙ told)
