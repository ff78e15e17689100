use Rattle.std.proofs.Common.{◌≡◌, ◌<◌, length, get_or, map, set, arith, ap, ◌∙◌}
use Rattle.std.proofs.lemmas.List.{length-set}
use Rattle.std.proofs.lemmas.Option.{slice_get-get_or}
use Rattle.room_core.specs.Messages.{told_outs, told_session, unqueued}
use Rattle.room_core.proofs.ClientLists.{same_set}
use Rattle.room_core.proofs.TickedAll.{Done, done_more, written_back}
use Rattle.room_core.proofs.messages.tell_all.Goals as goal

pub loop-client-preserved : goal.loop-client-preserved
loop-client-preserved c =
    let frame = c.args.frame.now in
    let client = c.client-item.result in
    let first = c.deref_mut-client-items.result.now in
    let items = c.loop-client.client-items in
    let at = c.loop-client.client-index in
    let was = c.loop-client.invariant in
    let within : at < length first = omega arith in
    let long : length items ≡ length first = omega arith in
    let done : Done (told_outs frame) (told_session frame) first at items c.loop-client.outs = record { rest = was.rest; sessions = was.sessions; outs = was.outs } in
    let told = c.in_ok-tell_if_heard.ensures.told in
    let more = done_more (told_outs frame) (told_session frame) first items at client c.tell_if_heard.new.client c.loop-client.outs c.tell_if_heard.new.outs long within done told.session told.sent in
    let there = slice_get-get_or items at client (omega arith) in
    let same = same_set unqueued items at (get_or items at client) c.tell_if_heard.new.client there c.tell_if_heard.ensures.same ∙ was.same in
    record { same = same; rest = more.rest; sessions = more.sessions; outs = more.outs }

pub returns-in_err-tell_if_heard-clause-same : goal.returns-in_err-tell_if_heard-clause-same
returns-in_err-tell_if_heard-clause-same c =
    let items = c.loop-client.client-items in
    let at = c.loop-client.client-index in
    let first = c.deref_mut-client-items.result.now in
    let clients = c.args.clients.now in
    let one = get_or items at c.client-item.result in
    let long : length items ≡ length first = omega arith in
    let there = slice_get-get_or items at c.client-item.result (omega arith) in
    let same = same_set unqueued items at one c.tell_if_heard.new.client there c.tell_if_heard.ensures.same ∙ (c.loop-client.invariant.same ∙ ap (map unqueued) c.deref_mut-client-items.ensures.value) in
    let all : clients.len ≡ length (set items at c.tell_if_heard.new.client) = omega (arith, long, clients.ok.0, ap length c.deref_mut-client-items.ensures.value, length-set items at c.tell_if_heard.new.client) in
    ap (map unqueued) (written_back clients.len (set items at c.tell_if_heard.new.client) clients.items all) ∙ same
