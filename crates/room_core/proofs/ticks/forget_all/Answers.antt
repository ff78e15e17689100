use Rattle.std.proofs.Common.{◌≡◌, ◌<◌, true, List, length, get_or, arith, sym, ap, subst, ◌∙◌}
use Rattle.live_state.specs.Live.{rows_of}
use Rattle.view_edits.specs.There.{are_there}
use Rattle.room_core.specs.declared.client.Client.{Client}
use Rattle.room_core.specs.Ticks.{AllThere, client_swept}
use Rattle.room_core.proofs.Mixed.{mixed_next}
use Rattle.room_core.proofs.Prefixes.{mixed_set, all_passed}
use Rattle.room_core.proofs.ticks.forget_all.Goals as goal

pub forget_in_view-requires : goal.forget_in_view-requires
forget_in_view-requires c =
    let before = c.requires in
    let client = c.client-item.result in
    let first = c.deref_mut-client-items.result.now in
    let at = c.loop-client.client-index in
    let within : at < length first = omega arith in
    let same : get_or c.loop-client.client-items at client ≡ get_or first at client =
    ap (λ (xs : List Client). get_or xs at client) c.loop-client.invariant.swept ∙ mixed_next (client_swept (rows_of c.args.live.now)) first at client within in
    let all : AllThere before.0.state.rows first = subst (AllThere before.0.state.rows) (sym c.deref_mut-client-items.ensures.value) before.2 in
    (before.0, before.1, subst (λ (x : Client). are_there before.0.state.rows x.members.now ≡ true) (sym same) (all at client within))

pub loop-client-preserved : goal.loop-client-preserved
loop-client-preserved c =
    let rows = rows_of c.args.live.now in
    let client = c.client-item.result in
    let items = c.loop-client.client-items in
    let at = c.loop-client.client-index in
    let within : at < length items = omega arith in
    let after = c.forget_in_view.new.client in
    let within_first : at < length c.deref_mut-client-items.result.now = omega arith in
    record {
      swept = mixed_set (client_swept rows) items c.deref_mut-client-items.result.now at client after c.loop-client.invariant.swept within_first c.forget_in_view.ensures.client;
      there = all_passed (λ (x : Client). are_there rows x.members.now ≡ true) items at after within c.loop-client.invariant.there c.forget_in_view.ensures.there;
    }
