use Rattle.std.proofs.Common.{ℕ, List, [], ◌∷◌, ◌++◌, take, sym, ap, ◌∙◌}
use Rattle.std.proofs.lemmas.List.{take_more, take_all}
use Rattle.state_model.specs.Members.{Members}
use Rattle.instance_table.specs.Table.{TableState}
use Rattle.live_state.specs.Live.{rows_of}
use Rattle.view_members.specs.Sets.{without_row}
use Rattle.view_edits.specs.There.{are_there, without_rows}
use Rattle.view_edits.proofs.There.{live_there}
use Rattle.view_edits.proofs.Forgotten.{none_without, one_without, swept_without}
use Rattle.view_edits.proofs.edits.forget_freed.Goals as goal

pub loop-who-init : goal.loop-who-init
loop-who-init c = sym (none_without c.args.members.now)

pub loop-who-preserved : goal.loop-who-preserved
loop-who-preserved c =
    let m = c.args.members.now in
    let who = c.who-item.result in
    let i = c.loop-who.who-index in
    let ns = c.swept-who-items.result.now in
    let next = ap (λ (n : ℕ). take i ns ++ n ∷ []) c.who-item.is ∙ sym (take_more ns i who c.loop-who-test.true) in
    c.forget_instance.ensures ∙ ap (without_row who) c.loop-who.invariant ∙ one_without (take i ns) who m ∙ ap (λ (ks : List ℕ). without_rows ks m) next

pub returns-clause-members : goal.returns-clause-members
returns-clause-members c =
    let m = c.args.members.now in
    let ns = c.swept-who-items.result.now in
    let told = c.swept-who-items.ensures ∙ ap (λ (t : TableState). t.swept) c.table.ensures in
    let all = take_all c.loop-who.who-index ns c.loop-who-test.false in
    c.loop-who.invariant ∙ ap (λ (ks : List ℕ). without_rows ks m) all ∙ swept_without c.requires.0 c.args.live.now.table ns m c.requires.1 told c.requires.2

pub returns-clause-there : goal.returns-clause-there
returns-clause-there c =
    let rows = rows_of c.args.live.now in
    ap (λ (m : Members). are_there rows m.now) (returns-clause-members c) ∙ live_there rows c.args.members.now
