use Rattle.std.proofs.Common.{◌∙◌, sym, ap, drop, arith, ◌+◌}
use Rattle.std.proofs.lemmas.List.{drop_all}
use Rattle.view_members.specs.Sets.{without_all}
use Rattle.view_members.proofs.MemberLaws.{without_first, without_none}
use Rattle.view_members.proofs.SpareLaws.{next_pair}
use Rattle.view_members.proofs.members.Members.remove_all.Goals as goal

pub loop-pair-preserved : goal.loop-pair-preserved
loop-pair-preserved c =
    let m = c.loop-pair.self in
    let p = c.pair-item.result in
    let rest = drop (c.loop-pair.pair-index + 1) c.args.pairs.now in
    let next = next_pair c.args.pairs.now c.loop-pair.pair-index p c.loop-pair-test.true c.pair-item.is in
    c.loop-pair.invariant ∙ (ap (λ ps. without_all ps m) next ∙ (without_first p rest m ∙ ap (without_all rest) (sym c.remove.ensures)))

pub returns : goal.returns
returns c =
    let done = drop_all c.loop-pair.pair-index c.args.pairs.now (omega arith) in
    sym (c.loop-pair.invariant ∙ (ap (λ ps. without_all ps c.loop-pair.self) done ∙ without_none c.loop-pair.self))
