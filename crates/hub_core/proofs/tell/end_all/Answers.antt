use Rattle.std.proofs.Common.{◌≡◌, ◌∙◌, ◌+◌, arith, ◌++◌, ◌∷◌, [], suc, sym, ap, take}
use Rattle.std.proofs.Math.Seq.{take-suc}
use Rattle.hub_core.specs.Endings.{without_all}
use Rattle.hub_core.proofs.EndLaws.{none_of, one_more}
use Rattle.hub_core.proofs.tell.end_all.Goals as goal

pub loop-session-init : goal.loop-session-init
loop-session-init c = sym (none_of c.args.room c.args.conns.now)

pub loop-session-preserved : goal.loop-session-preserved
loop-session-preserved c =
    let ids = c.args.sessions.now in
    let i = c.loop-session.session-index in
    let up : i + 1 ≡ suc i = omega arith in
    let next : take (i + 1) ids ≡ take i ids ++ c.session-item.result ∷ [] = ap (λ n. take n ids) up ∙ take-suc ids i c.session-item.result c.loop-session-test.true ∙ ap (λ x. take i ids ++ x ∷ []) (sym c.session-item.is) in
    rw (c.end.ensures, c.loop-session.invariant) (one_more c.args.room c.session-item.result (take i ids) c.args.conns.now ∙ ap (λ x. without_all c.args.room x c.args.conns.now) (sym next))
