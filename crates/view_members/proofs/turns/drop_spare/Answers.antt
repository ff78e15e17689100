use Rattle.std.proofs.Common.{◌∙◌, sym}
use Rattle.view_members.specs.Standings.{is_spare}
use Rattle.view_members.proofs.RankLists.{has_some, has_none}
use Rattle.view_members.proofs.SpareLaws.{spare_gone, spare_missing}
use Rattle.view_members.proofs.turns.drop_spare.Goals as goal

pub returns-in_default : goal.returns-in_default
returns-in_default c =
    let es = c.args.sets.now in
    sym (spare_missing c.args.rank 0 es c.get.ensures.kept.0 (has_none is_spare es c.args.rank (sym c.get.ensures.value ∙ c.in_default.is)))

pub returns-then-spare : goal.returns-then-spare
returns-then-spare c =
    let es = c.args.sets.now in
    let told = has_some is_spare es c.args.rank c.in-Some.standing (sym c.get.ensures.value ∙ c.in-Some.is) in
    c.take_out.ensures ∙ spare_gone c.args.rank 0 es c.get.ensures.kept.0 (told ∙ (sym c.spare.ensures ∙ c.if-spare.true))

pub returns-else-spare : goal.returns-else-spare
returns-else-spare c =
    let es = c.args.sets.now in
    let told = has_some is_spare es c.args.rank c.in-Some.standing (sym c.get.ensures.value ∙ c.in-Some.is) in
    sym (spare_missing c.args.rank 0 es c.get.ensures.kept.0 (told ∙ (sym c.spare.ensures ∙ c.if-spare.false)))
