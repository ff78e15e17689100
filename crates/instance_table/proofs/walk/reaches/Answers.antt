use Rattle.std.proofs.Common.{◌≡◌, ◌∙◌, ◌==◌, false, refl, sym, ap, arith}
use Rattle.std.proofs.lemmas.Bool.{eqb-true}
use Rattle.std.proofs.lemmas.Bool.Decides.{nat_tests}
use Rattle.state_model.specs.Reached.{is_among, reached}
use Rattle.state_laws.proofs.ReachedLaws.{reached_start}
use Rattle.instance_table.specs.Nodes.{rows_in}
use Rattle.instance_table.specs.Ways.{rows_along}
use Rattle.instance_table.specs.declared.way.Way.TheVariants.{Links, Holders}
use Rattle.instance_table.proofs.WayLaws.{along_rise, reached_alone, reached_back}
use Rattle.instance_table.proofs.walk.reaches.Goals as goal

pub returns-then-eq-clause-value : goal.returns-then-eq-clause-value
returns-then-eq-clause-value c =
    let rows = rows_in c.args.nodes.now in
    let same = eqb-true c.args.from c.args.to (sym c.if-eq.ensures) in
    sym (ap (λ n. is_among n (reached rows c.args.from)) (sym same) ∙ reached_start rows c.args.from)

-- nothing holds the end
pub returns-then-is_end-clause-value : goal.returns-then-is_end-clause-value
returns-then-is_end-clause-value c =
    let es = c.args.nodes.now in
    let rise = c.know_rising.ensures in
    let apart : (c.args.to == c.args.from) ≡ false = grind (arith, nat_tests, c.if-eq.ensures) in
    reached_alone (rows_along Holders es) c.args.to c.args.from (along_rise Holders es rise) (c.if-is_end.ensures.nowhere refl) apart
    ∙ reached_back c.requires.sound.0 es c.args.from c.args.to rise c.requires.sound.1 c.requires.exact

-- the start holds nothing
pub returns-then-is_end-2-clause-value : goal.returns-then-is_end-2-clause-value
returns-then-is_end-2-clause-value c =
    let es = c.args.nodes.now in
    reached_alone (rows_along Links es) c.args.from c.args.to (along_rise Links es c.know_rising.ensures) (c.if-is_end-2.ensures.nowhere refl) (sym c.if-eq.ensures)
