use Rattle.std.proofs.Common.{sym, subst}
use Rattle.schedule_text.specs.Tells.{Tells}
use Rattle.schedule_text.proofs.ReadLaws.{schedule_on}
use Rattle.schedule_text.proofs.schedule.read_parts.Goals as goal

pub returns : goal.returns
returns c =
    let part = c.in_ok-schema.ensures in
    subst (λ t. Tells c.read_heading.result t) (sym (schedule_on c.args.text.now c.in_ok-schema.behind.now c.in_ok-schema.lines c.in_ok-schema.schema part.0 part.1)) c.read_heading.ensures
