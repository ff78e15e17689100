use Rattle.std.proofs.Common.{ap, ◌∙◌}
use Rattle.state_model.specs.Reached.{is_among}
use Rattle.state_laws.proofs.Numbers.{among_with_number}
use Rattle.canon_patch.proofs.marks.add_number.Goals as goal

pub returns : goal.returns
returns c k = ap (is_among k) c.in_ok-insert.ensures.numbers ∙ among_with_number c.args.numbers.now c.args.number k
