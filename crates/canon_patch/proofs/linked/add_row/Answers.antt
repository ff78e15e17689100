use Rattle.std.proofs.Common.{sym, ◌∙◌}
use Rattle.canon_patch.proofs.Applying.{added, kept}
use Rattle.canon_patch.proofs.linked.add_row.Goals as goal

pub returns-in-Some : goal.returns-in-Some
returns-in-Some c = kept c.args.rows.now c.args.entry.who c.who.inside.0 c.args.entry.row c.in-Some.field-0.now c.who.view_is (sym c.in-Some.ensures)

pub returns-in_ok-put-in-None : goal.returns-in_ok-put-in-None
returns-in_ok-put-in-None c = c.in_ok-put-in-None.ensures.ok ∙ added c.args.rows.now c.args.entry.who c.who.inside.0 c.args.entry.row c.who.view_is (sym c.in-None.ensures)
