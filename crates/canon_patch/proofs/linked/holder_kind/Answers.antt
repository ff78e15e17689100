use Rattle.std.proofs.Common.{ap, sym, ◌∙◌}
use Rattle.state_model.specs.declared.row.Row.TheVariants.{Struct}
use Rattle.canon_patch.proofs.Applying.{kind_found, kind_missing}
use Rattle.canon_patch.proofs.linked.holder_kind.Goals as goal

pub returns-in-Some : goal.returns-in-Some
returns-in-Some c = c.emptied.ensures ∙ sym (kind_found c.args.rows.now c.args.who c.who.inside.0 c.in-Some.entry.now c.who.view_is (sym c.in-Some.ensures))

pub returns-in-None : goal.returns-in-None
returns-in-None c = ap (Struct 0) c.new.ensures ∙ sym (kind_missing c.args.rows.now c.args.who c.who.inside.0 c.who.view_is (sym c.in-None.ensures))
