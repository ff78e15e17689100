use Rattle.std.proofs.Common.{Some, None, sym, ap, ◌∙◌}
use Rattle.state_model.specs.Sound.{is_instance_of}
use Rattle.instance_table.proofs.StateLaws.{row_there}
use Rattle.instance_table.proofs.typed.leads_to_instance.Goals as goal

pub returns-in-Some : goal.returns-in-Some
returns-in-Some c = c.is_instance_of.ensures ∙ sym (ap (is_instance_of c.args.schema.now c.args.class) (row_there c.args.nodes.now c.args.who (Some c.in-Some.node.now) c.in-Some.ensures))

pub returns-in-None : goal.returns-in-None
returns-in-None c = sym (ap (is_instance_of c.args.schema.now c.args.class) (row_there c.args.nodes.now c.args.who None c.in-None.ensures))
