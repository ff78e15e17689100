use Rattle.std.proofs.Common.{None, Some, ap, ◌∙◌, option_copied}
use Rattle.std.specs.Option.{option_map}
use Rattle.instance_table.specs.Bodies.{row_of}
use Rattle.instance_table.proofs.RefusalLaws.{body_there}
use Rattle.instance_table.proofs.refusal.body_for.Goals as goal

pub returns-in_err-node-clause-row : goal.returns-in_err-node-clause-row
returns-in_err-node-clause-row c =
    ap (λ o. option_map row_of (option_copied o)) c.from_residual-in_err-node.ensures
    ∙ body_there c.args.nodes.now c.args.command.now c.in_ok-holder_of.field-0 None c.in_ok-holder_of.ensures c.in_err-node.ensures

pub returns-clause-row : goal.returns-clause-row
returns-clause-row c = body_there c.args.nodes.now c.args.command.now c.in_ok-holder_of.field-0 (Some c.in_ok-node.node.now) c.in_ok-holder_of.ensures c.in_ok-node.ensures
