use Rattle.std.proofs.Common.{ap, sym, ◌∙◌}
use Rattle.std.specs.Option.{is_some}
use Rattle.instance_table.proofs.RefusalLaws.{dead_where, some_copied}
use Rattle.instance_table.proofs.refusal.is_dead.Goals as goal

pub returns : goal.returns
returns c = dead_where c.args.nodes.now c.args.who c.is_none.result (sym (ap is_some c.get.ensures) ∙ (some_copied c.get.result ∙ c.is_none.ensures))
