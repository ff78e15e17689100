use Rattle.std.proofs.Common.{◌≡◌, ◌∙◌, Some, sym, ap}
use Rattle.std.specs.Prelude.{option_copied}
use Rattle.lists.specs.Rising.{find as find_by}
use Rattle.trees.proofs.TreeLaws.{find_entry}
use Rattle.hub_model.specs.HubValues.{conn_number}
use Rattle.hub_core.proofs.ConnLaws.{own_found}
use Rattle.hub_core.proofs.conns.Conns.get.Goals as goal

found : (c : goal.After-copy) → Some c.copy.result ≡ find_by conn_number c.args.conn c.args.self.now
found c = rw (← c.self.view_is, ← c.conn.view_is) (ap Some c.copy.ensures ∙ sym (ap option_copied c.in-Some.is) ∙ c.get.ensures.value ∙ find_entry conn_number c.conn.inside.0 c.self.inside.by_number.entries c.self.invariant.0)

pub returns-in-Some-clause-value : goal.returns-in-Some-clause-value
returns-in-Some-clause-value c = found c

pub returns-in-Some-clause-own : goal.returns-in-Some-clause-own
returns-in-Some-clause-own c = own_found c.args.conn c.args.self.now c.copy.result (rw (← c.self.view_is) c.self.invariant.2) (sym (found c))

pub returns-in-None-clause-value : goal.returns-in-None-clause-value
returns-in-None-clause-value c = rw (← c.self.view_is, ← c.conn.view_is) (sym (ap option_copied c.in-None.is) ∙ c.get.ensures.value ∙ find_entry conn_number c.conn.inside.0 c.self.inside.by_number.entries c.self.invariant.0)
