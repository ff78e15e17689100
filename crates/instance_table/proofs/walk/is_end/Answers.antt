use Rattle.std.proofs.Common.{◌∙◌, None, Some, is_some, sym, ap}
use Rattle.std.specs.List.{flat_map}
use Rattle.std.proofs.lemmas.Bool.{eqb-true}
use Rattle.std.proofs.lemmas.List.{nil_from_length}
use Rattle.state_model.specs.Rows.{values_in}
use Rattle.state_model.specs.Values.{held_by}
use Rattle.instance_table.specs.Bodies.{row_of}
use Rattle.instance_table.specs.declared.way.Way.TheVariants.{Links, Holders}
use Rattle.instance_table.proofs.RefusalLaws.{live_node}
use Rattle.instance_table.proofs.WayLaws.{along_held}
use Rattle.instance_table.proofs.walk.is_end.Goals as goal

pub returns-in_default-clause-nowhere : goal.returns-in_default-clause-nowhere
returns-in_default-clause-nowhere c = λ h. along_held c.args.way c.args.nodes.now c.args.who None c.in_default.ensures

pub returns-in-Links-clause-nowhere : goal.returns-in-Links-clause-nowhere
returns-in-Links-clause-nowhere c = λ h.
    let none = nil_from_length (values_in (row_of c.in-Some.node.now.body)) (sym c.len.ensures ∙ eqb-true c.len.result 0 h) in
    rw (c.in-Links.is, along_held Links c.args.nodes.now c.args.who (Some c.in-Some.node.now) c.in-Some.ensures) (ap (flat_map held_by) none)

pub returns-in-Holders-clause-nowhere : goal.returns-in-Holders-clause-nowhere
returns-in-Holders-clause-nowhere c = λ h.
    let none = nil_from_length c.in-Some.node.now.holders (sym c.len-in-Holders.ensures ∙ eqb-true c.len-in-Holders.result 0 h) in
    rw (c.in-Holders.is, along_held Holders c.args.nodes.now c.args.who (Some c.in-Some.node.now) c.in-Some.ensures) none

pub returns-in-Links-clause-live : goal.returns-in-Links-clause-live
returns-in-Links-clause-live c = λ h. live_node c.args.nodes.now c.args.who ∙ ap is_some (sym c.in-Some.ensures)

pub returns-in-Holders-clause-live : goal.returns-in-Holders-clause-live
returns-in-Holders-clause-live c = λ h. live_node c.args.nodes.now c.args.who ∙ ap is_some (sym c.in-Some.ensures)
