use Rattle.std.proofs.Common.{◌≡◌, not, false, Some, None, option_copied, ap, sym, ◌∙◌}
use Rattle.std.specs.Option.{option_map, option_map_or}
use Rattle.state_model.specs.Rows.{is_live}
use Rattle.instance_table.specs.Bodies.{row_of}
use Rattle.instance_table.specs.Nodes.{rows_in}
use Rattle.instance_table.proofs.RefusalLaws.{refs_gone, refs_there}
use Rattle.instance_table.proofs.refusal.is_no_ref.Goals as goal

pub returns-in_default-body : goal.returns-in_default-body
returns-in_default-body c =
    refs_gone (rows_in c.args.nodes.now) c.args.command.now c.in-Some.field-0 (sym c.in-Some.is ∙ c.holder_of.ensures) (ap (λ o. option_map row_of (option_copied o)) (sym c.in_default-body.is) ∙ c.requires)

pub returns-in-Some-named_link : goal.returns-in-Some-named_link
returns-in-Some-named_link c =
    let rows = rows_in c.args.nodes.now in
    let there = refs_there rows c.args.command.now c.in-Some.field-0 (row_of c.in-Some-body.field-0.now) (sym c.in-Some.is ∙ c.holder_of.ensures) (ap (λ o. option_map row_of (option_copied o)) (sym c.in-Some-body.is) ∙ c.requires) in
    c.is_dead.ensures ∙ (ap (λ o. option_map_or (λ n. not (is_live rows n)) o false) (sym c.in-Some-named_link.is ∙ c.named_link.ensures) ∙ there)

pub returns-in-None : goal.returns-in-None
returns-in-None c =
    let rows = rows_in c.args.nodes.now in
    let there = refs_there rows c.args.command.now c.in-Some.field-0 (row_of c.in-Some-body.field-0.now) (sym c.in-Some.is ∙ c.holder_of.ensures) (ap (λ o. option_map row_of (option_copied o)) (sym c.in-Some-body.is) ∙ c.requires) in
    ap (λ o. option_map_or (λ n. not (is_live rows n)) o false) (sym c.in-None.is ∙ c.named_link.ensures) ∙ there
