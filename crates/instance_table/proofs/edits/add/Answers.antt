use Rattle.std.proofs.Common.{◌≡◌, true, false, Some, refl, ap, sym, ◌∙◌, arith}
use Rattle.state_model.specs.declared.command.Command.TheVariants as command
use Rattle.state_model.specs.Commands.{has_value}
use Rattle.instance_table.specs.declared.body.Body.{Body}
use Rattle.instance_table.specs.Bodies.{row_of}
use Rattle.instance_table.specs.Found.{item_number}
use Rattle.instance_table.proofs.EditLaws.{add_goes}
use Rattle.instance_table.proofs.FoundLaws.{value_there}
use Rattle.instance_table.proofs.edits.add.Goals as goal

pub returns-then-is_some-clause-row : goal.returns-then-is_some-clause-row
returns-then-is_some-clause-row c = λ n g.
    let told = c.requires.number ∙ ap (λ (b : Body). item_number (command.Add 0 c.args.value) (row_of b)) c.in-Set.is in
    let has : has_value c.in-Set.items.items c.args.value ≡ true = sym (value_there c.in-Set.items.items c.args.value c.args.number told) ∙ (sym c.is_some.ensures ∙ c.if-is_some.true) in
    rw (c.in-Set.is, has) refl

pub returns-then-is_some-clause-given : goal.returns-then-is_some-clause-given
returns-then-is_some-clause-given c =
    let told = c.requires.number ∙ ap (λ (b : Body). item_number (command.Add 0 c.args.value) (row_of b)) c.in-Set.is in
    let has : has_value c.in-Set.items.items c.args.value ≡ true = sym (value_there c.in-Set.items.items c.args.value c.args.number told) ∙ (sym c.is_some.ensures ∙ c.if-is_some.true) in
    rw (c.in-Set.is, has) (ap Some (omega arith))

pub unreachable-requires : goal.unreachable-requires
unreachable-requires c =
    let told = c.requires.number ∙ ap (λ (b : Body). item_number (command.Add 0 c.args.value) (row_of b)) c.in-Set.is in
    let absent : has_value c.in-Set.items.items c.args.value ≡ false = sym (value_there c.in-Set.items.items c.args.value c.args.number told) ∙ (sym c.is_some.ensures ∙ c.if-is_some.false) in
    add_goes c.in-Set.items c.add_new.new.self c.args.value c.in-Err-Present.field-0 absent c.in-Err-Present.field-0-is c.in-Err-Present.ensures
