use Rattle.std.proofs.Common.{rules, ◌≡◌, ◌==◌, true, false, Some, ◌∙◌, sym, ap, refl, not, ◌&&◌}
use Rattle.std.specs.Option.{option_eq}
use Rattle.schema_model.specs.declared.value.Value.{Value}
use Rattle.schema_model.specs.declared.value.Value.TheVariants as value
use Rattle.state_model.specs.declared.command.Command.TheVariants as command
use Rattle.state_model.specs.Values.{is_link}
use Rattle.instance_table.proofs.RefusalLaws.{filtered_row, holds_it, pushed_link, pushed_scalar, set_link, set_scalar}
use Rattle.instance_table.proofs.refusal.is_duplicate.Goals as goal

pub returns-in-Push-default-Link : goal.returns-in-Push-default-Link
returns-in-Push-default-Link c =
    let own = filtered_row c.args.schema.now c.args.nodes.now c.args.holder c.in-Array.home c.in-Array.values c.args.body.now c.requires.sound c.requires.exact c.requires.there c.in-Array.is (sym c.if-not-is_filtered.ensures) in
    let put = c.in-Push-default-Link in
    c.holds.ensures ∙ pushed_link c.args.schema.now c.args.nodes.now c.args.holder put.who put.field-0 c.in-Array.home c.in-Array.values c.args.command.now put.field-1 c.args.body.now own put.is (rw put.is at put.field-1-is) c.in-Array.is

pub returns-then-ne : goal.returns-then-ne
returns-then-ne c =
    let own = filtered_row c.args.schema.now c.args.nodes.now c.args.holder c.in-Array.home c.in-Array.values c.args.body.now c.requires.sound c.requires.exact c.requires.there c.in-Array.is (sym c.if-not-is_filtered.ensures) in
    let put = c.in-SetAt-default-default-Link in
    let link : put.field-2 ≡ value.Link put.who = rw put.is at put.field-2-is in
    let apart : true ≡ not (option_eq (λ a b. a == b) c.link_of.result (Some put.who)) = rw (put.is ∙ ap (command.SetAt put.field-0 put.at) link) at c.if-ne.ensures in
    let held : c.holds-then-ne.result ≡ holds_it c.args.nodes.now c.args.holder put.who = rw (put.is ∙ ap (command.SetAt put.field-0 put.at) link) at c.holds-then-ne.ensures in
    held
    ∙ (ap (λ b. b && holds_it c.args.nodes.now c.args.holder put.who) apart
    ∙ set_link c.args.schema.now c.args.nodes.now c.args.holder put.who put.field-0 put.at c.in-Array.home c.in-Array.values c.args.command.now put.field-2 c.args.body.now c.link_of.result
    _ own put.is link c.in-Array.is c.link_of.ensures.link c.get.ensures)

pub returns-else-ne : goal.returns-else-ne
returns-else-ne c =
    let own = filtered_row c.args.schema.now c.args.nodes.now c.args.holder c.in-Array.home c.in-Array.values c.args.body.now c.requires.sound c.requires.exact c.requires.there c.in-Array.is (sym c.if-not-is_filtered.ensures) in
    let put = c.in-SetAt-default-default-Link in
    let link : put.field-2 ≡ value.Link put.who = rw put.is at put.field-2-is in
    let same : false ≡ not (option_eq (λ a b. a == b) c.link_of.result (Some put.who)) = rw (put.is ∙ ap (command.SetAt put.field-0 put.at) link) at c.if-ne.ensures in
    c.if-ne.false
    ∙ (ap (λ b. b && holds_it c.args.nodes.now c.args.holder put.who) same
    ∙ set_link c.args.schema.now c.args.nodes.now c.args.holder put.who put.field-0 put.at c.in-Array.home c.in-Array.values c.args.command.now put.field-2 c.args.body.now c.link_of.result
    _ own put.is link c.in-Array.is c.link_of.ensures.link c.get.ensures)

pub returns-in_default-command : goal.returns-in_default-command
returns-in_default-command c =
    let own = filtered_row c.args.schema.now c.args.nodes.now c.args.holder c.in-Array.home c.in-Array.values c.args.body.now c.requires.sound c.requires.exact c.requires.there c.in-Array.is (sym c.if-not-is_filtered.ensures) in
    let put = c.in_default-command in
    let scalar : (v : Value) → put.field-1 ≡ v → is_link v ≡ false
    = elim [
      | value.Whole z ↦ λ e. refl
      | value.Str t ↦ λ e. refl
      | value.Truth b ↦ λ e. refl
      | value.Link n ↦ λ e. let is = put.is ∙ ap (command.Push put.field-0) e in search (rules, is)
    ] in
    pushed_scalar c.args.schema.now c.args.nodes.now c.args.holder put.field-0 c.in-Array.home c.in-Array.values c.args.command.now put.field-1 c.args.body.now own put.is (scalar put.field-1 refl) c.in-Array.is

pub returns-in_default-command-2 : goal.returns-in_default-command-2
returns-in_default-command-2 c =
    let own = filtered_row c.args.schema.now c.args.nodes.now c.args.holder c.in-Array.home c.in-Array.values c.args.body.now c.requires.sound c.requires.exact c.requires.there c.in-Array.is (sym c.if-not-is_filtered.ensures) in
    let put = c.in_default-command in
    let scalar : (v : Value) → put.field-2 ≡ v → is_link v ≡ false
    = elim [
      | value.Whole z ↦ λ e. refl
      | value.Str t ↦ λ e. refl
      | value.Truth b ↦ λ e. refl
      | value.Link n ↦ λ e. let is = put.is ∙ ap (command.SetAt put.field-0 put.field-1) e in search (rules, is)
    ] in
    set_scalar c.args.schema.now c.args.nodes.now c.args.holder put.field-0 put.field-1 c.in-Array.home c.in-Array.values c.args.command.now put.field-2 c.args.body.now own put.is (scalar put.field-2 refl) c.in-Array.is
