use Rattle.std.proofs.Common.{◌∙◌, ap, sym, Some, None, arith}
use Rattle.script_model.proofs.FieldNames.{from_start, named_end, named_here, named_next, named_nowhere}
use Rattle.script_model.proofs.names.field_named.Goals as goal

pub fields-init : goal.fields-init
fields-init c = from_start c.args.schema.now c.args.class c.args.name.now

pub returns-in_err-has_name : goal.returns-in_err-has_name
returns-in_err-has_name c =
    c.from_residual.ensures ∙ (sym (named_nowhere c.args.schema.now c.args.class c.fields.index c.args.name.now (sym c.in_err-has_name.ensures)) ∙ c.fields.invariant)

pub returns-then-branch : goal.returns-then-branch
returns-then-branch c = sym (named_here c.args.schema.now c.args.class c.fields.index c.args.name.now (sym c.in_ok-has_name.ensures ∙ ap Some c.if-branch.true)) ∙ c.fields.invariant

pub fields-preserved : goal.fields-preserved
fields-preserved c = sym (named_next c.args.schema.now c.args.class c.fields.index c.args.name.now (sym c.in_ok-has_name.ensures ∙ ap Some c.if-branch.false)) ∙ c.fields.invariant

pub returns : goal.returns
returns c = sym (named_end c.args.schema.now c.args.class c.fields.index c.args.name.now c.know_limits.ensures (omega (arith, c.fields-test.false))) ∙ c.fields.invariant
