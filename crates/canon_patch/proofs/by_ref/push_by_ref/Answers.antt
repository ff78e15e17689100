use Rattle.std.proofs.Common.{rules, ap, ◌∙◌}
use Rattle.std.proofs.lemmas.Result.{on_ok_weaker}
use Rattle.wire_model.specs.Patch.{kind_expected}
use Rattle.canon_patch.proofs.ByRef.{appended_ops, anew_ops}
use Rattle.canon_patch.proofs.by_ref.push_by_ref.Goals as goal

pub returns-then-is_appended : goal.returns-then-is_appended
returns-then-is_appended c =
    on_ok_weaker c.push_come.result
    (appended_ops c.args.to.now.schema.now c.args.to.now.rows.now c.args.home c.args.old.now c.args.new.now c.kind_expected-kind.result
    c.args.ops.now c.push_gone.new.ops c.push_come.new.ops c.is_appended.result (c.kind_expected-kind.ensures ∙ ap kind_expected c.item_expects.ensures) c.is_appended.ensures (search rules) (search rules))
    c.push_come.ensures

pub returns : goal.returns
returns c =
    on_ok_weaker c.push_all.result
    (anew_ops c.args.to.now.schema.now c.args.to.now.rows.now c.args.home c.args.old.now c.args.new.now c.kind_expected-kind.result
    c.args.ops.now c.push.new.self c.push_all.new.ops c.is_appended.result (c.kind_expected-kind.ensures ∙ ap kind_expected c.item_expects.ensures) c.is_appended.ensures (search rules) (search rules))
    c.push_all.ensures
