use Rattle.std.proofs.Common.{rules, ap, ◌∙◌}
use Rattle.wire_model.specs.Patch.{gone_of, kept_of}
use Rattle.canon_patch.specs.ByRef.{is_ended}
use Rattle.canon_patch.proofs.ByRef.{appended_none, appended_some}
use Rattle.canon_patch.proofs.by_ref.is_appended.Goals as goal

pub returns-in-None : goal.returns-in-None
returns-in-None c = appended_none c.args.new.now (kept_of c.args.new.now c.args.old.now) (gone_of c.args.old.now c.args.new.now) (search rules)

pub returns-in-Some : goal.returns-in-Some
returns-in-Some c =
    c.is_ended.ensures ∙ (ap is_ended c.after_gone.ensures
    ∙ appended_some c.args.new.now (kept_of c.args.new.now c.args.old.now) (gone_of c.args.old.now c.args.new.now) c.in-Some.rest.now (search rules))
