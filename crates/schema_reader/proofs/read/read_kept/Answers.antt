use Rattle.std.proofs.Common.{ap, ◌∙◌, cond}
use Rattle.std.specs.Prelude.{None, Some}
use Rattle.schema_model.specs.Classes.{Schema}
use Rattle.schema_reader.proofs.ReadLaws.{read_is_kept}
use Rattle.schema_reader.proofs.read.read_kept.Goals as goal

pub unreachable-requires : goal.unreachable-requires
unreachable-requires c =
    let s : Schema = record { classes = c.in_ok-classes.classes; root = c.in_ok-classes.root } in
    let kept = read_is_kept c.args.text.now s c.in_ok-classes.ensures in
    let there = c.in-Ok-None.ensures ∙ ap (λ b. cond b (Some s) None) kept in
    cc
