use Rattle.std.proofs.Common.{rules, ◌≡◌, Some, None, slice_get, option_and_then, arith}
use Rattle.schema_model.proofs.FieldTables.{count_up, count_end, count_small, height_falls}
use Rattle.schema_model.proofs.lookup.field_count.Goals as goal

pub overflow_add-count : goal.overflow_add-count
overflow_add-count c =
    let found : option_and_then (slice_get c.args.classes.now) c.loop-class.line ≡ Some c.in-Some.class.now = search rules in
    let up = count_up c.args.classes.now c.loop-class.line c.in-Some.class.now c.requires.earlier found in
    let small = count_small c.args.classes.now (Some c.args.class) c.requires.small in
    omega arith

pub loop-class-smaller : goal.loop-class-smaller
loop-class-smaller c =
    let found : option_and_then (slice_get c.args.classes.now) c.loop-class.line ≡ Some c.in-Some.class.now = search rules in
    height_falls c.args.classes.now c.loop-class.line c.in-Some.class.now c.requires.earlier found

pub loop-class-preserved : goal.loop-class-preserved
loop-class-preserved c =
    let found : option_and_then (slice_get c.args.classes.now) c.loop-class.line ≡ Some c.in-Some.class.now = search rules in
    let up = count_up c.args.classes.now c.loop-class.line c.in-Some.class.now c.requires.earlier found in
    omega arith

pub returns : goal.returns
returns c =
    let found : option_and_then (slice_get c.args.classes.now) c.loop-class.line ≡ None = search rules in
    let end = count_end c.args.classes.now c.loop-class.line found in
    omega arith
