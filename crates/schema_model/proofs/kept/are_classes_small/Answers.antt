use Rattle.std.proofs.Common.{◌<◌, sym, ◌∙◌, take, List, ℕ, arith}
use Rattle.schema_model.proofs.FieldCounts.{count_of, all_small, small_from_large, small_from_end}
use Rattle.schema_model.proofs.kept.are_classes_small.Goals as goal

pub returns-then-count-gt-MOST_FIELDS : goal.returns-then-count-gt-MOST_FIELDS
returns-then-count-gt-MOST_FIELDS c =
    let counts : List ℕ = take c.loop-number.number c.loop-number.counts in
    let large : 63 < count_of counts c.index-classes-number.result = grind arith in
    sym (all_small c.args.classes.now ∙ c.loop-number.invariant ∙ small_from_large counts c.args.classes.now c.loop-number.number _ (omega arith) c.index-classes-number.is large)

pub returns : goal.returns
returns c = sym (all_small c.args.classes.now ∙ c.loop-number.invariant ∙ small_from_end _ c.args.classes.now c.loop-number.number (omega arith))
