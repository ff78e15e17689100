use Rattle.std.proofs.Common.{◌≡◌, ◌++◌, map, take}
use Rattle.text_model.specs.Marks.{lines}
use Rattle.text_model.specs.RowLines.{row_words}
use Rattle.schedule_text.proofs.rows.append_rows.Given as goal

abbrev pub invariant-loop-entry : goal.invariant-loop-entry
invariant-loop-entry l = l.out.items ≡ l.fn.out.items ++ lines (map row_words (take l.entry-index l.rows))
