use Rattle.std.proofs.Common.{◌≡◌, ◌++◌, map, take}
use Rattle.text_words.specs.Words.{behind}
use Rattle.text_model.specs.RowLines.{field_word}
use Rattle.schedule_text.proofs.rows.append_fields.Given as goal

abbrev pub invariant-loop-field : goal.invariant-loop-field
invariant-loop-field l = l.out.items ≡ l.fn.out.items ++ behind (map field_word (take l.field-index l.fields))
