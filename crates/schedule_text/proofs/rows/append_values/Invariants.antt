use Rattle.std.proofs.Common.{◌≡◌, ◌++◌, map, take}
use Rattle.text_words.specs.Words.{behind}
use Rattle.text_model.specs.WordForms.{value_word}
use Rattle.schedule_text.proofs.rows.append_values.Given as goal

abbrev pub invariant-loop-value : goal.invariant-loop-value
invariant-loop-value l = l.out.items ≡ l.fn.out.items ++ behind (map value_word (take l.value-index l.values))
