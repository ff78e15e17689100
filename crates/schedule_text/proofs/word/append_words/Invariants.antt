use Rattle.std.proofs.Common.{◌≡◌, ◌++◌, take}
use Rattle.text_model.specs.Marks.{spaced}
use Rattle.schedule_text.specs.Words.{word_texts}
use Rattle.schedule_text.proofs.word.append_words.Given as goal

abbrev pub invariant-loop-index : goal.invariant-loop-index
invariant-loop-index l = l.out.items ≡ l.fn.out.items ++ spaced (word_texts (take l.index l.words))
