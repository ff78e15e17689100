use Rattle.std.proofs.Common.{arith, rules}
use Rattle.schedule_text.proofs.Prints.{word_first, word_more}
use Rattle.schedule_text.specs.Words.{word_text}
use Rattle.schedule_text.proofs.word.append_words.Goals as goal
use Rattle.schedule_text.proofs.word.append_words.Goals.{then-index-gt0+in_ok-push, else-index-gt0}

pub loop-index-preserved : goal.loop-index-preserved
loop-index-preserved c =
    let words = c.args.words.now in
    let old = c.args.out.now.items in
    let index = c.loop-index.index in
    elim c.if-index-gt0.branch [
      | then-index-gt0+in_ok-push w ↦
          word_more word_text words index _ old c.if-index-gt0.out.items _ (omega arith) (omega arith) (search rules) c.in_ok-append_word.ensures.ok
      | else-index-gt0 w ↦
          word_first word_text words index _ old c.if-index-gt0.out.items _ (omega arith) (omega arith) (search rules) c.in_ok-append_word.ensures.ok
    ]
