use Rattle.std.proofs.Common.{◌≡◌, ◌∙◌, ap, codes, cond, false, rules, subst, sym, take}
use Rattle.text_model.specs.Lines.{is_word, words_of}
use Rattle.text_model.specs.OutLines.{plain_out}
use Rattle.text_words.specs.Words.{bytes_of}
use Rattle.schedule_text.specs.Tells.{replied}
use Rattle.schedule_text.specs.Reads.{Reads}
use Rattle.schedule_text.proofs.Forms.{out_taken}
use Rattle.schedule_text.proofs.ReplyLaws.{out_cut}
use Rattle.schedule_text.proofs.output.read_out.Goals as goal

pub returns : goal.returns
returns c =
    let w = c.in-Some.word.now in
    let behind = c.in-Some.behind.now in
    let words : bytes_of c.in_ok-words.words.items ≡ take 5 (words_of behind) = search rules in
    let other : is_word (codes "reply") w ≡ false = sym c.is_word.ensures ∙ c.if-is_word.false in
    subst (Reads c.read_plain.result)
    (ap (plain_out w) (ap bytes_of c.deref.ensures.value ∙ words) ∙ (out_taken w (words_of behind)
    ∙ sym (out_cut c.args.line.now w behind c.in-Some.ensures ∙ ap (λ b. cond b (replied (words_of behind)) (plain_out w (words_of behind))) other)))
    c.read_plain.ensures
