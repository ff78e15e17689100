-- A line of an output by its first word, and a reply by its connection.
use Rattle.std.proofs.Common.{◌≡◌, ℕ, ◌<◌, ◌==◌, cond, List, [], ◌∷◌, length, Some, refl, ap, ◌∙◌, codes, arith}
use Rattle.std.proofs.lemmas.List.Splits.{length-slice_split}
use Rattle.hub_model.specs.declared.event.HubOut.TheVariants.{Reply}
use Rattle.text_model.specs.Events.{number_of_word}
use Rattle.text_model.specs.Lines.{both, is_word, passing, words_of}
use Rattle.text_model.specs.Marks.{spaced}
use Rattle.text_model.specs.OutLines.{is_one_line, out_of, plain_out, reply_of}
use Rattle.text_model.proofs.Spaced.{spaced-words_of}
use Rattle.schedule_text.specs.Tells.{replied}

some_words : (l : List ℕ) → 0 < length (words_of l)
some_words l = omega (arith, length-slice_split (λ b. b == 32) l)

reply_spaced : (a : List ℕ) (ws : List (List ℕ)) → 0 < length ws → reply_of a ws ≡ both Reply (number_of_word a) (passing is_one_line (Some (spaced ws)))
reply_spaced a [] some = absurd (omega arith)
reply_spaced a (w ∷ ws) some = refl

pub replied_is : (behind conn json : List ℕ) → words_of behind ≡ conn ∷ words_of json → replied (words_of behind) ≡ both Reply (number_of_word conn) (passing is_one_line (Some json))
replied_is behind conn json cut =
    ap replied cut ∙ (reply_spaced conn (words_of json) (some_words json) ∙ ap (λ j. both Reply (number_of_word conn) (passing is_one_line (Some j))) (spaced-words_of json))

out_behind : (w : List ℕ) (ws : List (List ℕ)) → 0 < length ws → out_of (w ∷ ws) ≡ cond (is_word (codes "reply") w) (replied ws) (plain_out w ws)
out_behind w [] some = absurd (omega arith)
out_behind w (a ∷ ws) some = refl

pub out_cut : (line w behind : List ℕ) → words_of line ≡ w ∷ words_of behind → out_of (words_of line) ≡ cond (is_word (codes "reply") w) (replied (words_of behind)) (plain_out w (words_of behind))
out_cut line w behind cut = ap out_of cut ∙ out_behind w (words_of behind) (some_words behind)
