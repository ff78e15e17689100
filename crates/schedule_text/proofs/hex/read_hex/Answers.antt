use Rattle.std.proofs.Common.{◌≡◌, ◌<◌, ◌∙◌, Some, length, sym, ap, arith}
use Rattle.std.specs.Prelude.{ℕ, Vec}
use Rattle.std.specs.Global.{Global}
use Rattle.std.proofs.lemmas.Bool.Decides.{nat_tests}
use Rattle.std.proofs.lemmas.Result.{err_from_is_err_and}
use Rattle.text_model.specs.WordForms.{hex_of}
use Rattle.schedule_text.specs.Hex.{pairs_of}
use Rattle.schedule_text.proofs.HexLaws.{hex_by_pairs, hex_refused}
use Rattle.schedule_text.proofs.hex.read_hex.Goals as goal

pub returns-in_err-read_pairs : goal.returns-in_err-read_pairs
returns-in_err-read_pairs c =
    let some : 0 < length c.args.word.now = grind (arith, nat_tests) in
    let same = hex_by_pairs c.args.word.now (sym c.is_word.ensures ∙ c.if-is_word.false) some in
    let p = err_from_is_err_and c.from_residual.result c.from_residual.ensures.1 in
    rw (p.1, p.2) (hex_refused (λ (bytes : Vec ℕ Global). bytes.items) _ c.args.word.now same c.in_err-read_pairs.ensures)

pub returns : goal.returns
returns c =
    let some : 0 < length c.args.word.now = grind (arith, nat_tests) in
    let same : hex_of c.args.word.now ≡ pairs_of c.args.word.now = hex_by_pairs c.args.word.now (sym c.is_word.ensures ∙ c.if-is_word.false) some in
    same ∙ (c.in_ok-read_pairs.ensures ∙ ap Some (sym c.from_vec-2.ensures))
