use Rattle.std.proofs.Common.{length, rules}
use Rattle.std.specs.Prelude.{◌≢◌}
use Rattle.schedule_text.proofs.Forms.{plain_out_other}
use Rattle.schedule_text.proofs.output.read_plain.Goals as goal

pub returns : goal.returns
returns c =
    let one : length c.args.words.now ≢ 1 = search rules in
    let two : length c.args.words.now ≢ 2 = search rules in
    let four : length c.args.words.now ≢ 4 = search rules in
    plain_out_other c.args.words.now c.args.word.now one two four
