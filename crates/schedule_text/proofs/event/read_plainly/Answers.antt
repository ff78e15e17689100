use Rattle.std.proofs.Common.{length, rules}
use Rattle.std.specs.Prelude.{◌≢◌}
use Rattle.schedule_text.proofs.Forms.{plainly_other}
use Rattle.schedule_text.proofs.event.read_plainly.Goals as goal

pub returns : goal.returns
returns c =
    let one : length c.args.words.now ≢ 1 = search rules in
    let two : length c.args.words.now ≢ 2 = search rules in
    let three : length c.args.words.now ≢ 3 = search rules in
    let five : length c.args.words.now ≢ 5 = search rules in
    plainly_other c.args.words.now c.args.word.now one two three five
