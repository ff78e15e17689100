use Rattle.std.proofs.Common.{◌≡◌, ◌==◌, Some, length, false, rules, sym, true≢false}
use Rattle.serde_json.specs.View.{view}
use Rattle.matchmaker.specs.Bodies.{data_by, said_by, said_of_data}
use Rattle.matchmaker.proofs.BodyLaws.{data_read, said_bad, said_read}
use Rattle.matchmaker.proofs.body.read_body.Goals as goal

pub returns-in-Ok-clause-data : goal.returns-in-Ok-clause-data
returns-in-Ok-clause-data c =
    let long : length c.args.body.now == 0 ≡ false = search rules in
    let is : data_by c.args.body.now ≡ Some (view c.in-Ok.value) = data_read _ _ long c.in-Ok.ensures.ok.0 c.in-Ok.ensures.ok.1 in rw is c.object.ensures.data

pub returns-in-Ok-clause-said : goal.returns-in-Ok-clause-said
returns-in-Ok-clause-said c =
    let long : length c.args.body.now == 0 ≡ false = search rules in
    let is : said_by c.args.body.now ≡ said_of_data (view c.in-Ok.value) = said_read _ _ long c.in-Ok.ensures.ok.0 c.in-Ok.ensures.ok.1 in rw is c.object.ensures.said

pub returns-in-Err-2-clause-err : goal.returns-in-Err-2-clause-err
returns-in-Err-2-clause-err c =
    let long : length c.args.body.now == 0 ≡ false = search rules in
    said_bad c.args.body.now long (c.in-Err.ensures.err (λ m. let k = c.is_memory.ensures.1 m in let no = rw c.if-is_memory.false at k in absurd (true≢false (sym no))))
