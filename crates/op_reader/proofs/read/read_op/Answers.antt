use Rattle.std.proofs.Common.{◌≡◌, true, rules, ◌∙◌, sym}
use Rattle.op_reader.specs.Known.{is_holder}
use Rattle.op_reader.proofs.HolderKinds.{step_on_known}
use Rattle.op_reader.proofs.read.read_op.Goals as goal

pub returns-in-Some : goal.returns-in-Some
returns-in-Some g c =
    let schema = c.args.schema.now in
    let known = g.K.Known.rows c.args.known.now in
    let there : is_holder schema known c.args.holder ≡ true = search (rules, c.requires.holder) in
    rw (← step_on_known schema known c.args.holder c.args.bytes.now c.args.at c.in-Some.kind there (sym c.kind_of.ensures ∙ c.in-Some.is)) c.read_op_on.ensures
