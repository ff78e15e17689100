use Rattle.std.proofs.Common.{Some, ap, sym, ◌∙◌}
use Rattle.std.specs.Option.{option_map}
use Rattle.op_reader.specs.Known.{kind_of_row}
use Rattle.op_reader.proofs.HolderKinds.{step_on_known}
use Rattle.patch_decoder.proofs.reading.read_here.Goals as goal

pub returns : goal.returns
returns c =
    let run = c.args.run.now in
    let rows = c.rows.ensures in
    let kind = ap (option_map kind_of_row) c.requires.kind ∙ ap Some (sym c.kind.ensures) in
    rw (← step_on_known c.args.schema.now run.rows run.who c.args.bytes.now c.args.at c.kind.result c.requires.holder kind, ← rows) c.read_op_on.ensures
