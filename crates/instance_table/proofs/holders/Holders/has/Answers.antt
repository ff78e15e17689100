use Rattle.std.proofs.Common.{◌∙◌, ap}
use Rattle.std.specs.Prelude.{slice_get}
use Rattle.instance_table.specs.Holders.{AscendsFrom, is_holder}
use Rattle.instance_table.proofs.HolderLaws.{found_among}
use Rattle.instance_table.proofs.holders.Holders.has.Goals as goal

pub returns : goal.returns
returns c =
    let ns = c.args.self.now in
    let up : AscendsFrom 0 ns = c.first_from.ensures.ascends in
    c.stands_at.ensures ∙ (ap (λ k. is_holder c.args.holder (slice_get ns k)) c.first_from.ensures.value ∙ found_among c.args.holder 0 ns up)
