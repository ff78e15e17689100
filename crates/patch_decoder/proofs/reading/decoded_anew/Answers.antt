use Rattle.std.proofs.Common.{rules, ◌≡◌, true, sym, subst}
use Rattle.schema_model.specs.Classes.{is_kept}
use Rattle.patch_decoder.specs.Decoders.{AreKnown}
use Rattle.patch_decoder.proofs.DeclaredFields.{root_known}
use Rattle.patch_decoder.proofs.reading.decoded_anew.Goals as goal

pub decoded-requires : goal.decoded-requires
decoded-requires c =
    let kept : is_kept c.args.schema.now ≡ true = search (rules, c.know_limits.ensures) in
    subst (AreKnown c.args.schema.now) (sym c.in-Ok.ensures) (root_known c.args.schema.now kept)
