use Rattle.std.proofs.Common.{ap, ◌∙◌}
use Rattle.wire_model.specs.Effect.{closed}
use Rattle.wire_ops.specs.Bodies.{body_of}
use Rattle.patch_decoder.proofs.Holes.{whole_rest, same_rest}
use Rattle.patch_decoder.proofs.open_row.OpenRow.shut.Goals as goal

pub of-requires : goal.of-requires
of-requires c = whole_rest (body_of c.self.inside.holder) (body_of c.in_ok-holder.holder) c.in_ok-holder.ensures

pub returns : goal.returns
returns c =
    ap closed (c.in_ok-new.ensures.ok ∙ c.of.ensures)
    ∙ (same_rest (body_of c.self.inside.holder) (body_of c.in_ok-holder.holder) c.in_ok-holder.ensures ∙ ap closed c.self.view_is)
