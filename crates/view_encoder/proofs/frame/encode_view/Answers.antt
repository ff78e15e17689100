use Rattle.std.proofs.Common.{◌≡◌, ◌++◌, true, false, IfOk, subst}
use Rattle.wire_model.specs.OpBytes.{block_bytes}
use Rattle.view_counts.specs.Settled.{frame_of}
use Rattle.view_encoder.proofs.SettledFrames.{settled_frame}
use Rattle.view_encoder.proofs.frame.encode_view.Goals as goal

pub view_part-requires : goal.view_part-requires
view_part-requires g c =
    let f = settled_frame c.args.live.now c.args._members.now c.args._shared.now c.args.view.now c.args.part.now c.schema-schema.ensures.limits c.schema-schema.ensures.spelled c.requires in
    rw (c.schema-schema.ensures.value, c.before-3.ensures, c.after-2.ensures) f.own_leads

pub both_parts-requires-clause-shared : goal.both_parts-requires-clause-shared
both_parts-requires-clause-shared g c =
    (settled_frame c.args.live.now c.args._members.now c.args._shared.now c.args.view.now c.args.part.now c.schema-schema.ensures.limits c.schema-schema.ensures.spelled c.requires).shared_written

pub both_parts-requires-clause-own : goal.both_parts-requires-clause-own
both_parts-requires-clause-own g c =
    let f = settled_frame c.args.live.now c.args._members.now c.args._shared.now c.args.view.now c.args.part.now c.schema-schema.ensures.limits c.schema-schema.ensures.spelled c.requires in
    rw (c.in_ok-own.ensures, c.schema-schema.ensures.value, c.before-3.ensures, c.after-2.ensures) f.own_written

pub returns-clause-bytes : goal.returns-clause-bytes
returns-clause-bytes g c =
    let f = settled_frame c.args.live.now c.args._members.now c.args._shared.now c.args.view.now c.args.part.now c.schema-schema.ensures.limits c.schema-schema.ensures.spelled c.requires in
    let same : block_bytes c.args.part.now true ++ block_bytes c.in_ok-own.own false ≡ frame_of c.args.live.now c.args._shared.now c.args.view.now =
    rw (c.in_ok-own.ensures, c.schema-schema.ensures.value, c.before-3.ensures, c.after-2.ensures) f.bytes in
    subst (λ bytes. IfOk c.both_parts.result (λ b. b ≡ bytes)) same c.both_parts.ensures
