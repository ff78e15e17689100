use Rattle.std.proofs.Common.{◌≡◌, ◌++◌, true, false, IfOk, subst}
use Rattle.wire_model.specs.OpBytes.{block_bytes}
use Rattle.live_state.specs.Live.{schema_of, rows_of}
use Rattle.view_counts.specs.Settled.{full_state_of}
use Rattle.view_encoder.proofs.SettledFrames.{full_frame}
use Rattle.view_encoder.proofs.frame.encode_full.Goals as goal

pub shared_part-requires : goal.shared_part-requires
shared_part-requires g c =
    let live = c.args.live.now in
    let known = c.schema-schema.ensures in
    let f = full_frame (schema_of live) (rows_of live) c.args.members.now known.limits known.kept.sound known.spelled in
    rw (c.in_ok-root.ensures, known.value, c.in_ok-rows.ensures) f.shared_leads

pub view_part-requires : goal.view_part-requires
view_part-requires g c =
    let live = c.args.live.now in
    let known = c.schema-schema.ensures in
    let f = full_frame (schema_of live) (rows_of live) c.args.members.now known.limits known.kept.sound known.spelled in
    rw (c.in_ok-part.ensures, c.in_ok-view.ensures, c.in_ok-root.ensures, known.value, c.in_ok-rows.ensures, c.as_slice.ensures.value, c.in_ok-pairs.ensures) f.own_leads

pub both_parts-requires-clause-shared : goal.both_parts-requires-clause-shared
both_parts-requires-clause-shared g c =
    let live = c.args.live.now in
    let known = c.schema-schema.ensures in
    let f = full_frame (schema_of live) (rows_of live) c.args.members.now known.limits known.kept.sound known.spelled in
    rw (c.in_ok-part.ensures, c.in_ok-root.ensures, known.value, c.in_ok-rows.ensures) f.shared_written

pub both_parts-requires-clause-own : goal.both_parts-requires-clause-own
both_parts-requires-clause-own g c =
    let live = c.args.live.now in
    let known = c.schema-schema.ensures in
    let f = full_frame (schema_of live) (rows_of live) c.args.members.now known.limits known.kept.sound known.spelled in
    rw (c.in_ok-own.ensures, c.in_ok-part.ensures, c.in_ok-view.ensures, c.in_ok-root.ensures, known.value, c.in_ok-rows.ensures, c.as_slice.ensures.value, c.in_ok-pairs.ensures) f.own_written

pub returns-clause-bytes : goal.returns-clause-bytes
returns-clause-bytes g c =
    let live = c.args.live.now in
    let known = c.schema-schema.ensures in
    let f = full_frame (schema_of live) (rows_of live) c.args.members.now known.limits known.kept.sound known.spelled in
    let same : block_bytes c.in_ok-part.part true ++ block_bytes c.in_ok-own.own false ≡ full_state_of live c.args.members.now =
    rw (c.in_ok-own.ensures, c.in_ok-part.ensures, c.in_ok-view.ensures, c.in_ok-root.ensures, known.value, c.in_ok-rows.ensures, c.as_slice.ensures.value, c.in_ok-pairs.ensures) f.bytes in
    subst (λ bytes. IfOk c.both_parts.result (λ b. b ≡ bytes)) same c.both_parts.ensures
