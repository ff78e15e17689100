use Rattle.std.proofs.Common.{◌≡◌, ◌∙◌, Some, None, length, option_copied, sym, ap}
use Rattle.std.specs.List.{slice_get}
use Rattle.collection_ops.proofs.Copies.{copied_all, copied_more, fewer_left}
use Rattle.collection_ops.proofs.array_body.ArrayBody.copy_items.Goals as goal

pub loop-value-smaller : goal.loop-value-smaller
loop-value-smaller c =
    let next : slice_get c.args.self.now (length c.loop-value.out) ≡ Some c.in_ok-copy.field-0 =
    sym (c.in-Some.ensures ∙ ap (slice_get c.args.self.now) c.len.ensures) ∙ ap Some (sym c.in_ok-copy.ensures) in
    rw c.in_ok-push.ensures (fewer_left c.args.self.now c.loop-value.out c.in_ok-copy.field-0 next)

pub loop-value-preserved : goal.loop-value-preserved
loop-value-preserved c =
    let next : slice_get c.args.self.now (length c.loop-value.out) ≡ Some c.in_ok-copy.field-0 =
    sym (c.in-Some.ensures ∙ ap (slice_get c.args.self.now) c.len.ensures) ∙ ap Some (sym c.in_ok-copy.ensures) in
    rw c.in_ok-push.ensures (copied_more c.args.self.now c.loop-value.out c.in_ok-copy.field-0 c.loop-value.invariant next)

pub returns : goal.returns
returns c =
    let none : slice_get c.args.self.now (length c.loop-value.out) ≡ None =
    sym (c.nth.ensures ∙ ap (slice_get c.args.self.now) c.len.ensures) ∙ ap option_copied c.in_default.is in
    copied_all c.args.self.now c.loop-value.out c.loop-value.invariant none
