use Rattle.std.proofs.Common.{◌∙◌, ap, sym, arith, set, get_or}
use Rattle.std.proofs.lemmas.List.Edits.{map_over_more}
use Rattle.std.proofs.lemmas.Option.{get_or_from_slice_get, slice_get-get_or}
use Rattle.seat_ledger.specs.Slots.{closed_place}
use Rattle.seat_ledger.proofs.slots.close_all.Goals as goal

pub loop-place-preserved : goal.loop-place-preserved
loop-place-preserved c =
    let i = c.loop-place.place-index in
    let x = get_or c.loop-place.places i 0 in
    let same = get_or_from_slice_get c.loop-place.places i x x (slice_get-get_or c.loop-place.places i 0 (omega (arith, c.loop-place-test.true, c.loop-place.auto.places))) in
    ap (set c.loop-place.places i) c.closed_place.ensures ∙ map_over_more (closed_place c.args.gone) c.args.places.now c.loop-place.places i x c.loop-place-test.true c.loop-place.invariant (sym same)
