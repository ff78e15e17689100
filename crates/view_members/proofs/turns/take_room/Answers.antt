use Rattle.std.proofs.Common.{◌∙◌, sym, refl, ap, drop, length, arith, ◌+◌}
use Rattle.view_members.specs.Standings.{with_spare, with_spares, without_spares}
use Rattle.view_members.proofs.SpareLaws.{next_pair, back_start, room_back, ranked_at, no_room, room_gone}
use Rattle.view_members.proofs.turns.take_room.Goals as goal

pub loop-pair-init : goal.loop-pair-init
loop-pair-init c = record { left = refl; back = back_start c.args.pairs.now c.args.sets.now c.requires.spare; few = c.requires.few; fit = λ f. f }

pub why_no_room-requires-clause-few : goal.why_no_room-requires-clause-few
why_no_room-requires-clause-few c =
    let back = room_gone c.args.pairs.now c.rank_of.result c.args.sets.now c.loop-pair.sets c.make_room.new.sets c.drop_spares.new.sets c.in-Err.fault
    c.loop-pair.invariant.back c.in-Err.ensures.value c.drop_spares.ensures.entries in
    omega (arith, ap length back, c.requires.few)

pub why_no_room-requires-clause-full : goal.why_no_room-requires-clause-full
why_no_room-requires-clause-full c = λ h.
    let back = room_gone c.args.pairs.now c.rank_of.result c.args.sets.now c.loop-pair.sets c.make_room.new.sets c.drop_spares.new.sets c.in-Err.fault
    c.loop-pair.invariant.back c.in-Err.ensures.value c.drop_spares.ensures.entries in
    let many = no_room c.args.pairs.now c.loop-pair.pair-index c.pair-item.result c.rank_of.result c.args.sets.now c.loop-pair.sets c.make_room.new.sets c.in-Err.fault
    c.loop-pair-test.true c.pair-item.is c.rank_of.ensures.value c.make_room.ensures.kept.0 c.loop-pair.invariant.left c.in-Err.ensures.value h in
    rw back many

pub returns-in-Err-clause-value : goal.returns-in-Err-clause-value
returns-in-Err-clause-value c =
    let back = room_gone c.args.pairs.now c.rank_of.result c.args.sets.now c.loop-pair.sets c.make_room.new.sets c.drop_spares.new.sets c.in-Err.fault
    c.loop-pair.invariant.back c.in-Err.ensures.value c.drop_spares.ensures.entries in
    (back, rw back at c.why_no_room.ensures)

pub loop-pair-preserved : goal.loop-pair-preserved
loop-pair-preserved c =
    let ps = c.args.pairs.now in
    let es = c.loop-pair.sets in
    let p = c.pair-item.result in
    let rest = drop (c.loop-pair.pair-index + 1) ps in
    let next = next_pair ps c.loop-pair.pair-index p c.loop-pair-test.true c.pair-item.is in
    let made = c.in_default.ensures.value.0 ∙ ap (λ r. with_spare r es) c.rank_of.ensures.value in
    record {
      left = c.loop-pair.invariant.left ∙ (ap (λ qs. with_spares qs es) next ∙ ap (with_spares rest) (sym made));
      back = ap (without_spares ps) made ∙ (room_back ps _ es (ranked_at ps c.loop-pair.pair-index p c.loop-pair-test.true c.pair-item.is) ∙ c.loop-pair.invariant.back);
      few = c.in_default.ensures.value.1;
      fit = λ f. c.loop-pair.invariant.fit (rw next (c.rank_of.ensures.fits, f));
    }
