use Rattle.std.proofs.Common.{◌-◌, List, ap, arith, ◌∙◌}
use Rattle.room_model.specs.declared.event.RoomOut.{RoomOut}
use Rattle.room_model.specs.Room.{RoomValue, after_moment}
use Rattle.room_core.specs.Values.{room_of}
use Rattle.room_core.proofs.Leaves.{all_lapsed, no_lapse}
use Rattle.room_core.proofs.parts.Parts.lapse.Goals as goal
use Rattle.room_core.proofs.parts.Parts.lapse.Goals.{else-loop-test, then-loop-test+in_ok-lapse_first+then-not-branch}

pub returns-clause-outs : goal.returns-clause-outs
returns-clause-outs c =
    let now = c.args.now in
    let x : RoomValue × List RoomOut = (room_of c.loop.self, c.loop.outs) in
    let z = after_moment (room_of c.args.self.now) now in
    elim c.loop-test.branch [
      | else-loop-test w ↦ w.outs-is ∙ ap (λ (y : RoomValue × List RoomOut). y.1) (all_lapsed now c.in_use-end.result c.loop.counter x z (omega (arith, w.loop-test.false)) c.loop.invariant.left)
      | then-loop-test+in_ok-lapse_first+then-not-branch w ↦ w.outs-is ∙ ap (λ (y : RoomValue × List RoomOut). y.1) (no_lapse now (c.in_use-end.result - c.loop.counter) x (room_of w.lapse_first.new.self, w.lapse_first.new.outs) z
          w.in_ok-lapse_first.ensures.lapses.step (w.in_ok-lapse_first.ensures.lapses.last w.if-not-branch.true) c.loop.invariant.left)
    ]

pub returns-clause-room : goal.returns-clause-room
returns-clause-room c =
    let now = c.args.now in
    let x : RoomValue × List RoomOut = (room_of c.loop.self, c.loop.outs) in
    let z = after_moment (room_of c.args.self.now) now in
    elim c.loop-test.branch [
      | else-loop-test w ↦ ap room_of w.self-is ∙ ap (λ (y : RoomValue × List RoomOut). y.0) (all_lapsed now c.in_use-end.result c.loop.counter x z (omega (arith, w.loop-test.false)) c.loop.invariant.left)
      | then-loop-test+in_ok-lapse_first+then-not-branch w ↦ ap room_of w.self-is ∙ ap (λ (y : RoomValue × List RoomOut). y.0) (no_lapse now (c.in_use-end.result - c.loop.counter) x (room_of w.lapse_first.new.self, w.lapse_first.new.outs) z
          w.in_ok-lapse_first.ensures.lapses.step (w.in_ok-lapse_first.ensures.lapses.last w.if-not-branch.true) c.loop.invariant.left)
    ]
