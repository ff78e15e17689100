use Rattle.std.proofs.Common.{◌≡◌, ◌++◌}
use Rattle.room_core.specs.Ticks.{sent_to}
use Rattle.room_core.proofs.ticks.send_each.Given as goal

-- the frames so far were sent
abbrev pub invariant-loop-frame : goal.invariant-loop-frame
invariant-loop-frame l = l.outs ≡ l.initial.outs ++ sent_to l.session l.yielded
