use Rattle.std.proofs.Common.{◌≡◌, ◌++◌}
use Rattle.std.specs.List.{flat_map}
use Rattle.hub_model.specs.Dealt.{told_out}
use Rattle.hub_core.proofs.tell.tell_all.Given as goal

abbrev pub invariant-loop-out : goal.invariant-loop-out
invariant-loop-out l = l.outs ≡ l.initial.outs ++ flat_map (told_out l.conns l.room) l.yielded
