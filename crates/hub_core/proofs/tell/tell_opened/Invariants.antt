use Rattle.std.proofs.Common.{◌≡◌, ◌++◌}
use Rattle.std.specs.List.{flat_map}
use Rattle.hub_model.specs.Dealt.{opened_out}
use Rattle.hub_core.proofs.tell.tell_opened.Given as goal

abbrev pub invariant-loop-out : goal.invariant-loop-out
invariant-loop-out l = l.outs ≡ l.initial.outs ++ flat_map (opened_out l.conn l.fresh l.conns l.room) l.yielded
