use Rattle.std.proofs.Common.{◌≡◌, take}
use Rattle.hub_core.specs.Endings.{without_all}
use Rattle.hub_core.proofs.tell.end_all.Given as goal

abbrev pub invariant-loop-session : goal.invariant-loop-session
invariant-loop-session l = l.conns ≡ without_all l.room (take l.session-index l.sessions) l.initial.conns
