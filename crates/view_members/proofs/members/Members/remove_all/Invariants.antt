use Rattle.std.proofs.Common.{◌≡◌, drop}
use Rattle.view_members.specs.Sets.{without_all}
use Rattle.view_members.proofs.members.Members.remove_all.Given as goal

abbrev pub invariant-loop-pair : goal.invariant-loop-pair
invariant-loop-pair l = without_all l.pairs l.initial.self ≡ without_all (drop l.pair-index l.pairs) l.self
