use Rattle.std.proofs.Common.{◌≡◌, ◌++◌, take}
use Rattle.plain_rows.specs.Links.{held_in_values}
use Rattle.plain_rows.proofs.links.add_array_links.Given as goal

abbrev pub invariant-loop-value : goal.invariant-loop-value
invariant-loop-value l = l.links.items ≡ l.initial.links.items ++ held_in_values (take l.value-index l.values)
