use Rattle.std.proofs.Common.{◌≡◌, ◌++◌, take}
use Rattle.plain_rows.specs.Links.{held_in_set}
use Rattle.plain_rows.proofs.links.add_set_links.Given as goal

abbrev pub invariant-loop-item : goal.invariant-loop-item
invariant-loop-item l = l.links.items ≡ l.initial.links.items ++ held_in_set (take l.item-index l.items)
