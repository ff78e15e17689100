use Rattle.std.proofs.Common.{◌≡◌, take}
use Rattle.state_model.specs.Reached.{all_held}
use Rattle.plain_rows.proofs.freed_rows.all_links.Given as goal

abbrev pub invariant-loop-entry : goal.invariant-loop-entry
invariant-loop-entry l = l.links.items ≡ all_held (take l.entry-index l.entry-items)
