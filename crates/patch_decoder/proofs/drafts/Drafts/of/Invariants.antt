use Rattle.std.proofs.Common.{◌≡◌, take}
use Rattle.patch_decoder.specs.Drafts.{entries_of}
use Rattle.patch_decoder.proofs.drafts.Drafts.of.Given as goal

-- the rows so far
abbrev pub invariant-loop-entry : goal.invariant-loop-entry
invariant-loop-entry l = (entries_of l.drafts.entries ≡ take l.entry-index l.entry-items) × (l.entry-items ≡ l.rows)
