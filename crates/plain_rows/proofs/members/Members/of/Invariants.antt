use Rattle.std.proofs.Common.{◌≡◌, ℕ, ℤ, take}
use Rattle.state_model.specs.Shown.{is_member}
use Rattle.plain_rows.proofs.MemberKeys.{has_key}
use Rattle.plain_rows.proofs.members.Members.of.Given as goal

abbrev pub invariant-loop-pair : goal.invariant-loop-pair
invariant-loop-pair l = (who : ℕ) (tag : ℤ) → has_key l.members.keys who tag ≡ is_member (take l.pair-index l.pairs) who tag
