use Rattle.std.proofs.Common.{length}
use Rattle.schedule_text.proofs.write.+append_keys.Given as goal

-- the rest is shorter
abbrev pub decreases-append_keys : goal.decreases-append_keys
decreases-append_keys l = length l.keys.now
