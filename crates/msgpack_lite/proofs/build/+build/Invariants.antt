use Rattle.std.proofs.Common.{◌≡◌, ◌+◌, ◌-◌, ◌*◌, ◌≤◌, length}
use Rattle.frame_model.specs.PackData.{items_data, members_data}
use Rattle.frame_model.specs.Packs.{items_at, members_at, pack_at}
use Rattle.msgpack_lite.proofs.BuildLaws.{before, behind}
use Rattle.msgpack_lite.proofs.build.+build.Given as goal

abbrev pub decreases-value_at : goal.decreases-value_at
decreases-value_at l = 3 * l.levels + 2

abbrev pub decreases-value_by_form : goal.decreases-value_by_form
decreases-value_by_form l = 3 * l.levels + 1

abbrev pub decreases-items_from : goal.decreases-items_from
decreases-items_from l = 3 * l.levels + 3

abbrev pub decreases-members_from : goal.decreases-members_from
decreases-members_from l = 3 * l.levels + 3

-- all values are those that were found, and then those that are left
abbrev pub invariant-items_from-items : goal.invariant-items_from-items
invariant-items_from-items l =
    (l.at ≤ length l.fn.bytes)
    × (items_at (pack_at l.fn.levels l.fn.bytes) l.fn.count l.fn.start ≡ before (items_data l.found) (items_at (pack_at l.fn.levels l.fn.bytes) (l.fn.count - l.counter) l.at))

abbrev pub invariant-members_from-members : goal.invariant-members_from-members
invariant-members_from-members l =
    (l.at ≤ length l.fn.bytes)
    × (members_at (pack_at l.fn.levels l.fn.bytes) l.fn.bytes l.fn.count l.fn.start ≡ behind (members_data l.found) (members_at (pack_at l.fn.levels l.fn.bytes) l.fn.bytes (l.fn.count - l.counter) l.at))
